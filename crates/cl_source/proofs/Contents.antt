-- Contents: what is found on shelves, and what one more entry changes.
use Rattle.std.proofs.Common.{append-nil, set, append_assoc, Result, Ok, Err, IsOk, OnOk, is_err, ◌≡◌, ℕ, zero, suc, get_or, ◌+◌, ◌<◌, ◌≤◌, Bool, true, false, cond, ◌==◌, ◌&&◌, nat_eq, List, [], ◌∷◌, ◌++◌, length, map, Option, Some, None, refl, sym, ap, subst, ◌∙◌, arith, Bor}
use Rattle.std.specs.Option.{option_map, option_copied}
use Rattle.std.specs.List.{AllByRecursion, IsDistinct}
use Rattle.std.specs.Map.{lookup, keys_of}
use Rattle.std.specs.Cmp.Lexicographic.{pointwise, nat_list_eq_equiv, bytes_decides}
use Rattle.indexmap.specs.IndexMap.{IndexMap, get, spare, insert_entry}
use Rattle.indexmap.proofs.CallerLemmas.{insert_entry-new}
use Rattle.std.proofs.lemmas.Bool.{eqb-true}
use Rattle.std.proofs.lemmas.Bool.Decides.{nat_tests}
use Rattle.std.proofs.lemmas.List.{map-append}
use Rattle.std.proofs.lemmas.Map.Keys.{IsDistinct-head, IsDistinct-tail}
use Rattle.cl_model.specs.Content.{Stored, Content, content_at}
use Rattle.cl_source.specs.Puts.{TellsMore}
use Rattle.cl_source.specs.Shelves.{Shelved, bytes_in, content_of_shelf, content_from, Inserts}

-- ---- a map of names, as contracts see it

same_choice : {X : Type 0} (f : X → List ℕ) (a b : Bool) (x : X) (o : Option X) (r : Option (List ℕ)) → a ≡ b → option_map f o ≡ r → option_map f (cond a (Some x) o) ≡ cond b (Some (f x)) r
same_choice f true b x o r e h = rw (← e) refl
same_choice f false b x o r e h = rw (← e) h

found_in : {X : Type 0} (f : X → List ℕ) (es : List (List ℕ × X)) (name : List ℕ) → option_map f (lookup (pointwise nat_eq name) es) ≡ bytes_in (map (λ e. (e.0, f e.1)) es) name
found_in f [] name = refl
found_in f (e ∷ es) name = same_choice f (pointwise nat_eq name e.0) (pointwise nat_eq e.0 name) e.1 (lookup (pointwise nat_eq name) es) _ (nat_list_eq_equiv.symm name e.0) (found_in f es name)

copied : {X : Type 0} (f : X → List ℕ) (o : Option (Bor X)) → option_map (λ b. f b.now) o ≡ option_map f (option_copied o)
copied f None = refl
copied f (Some b) = refl

-- a look-up in the map is a look-up in what contracts see
pub found_at : {X : Type 0} (f : X → List ℕ) (es : List (List ℕ × X)) (shelf : Shelved) (name : List ℕ) (o : Option (Bor X))
    → map (λ e. (e.0, f e.1)) es ≡ shelf → option_copied o ≡ lookup (pointwise nat_eq name) es → option_map (λ b. f b.now) o ≡ bytes_in shelf name
found_at f es shelf name o view e = copied f o ∙ ap (option_map f) e ∙ found_in f es name ∙ ap (λ s. bytes_in s name) view

-- a look-up that found nothing
none_mapped : {A B : Type 0} (f : A → B) (o : Option A) → option_map f o ≡ None → o ≡ None
none_mapped f None e = refl
none_mapped f (Some x) e = absurd cc

-- a name that is not there is put at the end
pub put_last : {X S : Type 0} (f : X → List ℕ) (m : IndexMap (List ℕ) X S) (es : List (List ℕ × X)) (shelf : Shelved) (name : List ℕ) (x : X)
    → map (λ e. (e.0, f e.1)) m.entries ≡ shelf → bytes_in shelf name ≡ None → es ≡ insert_entry (pointwise nat_eq) m.entries name x → map (λ e. (e.0, f e.1)) es ≡ shelf ++ (name, f x) ∷ []
put_last f m es shelf name x view absent e =
    let none : get (pointwise nat_eq) m name ≡ None = none_mapped f _ (found_in f m.entries name ∙ ap (λ s. bytes_in s name) view ∙ absent) in
    ap (map (λ e. (e.0, f e.1))) (e ∙ insert_entry-new (pointwise nat_eq) m name x none) ∙ map-append (λ e. (e.0, f e.1)) m.entries ((name, x) ∷ []) ∙ ap (λ s. s ++ (name, f x) ∷ []) view

on_ok : {A B P : Type 0} (r : Result A B) → IsOk r → OnOk r P → P
on_ok (Ok x) ok fact = fact
on_ok (Err e) ok fact = absurd cc

pub not_err : {A B P : Type 0} (r : Result A B) (b : Bool) → b ≡ is_err r → b ≡ false → OnOk r P → P
not_err (Ok x) b e f fact = fact
not_err (Err x) b e f fact = absurd cc

-- where there is room, the name is put at the end
pub put_in_room : {X S R E : Type 0} (f : X → List ℕ) (before after : IndexMap (List ℕ) X S) (old : List (List ℕ × X)) (shelf : Shelved) (name : List ℕ) (x : X) (r : Result R E)
    → map (λ e. (e.0, f e.1)) old ≡ shelf → before.entries ≡ old → bytes_in shelf name ≡ None → 1 ≤ spare before → (0 < spare before → IsOk r)
    → OnOk r (after.entries ≡ insert_entry (pointwise nat_eq) before.entries name x) → map (λ e. (e.0, f e.1)) after.entries ≡ shelf ++ (name, f x) ∷ []
put_in_room f before after old shelf name x r view same absent room succeeds entries =
    put_last f before after.entries shelf name x (ap (map (λ e. (e.0, f e.1))) same ∙ view) absent (on_ok r (succeeds room) entries)

-- ---- look-ups in contents

past_first : (b : Bool) (bytes : List ℕ) (o p r : Option (List ℕ)) → (o ≡ None → p ≡ r) → cond b (Some bytes) o ≡ None → cond b (Some bytes) p ≡ r
past_first true bytes o p r rest e = absurd cc
past_first false bytes o p r rest e = rest e

none_then : (xs ys : Content) (loader : ℕ) (name : List ℕ) → content_at xs loader name ≡ None → content_at (xs ++ ys) loader name ≡ content_at ys loader name
none_then [] ys loader name e = refl
none_then (x ∷ xs) ys loader name e = past_first ((x.loader == loader) && pointwise nat_eq x.name name) x.bytes (content_at xs loader name) (content_at (xs ++ ys) loader name) (content_at ys loader name) (none_then xs ys loader name) e

with_first : (b : Bool) (bytes r : List ℕ) (o p : Option (List ℕ)) → (o ≡ Some r → p ≡ Some r) → cond b (Some bytes) o ≡ Some r → cond b (Some bytes) p ≡ Some r
with_first true bytes r o p rest e = e
with_first false bytes r o p rest e = rest e

some_then : (xs ys : Content) (loader : ℕ) (name bytes : List ℕ) → content_at xs loader name ≡ Some bytes → content_at (xs ++ ys) loader name ≡ Some bytes
some_then [] ys loader name bytes e = absurd cc
some_then (x ∷ xs) ys loader name bytes e = with_first ((x.loader == loader) && pointwise nat_eq x.name name) x.bytes bytes (content_at xs loader name) (content_at (xs ++ ys) loader name) (some_then xs ys loader name bytes) e

same_number : (n : ℕ) → (n == n) ≡ true
same_number n = grind (arith, nat_tests)

other_number : (m n : ℕ) → m < n → (n == m) ≡ false
other_number m n h = grind (arith, nat_tests)

less_number : (m n : ℕ) → m < n → (m == n) ≡ false
less_number m n h = grind (arith, nat_tests)

-- a shelf of this loader tells what stands on it
on_shelf : (loader : ℕ) (shelf : Shelved) (name : List ℕ) → content_at (content_of_shelf loader shelf) loader name ≡ bytes_in shelf name
on_shelf loader [] name = refl
on_shelf loader (e ∷ es) name = rw (same_number loader, on_shelf loader es name) refl

-- and nothing of another
off_shelf : (loader other : ℕ) (shelf : Shelved) (name : List ℕ) → (loader == other) ≡ false → content_at (content_of_shelf loader shelf) other name ≡ None
off_shelf loader other [] name e = refl
off_shelf loader other (x ∷ xs) name e = rw (e, off_shelf loader other xs name e) refl

below : (first loader : ℕ) (shelves : List Shelved) (name : List ℕ) → loader < first → content_at (content_from first shelves) loader name ≡ None
below first loader [] name h = refl
below first loader (shelf ∷ shelves) name h =
    none_then (content_of_shelf first shelf) (content_from (first + 1) shelves) loader name (off_shelf first loader shelf name (other_number loader first h)) ∙ below (first + 1) loader shelves name (omega arith)

first_shelf : (first : ℕ) (shelf : Shelved) (shelves : List Shelved) (name : List ℕ) → content_at (content_from first (shelf ∷ shelves)) first name ≡ bytes_in shelf name
first_shelf first shelf shelves name = by (bytes_in shelf name) refl
  where
    by : (o : Option (List ℕ)) → bytes_in shelf name ≡ o → content_at (content_from first (shelf ∷ shelves)) first name ≡ bytes_in shelf name
    by None e = none_then (content_of_shelf first shelf) (content_from (first + 1) shelves) first name (on_shelf first shelf name ∙ e) ∙ below (first + 1) first shelves name (omega arith) ∙ sym e
    by (Some bytes) e = some_then (content_of_shelf first shelf) (content_from (first + 1) shelves) first name bytes (on_shelf first shelf name ∙ e) ∙ sym e

later_shelf : (first loader : ℕ) (shelf : Shelved) (shelves : List Shelved) (name : List ℕ) → first < loader
    → content_at (content_from first (shelf ∷ shelves)) loader name ≡ content_at (content_from (first + 1) shelves) loader name
later_shelf first loader shelf shelves name h = none_then (content_of_shelf first shelf) (content_from (first + 1) shelves) loader name (off_shelf first loader shelf name (less_number first loader h))

-- what is found at a loader's place
pub at_place : (first place loader : ℕ) (shelves : List Shelved) (shelf : Shelved) (name : List ℕ) → loader ≡ first + place → place < length shelves → shelf ≡ get_or shelves place shelf
    → content_at (content_from first shelves) loader name ≡ bytes_in shelf name
at_place first place loader [] shelf name is h e = absurd (omega arith)
at_place first zero loader (x ∷ xs) shelf name is h e =
    let here : loader ≡ first = omega arith in
    rw (here, e) (first_shelf first x xs name)
at_place first (suc place) loader (x ∷ xs) shelf name is h e = later_shelf first loader x xs name (omega arith) ∙ at_place (first + 1) place loader xs shelf name (omega arith) (omega arith) e

pub past_places : (first place loader : ℕ) (shelves : List Shelved) (name : List ℕ) → loader ≡ first + place → length shelves ≤ place → content_at (content_from first shelves) loader name ≡ None
past_places first place loader [] name is h = refl
past_places first zero loader (x ∷ xs) name is h = absurd (omega arith)
past_places first (suc place) loader (x ∷ xs) name is h = later_shelf first loader x xs name (omega arith) ∙ past_places (first + 1) place loader xs name (omega arith) (omega arith)

-- an empty shelf behind all others tells nothing
pub empty_shelf : (first : ℕ) (shelves : List Shelved) → content_from first (shelves ++ [] ∷ []) ≡ content_from first shelves
empty_shelf first [] = refl
empty_shelf first (shelf ∷ shelves) = ap (λ c. content_of_shelf first shelf ++ c) (empty_shelf (first + 1) shelves)

shelf_grows : (first loader : ℕ) (x shelf : Shelved) (name bytes : List ℕ) → shelf ≡ x → loader ≡ first
    → content_of_shelf first (shelf ++ (name, bytes) ∷ []) ≡ content_of_shelf first x ++ record { loader = loader; name = name; bytes = bytes } ∷ []
shelf_grows first loader x shelf name bytes e is = rw (e, is) (map-append (λ (e : List ℕ × List ℕ). let entry : Stored = record { loader = first; name = e.0; bytes = e.1 } in entry) x ((name, bytes) ∷ []))

-- one entry more stays so behind others
behind : (others old new : Content) (entry : Stored) → Inserts old new entry → Inserts (others ++ old) (others ++ new) entry
behind others old new entry t = record {
  front = others ++ t.front;
  back = t.back;
  was = ap (λ c. others ++ c) t.was ∙ sym (append_assoc others t.front t.back);
  is = ap (λ c. others ++ c) t.is ∙ sym (append_assoc others t.front (entry ∷ t.back));
}

-- one entry more on one shelf is one entry more
pub inserts_on : (first place loader : ℕ) (shelves : List Shelved) (shelf : Shelved) (name bytes : List ℕ) → loader ≡ first + place → place < length shelves → shelf ≡ get_or shelves place shelf
    → Inserts (content_from first shelves) (content_from first (set shelves place (shelf ++ (name, bytes) ∷ []))) (record { loader = loader; name = name; bytes = bytes })
inserts_on first place loader [] shelf name bytes is h e = absurd (omega arith)
inserts_on first zero loader (x ∷ xs) shelf name bytes is h e = record {
  front = content_of_shelf first x;
  back = content_from (first + 1) xs;
  was = refl;
  is = ap (λ c. c ++ content_from (first + 1) xs) (shelf_grows first loader x shelf name bytes e (omega arith)) ∙ append_assoc (content_of_shelf first x) (record { loader = loader; name = name; bytes = bytes } ∷ []) (content_from (first + 1) xs);
}
inserts_on first (suc place) loader (x ∷ xs) shelf name bytes is h e =
    behind (content_of_shelf first x) (content_from (first + 1) xs) _ (record { loader = loader; name = name; bytes = bytes }) (inserts_on (first + 1) place loader xs shelf name bytes (omega arith) (omega arith) e)

pub put_at : (place loader : ℕ) (before shelves : List Shelved) (shelf grown : Shelved) (name bytes : List ℕ) → loader ≡ place → place < length shelves → shelf ≡ get_or shelves place shelf
    → content_from 0 shelves ≡ content_from 0 before → grown ≡ shelf ++ (name, bytes) ∷ [] → Inserts (content_from 0 before) (content_from 0 (set shelves place grown)) (record { loader = loader; name = name; bytes = bytes })
put_at place loader before shelves shelf grown name bytes is h e same grows = rw (← same, grows) (inserts_on 0 place loader shelves shelf name bytes (omega arith) h e)

passes_over : (front back : Content) (entry : Stored) (loader : ℕ) (name : List ℕ) → (entry.loader == loader) && pointwise nat_eq entry.name name ≡ false
    → content_at (front ++ entry ∷ back) loader name ≡ content_at (front ++ back) loader name
passes_over [] back entry loader name e = rw e refl
passes_over (x ∷ xs) back entry loader name e = ap (λ o. cond ((x.loader == loader) && pointwise nat_eq x.name name) (Some x.bytes) o) (passes_over xs back entry loader name e)

meets : (front back : Content) (entry : Stored) (loader : ℕ) (name : List ℕ) → content_at front loader name ≡ None → (entry.loader == loader) && pointwise nat_eq entry.name name ≡ true
    → content_at (front ++ entry ∷ back) loader name ≡ Some entry.bytes
meets front back entry loader name none e = none_then front (entry ∷ back) loader name none ∙ rw e refl

front_none : (xs ys : Content) (loader : ℕ) (name : List ℕ) → content_at (xs ++ ys) loader name ≡ None → content_at xs loader name ≡ None
front_none xs ys loader name e = by (content_at xs loader name) refl
  where
    by : (o : Option (List ℕ)) → content_at xs loader name ≡ o → content_at xs loader name ≡ None
    by None f = f
    by (Some bytes) f = absurd (let g = some_then xs ys loader name bytes f in cc)

both_true : (a b : Bool) → a && b ≡ true → (a ≡ true) × (b ≡ true)
both_true true b e = (refl, e)
both_true false b e = absurd cc

same_place : (loader l : ℕ) (name n : List ℕ) → (loader == l) && pointwise nat_eq name n ≡ true → (loader ≡ l) × (name ≡ n)
same_place loader l name n e = let parts = both_true (loader == l) (pointwise nat_eq name n) e in (eqb-true loader l parts.0, (bytes_decides name n).0 parts.1)

-- one entry more, of a loader and name that had none, is told in addition
pub tells_more : (old new : Content) (loader : ℕ) (name bytes : List ℕ) → content_at old loader name ≡ None → Inserts old new (record { loader = loader; name = name; bytes = bytes }) → TellsMore old new loader name bytes
tells_more old new loader name bytes absent t l n = by ((loader == l) && pointwise nat_eq name n) refl
  where
    entry : Stored
    entry = record { loader = loader; name = name; bytes = bytes }

    by : (b : Bool) → (loader == l) && pointwise nat_eq name n ≡ b → content_at new l n ≡ cond b (Some bytes) (content_at old l n)
    by true e =
        let same = same_place loader l name n e in
        ap (λ c. content_at c l n) t.is ∙ meets t.front t.back entry l n (front_none t.front t.back l n (rw (same.0, same.1, t.was) at absent)) e
    by false e = ap (λ c. content_at c l n) t.is ∙ passes_over t.front t.back entry l n e ∙ sym (ap (λ c. content_at c l n) t.was)

-- ---- copying a map whose names differ

at_middle : (P : List ℕ → Type 0) (front back : Shelved) (name bytes : List ℕ) → AllByRecursion P (keys_of (front ++ (name, bytes) ∷ back)) → P name
at_middle P [] back name bytes each = each.0
at_middle P (x ∷ xs) back name bytes each = at_middle P xs back name bytes each.1

passed_by : (b : Bool) (bytes : List ℕ) (o : Option (List ℕ)) → b ≡ false → o ≡ None → cond b (Some bytes) o ≡ None
passed_by b bytes o e none = rw e none

-- what stands before a name has other names
fresh : (front back : Shelved) (name bytes : List ℕ) → IsDistinct (pointwise nat_eq) (keys_of (front ++ (name, bytes) ∷ back)) → bytes_in front name ≡ None
fresh [] back name bytes distinct = refl
fresh (x ∷ xs) back name bytes distinct =
    passed_by (pointwise nat_eq x.0 name) x.1 (bytes_in xs name)
    (at_middle (λ y. pointwise nat_eq x.0 y ≡ false) xs back name bytes (IsDistinct-head (pointwise nat_eq) x.0 (keys_of (xs ++ (name, bytes) ∷ back)) distinct))
    (fresh xs back name bytes (IsDistinct-tail (pointwise nat_eq) x.0 (keys_of (xs ++ (name, bytes) ∷ back)) distinct))

shown_keys : {X : Type 0} (f : X → List ℕ) (es : List (List ℕ × X)) → keys_of (map (λ e. (e.0, f e.1)) es) ≡ keys_of es
shown_keys f [] = refl
shown_keys f (e ∷ es) = ap (λ ks. e.0 ∷ ks) (shown_keys f es)

-- one more entry is copied: what is copied and what is left are together what is there
pub copied_more : {X S : Type 0} (f : X → List ℕ) (m : IndexMap (List ℕ) X S) (after left rest all : List (List ℕ × X)) (shelf : Shelved) (name copy : List ℕ) (x y : X)
    → map (λ e. (e.0, f e.1)) all ≡ shelf → IsDistinct (pointwise nat_eq) (keys_of all)
    → map (λ e. (e.0, f e.1)) m.entries ++ map (λ e. (e.0, f e.1)) left ≡ shelf
    → left ≡ (name, x) ∷ rest → copy ≡ name → f y ≡ f x → after ≡ insert_entry (pointwise nat_eq) m.entries copy y
    → map (λ e. (e.0, f e.1)) after ++ map (λ e. (e.0, f e.1)) rest ≡ shelf
copied_more f m after left rest all shelf name copy x y view distinct so_far first same_name same_bytes inserted =
    let front : Shelved = map (λ e. (e.0, f e.1)) m.entries in
    let back : Shelved = map (λ e. (e.0, f e.1)) rest in
    let cut : front ++ (name, f x) ∷ back ≡ shelf = ap (λ l. front ++ map (λ e. (e.0, f e.1)) l) (sym first) ∙ so_far in
    let apart : IsDistinct (pointwise nat_eq) (keys_of (front ++ (name, f x) ∷ back)) = subst (λ ks. IsDistinct (pointwise nat_eq) ks) (sym (shown_keys f all) ∙ ap keys_of (view ∙ sym cut)) distinct in
    let absent : bytes_in front copy ≡ None = rw same_name (fresh front back name (f x) apart) in
    let grown : map (λ e. (e.0, f e.1)) after ≡ front ++ (copy, f y) ∷ [] = put_last f m after front copy y refl absent inserted in
    ap (λ s. s ++ back) grown ∙ append_assoc front ((copy, f y) ∷ []) back ∙ ap (λ e. front ++ e ∷ back) (λ i. (same_name i, same_bytes i)) ∙ cut

pub none_copied : {X : Type 0} (f : X → List ℕ) (es left all : List (List ℕ × X)) (shelf : Shelved) → es ≡ [] → left ≡ all → map (λ e. (e.0, f e.1)) all ≡ shelf
    → map (λ e. (e.0, f e.1)) es ++ map (λ e. (e.0, f e.1)) left ≡ shelf
none_copied f es left all shelf empty first view = rw (empty, first) view

pub all_copied : {X : Type 0} (f : X → List ℕ) (es left : List (List ℕ × X)) (shelf : Shelved) → left ≡ [] → map (λ e. (e.0, f e.1)) es ++ map (λ e. (e.0, f e.1)) left ≡ shelf
    → map (λ e. (e.0, f e.1)) es ≡ shelf
all_copied f es left shelf none so_far = let whole : Shelved = map (λ e. (e.0, f e.1)) es in sym (append-nil whole) ∙ ap (λ l. whole ++ map (λ e. (e.0, f e.1)) l) (sym none) ∙ so_far

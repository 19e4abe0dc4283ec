-- The set of members that the loop over them keeps, by the numbers of their names and descriptors.
use Rattle.std.proofs.Common.{◌≡◌, ℕ, Bool, true, false, cond, not, ◌&&◌, ◌||◌, ◌==◌, List, [], ◌∷◌, ◌++◌, Option, Some, None, refl, sym, ap, ◌∙◌}
use Rattle.std.specs.List.{list_any}
use Rattle.std.specs.Ordering.{is_eq, nat_cmp}
use Rattle.std.specs.Cmp.{both_tied, unsigned_ties}
use Rattle.std.specs.Cmp.Lexicographic.{bytes_decides}
use Rattle.std.proofs.lemmas.Bool.Decides.{same_from_decides, Decides-like, Decides-eqb}
use Rattle.std.proofs.lemmas.List.Folds.{list_any-append}
use Rattle.cl_classfile.specs.declared.entry.Entry.{Entry}
use Rattle.cl_classfile.specs.Structure.{MemberInfo}
use Rattle.cl_classfile.specs.Files.{text_at}
use Rattle.cl_classfile.specs.Numbers.{IsNumber, NumbersAreIndexes}
use Rattle.cl_classfile.specs.Checking.{TextKey, key_of, same_text_key, same_member}
use Rattle.cl_classfile.specs.Seen.{pair_cmp, HasPairs}
use Rattle.cl_classfile.specs.declared.index.Places.{Places}
use Rattle.cl_classfile.specs.Indexes.{place_of, has_place, PutsPlace}
use Rattle.std.proofs.lemmas.Bool.{eqb-true, eqb-false}
use Rattle.std.specs.Prelude.{bytes_eq, is_some}
use Rattle.std.specs.Option.{option_zip}

-- ---- numbers and texts

one_number : (o : Option ℕ) (n m : ℕ) → o ≡ Some n → o ≡ Some m → n ≡ m
one_number o n m e f = cc

one_text : (o : Option (List ℕ)) (t u : List ℕ) → o ≡ Some t → o ≡ Some u → t ≡ u
one_text o t u e f = cc

-- texts are the same where their numbers are
number_tells : (pool : List Entry) (of : List ℕ → Option ℕ) → NumbersAreIndexes pool of → (t u : List ℕ) (n m : ℕ) → of t ≡ Some n → of u ≡ Some m → bytes_eq t u ≡ (n == m)
number_tells pool of first t u n m tn um =
    same_from_decides (bytes_eq t u) (n == m)
    (Decides-like (bytes_eq t u) (λ e. one_number (of u) n m (ap of (sym e) ∙ tn) um) (λ e. one_text (text_at pool m) t u (ap (text_at pool) (sym e) ∙ first t n tn) (first u m um)) (bytes_decides t u))
    (Decides-eqb n m)

-- pairs that compare equal are those of the same texts
tied : (pool : List Entry) (of : List ℕ → Option ℕ) → NumbersAreIndexes pool of → (k l : TextKey) (n d m e : ℕ) → of k.0 ≡ Some n → of k.1 ≡ Some d → of l.0 ≡ Some m → of l.1 ≡ Some e
    → bytes_eq k.0 l.0 && bytes_eq k.1 l.1 ≡ is_eq (pair_cmp (n, d) (m, e))
tied pool of first k l n d m e kn kd lm le =
    both_tied (bytes_eq k.0 l.0) (bytes_eq k.1 l.1) (nat_cmp n m) (nat_cmp d e)
    (number_tells pool of first k.0 l.0 n m kn lm ∙ unsigned_ties n m)
    (number_tells pool of first k.1 l.1 d e kd le ∙ unsigned_ties d e)

-- 0 is the number of what is no text
no_text : (pool : List Entry) (of : List ℕ → Option ℕ) → NumbersAreIndexes pool of → (o : Option (List ℕ)) (n : ℕ) → IsNumber of o n → n ≡ 0 → o ≡ None
no_text pool of first None n h e = refl
no_text pool of first (Some t) n h e = absurd (let none : text_at pool 0 ≡ Some t = first t 0 (h ∙ ap Some e) in cc)

-- another number is that of a text
record IsTextOf (of : List ℕ → Option ℕ) (o : Option (List ℕ)) (n : ℕ) : Type 0 where
  text : List ℕ
  is : o ≡ Some text
  number : of text ≡ Some n

some_text : (of : List ℕ → Option ℕ) (o : Option (List ℕ)) (n : ℕ) → IsNumber of o n → (n ≡ 0 → ⊥) → IsTextOf of o n
some_text of None n h other = absurd (other h)
some_text of (Some t) n h other = record { text = t; is = refl; number = h }

no_key : (o p : Option (List ℕ)) → p ≡ None → option_zip o p ≡ None
no_key None p e = refl
no_key (Some t) None e = refl
no_key (Some t) (Some u) e = absurd cc

-- ---- the set

-- no member has the key of a member that has none
never : (pool : List Entry) (e : MemberInfo) (o : Option TextKey) → key_of pool e ≡ o → same_text_key o None ≡ false
never pool e (Some k) h = refl
never pool e None h = refl

none_like : (pool : List Entry) (before : List MemberInfo) → list_any (λ e. same_text_key (key_of pool e) None) before ≡ false
none_like pool [] = refl
none_like pool (e ∷ before) = rw (never pool e (key_of pool e) refl, none_like pool before) refl

choice : (b x : Bool) → cond b true x ≡ x || (b || false)
choice true true = refl
choice true false = refl
choice false true = refl
choice false false = refl

-- whether a member among these has the key
abbrev any_with : List Entry → TextKey → List MemberInfo → Bool
any_with pool key ms = list_any (λ e. same_text_key (key_of pool e) (Some key)) ms

-- what the set has when a pair was put in
put : (pool : List Entry) (of : List ℕ → Option ℕ) → NumbersAreIndexes pool of → (pairs new : ℕ × ℕ → Bool) (k : TextKey) (n d : ℕ) → of k.0 ≡ Some n → of k.1 ≡ Some d → (m : MemberInfo) (before : List MemberInfo) → key_of pool m ≡ Some k
    → HasPairs pool of pairs before → ((q : ℕ × ℕ) → new q ≡ cond (is_eq (pair_cmp (n, d) q)) true (pairs q)) → HasPairs pool of new (before ++ m ∷ [])
put pool of first pairs new k n d kn kd m before is has updates l x y lx ly =
    let here : same_text_key (key_of pool m) (Some l) ≡ is_eq (pair_cmp (n, d) (x, y)) = ap (λ (o : Option TextKey). same_text_key o (Some l)) is ∙ tied pool of first k l n d x y kn kd lx ly in
    let all : any_with pool l (before ++ m ∷ []) ≡ any_with pool l before || (is_eq (pair_cmp (n, d) (x, y)) || false) =
    list_any-append (λ e. same_text_key (key_of pool e) (Some l)) before (m ∷ []) ∙ ap (λ (b : Bool). any_with pool l before || (b || false)) here in
    updates (x, y) ∙ ap (cond (is_eq (pair_cmp (n, d) (x, y))) true) (has l x y lx ly) ∙ choice (is_eq (pair_cmp (n, d) (x, y))) (any_with pool l before) ∙ sym all

-- what is known once a member was looked at
abbrev pub IsSeen : List Entry → (List ℕ → Option ℕ) → Bool → (ℕ × ℕ → Bool) → MemberInfo → List MemberInfo → Type 0
IsSeen pool of added new m before = (added ≡ not (list_any (λ e. same_member pool e m) before)) × HasPairs pool of new (before ++ m ∷ [])

-- a member with a key is new where the set lacks its pair
pub with_key : (pool : List Entry) (of : List ℕ → Option ℕ) → NumbersAreIndexes pool of → (pairs new : ℕ × ℕ → Bool) (n d : ℕ) (added : Bool) (m : MemberInfo) (before : List MemberInfo)
    → IsNumber of (text_at pool m.name_index) n → IsNumber of (text_at pool m.descriptor_index) d → (n ≡ 0 → ⊥) → (d ≡ 0 → ⊥) → HasPairs pool of pairs before
    → added ≡ not (pairs (n, d)) → ((q : ℕ × ℕ) → new q ≡ cond (is_eq (pair_cmp (n, d) q)) true (pairs q)) → IsSeen pool of added new m before
with_key pool of first pairs new n d added m before is_n is_d some_n some_d has e updates =
    let name = some_text of (text_at pool m.name_index) n is_n some_n in
    let descriptor = some_text of (text_at pool m.descriptor_index) d is_d some_d in
    let k : TextKey = (name.text, descriptor.text) in
    let is : key_of pool m ≡ Some k = ap (λ (o : Option (List ℕ)). option_zip o (text_at pool m.descriptor_index)) name.is ∙ ap (option_zip (Some name.text)) descriptor.is in (
      e ∙ ap not (has k n d name.number descriptor.number) ∙ ap (λ (o : Option TextKey). not (list_any (λ e. same_text_key (key_of pool e) o) before)) (sym is),
      put pool of first pairs new k n d name.number descriptor.number m before is has updates,
    )

or_false : (b : Bool) → b || (false || false) ≡ b
or_false true = refl
or_false false = refl

-- nothing changes for texts where the pair is that of none
other_pair : (p q : ℕ × ℕ) → is_eq (pair_cmp p q) ≡ false → (x y : Bool) → x ≡ cond (is_eq (pair_cmp p q)) true y → x ≡ y
other_pair p q none x y e = e ∙ ap (λ (b : Bool). cond b true y) none

passed : (pool : List Entry) (of : List ℕ → Option ℕ) (pairs new : ℕ × ℕ → Bool) (p : ℕ × ℕ) (m : MemberInfo) (before : List MemberInfo) → key_of pool m ≡ None
    → ((l : TextKey) (x y : ℕ) → of l.0 ≡ Some x → of l.1 ≡ Some y → is_eq (pair_cmp p (x, y)) ≡ false) → HasPairs pool of pairs before
    → ((q : ℕ × ℕ) → new q ≡ cond (is_eq (pair_cmp p q)) true (pairs q)) → IsSeen pool of true new m before
passed pool of pairs new p m before is none has updates = (
  ap not (sym (none_like pool before)) ∙ ap (λ (o : Option TextKey). not (list_any (λ e. same_text_key (key_of pool e) o) before)) (sym is),
  λ l x y lx ly.
      let all : any_with pool l (before ++ m ∷ []) ≡ any_with pool l before || (false || false) =
      list_any-append (λ e. same_text_key (key_of pool e) (Some l)) before (m ∷ []) ∙ ap (λ (o : Option TextKey). any_with pool l before || (same_text_key o (Some l) || false)) is in
      other_pair p (x, y) (none l x y lx ly) (new (x, y)) (pairs (x, y)) (updates (x, y)) ∙ has l x y lx ly ∙ sym (all ∙ or_false (any_with pool l before)),
)

-- no text has the number 0
no_zero : (pool : List Entry) (of : List ℕ → Option ℕ) → NumbersAreIndexes pool of → (t : List ℕ) (n x : ℕ) → n ≡ 0 → of t ≡ Some x → (b : Bool) → (n == x) ≡ b → b ≡ false
no_zero pool of first t n x zero_is e false f = refl
no_zero pool of first t n x zero_is e true f = absurd (
    let one : n ≡ x = eqb-true n x f in
    let there : text_at pool 0 ≡ Some t = ap (text_at pool) (sym (sym one ∙ zero_is)) ∙ first t x e in
    let none : text_at pool 0 ≡ None = refl in cc)

other_name : (n d x y : ℕ) → (n == x) ≡ false → is_eq (pair_cmp (n, d) (x, y)) ≡ false
other_name n d x y e = sym (both_tied (n == x) (d == y) (nat_cmp n x) (nat_cmp d y) (unsigned_ties n x) (unsigned_ties d y)) ∙ ap (λ (b : Bool). b && (d == y)) e

last_false : (b c : Bool) → c ≡ false → (b && c) ≡ false
last_false true c e = e
last_false false c e = refl

other_descriptor : (n d x y : ℕ) → (d == y) ≡ false → is_eq (pair_cmp (n, d) (x, y)) ≡ false
other_descriptor n d x y e = sym (both_tied (n == x) (d == y) (nat_cmp n x) (nat_cmp d y) (unsigned_ties n x) (unsigned_ties d y)) ∙ last_false (n == x) (d == y) e

-- a member without a key is new, and changes nothing
pub without_name : (pool : List Entry) (of : List ℕ → Option ℕ) → NumbersAreIndexes pool of → (pairs new : ℕ × ℕ → Bool) (n d : ℕ) (m : MemberInfo) (before : List MemberInfo)
    → IsNumber of (text_at pool m.name_index) n → n ≡ 0 → HasPairs pool of pairs before → ((q : ℕ × ℕ) → new q ≡ cond (is_eq (pair_cmp (n, d) q)) true (pairs q)) → IsSeen pool of true new m before
without_name pool of first pairs new n d m before is_n none has =
    passed pool of pairs new (n, d) m before (ap (λ (o : Option (List ℕ)). option_zip o (text_at pool m.descriptor_index)) (no_text pool of first (text_at pool m.name_index) n is_n none))
    (λ l x y lx ly. other_name n d x y (no_zero pool of first l.0 n x none lx (n == x) refl)) has

pub without_descriptor : (pool : List Entry) (of : List ℕ → Option ℕ) → NumbersAreIndexes pool of → (pairs new : ℕ × ℕ → Bool) (n d : ℕ) (m : MemberInfo) (before : List MemberInfo)
    → IsNumber of (text_at pool m.descriptor_index) d → d ≡ 0 → HasPairs pool of pairs before → ((q : ℕ × ℕ) → new q ≡ cond (is_eq (pair_cmp (n, d) q)) true (pairs q)) → IsSeen pool of true new m before
without_descriptor pool of first pairs new n d m before is_d none has =
    passed pool of pairs new (n, d) m before (no_key (text_at pool m.name_index) (text_at pool m.descriptor_index) (no_text pool of first (text_at pool m.descriptor_index) d is_d none))
    (λ l x y lx ly. other_descriptor n d x y (no_zero pool of first l.1 d y none ly (d == y) refl)) has

-- the test of the loop, the other way round
pub old : (new among : Bool) → new ≡ not among → new ≡ false → among ≡ true
old new true e f = refl
old new false e f = absurd (let g : false ≡ true = sym f ∙ e in cc)

pub fresh : (new among : Bool) → new ≡ not among → new ≡ true → among ≡ false
fresh new false e f = refl
fresh new true e f = absurd (let g : true ≡ false = sym f ∙ e in cc)

pub starts : (pool : List Entry) (of : List ℕ → Option ℕ) (ps : Places) → ps.map.entries ≡ [] → HasPairs pool of (has_place ps) []
starts pool of ps e l n d ln ld = rw e refl

-- what is placed when one more is
pub placed : (old new : Places) (pair : ℕ × ℕ) (i : ℕ) → PutsPlace old new pair i → (q : ℕ × ℕ) → has_place new q ≡ cond (is_eq (pair_cmp pair q)) true (has_place old q)
placed old new pair i puts q = ap is_some (puts q) ∙ choose (is_eq (pair_cmp pair q))
  where
    choose : (b : Bool) → is_some (cond b (Some i) (place_of old q)) ≡ cond b true (has_place old q)
    choose true = refl
    choose false = refl

-- what is known once a member was placed, of whatever numbers
pub is_seen : (pool : List Entry) (of : List ℕ → Option ℕ) → NumbersAreIndexes pool of → (pairs new : ℕ × ℕ → Bool) (n d : ℕ) (first : Bool) (m : MemberInfo) (before : List MemberInfo)
    → IsNumber of (text_at pool m.name_index) n → IsNumber of (text_at pool m.descriptor_index) d → HasPairs pool of pairs before
    → first ≡ not (pairs (n, d)) → ((q : ℕ × ℕ) → new q ≡ cond (is_eq (pair_cmp (n, d) q)) true (pairs q))
    → (a b : Bool) → (n == 0) ≡ a → (d == 0) ≡ b → IsSeen pool of ((a || b) || first) new m before
is_seen pool of known pairs new n d first m before is_n is_d has e updates true b f g = without_name pool of known pairs new n d m before is_n (eqb-true n 0 f) has updates
is_seen pool of known pairs new n d first m before is_n is_d has e updates false true f g = without_descriptor pool of known pairs new n d m before is_d (eqb-true d 0 g) has updates
is_seen pool of known pairs new n d first m before is_n is_d has e updates false false f g =
    with_key pool of known pairs new n d first m before is_n is_d (eqb-false n 0 f) (eqb-false d 0 g) has e updates

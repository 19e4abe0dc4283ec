-- Where the rows of a registry stand: each record has its row, and a class without a record has none.
use Rattle.std.proofs.Common.{◌≡◌, ◌∙◌, ℕ, Bool, true, false, List, [], ◌∷◌, ◌++◌, map, Option, Some, None, refl, sym, ap, subst, is_some, if◌then◌else◌}
use Rattle.std.specs.Prelude.{◌&&◌, ◌==◌, nat_eq, find, option_map, option_and_then, IsSome, MatchOption}
use Rattle.std.specs.Option.{option_or}
use Rattle.std.specs.List.{AllByRecursion}
use Rattle.std.specs.Cmp.Lexicographic.{pointwise}
use Rattle.std.proofs.lemmas.Cmp.{nat_eq_equiv}
use Rattle.cl_classfile.specs.Files.{same_name}
use Rattle.cl_model.specs.declared.class.Class.{Class}
use Rattle.cl_model.specs.Content.{Content}
use Rattle.cl_model.specs.Classes.{class, same_class}
use Rattle.cl_model.specs.States.{IsRecorded, Record, recorded_definer}
use Rattle.cl_model.specs.Tables.{Records}
use Rattle.cl_model.proofs.Runs.{names_equal}
use Rattle.cl_model.proofs.Ancestors.{same_self}
use Rattle.cl_model.proofs.Complete.{is_class}
use Rattle.cl_hierarchy.specs.Rows.{Rowed}
use Rattle.cl_hierarchy.specs.Lineages.{row_of}
use Rattle.cl_registry.specs.Tables.{Shown, state_of, records_of, defined_classes, IsKept, looked_row, LacksRecord}
use Rattle.cl_registry.proofs.Histories.{eq_nat}
use Rattle.cl_registry.proofs.Running.{recorded_hold, all_known}
use Rattle.cl_model.proofs.Bind.{none_not_some, some_same}
use Rattle.std.proofs.lemmas.Bool.{and_parts, and_from}
use Rattle.std.proofs.lemmas.Option.{none-some}

-- ---- records

found_push : (p : Record → Bool) (rs : List Record) (r : Record) → find p (rs ++ r ∷ []) ≡ option_or (find p rs) (if p r then Some r else None)
found_push p [] r = refl
found_push p (x ∷ rs) r = by_test (p x) (found_push p rs r)
  where
    by_test : (b : Bool) → find p (rs ++ r ∷ []) ≡ option_or (find p rs) (if p r then Some r else None) → (if b then Some x else find p (rs ++ r ∷ [])) ≡ option_or (if b then Some x else find p rs) (if p r then Some r else None)
    by_test true e = refl
    by_test false e = e

place_or : (o : Option Record) (b : Bool) (r : Record) → option_map (λ (r : Record). r.place) (option_or o (if b then Some r else None)) ≡ option_or (option_map (λ (r : Record). r.place) o) (if b then Some r.place else None)
place_or (Some x) b r = refl
place_or None true r = refl
place_or None false r = refl

pub recorded_push : (rs : List Record) (r : Record) (l : ℕ) (n : List ℕ) → recorded_definer (rs ++ r ∷ []) l n ≡ option_or (recorded_definer rs l n) (if (r.loader == l) && same_name r.name n then Some r.place else None)
recorded_push rs r l n =
    ap (option_map (λ (r : Record). r.place)) (found_push (λ r. (r.loader == l) && same_name r.name n) rs r)
    ∙ place_or (find (λ r. (r.loader == l) && same_name r.name n) rs) ((r.loader == l) && same_name r.name n) r

-- ---- rows

name_self : (n : List ℕ) → same_name n n ≡ true
name_self [] = refl
name_self (a ∷ n) = and_from (nat_eq a a) (same_name n n) (nat_eq_equiv.refl a) (name_self n)

pub at_self : (l : ℕ) (n : List ℕ) → ((l == l) && pointwise nat_eq n n) ≡ true
at_self l n = and_from (l == l) (same_name n n) (nat_eq_equiv.refl l) (name_self n)

if_found : {A : Type 0} (b : Bool) (x : A) (o : Option A) → is_some o ≡ true → is_some (if b then Some x else o) ≡ true
if_found true x o e = refl
if_found false x o e = e

found_more : (x : Rowed) (rows : List Rowed) (cs : List Class) → AllByRecursion (λ (c : Class). IsSome (row_of rows c)) cs → AllByRecursion (λ (c : Class). IsSome (row_of (x ∷ rows) c)) cs
found_more x rows [] all = tt
found_more x rows (c ∷ cs) all = (if_found (same_class x.class c) x (row_of rows c) all.0, found_more x rows cs all.1)

if_true : {A : Type 0} (b : Bool) (x : A) (o : Option A) → b ≡ true → is_some (if b then Some x else o) ≡ true
if_true true x o e = refl
if_true false x o e = absurd cc

-- each class of a list of rows has a row there
all_found : (rows : List Rowed) → AllByRecursion (λ (c : Class). IsSome (row_of rows c)) (map (λ r. r.class) rows)
all_found [] = tt
all_found (x ∷ rows) = (if_true (same_class x.class x.class) x (row_of rows x.class) (same_self x.class), found_more x rows (map (λ r. r.class) rows) (all_found rows))

-- the row of a class is of it
pub row_is : (rows : List Rowed) (c : Class) (r : Rowed) → row_of rows c ≡ Some r → r.class ≡ c
row_is [] c r e = absurd cc
row_is (x ∷ rows) c r e = by_test (same_class x.class c) refl e (row_is rows c r)
  where
    by_test : (b : Bool) → same_class x.class c ≡ b → (if b then Some x else row_of rows c) ≡ Some r → (row_of rows c ≡ Some r → r.class ≡ c) → r.class ≡ c
    by_test true t f ih = ap (λ (s : Rowed). s.class) (sym (some_same x r f)) ∙ is_class x.class c t
    by_test false t f ih = ih f

-- a class that its loader has not recorded has no row
none_found : (rs : List Record) (rows : List Rowed) (c : Class) → AllByRecursion (λ (c : Class). recorded_definer rs c.loader c.name ≡ Some c.loader) (map (λ r. r.class) rows) → recorded_definer rs c.loader c.name ≡ None → row_of rows c ≡ None
none_found rs [] c known fresh = refl
none_found rs (x ∷ rows) c known fresh = by_test (same_class x.class c) refl (none_found rs rows c known.1 fresh)
  where
    by_test : (b : Bool) → same_class x.class c ≡ b → row_of rows c ≡ None → (if b then Some x else row_of rows c) ≡ None
    by_test true t ih = absurd (none_not_some _ fresh (subst (λ (k : Class). recorded_definer rs k.loader k.name ≡ Some k.loader) (is_class x.class c t) known.0))
    by_test false t ih = ih

-- a row more is found for its class, where none was
pub row_push : (rows : List Rowed) (r : Rowed) (c : Class) → r.class ≡ c → row_of rows c ≡ None → row_of (rows ++ r ∷ []) c ≡ Some r
row_push [] r c e none = ap (λ (b : Bool). if b then Some r else None) (subst (λ (k : Class). same_class r.class k ≡ true) e (same_self r.class))
row_push (x ∷ rows) r c e none = by_test (same_class x.class c) none (row_push rows r c e)
  where
    by_test : (b : Bool) → (if b then Some x else row_of rows c) ≡ None → (row_of rows c ≡ None → row_of (rows ++ r ∷ []) c ≡ Some r) → (if b then Some x else row_of (rows ++ r ∷ []) c) ≡ Some r
    by_test true f ih = absurd cc
    by_test false f ih = ih f

pub fresh_row : (told : Option Content) (x : Shown) (c : Class) → IsKept told x → recorded_definer (records_of x) c.loader c.name ≡ None → row_of x.rows c ≡ None
fresh_row told x c k fresh = none_found (records_of x) x.rows c (subst (AllByRecursion (IsRecorded (state_of x))) (sym k.rows) (all_known x k.trusted)) fresh

-- ---- what is looked up

pub some_of : {A : Type 0} (o : Option A) → is_some o ≡ true → (x : A) × (o ≡ Some x)
some_of None e = absurd cc
some_of (Some x) e = (x, refl)

-- the row of a record, and whose it is
pub record IsRowOf (x : Shown) (l p : ℕ) (n : List ℕ) : Type 0 where
  pub row : Rowed
  pub found : row_of x.rows (class n p) ≡ Some row
  pub looked : looked_row x l n ≡ Some row
  pub named : row.class ≡ class n p

pub looked_some : (told : Option Content) (x : Shown) (l p : ℕ) (n : List ℕ) → IsKept told x → recorded_definer (records_of x) l n ≡ Some p → IsRowOf x l p n
looked_some told x l p n k e =
    let all : AllByRecursion (λ (c : Class). IsSome (row_of x.rows c)) (defined_classes x.history) = subst (AllByRecursion (λ (c : Class). IsSome (row_of x.rows c))) k.rows (all_found x.rows) in
    let is = some_of (row_of x.rows (class n p)) (recorded_hold (λ (c : Class). IsSome (row_of x.rows c)) x k.trusted all l p n e) in
    record {
      row = is.0;
      found = is.1;
      looked = ap (option_and_then (λ (q : ℕ). row_of x.rows (class n q))) e ∙ is.1;
      named = row_is x.rows (class n p) is.0 is.1;
    }

pub looked_none : (x : Shown) (l : ℕ) (n : List ℕ) → recorded_definer (records_of x) l n ≡ None → looked_row x l n ≡ None
looked_none x l n e = ap (option_and_then (λ (q : ℕ). row_of x.rows (class n q))) e

-- who defined the class of a row is the place of its record
pub place_looked : (told : Option Content) (x : Shown) (l : ℕ) (n : List ℕ) → IsKept told x → option_map (λ (r : Rowed). r.class.loader) (looked_row x l n) ≡ recorded_definer (records_of x) l n
place_looked told x l n k = by_record (recorded_definer (records_of x) l n) refl
  where
    by_record : (o : Option ℕ) → recorded_definer (records_of x) l n ≡ o → option_map (λ (r : Rowed). r.class.loader) (looked_row x l n) ≡ recorded_definer (records_of x) l n
    by_record None e = ap (option_map (λ (r : Rowed). r.class.loader)) (looked_none x l n e) ∙ sym e
    by_record (Some p) e =
        let is = looked_some told x l p n k e in
        ap (option_map (λ (r : Rowed). r.class.loader)) is.looked ∙ ap (λ (c : Class). Some c.loader) is.named ∙ sym e

-- a row that is looked up is of the class that is recorded
pub looked_records : (told : Option Content) (x : Shown) (l : ℕ) (n : List ℕ) (r : Rowed) → IsKept told x → looked_row x l n ≡ Some r → Records (state_of x) l n r.class
looked_records told x l n r k e = by_record (recorded_definer (records_of x) l n) refl
  where
    by_record : (o : Option ℕ) → recorded_definer (records_of x) l n ≡ o → Records (state_of x) l n r.class
    by_record None f = absurd (none-some r (sym (looked_none x l n f) ∙ e))
    by_record (Some p) f =
        let is = looked_some told x l p n k f in
        let same : is.row ≡ r = some_same is.row r (sym is.looked ∙ e) in
        let of : r.class ≡ class n p = ap (λ (s : Rowed). s.class) (sym same) ∙ is.named in
        (ap (λ (c : Class). c.name) of, f ∙ ap (λ (c : Class). Some c.loader) (sym of))

pub looked_lacks : (told : Option Content) (x : Shown) (l : ℕ) (n : List ℕ) → IsKept told x → looked_row x l n ≡ None → LacksRecord x l n
looked_lacks told x l n k e = by_record (recorded_definer (records_of x) l n) refl
  where
    by_record : (o : Option ℕ) → recorded_definer (records_of x) l n ≡ o → LacksRecord x l n
    by_record None f = f
    by_record (Some p) f = let is = looked_some told x l p n k f in absurd (none-some is.row (sym e ∙ is.looked))

pub looked_is : (told : Option Content) (x : Shown) (l : ℕ) (n : List ℕ) (o : Option Rowed) → IsKept told x → o ≡ looked_row x l n → MatchOption o (LacksRecord x l n) (λ r. Records (state_of x) l n r.class)
looked_is told x l n None k e = looked_lacks told x l n k (sym e)
looked_is told x l n (Some r) k e = looked_records told x l n r k (sym e)

-- ---- one record more

same_at : (a b : ℕ) (m n : List ℕ) → ((a == b) && same_name m n) ≡ true → (a ≡ b) × (m ≡ n)
same_at a b m n e = let both = and_parts (a == b) (same_name m n) e in (eq_nat a b both.0, names_equal m n both.1)

-- what is looked up after a record more
pub looked_push : (told : Option Content) (x y : Shown) (r : Record) (row : Rowed) → IsKept told x → records_of y ≡ records_of x ++ r ∷ [] → ((c : Class) (s : Rowed) → row_of x.rows c ≡ Some s → row_of y.rows c ≡ Some s)
    → recorded_definer (records_of x) r.loader r.name ≡ None → row_of y.rows (class r.name r.place) ≡ Some row → (l : ℕ) (n : List ℕ) → looked_row y l n ≡ (if (r.loader == l) && pointwise nat_eq r.name n then Some row else looked_row x l n)
looked_push told x y r row k more stays fresh here l n = by_cases (recorded_definer (records_of x) l n) ((r.loader == l) && same_name r.name n) refl refl
  where
    now : looked_row y l n ≡ option_and_then (λ (p : ℕ). row_of y.rows (class n p)) (option_or (recorded_definer (records_of x) l n) (if (r.loader == l) && same_name r.name n then Some r.place else None))
    now = ap (λ (rs : List Record). option_and_then (λ (p : ℕ). row_of y.rows (class n p)) (recorded_definer rs l n)) more ∙ ap (option_and_then (λ (p : ℕ). row_of y.rows (class n p))) (recorded_push (records_of x) r l n)

    by_cases : (o : Option ℕ) (b : Bool) → recorded_definer (records_of x) l n ≡ o → ((r.loader == l) && same_name r.name n) ≡ b → looked_row y l n ≡ (if (r.loader == l) && pointwise nat_eq r.name n then Some row else looked_row x l n)
    by_cases None true e t =
        let same = same_at r.loader l r.name n t in
        now
        ∙ ap (λ (o : Option ℕ). option_and_then (λ (p : ℕ). row_of y.rows (class n p)) (option_or o (if (r.loader == l) && same_name r.name n then Some r.place else None))) e
        ∙ ap (λ (b : Bool). option_and_then (λ (p : ℕ). row_of y.rows (class n p)) (if b then Some r.place else None)) t
        ∙ ap (λ (m : List ℕ). row_of y.rows (class m r.place)) (sym same.1) ∙ here
        ∙ sym (ap (λ (b : Bool). if b then Some row else looked_row x l n) t)
    by_cases (Some p) true e t =
        let same = same_at r.loader l r.name n t in
        absurd (none_not_some _ fresh (subst (λ (i : ℕ). recorded_definer (records_of x) i r.name ≡ Some p) (sym same.0) (subst (λ (m : List ℕ). recorded_definer (records_of x) l m ≡ Some p) (sym same.1) e)))
    by_cases None false e t =
        now
        ∙ ap (λ (o : Option ℕ). option_and_then (λ (p : ℕ). row_of y.rows (class n p)) (option_or o (if (r.loader == l) && same_name r.name n then Some r.place else None))) e
        ∙ ap (λ (b : Bool). option_and_then (λ (p : ℕ). row_of y.rows (class n p)) (if b then Some r.place else None)) t
        ∙ sym (looked_none x l n e)
        ∙ sym (ap (λ (b : Bool). if b then Some row else looked_row x l n) t)
    by_cases (Some p) false e t =
        let is = looked_some told x l p n k e in
        now
        ∙ ap (λ (o : Option ℕ). option_and_then (λ (p : ℕ). row_of y.rows (class n p)) (option_or o (if (r.loader == l) && same_name r.name n then Some r.place else None))) e
        ∙ stays (class n p) is.row is.found
        ∙ sym is.looked
        ∙ sym (ap (λ (b : Bool). if b then Some row else looked_row x l n) t)

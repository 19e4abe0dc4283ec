-- The walk over the superclasses, step by step.
use Rattle.std.proofs.Common.{◌≡◌, ◌<◌, ◌+◌, ℕ, Bool, true, false, ◌&&◌, ◌||◌, if◌then◌else◌, not, Some, None, List, [], ◌∷◌, ◌++◌, map, filter, length, refl, ap, sym, subst, ◌∙◌, get_or, suc, drop, append_assoc, add-one, append-nil, arith}
use Rattle.std.specs.Prelude.{nat_eq, ◌==◌}
use Rattle.std.specs.List.{list_any}
use Rattle.std.specs.Cmp.Lexicographic.{pointwise, nat_list_eq_equiv}
use Rattle.std.proofs.lemmas.Bool.{and_parts, eqb-true}
use Rattle.std.proofs.lemmas.Cmp.{nat_eq_equiv}
use Rattle.std.proofs.lemmas.List.{drop_all}
use Rattle.std.proofs.Math.Seq.{drop-cons}
use Rattle.indexmap.specs.IndexSet.{IndexSet, IsEmpty, contains}
use Rattle.cl_names.specs.Kind.{package_of}
use Rattle.cl_classfile.specs.Files.{Key, file_of, is_interface}
use Rattle.cl_model.specs.declared.class.Class.{Class}
use Rattle.cl_model.specs.Classes.{same_package}
use Rattle.cl_model.specs.Lineages.{Kin}
use Rattle.cl_model.specs.Preparation.{equals_of, equals_with, takes_part}
use Rattle.cl_model.specs.States.{Need}
use Rattle.cl_model.proofs.Runs.{names_equal}
use Rattle.cl_hierarchy.specs.Rows.{Rowed}
use Rattle.cl_preparation.specs.declared.packages.Package.{Package}
use Rattle.cl_preparation.specs.Packages.{AreOpened, Opens, package_of_class, same_packages}
use Rattle.cl_preparation.specs.Relatives.{Visits, Walking, of_superclasses}
use Rattle.cl_preparation.specs.Walks.{is_package_private, is_in_package, is_open, is_overridden, opened_by, declared_open, overridden_by_package}

-- ---- lists

or_turned : (a b c : Bool) → b ≡ c → (if a then true else b) ≡ (a || c)
or_turned true b c e = refl
or_turned false b c e = e

-- what is left of a list, from an index on
next_dropped : {A : Type 0} (xs : List A) (i : ℕ) (x : A) → i < length xs → x ≡ get_or xs i x → drop i xs ≡ x ∷ drop (i + 1) xs
next_dropped xs i x h at = drop-cons xs i x h ∙ ap (λ y. y ∷ drop (suc i) xs) (sym at) ∙ rw add-one refl

-- ---- packages

package_turned : (a b : Class) → same_package a b ≡ same_package b a
package_turned a b =
    ap (λ (x : Bool). x && pointwise nat_eq (package_of a.name) (package_of b.name)) (nat_eq_equiv.symm a.loader b.loader)
    ∙ ap (λ (x : Bool). (b.loader == a.loader) && x) (nat_list_eq_equiv.symm (package_of a.name) (package_of b.name))

package_is : (a b : Class) → same_package a b ≡ true → package_of_class a ≡ package_of_class b
package_is a b e =
    let both = and_parts (a.loader == b.loader) (pointwise nat_eq (package_of a.name) (package_of b.name)) e in
    ap (λ (l : ℕ). record { loader = l; name = package_of a.name }) (eqb-true a.loader b.loader both.0)
    ∙ ap (λ (n : List ℕ). record { loader = b.loader; name = n }) (names_equal (package_of a.name) (package_of b.name) both.1)

none_opened : {S : Type 0} (fresh : IndexSet Package S) → IsEmpty fresh → AreOpened fresh []
none_opened fresh empty = λ c. ap (λ (ks : List Package). list_any (same_packages (package_of_class c)) ks) empty

one_opened : {S : Type 0} (old new : IndexSet Package S) (k : Class) (cs : List Class) → AreOpened old cs → Opens old new (package_of_class k) → AreOpened new (k ∷ cs)
one_opened old new k cs before put = λ c.
    put (package_of_class c) ∙ or_turned (same_packages (package_of_class k) (package_of_class c)) (contains same_packages old (package_of_class c)) (is_in_package cs c) (before c)
    ∙ ap (λ (x : Bool). x || is_in_package cs c) (package_turned k c)

-- ---- a step

-- a superclass is looked at: it takes part or not, it opens or not, its package was opened or not
visits : {S : Type 0} (key : Key) (before : List Class) (k : Kin) (imposed old new : List Need) (opened after : IndexSet Package S) (part wide within : Bool)
    → part ≡ takes_part key k → wide ≡ is_open key k → within ≡ is_in_package before k.class → AreOpened opened before
    → new ≡ old ++ (if part && (wide || within) then imposed else []) → AreOpened after (if part && wide then k.class ∷ before else before)
    → Visits key before k imposed old new after
visits key before k imposed old new opened after part wide within tp op inside was needs afterwards = record {
  needs_are = needs ∙ ap (λ (b : Bool). old ++ (if b then imposed else [])) (ap (λ (b : Bool). b && (wide || within)) tp ∙ ap (λ (b : Bool). takes_part key k && (b || within)) op ∙ ap (λ (b : Bool). takes_part key k && (is_open key k || b)) inside);
  opened_are = subst (λ (b : Bool). AreOpened after (if b then k.class ∷ before else before)) (ap (λ (b : Bool). b && wide) tp ∙ ap (λ (b : Bool). takes_part key k && b) op) afterwards;
}

no_part : (part wide : Bool) → None ≡ (if part then Some wide else None) → false ≡ part
no_part true wide e = absurd cc
no_part false wide e = refl

some_part : (part wide b : Bool) → Some b ≡ (if part then Some wide else None) → (true ≡ part) × (b ≡ wide)
some_part true wide b e = (refl, cc)
some_part false wide b e = absurd cc

-- one that does not take part
pub passed : {S : Type 0} (key : Key) (before : List Class) (k : Kin) (imposed needs : List Need) (opened : IndexSet Package S) → None ≡ declared_open key k → AreOpened opened before → Visits key before k imposed needs needs opened
passed key before k imposed needs opened none was =
    visits key before k imposed needs needs opened opened false (is_open key k) (is_in_package before k.class) (no_part (takes_part key k) (is_open key k) none) refl refl was (sym (append-nil needs)) was

-- one that takes part and opens its package
pub opened_too : {S : Type 0} (key : Key) (before : List Class) (k : Kin) (imposed old new : List Need) (opened after : IndexSet Package S) → Some true ≡ declared_open key k → AreOpened opened before
    → new ≡ old ++ imposed → Opens opened after (package_of_class k.class) → Visits key before k imposed old new after
opened_too key before k imposed old new opened after some was needs put =
    let told : (true ≡ takes_part key k) × (true ≡ is_open key k) = some_part (takes_part key k) (is_open key k) true some in
    visits key before k imposed old new opened after true true (is_in_package before k.class) told.0 told.1 refl was needs (one_opened opened after k.class before was put)

-- a package that was opened once more
opened_twice : {S : Type 0} (opened : IndexSet Package S) (k : Class) (cs : List Class) → AreOpened opened cs → contains same_packages opened (package_of_class k) ≡ true → AreOpened opened (k ∷ cs)
opened_twice opened k cs before inside = λ c. by c (same_package c k) refl
  where
    by : (c : Class) (b : Bool) → same_package c k ≡ b → contains same_packages opened (package_of_class c) ≡ is_in_package (k ∷ cs) c
    by c false e = before c ∙ ap (λ (x : Bool). x || is_in_package cs c) (sym e)
    by c true e = ap (contains same_packages opened) (package_is c k e) ∙ inside ∙ ap (λ (x : Bool). x || is_in_package cs c) (sym e)

-- one that takes part and opens its package, which was opened
pub opened_again : {S : Type 0} (key : Key) (before : List Class) (k : Kin) (imposed old new : List Need) (opened : IndexSet Package S) → Some true ≡ declared_open key k → AreOpened opened before
    → true ≡ contains same_packages opened (package_of_class k.class) → new ≡ old ++ imposed → Visits key before k imposed old new opened
opened_again key before k imposed old new opened some was inside needs =
    let told : (true ≡ takes_part key k) × (true ≡ is_open key k) = some_part (takes_part key k) (is_open key k) true some in
    visits key before k imposed old new opened opened true true (is_in_package before k.class) told.0 told.1 refl was needs (opened_twice opened k.class before was (sym inside))

-- one that takes part for its package alone, which was opened
pub within_too : {S : Type 0} (key : Key) (before : List Class) (k : Kin) (imposed old new : List Need) (opened : IndexSet Package S) → Some false ≡ declared_open key k → AreOpened opened before
    → true ≡ contains same_packages opened (package_of_class k.class) → new ≡ old ++ imposed → Visits key before k imposed old new opened
within_too key before k imposed old new opened some was inside needs =
    let told : (true ≡ takes_part key k) × (false ≡ is_open key k) = some_part (takes_part key k) (is_open key k) false some in
    visits key before k imposed old new opened opened true false true told.0 told.1 (inside ∙ was k.class) was needs was

-- one whose package was not opened
pub without : {S : Type 0} (key : Key) (before : List Class) (k : Kin) (imposed needs : List Need) (opened : IndexSet Package S) → Some false ≡ declared_open key k → AreOpened opened before
    → false ≡ contains same_packages opened (package_of_class k.class) → Visits key before k imposed needs needs opened
without key before k imposed needs opened some was outside =
    let told : (true ≡ takes_part key k) × (false ≡ is_open key k) = some_part (takes_part key k) (is_open key k) false some in
    visits key before k imposed needs needs opened opened true false false told.0 told.1 (outside ∙ was k.class) was (sym (append-nil needs)) was

-- ---- no package tells

open_next : (key : Key) (opened : List Class) (k : Kin) (ks : List Kin) (part wide closed : Bool) → takes_part key k ≡ part → is_open key k ≡ wide → ((part && not wide) || closed) ≡ false
    → ((others : List Class) → closed ≡ false → overridden_by_package key others ks ≡ filter (takes_part key) ks) → overridden_by_package key opened (k ∷ ks) ≡ filter (takes_part key) (k ∷ ks)
open_next key opened k ks false wide closed tp op none rest = rw tp (rest opened none)
open_next key opened k ks true true closed tp op none rest = rw tp (rw op (ap (λ others. k ∷ others) (rest (k.class ∷ opened) none)))
open_next key opened k ks true false closed tp op none rest = absurd cc

-- where none is for its package alone, all that take part are overridden
open_walked : {A : Type 0} (kin : A → Kin) (key : Key) (opened : List Class) (rs : List A) → list_any (λ r. is_package_private key (kin r)) rs ≡ false → overridden_by_package key opened (map kin rs) ≡ filter (takes_part key) (map kin rs)
open_walked kin key opened [] none = refl
open_walked kin key opened (r ∷ rs) none =
    open_next key opened (kin r) (map kin rs) (takes_part key (kin r)) (is_open key (kin r)) (list_any (λ r. is_package_private key (kin r)) rs) refl refl none (λ others more. open_walked kin key others rs more)

-- what a method imposes with superclasses none of which is for its package alone
pub above_open : {A : Type 0} (kin : A → Kin) (own : Rowed) (above : List A) (key : Key) (loader : ℕ) (old new : List Need) (inter closed : Bool) → inter ≡ is_interface (file_of own.file) → false ≡ inter
    → closed ≡ list_any (λ r. is_package_private key (kin r)) above → false ≡ closed → loader ≡ own.class.loader → new ≡ old ++ equals_with key loader (filter (takes_part key) (map kin above)) → new ≡ old ++ of_superclasses own (map kin above) key
above_open kin own above key loader old new inter closed ie none ce oe le more =
    more ∙ ap (λ (x : ℕ). old ++ equals_with key x (filter (takes_part key) (map kin above))) le
    ∙ ap (λ (ks : List Kin). old ++ equals_with key own.class.loader ks) (sym (open_walked kin key (own.class ∷ []) above (sym (oe ∙ ce))))
    ∙ ap (λ (b : Bool). old ++ (if b then [] else equals_with key own.class.loader (overridden_by_package key (own.class ∷ []) (map kin above)))) (none ∙ ie)

-- ---- the walk

pub walking_start : {S : Type 0} (key : Key) (loader : ℕ) (fresh opened : IndexSet Package S) (own : Class) (needs : List Need) (ks : List Kin) → IsEmpty fresh → Opens fresh opened (package_of_class own)
    → Walking key loader opened needs ks (needs ++ equals_with key loader (overridden_by_package key (own ∷ []) ks))
walking_start key loader fresh opened own needs ks empty put = record {
  classes = own ∷ [];
  opened_are = one_opened fresh opened own [] (none_opened fresh empty) put;
  total_is = refl;
}

step_total : (key : Key) (loader : ℕ) (cs : List Class) (k : Kin) (ks : List Kin) (needs new : List Need) (b : Bool) → new ≡ needs ++ (if b then equals_of key loader k.class.loader else [])
    → new ++ equals_with key loader (overridden_by_package key (opened_by key cs k) ks) ≡ needs ++ equals_with key loader (if b then k ∷ overridden_by_package key (opened_by key cs k) ks else overridden_by_package key (opened_by key cs k) ks)
step_total key loader cs k ks needs new true e =
    ap (λ ns. ns ++ equals_with key loader (overridden_by_package key (opened_by key cs k) ks)) e
    ∙ append_assoc needs (equals_of key loader k.class.loader) (equals_with key loader (overridden_by_package key (opened_by key cs k) ks))
step_total key loader cs k ks needs new false e = ap (λ ns. ns ++ equals_with key loader (overridden_by_package key (opened_by key cs k) ks)) (e ∙ append-nil needs)

walking_next : {S : Type 0} (key : Key) (loader : ℕ) (opened after : IndexSet Package S) (needs new : List Need) (k : Kin) (ks : List Kin) (total : List Need)
    → Walking key loader opened needs (k ∷ ks) total → ((before : List Class) → AreOpened opened before → Visits key before k (equals_of key loader k.class.loader) needs new after)
    → Walking key loader after new ks total
walking_next key loader opened after needs new k ks total w visit =
    let v : Visits key w.classes k (equals_of key loader k.class.loader) needs new after = visit w.classes w.opened_are in
    record {
      classes = opened_by key w.classes k;
      opened_are = v.opened_are;
      total_is = step_total key loader w.classes k ks needs new (is_overridden key w.classes k) v.needs_are ∙ w.total_is;
    }

pub walking_step : {S A : Type 0} (kin : A → Kin) (key : Key) (loader asked : ℕ) (opened after : IndexSet Package S) (needs new : List Need) (rows : List A) (i : ℕ) (r : A) (k : Kin) (total : List Need)
    → i < length rows → r ≡ get_or rows i r → k ≡ kin r → asked ≡ loader → Walking key loader opened needs (map kin (drop i rows)) total
    → ((before : List Class) → AreOpened opened before → Visits key before k (equals_of key asked k.class.loader) needs new after)
    → Walking key loader after new (map kin (drop (i + 1) rows)) total
walking_step kin key loader asked opened after needs new rows i r k total h at of same w visit =
    walking_next key loader opened after needs new k (map kin (drop (i + 1) rows)) total
    (subst (λ (ks : List Kin). Walking key loader opened needs ks total) (ap (map kin) (next_dropped rows i r h at) ∙ ap (λ x. x ∷ map kin (drop (i + 1) rows)) (sym of)) w)
    (λ before was. subst (λ (x : ℕ). Visits key before k (equals_of key x k.class.loader) needs new after) same (visit before was))

pub walking_end : {S A : Type 0} (kin : A → Kin) (key : Key) (loader : ℕ) (opened : IndexSet Package S) (needs : List Need) (rows : List A) (total : List Need)
    → Walking key loader opened needs (map kin (drop (length rows) rows)) total → needs ≡ total
walking_end kin key loader opened needs rows total w =
    let e : Walking key loader opened needs [] total = subst (λ rs. Walking key loader opened needs (map kin rs) total) (drop_all (length rows) rows (omega arith)) w in
    sym (append-nil needs) ∙ e.total_is

-- ---- those that take part

one_kept : (key : Key) (loader : ℕ) (k : Kin) (ks : List Kin) (needs new : List Need) (b : Bool) → new ≡ needs ++ (if b then equals_of key loader k.class.loader else [])
    → new ++ equals_with key loader ks ≡ needs ++ equals_with key loader (if b then k ∷ ks else ks)
one_kept key loader k ks needs new true e = ap (λ ns. ns ++ equals_with key loader ks) e ∙ append_assoc needs (equals_of key loader k.class.loader) (equals_with key loader ks)
one_kept key loader k ks needs new false e = ap (λ ns. ns ++ equals_with key loader ks) (e ∙ append-nil needs)

-- one is looked at
pub kept_step : {A : Type 0} (kin : A → Kin) (key : Key) (loader : ℕ) (needs new total : List Need) (rows : List A) (i : ℕ) (r : A) (k : Kin) (b : Bool) → i < length rows → r ≡ get_or rows i r → k ≡ kin r → b ≡ takes_part key k
    → new ≡ needs ++ (if b then equals_of key loader k.class.loader else [])
    → needs ++ equals_with key loader (filter (takes_part key) (map kin (drop i rows))) ≡ total
    → new ++ equals_with key loader (filter (takes_part key) (map kin (drop (i + 1) rows))) ≡ total
kept_step kin key loader needs new total rows i r k b h at of tp more before =
    let rest : List Kin = filter (takes_part key) (map kin (drop (i + 1) rows)) in
    one_kept key loader k rest needs new b more
    ∙ ap (λ (x : Bool). needs ++ equals_with key loader (if x then k ∷ rest else rest)) tp
    ∙ ap (λ (x : Kin). needs ++ equals_with key loader (if takes_part key x then x ∷ rest else rest)) of
    ∙ ap (λ rs. needs ++ equals_with key loader (filter (takes_part key) (map kin rs))) (sym (next_dropped rows i r h at))
    ∙ before

pub kept_end : {A : Type 0} (kin : A → Kin) (key : Key) (loader : ℕ) (needs total : List Need) (rows : List A) → needs ++ equals_with key loader (filter (takes_part key) (map kin (drop (length rows) rows))) ≡ total → needs ≡ total
kept_end kin key loader needs total rows e =
    sym (append-nil needs) ∙ ap (λ rs. needs ++ equals_with key loader (filter (takes_part key) (map kin rs))) (sym (drop_all (length rows) rows (omega arith))) ∙ e

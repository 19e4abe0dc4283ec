-- The direct supertypes of a class of a lineage stand before it, so they are prepared where all before it are.
use Rattle.std.proofs.Common.{◌≡◌, ℕ, zero, suc, Bool, true, false, List, [], ◌∷◌, ◌++◌, map, length, drop, Some, refl, sym, ap, subst}
use Rattle.std.specs.Prelude.{is_some, slice_get, take, Contains, if◌then◌else◌}
use Rattle.std.specs.List.{AllByRecursion}
use Rattle.cl_classfile.specs.Files.{file_of}
use Rattle.cl_model.specs.declared.class.Class.{Class}
use Rattle.cl_model.specs.Classes.{class, same_class, Above, superclass_of, superinterfaces_of, supers}
use Rattle.cl_model.specs.Lineages.{Kin, classes}
use Rattle.cl_model.proofs.Bind.{some_same}
use Rattle.cl_model.proofs.Complete.{is_class}
use Rattle.cl_model.proofs.Derived.{all_both}
use Rattle.cl_hierarchy.specs.Frames.{accepted_of}
use Rattle.cl_hierarchy.specs.Lineages.{IsInOrder, Lined, rows_in}
use Rattle.cl_hierarchy.specs.Rows.{Rowed}
use Rattle.cl_hierarchy.specs.Trees.{AllKnown, MayComeAfter, SupersBefore, interfaces_in, kin_named, kin_under, kins_after, superclass_in}
use Rattle.cl_hierarchy.proofs.RowTables.{before_push}
use Rattle.cl_registry.specs.Imposing.{IsPreparedAbove}
use Rattle.cl_registry.specs.Tables.{ArePlaced, IsPlaced, Shown, records_of, state_of}

-- ---- a row stands after its supertypes

after_at : (known : List Kin) (rows : List Rowed) (k : ℕ) (r : Rowed) → SupersBefore known rows → slice_get rows k ≡ Some r → MayComeAfter (kins_after known (take k rows)) r
after_at known [] k r h e = absurd cc
after_at known (x ∷ rows) zero r h e = subst (λ (y : Rowed). MayComeAfter known y) (some_same x r e) h.0
after_at known (x ∷ rows) (suc k) r h e = after_at (kin_under known x ∷ known) rows k r h.1 e

-- ---- what is known has the property

known_all : (P : Class → Type 0) (known : List Kin) (rows : List Rowed) → AllByRecursion P (classes known) → AllByRecursion P (map (λ row. row.class) rows) → AllByRecursion P (classes (kins_after known rows))
known_all P known [] h k = h
known_all P known (x ∷ rows) h k = known_all P (kin_under known x ∷ known) rows (k.0, h) k.1

named_has : (P : Class → Type 0) (known : List Kin) (c : Class) → AllByRecursion P (classes known) → is_some (kin_named known c) ≡ true → P c
named_has P [] c h e = absurd cc
named_has P (x ∷ known) c h e = at (same_class c x.class) refl e (λ f. named_has P known c h.1 f)
  where
    at : (b : Bool) → same_class c x.class ≡ b → is_some (if b then Some x else kin_named known c) ≡ true → (is_some (kin_named known c) ≡ true → P c) → P c
    at true t f others = subst P (sym (is_class c x.class t)) h.0
    at false t f others = others f

known_have : (P : Class → Type 0) (known : List Kin) (cs : List Class) → AllByRecursion P (classes known) → AllKnown known cs → AllByRecursion P cs
known_have P known [] h k = tt
known_have P known (c ∷ cs) h k = (named_has P known c h k.0, known_have P known cs h k.1)

accepted_both : (xs ys : List Above) (definers : List ℕ) → accepted_of (xs ++ ys) definers ≡ accepted_of xs definers ++ accepted_of ys (drop (length xs) definers)
accepted_both [] ys definers = refl
accepted_both (a ∷ xs) ys [] = nothing ys
  where
    nothing : (zs : List Above) → [] ≡ accepted_of zs []
    nothing [] = refl
    nothing (z ∷ zs) = refl
accepted_both (a ∷ xs) ys (p ∷ definers) = ap (λ (cs : List Class). class a.name p ∷ cs) (accepted_both xs ys definers)

-- ---- the supertypes of the class at a place

above_all : (P : Class → Type 0) (l : Lined) (place : ℕ) (r : Rowed) → IsInOrder l → slice_get (rows_in l) place ≡ Some r → AllByRecursion P (map (λ row. row.class) (take place (rows_in l)))
    → AllByRecursion P (accepted_of (supers (file_of r.file)) r.definers)
above_all P l place r order at before =
    let known = kins_after [] (take place (rows_in l)) in
    let after = after_at [] (rows_in l) place r (before_push [] l.above l.own order.above order.own) at in
    let have = known_all P [] (take place (rows_in l)) tt before in
    subst (λ (cs : List Class). AllByRecursion P cs) (sym (accepted_both (superclass_of (file_of r.file)) (superinterfaces_of (file_of r.file)) r.definers))
    (all_both P (superclass_in r) (interfaces_in r) (known_have P known (superclass_in r) have after.superclass) (known_have P known (interfaces_in r) have after.interfaces))

prepared_above : (x : Shown) (c : Class) (above : List Above) (definers : List ℕ) → ArePlaced (records_of x) c.loader above definers → AllByRecursion (Contains (state_of x).prepared) (accepted_of above definers)
    → AllByRecursion (IsPreparedAbove x c) above
prepared_above x c [] definers h k = tt
prepared_above x c (a ∷ above) [] h k = absurd h
prepared_above x c (a ∷ above) (p ∷ definers) h k = (record { place = p; recorded = h.0; prepared = k.0 }, prepared_above x c above definers h.1 k.1)

pub supers_prepared : (x : Shown) (l : Lined) (place : ℕ) (r : Rowed) → IsInOrder l → slice_get (rows_in l) place ≡ Some r → IsPlaced (records_of x) r
    → AllByRecursion (Contains (state_of x).prepared) (map (λ row. row.class) (take place (rows_in l))) → AllByRecursion (IsPreparedAbove x r.class) (supers (file_of r.file))
supers_prepared x l place r order at placed before =
    prepared_above x r.class (supers (file_of r.file)) r.definers placed (above_all (Contains (state_of x).prepared) l place r order at before)

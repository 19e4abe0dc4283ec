-- Where no class of a chain names superinterfaces, there are none.
use Rattle.std.proofs.Common.{◌≡◌, ◌⊎◌, inl, inr, ◌∙◌, ℕ, true, false, Option, Some, None, List, [], ◌∷◌, ◌++◌, map, refl, ap, sym, subst}
use Rattle.std.specs.Prelude.{is_some, slice_get}
use Rattle.std.specs.List.{list_any}
use Rattle.std.proofs.lemmas.Bool.{or_parts}
use Rattle.cl_classfile.specs.Files.{Name, file_of}
use Rattle.cl_model.specs.declared.class.Class.{Class}
use Rattle.cl_model.specs.Classes.{class, superclass_of, superinterfaces_of}
use Rattle.cl_model.specs.Lineages.{Forest, Bare, Kin, once, preorder, superclasses, superinterfaces, upward}
use Rattle.cl_hierarchy.specs.Frames.{accepted_of}
use Rattle.cl_hierarchy.specs.Lineages.{Lined, kin_at, kin_of}
use Rattle.cl_hierarchy.specs.Rows.{Rowed}
use Rattle.cl_hierarchy.specs.Trees.{forest, in_front, interface_definers, kin_named, kin_under, kins, superclass_in}
use Rattle.cl_preparation.specs.Relatives.{names_interfaces}

none_named : (ns : List Name) → is_some (slice_get ns 0) ≡ false → ns ≡ []
none_named [] e = refl
none_named (n ∷ ns) e = absurd cc

-- a class that names none has none right above it
none_right_over : (known : List Kin) (r : Rowed) → names_interfaces r ≡ false → (kin_under known r).interfaces ≡ Bare
none_right_over known r off =
    ap (λ (ns : List Name). forest known (accepted_of (superinterfaces_of (record (file_of r.file) { interfaces = ns })) (interface_definers r))) (none_named (file_of r.file).interfaces off)

-- none or one
abbrev IsFew : List Class → Type 0
IsFew cs = (cs ≡ []) ⊎ ((c : Class) × (cs ≡ c ∷ []))

few_superclasses : (r : Rowed) → IsFew (superclass_in r)
few_superclasses r = few (file_of r.file).super_name r.definers
  where
    few : (o : Option Name) (definers : List ℕ) → IsFew (accepted_of (superclass_of (record (file_of r.file) { super_name = o })) definers)
    few None definers = inl refl
    few (Some n) [] = inl refl
    few (Some n) (p ∷ definers) = inr (class n p, refl)

heads : {A : Type 0} (x y : A) (xs ys : List A) → x ∷ xs ≡ y ∷ ys → (x ≡ y) × (xs ≡ ys)
heads x y xs ys e = (cc, cc)

module _ {A : Type 0} (row : A → Rowed) (known : List Kin) where
  by_superclass : (cs : List Class) (rows : List A) → IsFew cs → map (λ r. kin_under known (row r)) rows ≡ upward (forest known cs)
      → ((o : Option Kin) → map (λ r. kin_under known (row r)) rows ≡ upward (in_front o Bare) → preorder (in_front o Bare) false ≡ []) → preorder (forest known cs) false ≡ []
  by_superclass cs rows (inl none) are more = ap (λ (xs : List Class). preorder (forest known xs) false) none
  by_superclass cs rows (inr one) are more =
      ap (λ (xs : List Class). preorder (forest known xs) false) one.1 ∙ more (kin_named known one.0) (subst (λ (xs : List Class). map (λ r. kin_under known (row r)) rows ≡ upward (forest known xs)) one.1 are)

  -- one class of the chain, with none over the rest
  past : (k : Kin) (r : Rowed) → kin_under known r ≡ k → names_interfaces r ≡ false → preorder (forest known (superclass_in r)) false ≡ [] → preorder (in_front (Some k) Bare) false ≡ []
  past k r same off rest =
      subst (λ (x : Kin). preorder (in_front (Some x) Bare) false ≡ []) same
      (ap (λ (f : Forest). (preorder f true ++ preorder (forest known (superclass_in r)) false) ++ []) (none_right_over known r off) ∙ ap (λ (ks : List Kin). ks ++ []) rest)

  none_over : (o : Option Kin) (rows : List A) → map (λ r. kin_under known (row r)) rows ≡ upward (in_front o Bare) → list_any (λ r. names_interfaces (row r)) rows ≡ false → preorder (in_front o Bare) false ≡ []
  none_over None rows are off = refl
  none_over (Some k) [] are off = absurd cc
  none_over (Some k) (r ∷ rows) are off =
      let parts = heads (kin_under known (row r)) k (map (λ r. kin_under known (row r)) rows) (upward k.superclass) are in
      let none = or_parts (names_interfaces (row r)) (list_any (λ r. names_interfaces (row r)) rows) off in
      past k (row r) parts.0 none.0
      (by_superclass (superclass_in (row r)) rows (few_superclasses (row r)) (parts.1 ∙ ap (λ (x : Kin). upward x.superclass) (sym parts.0)) (λ o also. none_over o rows also none.1))

-- a class and its superclasses name none: there are none
pub none_above : {A : Type 0} (row : A → Rowed) (l : Lined) (rows : List A) → map (λ r. kin_at l (row r)) rows ≡ superclasses (kin_of l) → names_interfaces l.own ≡ false → list_any (λ r. names_interfaces (row r)) rows ≡ false → [] ≡ superinterfaces (kin_of l)
none_above row l rows are own off =
    let known : List Kin = kins l.above in
    sym
    (ap (λ (f : Forest). once (preorder f true ++ preorder (kin_of l).superclass false)) (none_right_over known l.own own)
    ∙ ap (λ (ks : List Kin). once ks) (by_superclass row known (superclass_in l.own) rows (few_superclasses l.own) are (λ o also. none_over row known o rows also off)))

-- A lineage has each class once, and its direct supertypes before it.
use Rattle.std.proofs.Common.{◌≡◌, inl, inr, Bool, true, false, ◌||◌, if◌then◌else◌, List, [], ◌∷◌, ◌++◌, refl, sym, ap, subst, ◌∙◌}
use Rattle.std.proofs.lemmas.Cmp.{nat_eq_equiv, nat_list_eq_equiv}
use Rattle.cl_classfile.specs.Files.{Name}
use Rattle.cl_model.specs.Homes.{World}
use Rattle.cl_model.specs.declared.class.Class.{Class}
use Rattle.cl_model.specs.Classes.{class, same_class, is_among, Above, AtHome, AllAtHome, superclass_of, superinterfaces_of}
use Rattle.cl_model.specs.Lineages.{Forest, Bare, Tree, Kin, StandsFor, IsLineage, alone, classes, postorder, once_after, lineage}
use Rattle.cl_model.specs.Ancestors.{EachClassOnce, SupersFirst}
use Rattle.cl_model.proofs.Complete.{is_class, or_true}
use Rattle.cl_model.proofs.Derived.{all_both}

-- ---- classes among others

pub same_self : (c : Class) → same_class c c ≡ true
same_self c = rw (nat_eq_equiv.refl c.loader) (rw (nat_list_eq_equiv.refl c.name) refl)

pub among_first : (cs : List Class) (c : Class) → is_among (c ∷ cs) c ≡ true
among_first cs c = ap (λ (b : Bool). b || is_among cs c) (same_self c)

or_right : (a b : Bool) → b ≡ true → (a || b) ≡ true
or_right true b h = refl
or_right false b h = h

-- the first of two lists has no class that the second has not
abbrev pub Within : List Class → List Class → Type 0
Within cs ds = (c : Class) → is_among cs c ≡ true → is_among ds c ≡ true

pub within_more : (cs : List Class) (d : Class) → Within cs (d ∷ cs)
within_more cs d = λ c h. or_right (same_class c d) (is_among cs c) h

pub within_both : (cs ds : List Class) (d : Class) → Within cs ds → Within (d ∷ cs) (d ∷ ds)
within_both cs ds d h = λ c k. elim (or_true (same_class c d) (is_among cs c) k) [
  | inl e ↦ ap (λ (b : Bool). b || is_among ds c) e
  | inr e ↦ or_right (same_class c d) (is_among ds c) (h c e)
]

within_seen : (cs : List Class) (d : Class) → is_among cs d ≡ true → Within (d ∷ cs) cs
within_seen cs d h = λ c k. elim (or_true (same_class c d) (is_among cs c) k) [
  | inl e ↦ subst (λ (x : Class). is_among cs x ≡ true) (sym (is_class c d e)) h
  | inr e ↦ e
]

-- ---- each once

once_avoids : (seen : List Class) (ks : List Kin) (c : Class) → is_among seen c ≡ true → is_among (classes (once_after seen ks)) c ≡ false
once_avoids seen [] c h = refl
once_avoids seen (k ∷ ks) c h = at (once_avoids seen ks c h) (once_avoids (k.class ∷ seen) ks c (within_more seen k.class c h)) (is_among seen k.class) refl
  where
    other : is_among (classes (once_after (k.class ∷ seen) ks)) c ≡ false → is_among seen k.class ≡ false → (b : Bool) → same_class c k.class ≡ b → (b || is_among (classes (once_after (k.class ∷ seen) ks)) c) ≡ false
    other more e true s = absurd (let same : is_among seen k.class ≡ true = subst (λ (x : Class). is_among seen x ≡ true) (is_class c k.class s) h in cc)
    other more e false s = more

    at : is_among (classes (once_after seen ks)) c ≡ false → is_among (classes (once_after (k.class ∷ seen) ks)) c ≡ false
        → (b : Bool) → is_among seen k.class ≡ b → is_among (classes (if b then once_after seen ks else k ∷ once_after (k.class ∷ seen) ks)) c ≡ false
    at same more true e = same
    at same more false e = other more e (same_class c k.class) refl

once_each : (seen : List Class) (ks : List Kin) → EachClassOnce (once_after seen ks)
once_each seen [] = tt
once_each seen (k ∷ ks) = at (once_each seen ks) (once_each (k.class ∷ seen) ks) (is_among seen k.class)
  where
    at : EachClassOnce (once_after seen ks) → EachClassOnce (once_after (k.class ∷ seen) ks) → (b : Bool) → EachClassOnce (if b then once_after seen ks else k ∷ once_after (k.class ∷ seen) ks)
    at same more true = same
    at same more false = (once_avoids (k.class ∷ seen) ks k.class (among_first seen k.class), more)

pub lineage_once : (k : Kin) → EachClassOnce (lineage k)
lineage_once k = once_each [] (postorder (alone k))

-- ---- supertypes first

-- the classes of these behind those of a list
abbrev pub after_all : List Class → List Kin → List Class
after_all before [] = before
after_all before (k ∷ ks) = after_all (k.class ∷ before) ks

pub within_all : (cs ds : List Class) (ks : List Kin) → Within cs ds → Within cs (after_all ds ks)
within_all cs ds [] h = h
within_all cs ds (k ∷ ks) h = within_all cs (k.class ∷ ds) ks (λ c e. within_more ds k.class c (h c e))

-- supertypes that stand among these
abbrev AllAmong : World → List Class → Class → List Above → Type 0
AllAmong w before c others = AllAtHome w c (λ t. is_among before t ≡ true) others

among_within : (w : World) (cs ds : List Class) (c : Class) (others : List Above) → Within cs ds → AllAmong w cs c others → AllAmong w ds c others
among_within w cs ds c [] h all = tt
among_within w cs ds c (a ∷ others) h all = (record { place = all.0.place; found = all.0.found; holds = h (class a.name all.0.place) all.0.holds }, among_within w cs ds c others h all.1)

first_within : (w : World) (cs ds : List Class) (ks : List Kin) → Within cs ds → SupersFirst w cs ks → SupersFirst w ds ks
first_within w cs ds [] h f = tt
first_within w cs ds (k ∷ ks) h f = (among_within w cs ds k.class (superclass_of k.file ++ superinterfaces_of k.file) h f.0, first_within w (k.class ∷ cs) (k.class ∷ ds) ks (within_both cs ds k.class h) f.1)

first_both : (w : World) (before : List Class) (xs ys : List Kin) → SupersFirst w before xs → SupersFirst w (after_all before xs) ys → SupersFirst w before (xs ++ ys)
first_both w before [] ys f g = g
first_both w before (x ∷ xs) ys f g = (f.0, first_both w (x.class ∷ before) xs ys f.1 g)

pub after_both : (before : List Class) (xs ys : List Kin) → after_all before (xs ++ ys) ≡ after_all (after_all before xs) ys
after_both before [] ys = refl
after_both before (x ∷ xs) ys = after_both (x.class ∷ before) xs ys

pub class_at : (s : Class) (name : Name) → s.name ≡ name → s ≡ class name s.loader
class_at s name e = ap (λ (n : Name). class n s.loader) e

-- what stands for supertypes has each class after its own, and in the end these themselves
forest_first : (w : World) (before : List Class) (c : Class) (fs : Forest) (others : List Above) → StandsFor w c fs others → SupersFirst w before (postorder fs) × AllAmong w (after_all before (postorder fs)) c others
forest_first w before c Bare [] h = (tt, tt)
forest_first w before c Bare (a ∷ more) h = absurd h
forest_first w before c (Tree s f sup ints rest) [] h = absurd h
forest_first w before c (Tree s f sup ints rest) (a ∷ more) h =
    let k : Kin = record { class = s; file = f; superclass = sup; interfaces = ints } in
    let up = forest_first w before s sup (superclass_of f) h.1 in
    let middle = after_all before (postorder sup) in
    let over = forest_first w middle s ints (superinterfaces_of f) h.2 in
    let end = after_all middle (postorder ints) in
    let beside = forest_first w (s ∷ end) c rest more h.3 in
    let both : after_all before (postorder sup ++ postorder ints) ≡ end = after_both before (postorder sup) (postorder ints) in
    let whole : after_all before ((postorder sup ++ postorder ints) ++ (k ∷ postorder rest)) ≡ after_all (s ∷ end) (postorder rest) =
    after_both before (postorder sup ++ postorder ints) (k ∷ postorder rest) ∙ ap (λ (x : List Class). after_all (s ∷ x) (postorder rest)) both in
    let supers_among : AllAmong w end s (superclass_of f ++ superinterfaces_of f) =
    all_both (λ (x : Above). AtHome w s (λ t. is_among end t ≡ true) x.name) (superclass_of f) (superinterfaces_of f)
    (among_within w middle end s (superclass_of f) (within_all middle middle (postorder ints) (λ x e. e)) up.1) over.1 in
    let first : SupersFirst w before (postorder sup ++ postorder ints) = first_both w before (postorder sup) (postorder ints) up.0 over.0 in
    let last : SupersFirst w end (k ∷ postorder rest) = (supers_among, beside.0) in (
      first_both w before (postorder sup ++ postorder ints) (k ∷ postorder rest) first (subst (λ (x : List Class). SupersFirst w x (k ∷ postorder rest)) (sym both) last),
      subst (λ (x : List Class). AllAmong w x c (a ∷ more)) (sym whole) (
        record {
          place = s.loader;
          found = h.0.found;
          holds = within_all (s ∷ end) (s ∷ end) (postorder rest) (λ x e. e) (class a.name s.loader) (subst (λ (x : Class). is_among (s ∷ end) x ≡ true) (class_at s a.name h.0.named) (among_first end s));
        },
        beside.1,
      ),
    )

once_first : (w : World) (seen : List Class) (ks : List Kin) → SupersFirst w seen ks → SupersFirst w seen (once_after seen ks)
once_first w seen [] h = tt
once_first w seen (k ∷ ks) h =
    at (λ e. once_first w seen ks (first_within w (k.class ∷ seen) seen ks (within_seen seen k.class e) h.1)) (once_first w (k.class ∷ seen) ks h.1) (is_among seen k.class) refl
  where
    at : (is_among seen k.class ≡ true → SupersFirst w seen (once_after seen ks)) → SupersFirst w (k.class ∷ seen) (once_after (k.class ∷ seen) ks)
        → (b : Bool) → is_among seen k.class ≡ b → SupersFirst w seen (if b then once_after seen ks else k ∷ once_after (k.class ∷ seen) ks)
    at same more true e = same e
    at same more false e = (h.0, more)

pub lineage_first : (w : World) (k : Kin) → IsLineage w k → SupersFirst w [] (lineage k)
lineage_first w k h =
    let up = forest_first w [] k.class k.superclass (superclass_of k.file) h.above in
    let middle = after_all [] (postorder k.superclass) in
    let over = forest_first w middle k.class k.interfaces (superinterfaces_of k.file) h.over in
    let end = after_all middle (postorder k.interfaces) in
    let both : after_all [] (postorder k.superclass ++ postorder k.interfaces) ≡ end = after_both [] (postorder k.superclass) (postorder k.interfaces) in
    let supers_among : AllAmong w end k.class (superclass_of k.file ++ superinterfaces_of k.file) =
    all_both (λ (x : Above). AtHome w k.class (λ t. is_among end t ≡ true) x.name) (superclass_of k.file) (superinterfaces_of k.file)
    (among_within w middle end k.class (superclass_of k.file) (within_all middle middle (postorder k.interfaces) (λ x e. e)) up.1) over.1 in
    let first : SupersFirst w [] (postorder k.superclass ++ postorder k.interfaces) = first_both w [] (postorder k.superclass) (postorder k.interfaces) up.0 over.0 in
    let last : SupersFirst w end (k ∷ []) = (supers_among, tt) in
    once_first w [] (postorder (alone k)) (first_both w [] (postorder k.superclass ++ postorder k.interfaces) (k ∷ []) first (subst (λ (x : List Class). SupersFirst w x (k ∷ [])) (sym both) last))

-- ---- a lineage has its own class

-- one of these is the class
abbrev pub Has : Class → List Kin → Type 0
Has c ks = is_among (classes ks) c ≡ true

once_has : (seen : List Class) (ks : List Kin) (c : Class) → is_among seen c ≡ false → Has c ks → Has c (once_after seen ks)
once_has seen [] c out h = absurd cc
once_has seen (k ∷ ks) c out h = at (λ e. once_has seen ks c out e) (λ o e. once_has (k.class ∷ seen) ks c o e) (is_among seen k.class) refl (same_class c k.class) refl
  where
    at : (Has c ks → Has c (once_after seen ks)) → (is_among (k.class ∷ seen) c ≡ false → Has c ks → Has c (once_after (k.class ∷ seen) ks))
        → (b : Bool) → is_among seen k.class ≡ b → (d : Bool) → same_class c k.class ≡ d → Has c (if b then once_after seen ks else k ∷ once_after (k.class ∷ seen) ks)
    at same more true e true s = absurd (let in_seen : is_among seen c ≡ true = subst (λ (x : Class). is_among seen x ≡ true) (sym (is_class c k.class s)) e in cc)
    at same more true e false s = same (subst (λ (b : Bool). (b || is_among (classes ks) c) ≡ true) s h)
    at same more false e true s = ap (λ (b : Bool). b || is_among (classes (once_after (k.class ∷ seen) ks)) c) s
    at same more false e false s =
        or_right (same_class c k.class) (is_among (classes (once_after (k.class ∷ seen) ks)) c)
        (more (ap (λ (b : Bool). b || is_among seen c) s ∙ out) (subst (λ (b : Bool). (b || is_among (classes ks) c) ≡ true) s h))

last_has : (ks : List Kin) (k : Kin) → Has k.class (ks ++ k ∷ [])
last_has [] k = among_first [] k.class
last_has (x ∷ ks) k = or_right (same_class k.class x.class) (is_among (classes (ks ++ k ∷ [])) k.class) (last_has ks k)

pub lineage_has : (k : Kin) → Has k.class (lineage k)
lineage_has k = once_has [] (postorder (alone k)) k.class refl (last_has (postorder k.superclass ++ postorder k.interfaces) k)

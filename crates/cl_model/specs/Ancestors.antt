-- What the order of a lineage is: each class once, after its direct supertypes (JVMS SE 8, 5.3.5, 5.4).
use Rattle.std.specs.Prelude.{◌≡◌, true, List, [], ◌∷◌}
use Rattle.cl_model.specs.Homes.{World}
use Rattle.cl_model.specs.declared.class.Class.{Class}
use Rattle.cl_model.specs.Classes.{is_among, AllAtHome, supers}
use Rattle.cl_model.specs.Lineages.{Kin, classes}
use Rattle.cl_model.specs.Once.{NoneTwice}

-- no class stands twice (5.4)
abbrev pub EachClassOnce : List Kin → Type 0
EachClassOnce ks = NoneTwice is_among (classes ks)

-- each class stands after its direct supertypes, or these are among the classes before the list (5.4)
abbrev pub SupersFirst : World → List Class → List Kin → Type 0
SupersFirst w before [] = Unit {0}
SupersFirst w before (k ∷ ks) = AllAtHome w k.class (λ t. is_among before t ≡ true) (supers k.file)
    × SupersFirst w (k.class ∷ before) ks

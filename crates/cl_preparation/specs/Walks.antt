-- Overriding by run-time packages (JVMS SE 8, 5.3, 5.4.5).
use Rattle.std.specs.Prelude.{Bool, ◌&&◌, ◌||◌, not, if◌then◌else◌, List, [], ◌∷◌, Option, Some, None}
use Rattle.std.specs.List.{list_any}
use Rattle.cl_classfile.specs.Files.{Key}
use Rattle.cl_model.specs.declared.class.Class.{Class}
use Rattle.cl_model.specs.Classes.{same_package}
use Rattle.cl_model.specs.Lineages.{Kin, method_of, if_declared}
use Rattle.cl_model.specs.Preparation.{takes_part}
use Rattle.cl_preparation.specs.Methods.{is_public_or_protected}

-- a class declares a method with this key for other packages too: a public or a protected one
-- (5.4.5)
abbrev pub is_open : Key → Kin → Bool
is_open key k = if_declared (method_of k key) is_public_or_protected

-- the class declares such a method, which takes part in overriding (5.4.5)
abbrev pub opens : Key → Kin → Bool
opens key k = takes_part key k && is_open key k

-- of such a method that takes part, if the class declares one: whether it is open (5.4.5)
abbrev pub declared_open : Key → Kin → Option Bool
declared_open key k = if takes_part key k then Some (is_open key k) else None

-- the class declares such a method that takes part, for its package alone (5.4.5)
abbrev pub is_package_private : Key → Kin → Bool
is_package_private key k = takes_part key k && not (is_open key k)

-- the class declares such a method, and is of the package of another class (5.3, 5.4.5)
abbrev pub opens_to : Key → Kin → Kin → Bool
opens_to key a b = opens key b && same_package a.class b.class

-- the method of c overrides the one of its superclass a: that one is open, or its package is that
-- of c or of a class between that opens it (5.4.5, without third methods of third methods)
abbrev pub overrides_by_package : Key → Kin → List Kin → Kin → Bool
overrides_by_package key c between a =
    (takes_part key c && takes_part key a)
    && (is_open key a || (same_package a.class c.class || list_any (opens_to key a) between))

-- a class is of the package of one of these (5.3)
abbrev pub is_in_package : List Class → Class → Bool
is_in_package cs c = list_any (same_package c) cs

-- whether the method of a superclass is overridden, where the packages of these classes were opened
-- (5.4.5)
abbrev pub is_overridden : Key → List Class → Kin → Bool
is_overridden key opened a = takes_part key a && (is_open key a || is_in_package opened a.class)

-- what is opened once a class was looked at (5.4.5)
abbrev pub opened_by : Key → List Class → Kin → List Class
opened_by key opened a = if opens key a then a.class ∷ opened else opened

-- the superclasses whose method is overridden, in one walk, nearest first (5.4.5)
abbrev pub overridden_by_package : Key → List Class → List Kin → List Kin
overridden_by_package key opened [] = []
overridden_by_package key opened (a ∷ more) =
    if is_overridden key opened a
    then a ∷ overridden_by_package key (opened_by key opened a) more
    else overridden_by_package key (opened_by key opened a) more

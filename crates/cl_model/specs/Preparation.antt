-- Overriding, and the loading constraints that preparation imposes (JVMS SE 8, 5.4.2 and 5.4.5).
use Rattle.std.specs.Prelude.{ℕ, zero, suc, Bool, ◌&&◌, ◌||◌, not, nat_eq, nat_le, if◌then◌else◌, List, [], ◌∷◌, ◌++◌, map, length, codes, Option, Some, None, find, filter, flat_map, is_some, option_to_list}
use Rattle.std.specs.List.{list_any, starts_with}
use Rattle.cl_classfile.specs.Files.{Name, Key, Member, is_public, is_protected, is_interface}
use Rattle.cl_descriptors.specs.Types.{class_of, classes_of}
use Rattle.cl_descriptors.specs.declared.types.Descriptor.{Descriptor}
use Rattle.cl_descriptors.specs.declared.types.Descriptor.TheVariants as descriptors
use Rattle.cl_model.specs.Classes.{same_package}
use Rattle.cl_model.specs.Lineages.{Kin, superclasses, superinterfaces, method_of, if_declared, is_offered}
use Rattle.cl_model.specs.States.{Need, Equal}

-- a name that begins with `<` is `<init>` or `<clinit>` (4.2.2)
abbrev pub begins_with_angle : Name → Bool
begins_with_angle name = starts_with nat_eq name (codes "<")

-- a class declares a method with this key that takes part in overriding (5.4.5)
abbrev pub takes_part : Key → Kin → Bool
takes_part key k = not (begins_with_angle key.name) && is_offered key k

-- the method of c overrides the one of its superclass a, with no third method (5.4.5)
abbrev pub overrides_directly : Key → Kin → Kin → Bool
overrides_directly key c a =
    takes_part key c && takes_part key a
    && (if_declared (method_of a key) (λ x. is_public x || is_protected x)
    || same_package a.class c.class)

-- a place in a list
pub record Split : Type 0 where
  pub before : List Kin
  pub at : Kin
  pub after : List Kin

-- a place of the list behind one more
abbrev pub shifted_split : Kin → Split → Split
shifted_split k s = record { before = k ∷ s.before; at = s.at; after = s.after }

-- each place of a list
abbrev pub splits : List Kin → List Split
splits [] = []
splits (k ∷ ks) = record { before = []; at = k; after = ks } ∷ map (shifted_split k) (splits ks)

-- the method of c overrides the one of its superclass a, over which classes between stand; at most so many of them count (5.4.5)
abbrev pub overrides_over : Key → ℕ → Kin → List Kin → Kin → Bool
overrides_over key zero c between a = overrides_directly key c a
overrides_over key (suc n) c between a =
    overrides_directly key c a
    || list_any (λ s. overrides_over key n c s.before s.at && overrides_over key n s.at s.after a)
    (splits between)

-- the method of c overrides the one of its superclass a, over the classes between (5.4.5)
abbrev pub overrides : Key → Kin → List Kin → Kin → Bool
overrides key c between a = overrides_over key (length between) c between a

-- the superclasses whose method that of c overrides, nearest first (5.4.5; the order is an own choice)
abbrev pub overridden_superclasses : Key → Kin → List Kin
overridden_superclasses key c = map (λ s. s.at)
    (filter (λ s. overrides key c s.before s.at) (splits (superclasses c)))

-- the classes that a descriptor names, the return type first (5.4.2, 5.4.3)
abbrev pub class_names : Descriptor → List Name
class_names (descriptors.Field t) = option_to_list (class_of t)
class_names (descriptors.Method m) = classes_of m

-- that two loaders have the same class of a name, the lesser loader first (5.3.4)
abbrev pub equal_between : Name → ℕ → ℕ → Need
equal_between name a b = if nat_le a b then Equal name a b else Equal name b a

-- an equality for each class that a key's descriptor names (5.3.4)
abbrev pub equals_of : Key → ℕ → ℕ → List Need
equals_of key a b = map (λ n. equal_between n a b) (class_names key.descriptor)

-- equalities with the loaders of each of these (5.4.2)
abbrev pub equals_with : Key → ℕ → List Kin → List Need
equals_with key loader ks = flat_map (λ k. equals_of key loader k.class.loader) ks

-- first half: for a method of c, what it overrides: superclasses, then superinterfaces
-- (5.4.2; own choice for superinterfaces, and for the methods of an interface)
abbrev pub for_declared : Kin → Member → List Need
for_declared c m =
    if takes_part m.key c
    then (if is_interface c.file then [] else equals_with m.key c.class.loader
    (overridden_superclasses m.key c))
    ++ equals_with m.key c.class.loader (filter (takes_part m.key) (superinterfaces c))
    else []

-- the nearest superclass that declares a method that is neither private nor static (5.4.2, 5.4.5; own choice)
abbrev pub inherited_from : Kin → Key → Option Kin
inherited_from c key = find (is_offered key) (superclasses c)

-- equalities of the inherited implementation with the superinterface, if there is one (5.4.2)
abbrev pub with_inherited : Key → Kin → Option Kin → List Need
with_inherited key j None = []
with_inherited key j (Some a) = equals_of key a.class.loader j.class.loader

-- second half: for a method of a superinterface j that the class c does not declare
-- (5.4.2; own choice that a private or static method counts as declared)
abbrev pub for_inherited : Kin → Kin → Member → List Need
for_inherited c j m =
    if takes_part m.key j && not (is_some (method_of c m.key))
    then with_inherited m.key j (inherited_from c m.key)
    else []

-- the loading constraints that the preparation of a class imposes, in order (5.4.2)
abbrev pub constraints_of : Kin → List Need
constraints_of c =
    flat_map (for_declared c) c.file.methods
    ++ (if is_interface c.file then [] else flat_map
    (λ j. flat_map (for_inherited c j) j.file.methods) (superinterfaces c))

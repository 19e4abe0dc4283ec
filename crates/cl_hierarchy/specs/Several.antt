-- The superinterfaces of several classes at once (JVMS SE 8, 5.4.3.3).
use Rattle.std.specs.Prelude.{◌≡◌, ◌||◌, if◌then◌else◌, List, [], flat_map}
use Rattle.cl_model.specs.declared.class.Class.{Class}
use Rattle.cl_model.specs.Classes.{is_among}
use Rattle.cl_model.specs.Lineages.{Kin, classes, superinterfaces}

-- the classes of all superinterfaces of any of these (5.4.3.3)
abbrev pub superinterfaces_of_any : List Kin → List Class
superinterfaces_of_any ks = flat_map (λ k. classes (superinterfaces k)) ks

-- these classes joined others
abbrev pub Gains : List Class → List Class → List Class → Type 0
Gains old more new = (c : Class) → is_among new c ≡ (is_among old c || is_among more c)

-- these, where a class is among those that are left, and none, where it is not
abbrev pub if_left : List Class → Class → List Class → List Class
if_left left c cs = if is_among left c then cs else []

-- How much a parameter counts (JVMS SE 8, 4.3.3).
use Rattle.std.specs.Prelude.{ℕ, ◌==◌, if◌then◌else◌, List, sum_by}
use Rattle.cl_descriptors.specs.declared.types.Base.{Base}
use Rattle.cl_descriptors.specs.declared.types.Base.TheVariants.{Double, Long}
use Rattle.cl_descriptors.specs.declared.types.FieldType.{FieldType}

-- the units of a base alone: two of a long or a double (JVMS SE 8, 4.3.3)
abbrev pub units_of_base : Base → ℕ
units_of_base Double = 2
units_of_base Long = 2
units_of_base _ = 1

-- a long or a double counts two units, each other type one, an array of these too
-- (JVMS SE 8, 4.3.3)
abbrev pub units_of_field : FieldType → ℕ
units_of_field t = if t.dims == 0 then units_of_base t.base else 1

-- the units of these types together (JVMS SE 8, 4.3.3)
abbrev pub units_of_types : List FieldType → ℕ
units_of_types types = sum_by units_of_field types

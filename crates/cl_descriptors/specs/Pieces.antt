-- Types whose names still stand in bytes, seen as types (JVMS SE 8, 4.3).
use Rattle.std.specs.Prelude.{◌≡◌, option_map}
use Rattle.std.specs.List.{list_all}
use Rattle.cl_descriptors.specs.Types.{is_shallow, units_of_method}
use Rattle.cl_descriptors.specs.Reading.{all_types}
use Rattle.cl_descriptors.specs.declared.types.MethodType.{MethodType}
use Rattle.cl_descriptors.specs.declared.reading.Outline.{Outline}
use Rattle.cl_descriptors.specs.declared.types.Base.{Base}
use Rattle.cl_descriptors.specs.declared.types.Base.TheVariants as bases
use Rattle.cl_descriptors.specs.declared.types.FieldType.{FieldType}
use Rattle.cl_descriptors.specs.declared.piece.Head.{Head}
use Rattle.cl_descriptors.specs.declared.piece.Head.TheVariants.{Plain, Class}
use Rattle.cl_descriptors.specs.declared.piece.Piece.{Piece}

-- the base of a type whose name still stands in bytes (JVMS SE 8, 4.3.2)
abbrev pub seen_base : Head → Base
seen_base (Plain base) = base
seen_base (Class name) = bases.Class name.now

-- a type whose name still stands in bytes (JVMS SE 8, 4.3.2)
abbrev pub seen_type : Piece → FieldType
seen_type p = record { dims = p.dims; base = seen_base p.base }

-- a method type whose parameters still stand in bytes (JVMS SE 8, 4.3.3)
abbrev pub outlined_type : Outline → MethodType
outlined_type o = record { params = (all_types o.params.now).0; ret = option_map seen_type o.ret }

-- the tally is that of the parameters (JVMS SE 8, 4.3.3)
pub record HasItsTally (o : Outline) : Type 0 where
  pub units : o.tally.units ≡ units_of_method (outlined_type o)
  pub shallow : o.tally.shallow ≡ list_all is_shallow (outlined_type o).params

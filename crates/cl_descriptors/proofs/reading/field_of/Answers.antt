use Rattle.std.proofs.Common.{sym}
use Rattle.cl_descriptors.specs.Pieces.{seen_type}
use Rattle.cl_descriptors.proofs.Methods.{whole_field_spelled}
use Rattle.cl_descriptors.proofs.reading.field_of.Goals as goal

pub build-requires-clause-named : goal.build-requires-clause-named
build-requires-clause-named c = (whole_field_spelled c.args.bytes.now (seen_type c.in-Some.piece) (sym c.in-Some.ensures)).named

use Rattle.std.proofs.Common.{sym}
use Rattle.cl_descriptors.specs.Pieces.{outlined_type}
use Rattle.cl_descriptors.proofs.Methods.{whole_method_spelled}
use Rattle.cl_descriptors.proofs.reading.method_of.Goals as goal

pub build-requires-clause-named : goal.build-requires-clause-named
build-requires-clause-named c = (whole_method_spelled c.args.bytes.now (outlined_type c.in-Some.outline) (sym c.in-Some.ensures.grammar)).named

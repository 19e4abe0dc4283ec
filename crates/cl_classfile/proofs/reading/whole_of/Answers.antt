use Rattle.std.proofs.Common.{arith}
use Rattle.cl_classfile.specs.Raw.{plain_file}
use Rattle.cl_classfile.proofs.Exact.{is_fitting}
use Rattle.cl_classfile.proofs.reading.whole_of.Goals as goal

pub returns-clause-fits : goal.returns-clause-fits
returns-clause-fits c = is_fitting c.args.bytes.now (plain_file c.in_ok-file.file) c.in_ok-file.rest.now (λ i. omega (arith, c.type_inv.bytes i)) c.in_ok-file.ensures.exact

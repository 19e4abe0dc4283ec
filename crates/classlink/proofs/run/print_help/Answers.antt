use Rattle.classlink.proofs.Ending.{help_wrong}
use Rattle.classlink.proofs.run.print_help.Goals as goal

pub returns-in_err-write_out-clause-faults : goal.returns-in_err-write_out-clause-faults
returns-in_err-write_out-clause-faults g c = help_wrong c.from_residual-in_err-write_out.result c.in_err-write_out.field-0.0 c.from_residual-in_err-write_out.ensures.1

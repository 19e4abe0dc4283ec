use Rattle.cl_program.proofs.Running.{run_failed}
use Rattle.cl_program.proofs.run.run_bundle.Goals as goal

pub returns-in-Err : goal.returns-in-Err
returns-in-Err g c = run_failed (g.I.Read.remaining c.args.input) c.args.options _ c.in-Err.fault c.fail.result c.in-Err.ensures c.fail.ensures.status c.fail.ensures.told

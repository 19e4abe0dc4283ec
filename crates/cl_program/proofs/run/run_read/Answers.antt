use Rattle.cl_program.proofs.Listing.{reading_failed}
use Rattle.cl_program.proofs.run.run_read.Goals as goal

pub returns-in-Err : goal.returns-in-Err
returns-in-Err g c = reading_failed (g.F.ReadFile.gives c.args.files.now c.args.path.now) c.args.path.now _ c.in-Err.fault c.fail.result c.in-Err.ensures c.fail.ensures.status c.fail.ensures.told

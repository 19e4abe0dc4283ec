use Rattle.cl_program.specs.Asking.{wanted_of}
use Rattle.cl_program.proofs.ScriptRunning.{script_failed}
use Rattle.cl_program.proofs.run.run_script.Goals as goal

pub returns-in-Err : goal.returns-in-Err
returns-in-Err g c = script_failed (g.F.ReadFile.gives c.args.files.now) (wanted_of c.args.words) _ c.in-Err.fault c.fail.result c.in-Err.ensures c.fail.ensures.status c.fail.ensures.told

use Rattle.std.proofs.Common.{arith}
use Rattle.cl_tasks.specs.Measures as phases
use Rattle.cl_tasks.specs.Rooms.{calls_at, room_at, room_of}
use Rattle.cl_tasks.specs.Steps.{FindsRow}
use Rattle.cl_tasks.proofs.Lead.{leads_by}
use Rattle.cl_tasks.proofs.Moves.{past_phase}
use Rattle.cl_tasks.proofs.accept.reject.Goals as goal

pub returns-in-Ok-clause-leads : goal.returns-in-Ok-clause-leads
returns-in-Ok-clause-leads g c =
    leads_by (room_of (room_at phases.Initiating c.args.job 0) (calls_at phases.Initiating c.args.job 0)) (FindsRow c.args.job c.args.row.value) c.obstacle.ensures.leads (omega arith)
    (past_phase g.T.Told.told c.args.job (FindsRow c.args.job c.args.row.value) phases.Initiating 0) (λ x h. (h.before, h.now))

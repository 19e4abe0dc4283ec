use Rattle.std.proofs.Common.{[], sym, subst, arith}
use Rattle.cl_hierarchy.specs.Rows.{Rowed}
use Rattle.cl_tasks.specs.Measures as phases
use Rattle.cl_tasks.specs.Rooms.{calls_at, room_at, room_of}
use Rattle.cl_tasks.specs.Steps.{FindsRow}
use Rattle.cl_tasks.proofs.Lead.{leads_by}
use Rattle.cl_tasks.proofs.Moves.{fewer_holds}
use Rattle.cl_hierarchy.specs.Paths.{frames_of}
use Rattle.cl_tasks.specs.Deriving.{IsNone}
use Rattle.cl_tasks.proofs.Deriving.{past_derives}
use Rattle.cl_tasks.proofs.accept.go_on.Goals as goal

pub returns-in-None-clause-leads : goal.returns-in-None-clause-leads
returns-in-None-clause-leads g c =
    leads_by (room_of (room_at phases.Initiating c.args.job 0) (calls_at phases.Initiating c.args.job 0)) (FindsRow c.args.job c.args.row.value) c.accept.ensures.leads (omega arith)
    (fewer_holds g.T.Told.told c.args.job (FindsRow c.args.job c.args.row.value) [] [] 0 0 0 (omega arith))
    (λ x h. subst (λ (r : Rowed). FindsRow c.args.job r x) (sym c.deref-in-None.ensures) h)

pub returns-then-is_empty-clause-derives : goal.returns-then-is_empty-clause-derives
returns-then-is_empty-clause-derives g c = past_derives IsNone (frames_of c.args.job.path) c.reach.result.stage c.reach.ensures.past

pub returns-in-Some-clause-derives : goal.returns-in-Some-clause-derives
returns-in-Some-clause-derives g c = past_derives IsNone (frames_of c.args.job.path) c.reject.result.stage c.reject.ensures.past

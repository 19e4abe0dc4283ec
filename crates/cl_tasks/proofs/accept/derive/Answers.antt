use Rattle.std.proofs.Common.{arith}
use Rattle.cl_tasks.specs.Measures as phases
use Rattle.cl_tasks.specs.Rooms.{calls_at, room_at, room_of}
use Rattle.cl_tasks.specs.Steps.{HoldsOn}
use Rattle.cl_tasks.proofs.Lead.{leads_by}
use Rattle.cl_tasks.proofs.Moves.{past_phase}
use Rattle.cl_hierarchy.specs.Paths.{frames_of}
use Rattle.cl_tasks.specs.Deriving.{IsHomeClass}
use Rattle.cl_tasks.proofs.Deriving.{home_derives, past_derives}
use Rattle.cl_tasks.proofs.accept.derive.Goals as goal

pub returns-in-Err-Unreadable-clause-leads : goal.returns-in-Err-Unreadable-clause-leads
returns-in-Err-Unreadable-clause-leads g c =
    leads_by (room_of (room_at phases.Homing c.args.job 0) (calls_at phases.Homing c.args.job c.args.home.definer)) (HoldsOn c.args.job) c.obstacle.ensures.leads (omega arith) (past_phase g.T.Told.told c.args.job (HoldsOn c.args.job) phases.Homing c.args.home.definer) (λ x h. (h, tt))

pub returns-in-Err-Unreadable-clause-derives : goal.returns-in-Err-Unreadable-clause-derives
returns-in-Err-Unreadable-clause-derives g c = past_derives (IsHomeClass c.args.home) (frames_of c.args.job.path) c.obstacle.result.stage c.obstacle.ensures.past

pub returns-in-Ok-clause-derives : goal.returns-in-Ok-clause-derives
returns-in-Ok-clause-derives g c = home_derives c.args.job.path c.args.home c.in-Ok.draft.class c.follow_draft.result.stage c.in-Ok.ensures.1 c.follow_draft.ensures.derives

use Rattle.std.proofs.Common.{◌≡◌, Some, arith}
use Rattle.cl_delegation.specs.Searches.{next_of}
use Rattle.cl_tasks.specs.Measures as phases
use Rattle.cl_tasks.specs.Rooms.{calls_at, room_at, room_of}
use Rattle.cl_tasks.specs.Steps.{HoldsOn, reads_left}
use Rattle.cl_tasks.proofs.Lead.{leads_by}
use Rattle.cl_tasks.proofs.Moves.{past_phase}
use Rattle.cl_tasks.proofs.Probes.{reads_none}
use Rattle.cl_hierarchy.specs.Paths.{frames_of}
use Rattle.cl_tasks.specs.Deriving.{IsSoughtHere}
use Rattle.cl_tasks.proofs.Deriving.{past_derives}
use Rattle.cl_tasks.proofs.search.pursue.Goals as goal

pub returns-in-Err-clause-leads : goal.returns-in-Err-clause-leads
returns-in-Err-clause-leads g c =
    leads_by (room_of (room_at phases.Reading c.args.job (reads_left c.args.search)) (calls_at phases.Reading c.args.job 0)) (HoldsOn c.args.job) c.obstacle.ensures.leads (omega arith) (past_phase g.T.Told.told c.args.job (HoldsOn c.args.job) phases.Reading 0) (λ x h. (h, tt))

pub returns-in-Err-clause-derives : goal.returns-in-Err-clause-derives
returns-in-Err-clause-derives g c = past_derives (IsSoughtHere c.args.job.path) (frames_of c.args.job.path) c.obstacle.result.stage c.obstacle.ensures.past

pub returns-in-Err-clause-reads : goal.returns-in-Err-clause-reads
returns-in-Err-clause-reads g c = reads_none c.args.job.path (λ l. next_of c.args.search ≡ Some l) c.obstacle.result.turn c.obstacle.ensures.plain

pub returns-in-Ok-clause-reads : goal.returns-in-Ok-clause-reads
returns-in-Ok-clause-reads g c = reads_none c.args.job.path (λ l. next_of c.args.search ≡ Some l) c.at_home.result.turn c.at_home.ensures.plain

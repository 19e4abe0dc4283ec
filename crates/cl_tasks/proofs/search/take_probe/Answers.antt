use Rattle.cl_hierarchy.specs.Paths.{frames_of}
use Rattle.cl_tasks.specs.Measures.{left_at}
use Rattle.cl_tasks.specs.Measures as phases
use Rattle.std.proofs.Common.{[], ◌∷◌, arith}
use Rattle.cl_tasks.specs.Rooms.{calls_at, room_at, room_of}
use Rattle.cl_tasks.specs.Stages.{past_left, probes_left, sought_ask}
use Rattle.cl_tasks.specs.Steps.{HoldsOn, reads_left}
use Rattle.cl_tasks.proofs.Lead.{leads_by}
use Rattle.cl_tasks.proofs.Moves.{fewer_holds}
use Rattle.cl_tasks.proofs.Onward.{more_room}
use Rattle.cl_tasks.proofs.Probes.{reads_behind, reads_fewer}
use Rattle.cl_tasks.proofs.search.take_probe.Goals as goal

pub returns-clause-leads : goal.returns-clause-leads
returns-clause-leads g c =
    leads_by (room_of (room_at phases.Reading c.args.job (probes_left c.args.search)) (calls_at phases.Reading c.args.job 0)) (HoldsOn c.args.job) c.pursue.ensures.leads
    (more_room (past_left c.args.job.target) (left_at phases.Reading (frames_of c.args.job.path) (reads_left c.take.new.self)) (left_at phases.Reading (frames_of c.args.job.path) (probes_left c.args.search))
    (reads_fewer (frames_of c.args.job.path) c.args.search c.take.new.self c.args.probe _ c.requires.next c.in-Ok.ensures.taken))
    (fewer_holds g.T.Told.told c.args.job (HoldsOn c.args.job) (sought_ask c.args.job.path ∷ []) [] 0 0 0 (omega arith)) (λ x h. h)

pub returns-clause-reads : goal.returns-clause-reads
returns-clause-reads g c = reads_behind c.args.job c.args.search c.take.new.self c.args.probe c.pursue.result.turn c.requires.search c.requires.next c.in-Ok.ensures.taken c.pursue.ensures.reads

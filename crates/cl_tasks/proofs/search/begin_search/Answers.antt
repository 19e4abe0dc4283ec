use Rattle.std.proofs.Common.{◌∙◌, ◌≤◌, [], ◌∷◌, arith, length, subst}
use Rattle.cl_config.specs.Views.{Configured}
use Rattle.cl_config.specs.declared.limits.TheConstants.{MOST_LOADERS}
use Rattle.cl_hierarchy.specs.Paths.{frames_of}
use Rattle.cl_tasks.specs.Measures.{left_at}
use Rattle.cl_tasks.specs.Measures as phases
use Rattle.cl_tasks.specs.Rooms.{calls_at, room_at, room_of}
use Rattle.cl_tasks.specs.Stages.{past_left, sought_ask}
use Rattle.cl_tasks.specs.Steps.{HoldsOn, reads_left}
use Rattle.cl_tasks.proofs.Lead.{leads_by}
use Rattle.cl_tasks.proofs.Moves.{fewer_holds}
use Rattle.cl_tasks.proofs.Onward.{more_room}
use Rattle.cl_tasks.proofs.Probes.{begins_less, reads_first}
use Rattle.cl_tasks.proofs.search.begin_search.Goals as goal

pub returns-in-Ok-clause-leads : goal.returns-in-Ok-clause-leads
returns-in-Ok-clause-leads g c =
    let p = c.args.job.path in
    leads_by (room_of (room_at phases.Looking c.args.job 0) (calls_at phases.Looking c.args.job 0)) (HoldsOn c.args.job) c.pursue.ensures.leads
    (more_room (past_left c.args.job.target) (left_at phases.Reading (frames_of p) (reads_left c.in-Ok.search)) (left_at phases.Looking (frames_of p) 0)
    (begins_less (frames_of p) p.config _ _ c.in-Ok.search c.in-Ok.ensures (subst (λ (k : Configured). length k.loaders ≤ MOST_LOADERS) (c.deref.ensures ∙ c.config.ensures.config) c.count.ensures.config.few)))
    (fewer_holds g.T.Told.told c.args.job (HoldsOn c.args.job) (sought_ask p ∷ []) [] 0 0 0 (omega arith)) (λ x h. h)

pub returns-in-Ok-clause-reads : goal.returns-in-Ok-clause-reads
returns-in-Ok-clause-reads g c = reads_first c.args.job.path c.in-Ok.search c.pursue.result.turn c.in-Ok.ensures c.pursue.ensures.reads

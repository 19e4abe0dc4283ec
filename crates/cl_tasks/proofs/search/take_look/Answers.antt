use Rattle.std.proofs.Common.{◌<◌, ◌∙◌, Option, ap, sym, subst, arith}
use Rattle.cl_delegation.specs.Searches.{Located}
use Rattle.cl_hierarchy.specs.Paths.{frames_of}
use Rattle.cl_hierarchy.specs.Rows.{Rowed}
use Rattle.cl_tasks.specs.Measures.{left_at}
use Rattle.cl_tasks.specs.Measures as phases
use Rattle.cl_tasks.specs.Rooms.{calls_at, calls_found, room_at, room_of}
use Rattle.cl_tasks.specs.Steps.{FindsAt, FindsHome}
use Rattle.cl_tasks.proofs.Fall.{roots_less}
use Rattle.cl_tasks.proofs.Lead.{leads_by}
use Rattle.cl_tasks.proofs.Moves.{same_holds}
use Rattle.cl_tasks.proofs.Deriving.{found_derives, unfound_derives}
use Rattle.cl_tasks.proofs.search.take_look.Goals as goal

pub returns-in-None-clause-leads : goal.returns-in-None-clause-leads
returns-in-None-clause-leads g c =
    leads_by (room_of (room_at phases.Homing c.args.job 0) (calls_found c.args.job c.args.home.definer c.args.row)) (FindsHome c.args.job c.args.home c.args.row (λ r. r.value)) c.derive.ensures.leads (omega arith)
    (same_holds g.T.Told.told c.args.job (FindsHome c.args.job c.args.home c.args.row (λ r. r.value)) (calls_at phases.Homing c.args.job c.args.home.definer) (calls_found c.args.job c.args.home.definer c.args.row) (ap (calls_found c.args.job c.args.home.definer) (sym c.in-None.is)))
    (λ x h. subst (λ (o : Option _). FindsHome c.args.job c.args.home o (λ r. r.value) x) c.in-None.is h)

pub returns-in-Ok-clause-leads : goal.returns-in-Ok-clause-leads
returns-in-Ok-clause-leads g c =
    let k : left_at phases.Defining (frames_of c.args.job.path) 0 < left_at phases.Homing (frames_of c.args.job.path) 0 = roots_less g.T.Told.told c.args.job.path phases.Homing 0 0 c.at_name.ensures.path tt in
    leads_by (room_of (room_at phases.Homing c.args.job 0) (calls_found c.args.job c.args.home.definer c.args.row)) (FindsHome c.args.job c.args.home c.args.row (λ r. r.value)) c.initiate.ensures.leads (omega arith)
    (same_holds g.T.Told.told c.args.job (FindsHome c.args.job c.args.home c.args.row (λ r. r.value)) (calls_at phases.Defining c.args.job c.in-Ok.home.value.definer) (calls_found c.args.job c.args.home.definer c.args.row)
    (ap (λ (h : Located). calls_at phases.Defining c.args.job h.definer) c.in-Ok.ensures.ok ∙ ap (calls_found c.args.job c.args.home.definer) (sym c.in-Some.is)))
    (λ x h.
    subst (λ (l : Located). FindsAt c.args.job l.definer c.deref.result.now x) (sym c.in-Ok.ensures.ok)
    (subst (λ (r : Rowed). FindsAt c.args.job c.args.home.definer r x) (sym c.deref.ensures)
    (subst (λ (o : Option _). FindsHome c.args.job c.args.home o (λ r. r.value) x) c.in-Some.is h)))

pub returns-in-None-clause-derives : goal.returns-in-None-clause-derives
returns-in-None-clause-derives g c = unfound_derives c.args.job.path c.args.home c.args.row c.derive.result.stage c.in-None.is c.derive.ensures.derives

pub returns-in-Ok-clause-derives : goal.returns-in-Ok-clause-derives
returns-in-Ok-clause-derives g c = found_derives c.args.job.path c.args.home c.args.row c.initiate.result.stage c.initiate.ensures.derives

use Rattle.std.proofs.Common.{◌≡◌, ◌∙◌, ℕ, ap, sym, subst, arith}
use Rattle.std.proofs.lemmas.Bool.{eqb-true}
use Rattle.cl_delegation.specs.Searches.{Located}
use Rattle.cl_hierarchy.specs.Drafts.{Drafted}
use Rattle.cl_hierarchy.specs.Paths.{at_loader}
use Rattle.cl_hierarchy.specs.Rows.{Rowed}
use Rattle.cl_tasks.specs.Measures as phases
use Rattle.cl_tasks.specs.Rooms.{calls_at, room_at, room_of}
use Rattle.cl_tasks.specs.Steps.{FindsAt, FindsBy}
use Rattle.cl_tasks.proofs.Lead.{leads_by}
use Rattle.cl_tasks.proofs.Moves.{at_home_defined, same_holds}
use Rattle.cl_tasks.proofs.accept.take_defined.Goals as goal

pub returns-then-eq-clause-leads : goal.returns-then-eq-clause-leads
returns-then-eq-clause-leads g c =
    let home = c.home-home.ensures.home ∙ ap (λ (d : Drafted). d.home) c.draft.ensures in
    let same : c.args.whole.draft.home.definer ≡ at_loader c.args.job.path =
    sym (c.definer.ensures ∙ ap (λ (h : Located). h.definer) (c.deref.ensures ∙ home)) ∙ eqb-true _ _ (sym c.if-eq.ensures) ∙ c.at_loader.ensures.loader in
    leads_by (room_of (room_at phases.Defining c.args.job 0) (calls_at phases.Defining c.args.job c.args.whole.draft.home.definer)) (FindsBy c.args.job c.args.whole.draft.home c.args.row.value) c.go_on.ensures.leads (omega arith)
    (same_holds g.T.Told.told c.args.job (FindsBy c.args.job c.args.whole.draft.home c.args.row.value) (calls_at phases.Initiating c.args.job 0) (calls_at phases.Defining c.args.job c.args.whole.draft.home.definer) (sym (at_home_defined c.args.job c.args.whole.draft.home.definer (sym same)))) (λ x h. subst (λ (l : ℕ). FindsAt c.args.job l c.args.row.value x) same h)

pub returns-in-Ok-clause-leads : goal.returns-in-Ok-clause-leads
returns-in-Ok-clause-leads g c =
    let home : c.in-Ok.home.value ≡ c.args.whole.draft.home = c.in-Ok.ensures ∙ c.home-home.ensures.home ∙ ap (λ (d : Drafted). d.home) c.draft.ensures in
    leads_by (room_of (room_at phases.Defining c.args.job 0) (calls_at phases.Defining c.args.job c.args.whole.draft.home.definer)) (FindsBy c.args.job c.args.whole.draft.home c.args.row.value) c.initiate.ensures.leads (omega arith)
    (same_holds g.T.Told.told c.args.job (FindsBy c.args.job c.args.whole.draft.home c.args.row.value) (calls_at phases.Defining c.args.job c.in-Ok.home.value.definer) (calls_at phases.Defining c.args.job c.args.whole.draft.home.definer)
    (ap (λ (l : Located). calls_at phases.Defining c.args.job l.definer) home))
    (λ x h.
    subst (λ (l : Located). FindsBy c.args.job l c.deref-in-Ok.result.now x) (sym home)
    (subst (λ (r : Rowed). FindsBy c.args.job c.args.whole.draft.home r x) (sym c.deref-in-Ok.ensures) h))

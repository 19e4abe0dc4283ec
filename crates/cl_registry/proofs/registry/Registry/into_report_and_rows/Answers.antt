use Rattle.std.proofs.Common.{◌∙◌, ◌<◌, ◌≤◌, ◌+◌, ℕ, Some, map, refl, ap, subst, inl, inr}
use Rattle.cl_registry.specs.declared.report.Report.{Report}
use Rattle.cl_registry.specs.Reports.{IsReport, IsReported, IsUnfinished}
use Rattle.cl_registry.specs.Tables.{Shown}
use Rattle.cl_registry.specs.View.{shown_of}
use Rattle.cl_registry.proofs.Histories.{first_open}
use Rattle.cl_registry.proofs.Schedules.{round_left, no_round_left}
use Rattle.cl_registry.proofs.Running.{report_names}
use Rattle.cl_registry.proofs.registry.Registry.into_report_and_rows.Goals as goal
use Rattle.cl_registry.proofs.registry.Registry.into_report_and_rows.Goals.{then-self-ne0-via-then-self-ne0, then-self-ne0-via-else-self-ne0+then-self-rounds}

pub returns-then-self-ne0-clause-refused : goal.returns-then-self-ne0-clause-refused
returns-then-self-ne0-clause-refused g c = (
  refl,
  subst (λ (y : Shown). IsUnfinished y) c.self.view_is
      elim c.then-self-ne0.branch [
        | then-self-ne0-via-then-self-ne0 w ↦ inl (first_open c.self.inside.answers.items (λ e. w.if-self-ne0.true (c.self.invariant.left ∙ e)))
        | then-self-ne0-via-else-self-ne0+then-self-rounds w ↦
            inr (round_left g.T.Told.told _ _ c.self.invariant (subst (λ (n : ℕ). c.self.inside.round + 1 < n) (w.rounds.ensures ∙ ap (λ s. s.rounds) w.deref.ensures) w.if-self-rounds.true))
      ],
)

pub returns-clause-reported : goal.returns-clause-reported
returns-clause-reported g c =
    let x : Shown = shown_of c.self.inside in
    let r : Report = record { script = c.self.inside.script; history = c.from.result; answers = c.from-2.result } in
    let whole : IsReport x r = record { script = refl; history = c.from.ensures; answers = ap (map (λ a. Some a)) c.from-2.ensures ∙ c.collect.ensures } in
    subst (λ (y : Shown). IsReported g.T.Told.told y r) c.self.view_is
    (record {
      whole = whole;
      kept = c.self.invariant.kept;
      loaders = report_names x r c.self.invariant.kept.named whole;
      last = no_round_left g.T.Told.told _ _ c.self.invariant (subst (λ (n : ℕ). n ≤ c.self.inside.round + 1) (c.rounds.ensures ∙ ap (λ s. s.rounds) c.deref.ensures) c.if-self-rounds.false);
    })

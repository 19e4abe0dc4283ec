use Rattle.std.proofs.Common.{◌∙◌, ◌<◌, ◌≤◌, ◌+◌, ℕ, ap, subst}
use Rattle.cl_registry.specs.Tables.{Shown, RoundMayBegin}
use Rattle.cl_registry.proofs.Schedules.{may_go_on, open_stops, last_stops, kept_round, round_there_is}
use Rattle.cl_registry.proofs.registry.Registry.next_round.Goals as goal
use Rattle.cl_registry.proofs.registry.Registry.next_round.Goals.{then-next-rounds-via-then-next-rounds, then-next-rounds-via-else-next-rounds+then-index-ne0}

pub returns-then-next-rounds-clause-refused : goal.returns-then-next-rounds-clause-refused
returns-then-next-rounds-clause-refused g c =
    subst (λ (y : Shown). RoundMayBegin y → ⊥) c.self.view_is
    elim c.then-next-rounds.branch [
      | then-next-rounds-via-then-next-rounds w ↦
          last_stops g.T.Told.told _ _ c.self.invariant (subst (λ (n : ℕ). n ≤ c.self.inside.round + 1) (c.rounds.ensures ∙ ap (λ s. s.rounds) c.deref.ensures) w.if-next-rounds.true)
      | then-next-rounds-via-else-next-rounds+then-index-ne0 w ↦
          open_stops g.T.Told.told _ _ w.index.result.now c.self.invariant
          (round_there_is g.T.Told.told _ _ w.index.result.now c.self.invariant (subst (λ (n : ℕ). c.self.inside.round + 1 < n) (c.rounds.ensures ∙ ap (λ s. s.rounds) c.deref.ensures) w.if-next-rounds.false) w.index.ensures)
          w.if-index-ne0.true
    ]

pub invariant_of-self : goal.invariant_of-self
invariant_of-self g c =
    let more = subst (λ (n : ℕ). c.self.inside.round + 1 < n) (c.rounds.ensures ∙ ap (λ s. s.rounds) c.deref.ensures) c.if-next-rounds.false in
    rw c.push_reserved.ensures.items
    (kept_round g.T.Told.told _ _ _ _ c.self.invariant
    (may_go_on g.T.Told.told _ _ c.index.result.now c.self.invariant (round_there_is g.T.Told.told _ _ c.index.result.now c.self.invariant more c.index.ensures) c.if-index-ne0.false more)
    c.push_reserved.ensures.len c.push_reserved.ensures.capacity)

pub returns-clause-may : goal.returns-clause-may
returns-clause-may g c =
    let more = subst (λ (n : ℕ). c.self.inside.round + 1 < n) (c.rounds.ensures ∙ ap (λ s. s.rounds) c.deref.ensures) c.if-next-rounds.false in
    subst (λ (y : Shown). RoundMayBegin y) c.self.view_is
    (may_go_on g.T.Told.told _ _ c.index.result.now c.self.invariant (round_there_is g.T.Told.told _ _ c.index.result.now c.self.invariant more c.index.ensures) c.if-index-ne0.false more)

pub returns-clause-number : goal.returns-clause-number
returns-clause-number g c = (invariant_of-self g c).round

pub returns-clause-kept : goal.returns-clause-kept
returns-clause-kept g c = (invariant_of-self g c).kept

use Rattle.std.proofs.Common.{◌<◌, ◌≤◌, ◌^◌, sym, ◌∙◌, ap, subst, arith}
use mathlib.Core.Option.{none}
use Rattle.atomic_table.specs.Table.{step}
use Rattle.cl_pool.specs.declared.hand.Bounds.{Bounds}
use Rattle.cl_pool.specs.Numbers.{past}
use Rattle.cl_pool.specs.Seats.{Seated, Drawing, MayDraw}
use Rattle.cl_pool.proofs.Moves.{draws, may_again}
use Rattle.cl_pool.proofs.draws.Draws.draw.Goals.{then-number-from, else-number-from}
use Rattle.cl_pool.proofs.draws.Draws.draw.Goals as goal
use Rattle.cl_pool.specs.declared.limits.TheConstants.{MOST_WORKERS}

pub fetch_add-number-requires : goal.fetch_add-number-requires
fetch_add-number-requires c =
    let inv = c.self.invariant in
    let word = ap (λ (v : Seated). v.word) c.seat.view_is ∙ (c.requires.seat.word ∙ sym (ap (λ (v : Drawing). v.word) c.self.view_is)) in
    let of = ap (λ (v : Seated). v.hand.of) c.seat.view_is ∙ (c.requires.seat.of ∙ sym (ap (λ (v : Drawing). v.of) c.self.view_is)) ∙ sym inv.1 in
    let small : c.self.inside.table.shared.key.requests < 2 ^ 32 = rw inv.1 inv.3 in
    let few : c.self.inside.table.shared.key.workers ≤ MOST_WORKERS = rw inv.1 inv.2 in
    let may = subst MayDraw (sym c.seat.view_is) c.requires.may in (
      word,
      omega (arith, inv.0),
      draws _ _ _ _ (step 0 0 0 0 none) small few of
          (subst (λ (k : Bounds). past k.requests c.seat.inside.token.me.0.drawn < c.seat.inside.token.me.0.parts) of may),
    )

pub returns-clause-may : goal.returns-clause-may
returns-clause-may c =
    let may = subst MayDraw (sym c.seat.view_is) c.requires.may in
    let of = ap (λ (v : Seated). v.hand.of.requests) c.seat.view_is ∙ (ap (λ (k : Bounds). k.requests) c.requires.seat.of ∙ sym (ap (λ (v : Drawing). v.of.requests) c.self.view_is)) in
    elim c.if-number-from.branch [
      | then-number-from w ↦
          rw w.result-is
          (may_again c.seat.inside.token.me.0 c.fetch_add-number.new.seat.me.0 c.fetch_add-number.result c.self.inside.bounds.requests c.fetch_add-number.ensures.2.1 of
          (let less = w.if-number-from.true in let same = c.from.ensures in omega arith) may)
      | else-number-from w ↦ rw w.result-is tt
    ]

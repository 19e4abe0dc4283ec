use Rattle.std.proofs.Common.{sym, ◌∙◌, ap, arith}
use mathlib.Core.Option.{none}
use Rattle.atomic_table.specs.Table.{step}
use Rattle.cl_pool.specs.Seats.{Seated, Drawing}
use Rattle.cl_pool.proofs.Moves.{joins, looks}
use Rattle.cl_pool.proofs.draws.Draws.join.Goals as goal

pub join_seat-requires : goal.join_seat-requires
join_seat-requires c =
    let word = ap (λ (v : Seated). v.word) c.seat.view_is ∙ (c.requires.seat.word ∙ sym (ap (λ (v : Drawing). v.word) c.self.view_is)) in
    let theirs = ap (λ (v : Seated). v.word) c.other.view_is ∙ (c.requires.other.word ∙ sym (ap (λ (v : Drawing). v.word) c.self.view_is)) in
    (word, theirs, c.other.invariant.0, omega (arith, c.self.invariant.0), joins _ _ _ _ _)

pub load-requires : goal.load-requires
load-requires c =
    let word = ap (λ (v : Seated). v.word) c.seat.view_is ∙ (c.requires.seat.word ∙ sym (ap (λ (v : Drawing). v.word) c.self.view_is)) in
    let of = ap (λ (v : Seated). v.hand.of) c.seat.view_is ∙ (c.requires.seat.of ∙ sym (ap (λ (v : Drawing). v.of) c.self.view_is)) ∙ sym c.self.invariant.1 in
    let same = c.join_seat.ensures in
    (same.0 ∙ word, omega (arith, c.self.invariant.0), looks _ _ _ _ (step 0 0 0 0 none) (ap (λ m. m.0.of) same.2 ∙ of))

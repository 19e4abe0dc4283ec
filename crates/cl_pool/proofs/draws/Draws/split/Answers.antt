use Rattle.std.proofs.Common.{sym, ◌∙◌, ap, arith}
use Rattle.cl_pool.specs.Seats.{Seated, Drawing}
use Rattle.cl_pool.proofs.Moves.{splits}
use Rattle.cl_pool.proofs.draws.Draws.split.Goals as goal

pub split_seat-token-requires : goal.split_seat-token-requires
split_seat-token-requires c =
    let word = ap (λ (v : Seated). v.word) c.seat.view_is ∙ (c.requires.word ∙ sym (ap (λ (v : Drawing). v.word) c.self.view_is)) in
    (word, omega (arith, c.self.invariant.0), splits _ _ _ (omega (arith, c.seat.invariant.1)))

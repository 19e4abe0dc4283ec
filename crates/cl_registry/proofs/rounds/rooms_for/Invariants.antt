use Rattle.std.proofs.Common.{◌≡◌, replicate, None}
use Rattle.cl_registry.proofs.rounds.rooms_for.Given as goal

abbrev pub invariant-loop : goal.invariant-loop
invariant-loop l = l.answers.items ≡ replicate l.counter None

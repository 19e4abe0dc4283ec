use Rattle.std.proofs.Common.{◌≡◌, ℕ, length, replicate, None, Some}
use Rattle.std.specs.Prelude.{slice_get}
use Rattle.cl_registry.specs.Kept.{open_in}
use Rattle.cl_registry.proofs.rounds.counts_of.Given as goal

abbrev pub invariant-loop-q : goal.invariant-loop-q
invariant-loop-q l = record {
  each : length l.counts.items ≡ l.script.rounds;
  counts : (round n : ℕ) → slice_get l.counts.items round ≡ Some n → n ≡ open_in round l.script.rounds_of (replicate l.q None);
}

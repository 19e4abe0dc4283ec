use Rattle.std.proofs.Common.{◌≡◌, ◌+◌, ◌≤◌, length, map, Some, vec_len, vec_capacity}
use Rattle.cl_registry.specs.Kept.{left_in}
use Rattle.cl_registry.proofs.rounds.collect.Given as goal

abbrev pub invariant-loop-answer : goal.invariant-loop-answer
invariant-loop-answer l = record {
  same : map (λ a. Some a) l.room.items ≡ l.yielded;
  all : left_in l.answer-iterator.rest.items ≡ 0;
  fit : vec_len l.room + length l.answer-iterator.rest.items ≤ vec_capacity l.room;
}

use Rattle.std.proofs.Common.{◌≡◌, ◌++◌, map, take, drop}
use Rattle.cl_constraints.specs.Pairs.{moved_record}
use Rattle.cl_constraints.proofs.plain.move_on.Given as goal

abbrev pub invariant-loop-record : goal.invariant-loop-record
invariant-loop-record l = l.record-items ≡ map (moved_record l.pair) (take l.record-index l.fn.records.items) ++ drop l.record-index l.fn.records.items

use Rattle.std.proofs.Common.{◌≡◌, ◌++◌, map, take, drop}
use Rattle.cl_constraints.specs.Groups.{with_home}
use Rattle.cl_constraints.proofs.grouped.give_home.Given as goal

abbrev pub invariant-loop-group : goal.invariant-loop-group
invariant-loop-group l = l.group-items ≡ map (with_home l.loader l.home) (take l.group-index l.fn.groups.items) ++ drop l.group-index l.fn.groups.items

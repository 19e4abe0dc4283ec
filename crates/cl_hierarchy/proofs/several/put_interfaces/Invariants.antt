use Rattle.std.proofs.Common.{take}
use Rattle.cl_hierarchy.specs.Several.{Gains}
use Rattle.cl_hierarchy.specs.Trees.{interfaces_in}
use Rattle.cl_hierarchy.proofs.several.put_interfaces.Given as goal

abbrev pub invariant-loop-place : goal.invariant-loop-place
invariant-loop-place g l = Gains l.fn.classes.keys (take l.place (interfaces_in l.row)) l.classes.keys

use Rattle.std.proofs.Common.{◌≡◌, map}
use Rattle.cl_model.specs.Preparation.{equal_between}
use Rattle.cl_hierarchy.specs.Imposed.{needs_of}
use Rattle.cl_members.proofs.naming.equals.Given as goal

abbrev pub invariant-loop-name : goal.invariant-loop-name
invariant-loop-name l =
    needs_of l.needs.items ≡ map (λ n. equal_between n l.fn.one l.fn.other) l.yielded

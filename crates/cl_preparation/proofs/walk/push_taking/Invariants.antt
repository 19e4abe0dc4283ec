use Rattle.std.proofs.Common.{◌≡◌, ◌++◌, map, filter, drop}
use Rattle.cl_model.specs.Preparation.{equals_with, takes_part}
use Rattle.cl_hierarchy.specs.Imposed.{needs_of}
use Rattle.cl_preparation.specs.Relatives.{bare}
use Rattle.cl_preparation.proofs.walk.push_taking.Given as goal

abbrev pub invariant-loop-class : goal.invariant-loop-class
invariant-loop-class g l =
    needs_of l.needs.items ++ equals_with l.method l.loader (filter (takes_part l.method) (map (λ r. bare r.value) (drop l.class-index l.classes)))
    ≡ needs_of l.initial.needs.items ++ equals_with l.method l.loader (filter (takes_part l.method) (map (λ r. bare r.value) l.classes))

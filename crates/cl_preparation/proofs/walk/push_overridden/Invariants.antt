use Rattle.std.proofs.Common.{◌++◌, ◌∷◌, [], map, drop}
use Rattle.cl_model.specs.Preparation.{equals_with}
use Rattle.cl_hierarchy.specs.Imposed.{needs_of}
use Rattle.cl_preparation.specs.Relatives.{Walking, bare}
use Rattle.cl_preparation.specs.Walks.{overridden_by_package}
use Rattle.cl_preparation.proofs.walk.push_overridden.Given as goal

abbrev pub invariant-loop-class : goal.invariant-loop-class
invariant-loop-class g l =
    Walking l.method l.own.class.loader l.opened (needs_of l.needs.items) (map (λ r. bare r.value) (drop l.class-index l.superclasses))
    (needs_of l.initial.needs.items ++ equals_with l.method l.own.class.loader (overridden_by_package l.method (l.own.class ∷ []) (map (λ r. bare r.value) l.superclasses)))

use Rattle.std.proofs.Common.{[], ◌∷◌, ◌++◌, length, map}
use Rattle.cl_model.specs.Classes.{is_among}
use Rattle.cl_hierarchy.specs.Several.{superinterfaces_of_any}
use Rattle.cl_hierarchy.specs.Trees.{kin_under, kins}
use Rattle.cl_hierarchy.proofs.SeveralOver.{IsPassed}
use Rattle.cl_hierarchy.proofs.several.superinterface_classes.Given as goal

abbrev pub invariant-loop-row : goal.invariant-loop-row
invariant-loop-row g l =
    IsPassed (map (λ r. r.value) l.above ++ l.own ∷ []) (λ c. is_among (superinterfaces_of_any (map (λ r. kin_under (kins (map (λ x. x.value) l.above ++ l.own ∷ [])) r.value) l.some)) c) (map (λ r. r.value) l.rest) l.found.keys l.left.keys

abbrev pub decreases-loop-row : goal.decreases-loop-row
decreases-loop-row g l = length l.rest

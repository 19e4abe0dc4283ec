use Rattle.std.proofs.Common.{◌≡◌, ◌++◌, take}
use Rattle.std.specs.List.{flat_map}
use Rattle.cl_model.specs.Preparation.{for_inherited}
use Rattle.cl_hierarchy.specs.Imposed.{needs_of}
use Rattle.cl_hierarchy.specs.Lineages.{kin_of}
use Rattle.cl_preparation.specs.Relatives.{bare}
use Rattle.cl_preparation.proofs.relatives.Relatives.push_interfaces.Given as goal

abbrev pub invariant-loop-interface : goal.invariant-loop-interface
invariant-loop-interface g l =
    needs_of l.needs.items
    ≡ needs_of l.initial.needs.items ++ flat_map (λ j. flat_map (for_inherited (kin_of l.self) (bare j.value)) (bare j.value).file.methods) (take l.interface-index l.interfaces)

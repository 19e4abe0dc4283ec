use Rattle.std.proofs.Common.{ap, ◌++◌, ◌∙◌}
use Rattle.std.specs.List.{flat_map}
use Rattle.std.proofs.lemmas.Result.{IfOk-at_ok}
use Rattle.cl_model.specs.Preparation.{for_inherited}
use Rattle.cl_hierarchy.specs.Imposed.{needs_of}
use Rattle.cl_hierarchy.specs.Lineages.{kin_of}
use Rattle.cl_hierarchy.specs.Rows.{Rowed}
use Rattle.cl_preparation.specs.Relatives.{bare}
use Rattle.cl_preparation.proofs.Constraints.{pushed_more}
use Rattle.cl_preparation.proofs.relatives.Relatives.push_interfaces.Goals as goal

pub loop-interface-preserved : goal.loop-interface-preserved
loop-interface-preserved g c =
    pushed_more (λ j. flat_map (for_inherited (kin_of c.args.self.now) (bare j.value)) (bare j.value).file.methods) c.args.interfaces.now c.loop-interface.interface-index c.interface-item.result
    (needs_of c.args.needs.now.items) (needs_of c.loop-interface.needs.items) (needs_of c.push_interface.new.needs.items) c.loop-interface-test.true c.interface-item.is c.loop-interface.invariant
    (IfOk-at_ok _ c.in_ok-push_interface.was c.push_interface.ensures
    ∙ ap (λ (r : Rowed). needs_of c.loop-interface.needs.items ++ flat_map (for_inherited (kin_of c.args.self.now) (bare r)) (bare r).file.methods) c.deref.ensures)

use Rattle.std.proofs.Common.{◌∙◌, ◌++◌, ◌∷◌, [], subst, ap}
use Rattle.std.specs.Prelude.{Contains}
use Rattle.cl_model.specs.declared.class.Class.{Class}
use Rattle.cl_registry.proofs.Tested.{insert_new}
use Rattle.cl_registry.proofs.imposing.add_prepared.Goals as goal

pub returns-clause-added : goal.returns-clause-added
returns-clause-added c = c.in-Ok.ensures.keys ∙ insert_new c.args.prepared.now.keys c.in_ok-class.class (λ has. c.requires.absent (subst (λ (k : Class). Contains c.args.prepared.now.keys k) c.in_ok-class.ensures has)) ∙ ap (λ (k : Class). c.args.prepared.now.keys ++ k ∷ []) c.in_ok-class.ensures

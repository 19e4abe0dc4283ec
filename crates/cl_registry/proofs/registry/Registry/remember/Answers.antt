use Rattle.std.proofs.Common.{subst, sym}
use Rattle.std.specs.Prelude.{IfSome, slice_get}
use Rattle.cl_hierarchy.specs.Imposed.{equal_need}
use Rattle.cl_model.specs.States.{Met}
use Rattle.cl_registry.specs.Tables.{Shown, state_of}
use Rattle.cl_registry.specs.View.{shown_of}
use Rattle.cl_registry.proofs.Known.{kept_known}
use Rattle.cl_registry.proofs.registry.Registry.remember.Goals as goal

pub invariant_of-self : goal.invariant_of-self
invariant_of-self g c =
    let x : Shown = shown_of c.self.inside in
    kept_known g.T.Told.told x _ c.note.new.known.items c.self.invariant
    (c.note.ensures (state_of x) c.self.invariant.met (subst (λ (y : Shown). IfSome (slice_get c.args.list.now c.args.place) (λ e. Met (state_of y) (equal_need e))) (sym c.self.view_is) c.requires.met))

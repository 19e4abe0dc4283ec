use Rattle.std.proofs.Common.{[], ◌∷◌, inl, refl, codes}
use Rattle.cl_classfile.specs.Flags as flag
use Rattle.cl_model.specs.Lineages.{Kin, Bare, alone}
use Rattle.cl_model.specs.Plans.{derive}
use Rattle.cl_model.specs.Examples.{app, plug, in_plug, taking_t, under, with_methods}
use Rattle.cl_model.specs.ExampleRuns.{overridden_alone}
use Rattle.cl_model.proofs.Served.{the_made, free_equal, kin_of_svc}
use Rattle.cl_model.proofs.examples.constrained_by_preparation.Goals as goal

abbrev kin : Kin
kin = record { class = in_plug "p/Use"; file = with_methods ((flag.public, taking_t "m") ∷ []) (under "p/Use" "p/Svc"); superclass = alone kin_of_svc; interfaces = Bare }

pub returns : goal.returns
returns c = record {
  needs = _;
  imposes = inl (in_plug "p/Use", refl, (kin, record { height = 3; made = the_made (derive overridden_alone 3 [] (in_plug "p/Use")); derived = refl; ends = refl }, refl));
  next = inl refl;
  may_add = free_equal _ (codes "p/T") app plug refl (λ e. absurd cc) refl;
}

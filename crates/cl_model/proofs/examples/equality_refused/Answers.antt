use Rattle.std.proofs.Common.{inl, inr, refl, codes}
use Rattle.cl_model.specs.States.{start}
use Rattle.cl_model.specs.Machine.{state_after}
use Rattle.cl_model.specs.Plans.{plan, Resolve}
use Rattle.cl_model.specs.Examples.{app, plug}
use Rattle.cl_model.specs.ExampleReferences.{service}
use Rattle.cl_model.specs.ExampleRuns.{both_defined}
use Rattle.cl_model.proofs.Refusals.{the, refused_equal}
use Rattle.cl_model.proofs.examples.equality_refused.Goals as goal

pub returns : goal.returns
returns c = record {
  plan = the (plan service 3 (Resolve plug (codes "p/Use") 1));
  planned = record { height = 3; planned = refl };
  answered = inl (
    refl,
    inl (
      refl,
      inl (
        refl,
        inl (
          refl,
          inl (
            refl,
            inl (
              refl,
              inl (
                refl,
                inr (
                  refused_equal (state_after start both_defined) (codes "p/T") app plug app plug refl (λ e. absurd cc) refl refl (λ e. absurd cc),
                  refl,
                ),
              ),
            ),
          ),
        ),
      ),
    ),
  );
}

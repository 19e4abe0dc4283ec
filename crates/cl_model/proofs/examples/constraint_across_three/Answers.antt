use Rattle.std.proofs.Common.{inl, inr, refl, codes, [], ◌∷◌, arith}
use Rattle.cl_model.specs.States.{start}
use Rattle.cl_model.specs.Machine.{state_after}
use Rattle.cl_model.specs.Plans.{plan, Load}
use Rattle.cl_model.specs.Examples.{app, plug, kid}
use Rattle.cl_model.specs.ExampleReferences.{three_users}
use Rattle.cl_model.specs.ExampleRuns.{across}
use Rattle.cl_model.proofs.Refusals.{the, refused_record}
use Rattle.cl_model.proofs.examples.constraint_across_three.Goals as goal

pub returns-clause-loaded : goal.returns-clause-loaded
returns-clause-loaded c = record {
  plan = the (plan three_users 3 (Load plug (codes "p/T")));
  planned = record { height = 3; planned = refl };
  answered = inl (refl, inl (refl, inl (refl, refl)));
}

pub returns-clause-refused : goal.returns-clause-refused
returns-clause-refused c = record {
  plan = the (plan three_users 3 (Load kid (codes "p/T")));
  planned = record { height = 3; planned = refl };
  answered = inl (
    refl,
    inl (
      refl,
      inr (
        refused_record (state_after start across) (codes "p/T") kid plug kid plug refl
            (record {
              path = app ∷ plug ∷ [];
              along = (
                record { equality = record { name = codes "p/T"; one = app; other = kid }; imposed = (1, omega arith, refl); named = refl; ends = inr (refl, refl) },
                (record { equality = record { name = codes "p/T"; one = app; other = plug }; imposed = (0, omega arith, refl); named = refl; ends = inl (refl, refl) }, refl),
              );
            })
            refl (λ e. absurd cc),
        refl,
      ),
    ),
  );
}

use Rattle.std.proofs.Common.{inl, inr, refl, codes, [], ◌∷◌, arith}
use Rattle.cl_model.specs.States.{start}
use Rattle.cl_model.specs.Machine.{state_after}
use Rattle.cl_model.specs.Plans.{plan, Load, Resolve}
use Rattle.cl_model.specs.Examples.{app, plug}
use Rattle.cl_model.specs.ExampleReferences.{service}
use Rattle.cl_model.specs.ExampleRuns.{constrained}
use Rattle.cl_model.proofs.Refusals.{the, refused_record}
use Rattle.cl_model.proofs.examples.record_refused.Goals as goal

pub returns-clause-resolved : goal.returns-clause-resolved
returns-clause-resolved c = record {
  plan = the (plan service 3 (Resolve plug (codes "p/Use") 1));
  planned = record { height = 3; planned = refl };
  answered = inl (
    refl,
    inl (
      refl,
      inl (
        refl,
        inl (
          refl,
          inl (
            refl,
            inl (
              refl,
              inl (
                refl,
                inl (
                  record { path = plug ∷ []; along = (record { equality = record { name = codes "p/T"; one = app; other = plug }; imposed = (0, omega arith, refl); named = refl; ends = inl (refl, refl) }, refl) },
                  refl,
                ),
              ),
            ),
          ),
        ),
      ),
    ),
  );
}

pub returns-clause-loaded : goal.returns-clause-loaded
returns-clause-loaded c = record {
  plan = the (plan service 3 (Load app (codes "p/T")));
  planned = record { height = 3; planned = refl };
  answered = inl (refl, inl (refl, inl (refl, refl)));
}

pub returns-clause-refused : goal.returns-clause-refused
returns-clause-refused c = record {
  plan = the (plan service 3 (Load plug (codes "p/T")));
  planned = record { height = 3; planned = refl };
  answered = inl (
    refl,
    inl (
      refl,
      inr (
        refused_record (state_after start constrained) (codes "p/T") plug app plug app refl
            (record { path = app ∷ []; along = (record { equality = record { name = codes "p/T"; one = app; other = plug }; imposed = (0, omega arith, refl); named = refl; ends = inr (refl, refl) }, refl) })
            refl (λ e. absurd cc),
        refl,
      ),
    ),
  );
}

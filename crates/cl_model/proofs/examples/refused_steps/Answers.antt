use Rattle.std.proofs.Common.{[], ◌∷◌, inl, inr, refl, codes, arith}
use Rattle.cl_model.specs.States.{Equal, Joined, Refused, start}
use Rattle.cl_model.specs.Plans.{plan}
use Rattle.cl_model.specs.Machine.{state_after}
use Rattle.cl_model.specs.Examples.{app, plug, kid, resolve_of}
use Rattle.cl_model.specs.ExampleReferences.{three_users}
use Rattle.cl_model.specs.ExampleRuns.{both_defined, constrained, across}
use Rattle.cl_model.proofs.Refusals.{the, missing, refused_equal, refused_record}
use Rattle.cl_model.proofs.Served.{made_of_service, resolution_of_service}
use Rattle.cl_model.proofs.examples.refused_steps.Goals as goal

-- one equality joins its two loaders, from the greater too
back : Joined (state_after start constrained).equalities (codes "p/T") plug app
back = record { path = app ∷ []; along = (record { equality = record { name = codes "p/T"; one = app; other = plug }; imposed = (0, omega arith, refl); named = refl; ends = inr (refl, refl) }, refl) }

pub returns-clause-define : goal.returns-clause-define
returns-clause-define c h = h.may_add.fits (refused_record (state_after start constrained) (codes "p/T") plug app plug app refl back refl (λ e. absurd cc)).clashes

not_equal : Refused (state_after start both_defined) (Equal (codes "p/T") app plug)
not_equal = refused_equal (state_after start both_defined) (codes "p/T") app plug app plug refl (λ e. absurd cc) refl refl (λ e. absurd cc)

pub returns-clause-constrain : goal.returns-clause-constrain
returns-clause-constrain c h = h.may_add.fits not_equal.clashes

pub returns-clause-settle : goal.returns-clause-settle
returns-clause-settle c = record {
  may_keep = record { recorded = refl; unsettled = refl; settling = record { is_entry = λ e. absurd cc; is_class_member = λ e. absurd cc } };
  answered = record { made = made_of_service; resolved = resolution_of_service; answered = inl (refl, inl (refl, inl (refl, inl (refl, inr (not_equal, refl))))) };
}

-- kid is joined with plug through app
through : Joined (state_after start across).equalities (codes "p/T") kid plug
through = record {
  path = app ∷ plug ∷ [];
  along = (
    record { equality = record { name = codes "p/T"; one = app; other = kid }; imposed = (1, omega arith, refl); named = refl; ends = inr (refl, refl) },
    (record { equality = record { name = codes "p/T"; one = app; other = plug }; imposed = (0, omega arith, refl); named = refl; ends = inl (refl, refl) }, refl),
  );
}

pub returns-clause-own_load : goal.returns-clause-own_load
returns-clause-own_load c = record {
  scheduled = _;
  asked = refl;
  in_round = refl;
  unposted = refl;
  fits = record {
    answers = record {
      plan = the (plan three_users 3 (resolve_of kid "p/T" 1));
      planned = record { height = 3; planned = refl };
      answered = inl (refl, inl (refl, inr (refused_record (state_after start across) (codes "p/T") kid plug kid plug refl through refl (λ e. absurd cc), refl)));
    };
    rests = λ d past a. absurd (missing past.1.1.1.0);
  };
}

use Rattle.std.proofs.Common.{◌≡◌, inl, inr, refl, codes, [], ◌∷◌, arith}
use Rattle.cl_model.specs.States.{Equal, Refused}
use Rattle.cl_model.specs.Plans.{plan}
use Rattle.cl_model.specs.Examples.{app, plug, kid}
use Rattle.cl_model.specs.ExampleReferences.{three_users}
use Rattle.cl_model.specs.ExampleRuns.{both_users_defined, of_use, standing_after}
use Rattle.cl_model.proofs.Refusals.{the}
use Rattle.cl_model.proofs.Served.{joined_in_pair}
use Rattle.cl_model.proofs.further_examples.refused_through_third.Goals as goal

-- kid is none of the two loaders that the equality joins, and records another class than plug
not_equal : Refused (standing_after both_users_defined) (Equal (codes "p/T") app kid)
not_equal = record {
  unmet = λ j. elim (joined_in_pair plug app kid (inl refl) j) [
    | inl e ↦ absurd (let same : kid ≡ app = e in cc)
    | inr e ↦ absurd (let same : kid ≡ plug = e in cc)
  ];
  clashes = record {
    one = plug;
    place = plug;
    joined = record { path = plug ∷ []; along = (record { equality = record { name = codes "p/T"; one = app; other = plug }; imposed = (0, omega arith, refl); named = refl; ends = inl (refl, refl) }, refl) };
    recorded_there = refl;
    differs = record { other = kid; other_place = kid; joined = record { path = []; along = refl }; recorded_there = refl; differ = λ e. absurd cc };
  };
}

pub returns : goal.returns
returns c = record {
  plan = the (plan three_users 3 (of_use kid));
  planned = record { height = 3; planned = refl };
  answered = inl (refl, inl (refl, inl (refl, inl (refl, inl (refl, inl (refl, inl (refl, inr (not_equal, refl))))))));
}

use Rattle.std.proofs.Common.{◌≡◌, ◌⊎◌, ℕ, Some, inl, inr, refl, codes, subst}
use Rattle.cl_model.specs.States.{start, recorded_definer}
use Rattle.cl_model.specs.Machine.{state_after}
use Rattle.cl_model.specs.Examples.{app, kid}
use Rattle.cl_model.specs.ExampleRuns.{joined_with_kid}
use Rattle.cl_model.proofs.Refusals.{missing}
use Rattle.cl_model.proofs.Served.{joined_in_pair}
use Rattle.cl_model.proofs.examples.same_class_joined.Goals as goal

-- whom the equality joins with kid is kid or app, and app records its own
is_recorded : (l place : ℕ) → (l ≡ app) ⊎ (l ≡ kid) → recorded_definer (state_after start joined_with_kid).records l (codes "p/T") ≡ Some place → app ≡ place
is_recorded l place (inl e) r = at_app (subst (λ (x : ℕ). recorded_definer (state_after start joined_with_kid).records x (codes "p/T") ≡ Some place) e r)
  where
    at_app : Some app ≡ Some place → app ≡ place
    at_app h = cc
is_recorded l place (inr e) r = absurd (missing (subst (λ (x : ℕ). recorded_definer (state_after start joined_with_kid).records x (codes "p/T") ≡ Some place) e r))

pub returns : goal.returns
returns c = record {
  found = refl;
  not_own = λ e. absurd cc;
  defined = refl;
  may_add = record {
    unmet = λ e. missing e;
    fits = λ d. d.differ (is_recorded d.other d.other_place (joined_in_pair kid kid d.other (inr refl) d.joined) d.recorded_there);
  };
}

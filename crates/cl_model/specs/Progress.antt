-- How far steps take the service of one request, whatever the others among them do.
use Rattle.std.specs.Prelude.{◌≡◌, ◌⊎◌, ℕ, suc, List, [], ◌∷◌}
use Rattle.cl_model.specs.States.{State}
use Rattle.cl_model.specs.Plans.{Request}
use Rattle.cl_model.specs.Machine.{Setting, Step, after}
use Rattle.cl_model.specs.Service.{IsNextStep}

-- so many of these steps were the next one of a request's service where they were made, and the others whatever they were
abbrev pub TakesSteps : Setting → Request → ℕ → State → List Step → Type 0
TakesSteps g r n s [] = n ≡ 0
TakesSteps g r n s (e ∷ es) = ((m : ℕ) × (n ≡ suc m) × IsNextStep g s r e
    × TakesSteps g r m (after s e) es) ⊎ TakesSteps g r n (after s e) es

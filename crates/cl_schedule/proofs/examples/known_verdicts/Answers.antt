use Rattle.std.proofs.Common.{[], ◌∷◌, inl, inr, refl, codes}
use Rattle.cl_model.specs.Examples.{boot, in_boot}
use Rattle.cl_model.specs.Machine.{Define}
use Rattle.cl_model.specs.States.{IsClass, SourceFault}
use Rattle.cl_schedule.specs.Known.{SaysOrLacks}
use Rattle.cl_schedule.proofs.examples.known_verdicts.Goals as goal

neither : SaysOrLacks (IsClass (in_boot "p/T")) (SourceFault (codes "p/T") boot) → ⊥
neither (inl e) = absurd cc
neither (inr e) = absurd cc

pub returns-clause-stays : goal.returns-clause-stays
returns-clause-stays c at h = neither (h (Define (in_boot "p/T") ∷ []) [] [] 0 1 _ _ _ _ refl refl (in_boot "p/T", (refl, refl), refl))

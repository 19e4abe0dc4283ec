use Rattle.std.proofs.Common.{◌≡◌, ◌⊎◌, ℕ, List, [], ◌∷◌, Some, None, inl, inr, refl, codes}
use Rattle.cl_model.specs.Classes.{EndsInCircle, NoClassDef, ClassNotFound, ClassCircularity}
use Rattle.cl_model.specs.Examples.{app, boot, in_app, in_boot, under}
use Rattle.cl_model.specs.ExampleLoads.{circle}
use Rattle.cl_model.specs.States.{Need, BadEntry, Wrong, Linkage, IsLinkageError}
use Rattle.cl_model.proofs.Refusals.{missing}
use Rattle.cl_schedule.proofs.examples.broken_answers.Goals as goal

no_bytes : {bytes : List ℕ} → None ≡ Some bytes → ⊥
no_bytes e = cc

pub returns-clause-spelt : goal.returns-clause-spelt
returns-clause-spelt c at h = no_bytes (h (in_boot "p/T") refl).1.told_so

pub returns-clause-alike : goal.returns-clause-alike
returns-clause-alike c at h = absurd (let e : Wrong (ClassNotFound (in_boot "p/T")) ≡ Wrong (NoClassDef (in_boot "p/T")) = h 0 1 _ _ _ (record { asked = refl; answered = refl }) (record { asked = refl; answered = refl }) in cc)

pub returns-clause-references : goal.returns-clause-references
returns-clause-references c at h = absurd (let e : Wrong (NoClassDef (in_boot "p/T")) ≡ BadEntry = h 0 1 (in_boot "p/T") 1 _ _ (record { loader = boot; name = codes "p/T"; says = record { asked = refl; answered = refl }; kept = (refl, refl) }) (record { loader = app; name = codes "p/T"; says = record { asked = refl; answered = refl }; kept = (refl, refl) }) in cc)

pub returns-clause-no_circle : goal.returns-clause-no_circle
returns-clause-no_circle c at h = missing ((h 0 boot (codes "p/T") _ (record { asked = refl; answered = refl })).only (in_boot "p/T") refl).found

-- p/A is under p/B, which is under p/A
returns_to_a : EndsInCircle circle app (codes "p/A") (in_app "p/A")
returns_to_a = record {
  place = app;
  found = refl;
  returns = record {
    steps = in_app "p/B" ∷ in_app "p/A" ∷ [];
    along = (
      refl,
      (under "p/A" "p/B", refl, inl (record { place = app; found = refl; holds = refl })),
      (refl, (under "p/B" "p/A", refl, inl (record { place = app; found = refl; holds = refl })), (refl, refl)),
    );
  };
}

not_refused : {n : Need} → Wrong (NoClassDef (in_app "p/A")) ≡ Linkage n → ⊥
not_refused e = cc

neither : (Wrong (NoClassDef (in_app "p/A")) ≡ Wrong (ClassCircularity (in_app "p/A"))) ⊎ IsLinkageError (Wrong (NoClassDef (in_app "p/A"))) → ⊥
neither (inl e) = absurd cc
neither (inr l) = not_refused l.1

pub returns-clause-circle : goal.returns-clause-circle
returns-clause-circle c h = neither (h.there (in_app "p/A") returns_to_a)

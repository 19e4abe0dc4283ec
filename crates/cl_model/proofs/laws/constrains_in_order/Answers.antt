use Rattle.std.proofs.Common.{◌≡◌, List, [], ◌∷◌, ◌++◌, inl, inr, refl, ap, subst}
use Rattle.cl_model.specs.States.{State, Need, Equal, AllMet, IsNext}
use Rattle.cl_model.specs.Machine.{AreOfRecorded}
use Rattle.cl_model.proofs.laws.constrains_in_order.Goals as goal
use Rattle.cl_model.proofs.Aims.{next_right}

-- what is next stands behind needs that are met
place : (s : State) (ns : List Need) (n : Need) → IsNext s ns n → (before : List Need) × (behind : List Need) × (ns ≡ before ++ n ∷ behind) × AllMet s before
place s [] n h = absurd h
place s (x ∷ xs) n (inl e) = ([], xs, ap (λ (y : Need). y ∷ xs) e, tt)
place s (x ∷ xs) n (inr h) = let p = place s xs n h.1 in (x ∷ p.0, p.1, ap (λ (ys : List Need). x ∷ ys) p.2, (h.0, p.3))

pub returns : goal.returns
returns c = λ g s name one other. (
  λ may. let p = place s may.needs (Equal name one other) may.next in (p.0, p.1, subst (λ (ns : List Need). AreOfRecorded g s ns) p.2 may.imposes, p.3, may.may_add),
  λ h. record {
    needs = h.0 ++ Equal name one other ∷ h.1;
    imposes = h.2;
    next = next_right s h.0 (Equal name one other ∷ h.1) (Equal name one other) h.3 (inl refl);
    may_add = h.4;
  },
)

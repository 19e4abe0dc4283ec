-- What the examples' answers rest on.
use Rattle.std.proofs.Common.{◌≡◌, ◌≢◌, ℕ, List, [], ◌∷◌, Option, Some, None, refl, sym, subst, ◌∙◌, ◌<◌, arith}
use Rattle.std.specs.Prelude.{Contains}
use Rattle.cl_classfile.specs.Files.{Name}
use Rattle.cl_model.specs.States.{State, Entry, Equal, BadEntry, Refused, Equality, Joined, IsPathBetween, recorded_definer}
use Rattle.cl_model.specs.Plans.{Plan}

-- a plan that computes
abbrev pub the : Option Plan → Plan
the None = record { own = []; more = []; asked = []; reached = None; ends = BadEntry }
the (Some p) = p

pub no_equality : (e : Equality) → Contains [] e → ⊥
no_equality e h = absurd (let l : h.0 < 0 = h.1 in omega arith)

-- without an equality two loaders are not joined
pub apart : (name : Name) (a b : ℕ) → a ≢ b → (path : List ℕ) → IsPathBetween [] name a path b → ⊥
apart name a b differ [] h = differ h
apart name a b differ (c ∷ cs) h = no_equality h.0.equality h.0.imposed

-- an equality without which two loaders with different records are not joined is refused
pub refused_equal : (s : State) (name : Name) (a b p q : ℕ) → s.equalities ≡ [] → a ≢ b → recorded_definer s.records a name ≡ Some p → recorded_definer s.records b name ≡ Some q → p ≢ q → Refused s (Equal name a b)
refused_equal s name a b p q none differ r t d = record {
  unmet = λ h. apart name a b differ h.path (subst (λ (ks : List Equality). IsPathBetween ks name a h.path b) none h.along);
  clashes = record {
    one = a;
    place = p;
    joined = record { path = []; along = refl };
    recorded_there = r;
    differs = record { other = b; other_place = q; joined = record { path = []; along = refl }; recorded_there = t; differ = d };
  };
}

pub missing : {x : ℕ} → None ≡ Some x → ⊥
missing h = cc

-- a record is refused where a joined loader has another
pub refused_record : (s : State) (name : Name) (a b p q : ℕ) → recorded_definer s.records a name ≡ None → Joined s.equalities name a b → recorded_definer s.records b name ≡ Some q → p ≢ q → Refused s (Entry a name p)
refused_record s name a b p q fresh j t d = record {
  unmet = λ h. missing (sym fresh ∙ h);
  clashes = record { other = b; other_place = q; joined = j; recorded_there = t; differ = d };
}

-- Where a loader records a name, its whole load stands, and the class is the answer.
use Rattle.std.proofs.Common.{◌≡◌, inl, inr, ℕ, ◌==◌, List, [], ◌∷◌, ◌++◌, Option, Some, None, Result, Ok, Err, refl, sym, ap, subst, ◌∙◌}
use Rattle.std.specs.Prelude.{option_and_then}
use Rattle.cl_classfile.specs.Files.{Name}
use Rattle.cl_model.specs.Homes.{World, home}
use Rattle.cl_model.specs.declared.class.Class.{Class}
use Rattle.cl_model.specs.Classes.{class, Error, ClassNotFound}
use Rattle.cl_model.specs.Lineages.{Kin}
use Rattle.cl_model.specs.States.{State, Need, Entry, Verdict, IsClass, Wrong, Met, AllMet, recorded_definer, IsRecorded}
use Rattle.cl_model.specs.Works.{Made}
use Rattle.cl_model.specs.Plans.{initiating_needs, derive, load, Request, Load, Plan, plan_from}
use Rattle.cl_model.specs.Machine.{Setting, Answers, AnswersPlan, IsClosed}
use Rattle.cl_model.proofs.Bind.{ok_not_err, ok_same, some_same, none_not_some}
use Rattle.cl_model.proofs.Derived.{load_ok}
use Rattle.cl_model.proofs.Obstacles.{load_err}
use Rattle.cl_model.proofs.Complete.{good_is_derived}
use Rattle.cl_model.proofs.Circles.{one_derivation}
use Rattle.cl_model.proofs.Ending.{enough, derive_enough, load_done}
use Rattle.cl_model.proofs.Trees.{derive_gives}
use Rattle.cl_model.proofs.Closed.{met_both, initiating_met, recorded_is_met}

-- what a load of a recorded name ends in
pub record LoadStands (s : State) (name : Name) (place : ℕ) (m : Made Kin) : Type 0 where
  pub kin : Kin
  pub ends : m.ends ≡ Ok kin
  pub is_class : kin.class ≡ class name place
  pub met : AllMet s m.needs

pub load_stands : (w : World) (s : State) (n : ℕ) (absent : Class → Error) (loader place : ℕ) (name : Name) (m : Made Kin) → IsClosed w s → recorded_definer s.records loader name ≡ Some place → load w n absent loader name ≡ Some m → LoadStands s name place m
load_stands w s n absent loader place name m closed h e =
    let own : IsRecorded s (class name place) = closed.own loader place name h in
    let good = closed.good (class name place) own in
    let d = good_is_derived w good.0 (class name place) good.1 in
    at m.ends refl own d.0 d.1 good.0 d.2 d.3
  where
    at : (r : Result Kin Error) → m.ends ≡ r → IsRecorded s (class name place) → (x : Made Kin) (k : Kin) (g : ℕ) → derive w g [] (class name place) ≡ Some x → x.ends ≡ Ok k → LoadStands s name place m
    at (Ok k) r own x y g p q =
        let l = load_ok w (derive w n []) absent loader name m k e r in
        let same : l.place ≡ place = some_same _ _ (sym l.found ∙ closed.homes loader place name h) in
        let made : derive w n [] (class name place) ≡ Some l.below = subst (λ (z : ℕ). derive w n [] (class name z) ≡ Some l.below) same l.made in
        record {
          kin = k;
          ends = r;
          is_class = (derive_gives w n [] (class name place) l.below k made l.ends).0;
          met = subst (λ (z : List Need). AllMet s z) (sym (l.needs ∙ ap (λ (z : ℕ). l.below.needs ++ (initiating_needs loader name z ++ [])) same))
              (met_both s l.below.needs (initiating_needs loader name place ++ []) (recorded_is_met w s n [] (class name place) l.below k closed own made l.ends) (initiating_met s loader place name (loader == place) h));
        }
    at (Err x) r own d k g p q = elim (load_err w (derive w n []) absent loader name m x e r) [
      | inl z ↦ absurd (none_not_some (home w loader name) z.0 (closed.homes loader place name h))
      | inr z ↦
          let same : z.place ≡ place = some_same _ _ (sym z.found ∙ closed.homes loader place name h) in
          let made : derive w n [] (class name place) ≡ Some z.below = subst (λ (y : ℕ). derive w n [] (class name y) ≡ Some z.below) same z.made in
          absurd (ok_not_err k x z.below.ends (ap (λ (y : Made Kin). y.ends) (one_derivation w n g [] (class name place) z.below d made p) ∙ q) z.ends)
    ]

pub answers_met : (s : State) (ns : List Need) (ends v : Verdict) → AllMet s ns → v ≡ ends → Answers s ns ends v
answers_met s [] ends v h e = e
answers_met s (n ∷ ns) ends v h e = inl (h.0, answers_met s ns ends v h.1 e)

pub planned_at : (w : World) (n : ℕ) (q : Request) (m : Made Kin) (o : Option (Made Kin)) (p : Plan) → o ≡ Some m → plan_from w n q m ≡ Some p → option_and_then (plan_from w n q) o ≡ Some p
planned_at w n q m None p h k = absurd cc
planned_at w n q m (Some x) p h k = let same : x ≡ m = cc in subst (λ (z : Made Kin). plan_from w n q z ≡ Some p) (sym same) k

-- the plan of a load that ends in a class
abbrev pub loading : Made Kin → Class → Plan
loading m c = record { own = m.needs; more = []; asked = m.asked ++ []; reached = Some c; ends = IsClass c }

pub loads : (w : World) (n : ℕ) (loader : ℕ) (name : Name) (m : Made Kin) (k : Kin) → m.ends ≡ Ok k → plan_from w n (Load loader name) m ≡ Some (loading m k.class)
loads w n loader name m k h = at m.ends h
  where
    at : (r : Result Kin Error) → r ≡ Ok k → (elim r as (λ x. Option Plan) [
      | Err e ↦ Some (record { own = m.needs; more = []; asked = m.asked; reached = None; ends = Wrong e })
      | Ok x ↦ Some (loading m x.class)
    ]) ≡ Some (loading m k.class)
    at (Err e) h = absurd cc
    at (Ok x) h = let same : x ≡ k = ok_same x k (Ok x) refl h in ap (λ (z : Kin). Some (loading m z.class)) same

-- the class that a loader records is the answer of the load
pub recorded_answers : (g : Setting) (s : State) (loader place : ℕ) (name : Name) → IsClosed g.world s → recorded_definer s.records loader name ≡ Some place → AnswersPlan g s (Load loader name) (IsClass (class name place))
recorded_answers g s loader place name closed h =
    let w = g.world in
    let d = load_done w (derive w (enough w) []) (derive_enough w) ClassNotFound loader name in
    let l = load_stands w s (enough w) ClassNotFound loader place name d.0 closed h d.1 in
    record {
      plan = loading d.0 l.kin.class;
      planned = record { height = enough w; planned = planned_at w (enough w) (Load loader name) d.0 (load w (enough w) ClassNotFound loader name) (loading d.0 l.kin.class) d.1 (loads w (enough w) loader name d.0 l.kin l.ends) };
      answered = answers_met s (d.0.needs ++ []) (IsClass l.kin.class) (IsClass (class name place)) (met_both s d.0.needs [] l.met tt) (ap (λ (c : Class). IsClass c) (sym l.is_class));
    }

-- a record that is wanted with its home and does not stand is fresh
pub unmet_is_fresh : (w : World) (s : State) (loader place : ℕ) (name : Name) → IsClosed w s → home w loader name ≡ Some place → (Met s (Entry loader name place) → ⊥) → recorded_definer s.records loader name ≡ None
unmet_is_fresh w s loader place name closed f unmet = at (recorded_definer s.records loader name) refl
  where
    at : (o : Option ℕ) → recorded_definer s.records loader name ≡ o → o ≡ None
    at None h = refl
    at (Some p) h = absurd (unmet (h ∙ sym (closed.homes loader p name h) ∙ f))

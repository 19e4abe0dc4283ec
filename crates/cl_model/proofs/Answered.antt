-- A load is answered a circle exactly where its home is circular, needs that are refused aside.
use Rattle.std.proofs.Common.{◌≡◌, ◌⊎◌, inl, inr, ℕ, List, [], ◌∷◌, ◌++◌, Option, Some, None, Result, Ok, Err, refl, sym, ap, ◌∙◌}
use Rattle.std.specs.Prelude.{option_and_then}
use Rattle.cl_classfile.specs.Files.{Name}
use Rattle.cl_model.specs.Homes.{World}
use Rattle.cl_model.specs.declared.class.Class.{Class}
use Rattle.cl_model.specs.Classes.{class, Error, ClassNotFound, ClassCircularity, EndsInCircle}
use Rattle.cl_model.specs.Lineages.{Kin}
use Rattle.cl_model.specs.States.{State, Need, Verdict, IsClass, Wrong, Linkage, IsLinkageError}
use Rattle.cl_model.specs.Works.{Made}
use Rattle.cl_model.specs.Plans.{derive, load, Request, Load, Plan, plan_from, plan_needs}
use Rattle.cl_model.specs.Machine.{Setting, Answers, AnswersPlan, IsPlan}
use Rattle.cl_model.proofs.Obstacles.{load_err}
use Rattle.cl_model.proofs.Circles.{load_ill, circle_returns, return_is_derived}
use Rattle.cl_model.proofs.Planned.{one_plan}
use Rattle.cl_model.proofs.Looks.{planned_at}
use Rattle.cl_model.proofs.Bind.{err_same}

-- the plan of a load that ends in an error
abbrev stopped_plan : Made Kin → Error → Plan
stopped_plan m e = record { own = m.needs; more = []; asked = m.asked; reached = None; ends = Wrong e }

stops : (w : World) (n l : ℕ) (name : Name) (m : Made Kin) (e : Error) → m.ends ≡ Err e → plan_from w n (Load l name) m ≡ Some (stopped_plan m e)
stops w n l name m e h = at m.ends h
  where
    at : (r : Result Kin Error) → r ≡ Err e → (elim r as (λ x. Option Plan) [
      | Err d ↦ Some (stopped_plan m d)
      | Ok x ↦ Some (record { own = m.needs; more = []; asked = m.asked ++ []; reached = Some x.class; ends = IsClass x.class })
    ]) ≡ Some (stopped_plan m e)
    at (Err d) h = ap (λ (z : Error). Some (stopped_plan m z)) (err_same {A = Kin} d e (Err d) refl h)
    at (Ok x) h = absurd cc

-- an answer is the end of the plan, or a need that is refused
end_or_refused : (s : State) (ns : List Need) (ends v : Verdict) → Answers s ns ends v → (v ≡ ends) ⊎ ((n : Need) × (v ≡ Linkage n))
end_or_refused s [] ends v h = inl h
end_or_refused s (n ∷ ns) ends v (inl h) = end_or_refused s ns ends v h.1
end_or_refused s (n ∷ ns) ends v (inr h) = inr (n, h.1)

-- the load that a plan was made of
load_of : (w : World) (n : ℕ) (q : Request) (o : Option (Made Kin)) (p : Plan) → option_and_then (plan_from w n q) o ≡ Some p → (m : Made Kin) × (o ≡ Some m) × (plan_from w n q m ≡ Some p)
load_of w n q None p h = absurd cc
load_of w n q (Some m) p h = (m, refl, h)

wrong_same : (e d : Error) → Wrong e ≡ Wrong d → e ≡ d
wrong_same e d h = cc

not_circle : (c x : Class) → ClassCircularity x ≡ ClassNotFound c → ⊥
not_circle c x h = cc

class_not_wrong : (c : Class) (e : Error) → IsClass c ≡ Wrong e → ⊥
class_not_wrong c e h = cc

plan_same : (x y : Plan) → Some x ≡ Some y → x ≡ y
plan_same x y h = cc

-- a plan of a load that ends in an error is of a load that does
load_wrong : (w : World) (n l : ℕ) (name : Name) (m : Made Kin) (p : Plan) (e : Error) → plan_from w n (Load l name) m ≡ Some p → p.ends ≡ Wrong e → m.ends ≡ Err e
load_wrong w n l name m p e h k = at m.ends refl h
  where
    at : (r : Result Kin Error) → m.ends ≡ r → (elim r as (λ x. Option Plan) [
      | Err d ↦ Some (stopped_plan m d)
      | Ok x ↦ Some (record { own = m.needs; more = []; asked = m.asked ++ []; reached = Some x.class; ends = IsClass x.class })
    ]) ≡ Some p → m.ends ≡ Err e
    at (Err d) r h = r ∙ ap (λ (z : Error). Err z) (wrong_same d e (ap (λ (z : Plan). z.ends) (plan_same _ p h) ∙ k))
    at (Ok x) r h = absurd (class_not_wrong x.class e (ap (λ (z : Plan). z.ends) (plan_same _ p h) ∙ k))

pub circle_is_answered : (g : Setting) (s : State) (l : ℕ) (name : Name) (x : Class) → AnswersPlan g s (Load l name) (Wrong (ClassCircularity x)) → EndsInCircle g.world l name x
circle_is_answered g s l name x a = elim (end_or_refused s (plan_needs a.plan) a.plan.ends (Wrong (ClassCircularity x)) a.answered) [
  | inr h ↦ absurd (let e : Wrong (ClassCircularity x) ≡ Linkage h.0 = h.1 in cc)
  | inl h ↦
      let w = g.world in
      let n = a.planned.height in
      let m = load_of w n (Load l name) (load w n ClassNotFound l name) a.plan a.planned.planned in
      elim (load_err w (derive w n []) ClassNotFound l name m.0 (ClassCircularity x) m.1 (load_wrong w n l name m.0 a.plan (ClassCircularity x) m.2 (sym h))) [
        | inl k ↦ absurd (not_circle (class name l) x k.1)
        | inr k ↦ record { place = k.place; found = k.found; returns = circle_returns w n [] (class name k.place) k.below x k.made k.ends }
      ]
]

pub circular_is_answered : (g : Setting) (s : State) (l : ℕ) (name : Name) (x : Class) (v : Verdict) → EndsInCircle g.world l name x → AnswersPlan g s (Load l name) v → (v ≡ Wrong (ClassCircularity x)) ⊎ IsLinkageError v
circular_is_answered g s l name x v circle a =
    let w = g.world in
    let e = ClassCircularity x in
    let d = return_is_derived w (class name circle.place) x circle.returns in
    let k = load_ill w (derive w d.0 []) e ClassNotFound l name circle.place circle.found (record { made = d.1; is = d.2; ends = d.3 }) in
    let planned : IsPlan w (Load l name) (stopped_plan k.made e) = record { height = d.0; planned = planned_at w d.0 (Load l name) k.made (load w d.0 ClassNotFound l name) (stopped_plan k.made e) k.is (stops w d.0 l name k.made e k.ends) } in
    let ends : a.plan.ends ≡ Wrong e = ap (λ (p : Plan). p.ends) (one_plan w (Load l name) a.plan (stopped_plan k.made e) a.planned planned) in
    elim (end_or_refused s (plan_needs a.plan) a.plan.ends v a.answered) [ inl z ↦ inl (z ∙ ends) | inr z ↦ inr z ]

-- Plans that go on past their load, and what a service comes to there.
use Rattle.std.proofs.Common.{append-nil, ◌≡◌, ◌⊎◌, inl, inr, ℕ, Bool, true, false, ◌||◌, List, [], ◌∷◌, ◌++◌, flat_map, Option, Some, None, Result, Ok, Err, refl, sym, ap, subst, ◌∙◌}
use Rattle.std.specs.Prelude.{option_map, Contains}
use Rattle.std.specs.List.{AllByRecursion}
use Rattle.cl_descriptors.proofs.Codec.{map_some, then_some}
use Rattle.cl_classfile.specs.Files.{Name}
use Rattle.cl_model.specs.Homes.{World}
use Rattle.cl_model.specs.declared.class.Class.{Class}
use Rattle.cl_model.specs.Classes.{class, same_class, is_among, Error, ClassNotFound}
use Rattle.cl_model.specs.Lineages.{Kin, classes, lineage}
use Rattle.cl_model.specs.Preparation.{constraints_of}
use Rattle.cl_model.specs.States.{State, Need, Entry, Verdict, IsClass, IsLinked, Wrong, Linkage, recorded_definer, Met, AllMet, MayAdd, IsNext, Refused}
use Rattle.cl_model.specs.Works.{Made}
use Rattle.cl_model.specs.Plans.{load, Request, Load, Resolve, Link, loaded_by, go_on_with, Plan, plan_after, plan_from, plan_needs, ending_verdict}
use Rattle.cl_model.specs.Machine.{Setting, HasLineage, IsPlan, IsClosed, Answers, AnswersPlan, MaySay, RestsOn, step_for}
use Rattle.cl_model.specs.Service.{Want, ToStand, ToPrepare, FulfilsAll, IsFirst, to_stand, to_link, WantsPast, HasWants, IsNextNeed, IsNextStep, IsLinkedIn, ComesTo}
use Rattle.cl_model.specs.Frames.{EndsHere}
use Rattle.cl_model.specs.Tables.{Records, Bears}
use Rattle.cl_model.specs.References.{GoesThrough, PlanGoesOn}
use Rattle.cl_model.proofs.Ancestors.{lineage_has}
use Rattle.cl_model.proofs.Bind.{some_same, step_is, none_not_some}
use Rattle.cl_model.proofs.Closed.{met_both}
use Rattle.cl_model.proofs.Complete.{is_class}
use Rattle.cl_model.proofs.Looks.{answers_met}
use Rattle.cl_model.proofs.Pieces.{fulfilled_of, first_right, first_left, linked_of, links_first}
use Rattle.cl_model.proofs.Planned.{one_plan, one_lineage, one_resolution, plan_exists}
use Rattle.cl_model.proofs.Progress.{IsEquality, never_both, next_is, flat_are, constraints_are, next_split}
use Rattle.cl_model.proofs.Reached.{reached}
use Rattle.cl_model.proofs.Service.{to_stand_both, next_is_first, answers_over, need_next, load_wants, resolve_wants}
use Rattle.cl_model.proofs.Tables.{EndsFor, ends_for, answered_records, end_or_refused, recorded_reached, reached_records, refused_no_class, wrong_no_class, one_class, refused_not_linked, wrong_not_linked, one_linked}
use Rattle.cl_model.proofs.Trees.{derive_gives}
use Rattle.cl_model.proofs.Aims.{next_left, next_right}
use Rattle.cl_model.proofs.Derived.{all_both}

-- ---- plans whose request's class is recorded

pub load_goes_on : (w : World) (s : State) (loader place : ℕ) (name : Name) → IsClosed w s → recorded_definer s.records loader name ≡ Some place → PlanGoesOn w s (Load loader name) (class name place) [] (IsClass (class name place))
load_goes_on w s loader place name closed rec =
    let q = Load loader name in
    let p = plan_exists w q in
    let at = recorded_reached w s q p.0 place closed p.1 rec in
    let x = reached w p.1.height q p.0 (class name place) p.1.planned at.0 in
    let rest = step_is _ x.rest x.goes_on in
    record {
      plan = p.0;
      planned = p.1;
      past = at;
      before = [];
      met = tt;
      more = ap (λ (y : Plan). y.more) x.is ∙ rest.0;
      ends = ap (λ (y : Plan). y.ends) x.is ∙ ap (λ (e : Result Verdict Error). ending_verdict e) rest.1 ∙ ap (λ (c : Class). IsClass c) x.class_is;
    }

pub resolve_goes_on : (w : World) (s : State) (loader place i : ℕ) (name : Name) (m : Made Verdict) → IsClosed w s → recorded_definer s.records loader name ≡ Some place → GoesThrough w s (class name place) i m
    → PlanGoesOn w s (Resolve loader name i) (class name place) m.needs (ending_verdict m.ends)
resolve_goes_on w s loader place i name m closed rec goes =
    let q = Resolve loader name i in
    let d = class name place in
    let p = plan_exists w q in
    let at = recorded_reached w s q p.0 place closed p.1 rec in
    let x = reached w p.1.height q p.0 d p.1.planned at.0 in
    let same : x.rest ≡ goes.made = one_resolution w d i x.rest goes.made (record { kin = x.kin; above = x.lineage; height = p.1.height; made = x.goes_on }) goes.resolution in
    record {
      plan = p.0;
      planned = p.1;
      past = at;
      before = goes.before;
      met = goes.met;
      more = ap (λ (y : Plan). y.more) x.is ∙ ap (λ (y : Made Verdict). y.needs) same ∙ goes.needs;
      ends = ap (λ (y : Plan). y.ends) x.is ∙ ap (λ (y : Made Verdict). ending_verdict y.ends) same ∙ ap (λ (e : Result Verdict Error). ending_verdict e) goes.ends;
    }

pub link_goes_on : (w : World) (s : State) (loader place : ℕ) (name : Name) (k : Kin) → IsClosed w s → recorded_definer s.records loader name ≡ Some place → HasLineage w (class name place) k
    → PlanGoesOn w s (Link loader name) (class name place) (flat_map constraints_of (lineage k)) (IsLinked (class name place))
link_goes_on w s loader place name k closed rec lin =
    let q = Link loader name in
    let d = class name place in
    let p = plan_exists w q in
    let at = recorded_reached w s q p.0 place closed p.1 rec in
    let x = reached w p.1.height q p.0 d p.1.planned at.0 in
    let same : x.kin ≡ k = one_lineage w d x.kin k x.lineage lin in
    let rest = step_is _ x.rest x.goes_on in
    record {
      plan = p.0;
      planned = p.1;
      past = at;
      before = [];
      met = tt;
      more = ap (λ (y : Plan). y.more) x.is ∙ rest.0 ∙ append-nil (flat_map constraints_of (lineage x.kin)) ∙ ap (λ (y : Kin). flat_map constraints_of (lineage y)) same;
      ends = ap (λ (y : Plan). y.ends) x.is ∙ ap (λ (e : Result Verdict Error). ending_verdict e) rest.1 ∙ ap (λ (c : Class). IsLinked c) x.class_is;
    }

-- ---- where they end, and how they go on

pub gone_on_ends : (w : World) (s : State) (r : Request) (c : Class) (needs : List Need) (v : Verdict) → PlanGoesOn w s r c needs v → AllMet s needs → EndsHere w s r v
gone_on_ends w s r c needs v goes all = record {
  plan = goes.plan;
  planned = goes.planned;
  met = met_both s goes.plan.own goes.plan.more goes.past.1 (subst (λ (ns : List Need). AllMet s ns) (sym goes.more) (met_both s goes.before needs goes.met all));
  ends = goes.ends;
}

pub gone_on_next : (w : World) (s : State) (r : Request) (c : Class) (needs : List Need) (v : Verdict) (n : Need) → PlanGoesOn w s r c needs v → IsNext s needs n → IsNextNeed w s r n
gone_on_next w s r c needs v n goes h = record {
  plan = goes.plan;
  planned = goes.planned;
  next = next_right s goes.plan.own goes.plan.more n goes.past.1 (subst (λ (ns : List Need). IsNext s ns n) (sym goes.more) (next_right s goes.before needs n goes.met h));
}

-- ---- links

pub linked_imposed : (s : State) (ks : List Kin) → AllByRecursion (IsLinkedIn s) ks → AllMet s (flat_map constraints_of ks)
linked_imposed s [] all = tt
linked_imposed s (k ∷ ks) all = met_both s (constraints_of k) (flat_map constraints_of ks) all.0.imposed (linked_imposed s ks all.1)

fulfils_both : (s : State) (xs ys : List Want) → FulfilsAll s xs → FulfilsAll s ys → FulfilsAll s (xs ++ ys)
fulfils_both s [] ys a b = b
fulfils_both s (x ∷ xs) ys a b = (a.0, fulfils_both s xs ys a.1 b)

links_fulfilled : (s : State) (ks : List Kin) → AllByRecursion (IsLinkedIn s) ks → FulfilsAll s (flat_map to_link ks)
links_fulfilled s [] all = tt
links_fulfilled s (k ∷ ks) all = fulfils_both s (to_link k) (flat_map to_link ks) (linked_of s (constraints_of k) k.class all.0.imposed all.0.prepared) (links_fulfilled s ks all.1)

among_prepared : (s : State) (ks : List Kin) (c : Class) → AllByRecursion (IsLinkedIn s) ks → is_among (classes ks) c ≡ true → Contains s.prepared c
among_prepared s [] c all h = absurd cc
among_prepared s (k ∷ ks) c all h = at (same_class c k.class) refl h (λ e. among_prepared s ks c all.1 e)
  where
    at : (b : Bool) → same_class c k.class ≡ b → (b || is_among (classes ks) c) ≡ true → (is_among (classes ks) c ≡ true → Contains s.prepared c) → Contains s.prepared c
    at true e h others = subst (λ (x : Class). Contains s.prepared x) (sym (is_class c k.class e)) all.0.prepared
    at false e h others = others h

-- what a request to link a recorded class wants
link_wants : (w : World) (s : State) (loader : ℕ) (name : Name) (p : Plan) (c : Class) (k : Kin) → IsPlan w (Link loader name) p → p.reached ≡ Some c → HasLineage w c k → HasWants w (Link loader name) p (to_stand p.own ++ flat_map to_link (lineage k))
link_wants w s loader name p c k is reach lin = record {
  planned = is;
  past = flat_map to_link (lineage k);
  follows = subst (λ (o : Option Class). WantsPast w (Link loader name) p o (flat_map to_link (lineage k))) (sym reach) (k, lin, refl);
  whole = refl;
}

pub link_comes : (g : Setting) (s : State) (loader place : ℕ) (name : Name) (k : Kin) → IsClosed g.world s → recorded_definer s.records loader name ≡ Some place → HasLineage g.world (class name place) k → AllByRecursion (IsLinkedIn s) (lineage k)
    → ComesTo g s (Link loader name) (IsLinked (class name place))
link_comes g s loader place name k closed rec lin all =
    let w = g.world in
    let d = class name place in
    let goes = link_goes_on w s loader place name k closed rec lin in
    let here = gone_on_ends w s (Link loader name) d (flat_map constraints_of (lineage k)) (IsLinked d) goes (linked_imposed s (lineage k) all) in
    let own : k.class ≡ d = (derive_gives w lin.height [] d lin.made k lin.derived lin.ends).0 in
    let prepared : Contains s.prepared d = subst (λ (c : Class). Contains s.prepared c) own (among_prepared s (lineage k) k.class all (lineage_has k)) in
    record {
      plan = goes.plan;
      wants = to_stand goes.plan.own ++ flat_map to_link (lineage k);
      wanted = link_wants w s loader name goes.plan d k goes.planned goes.past.0 lin;
      over = inl (fulfils_both s (to_stand goes.plan.own) (flat_map to_link (lineage k)) (fulfilled_of s goes.plan.own goes.past.1) (links_fulfilled s (lineage k) all));
      may_say = record {
        answers = record {
          plan = here.plan;
          planned = here.planned;
          answered = answers_met s (plan_needs here.plan) here.plan.ends (IsLinked d) here.met (sym here.ends);
        };
        rests = λ c e. subst (λ (x : Class). Contains s.prepared x) (one_linked c d e) prepared;
      };
    }

-- what is next and refused is the answer
pub refused_answer : (s : State) (ns : List Need) (ends : Verdict) (n : Need) → IsNext s ns n → Refused s n → Answers s ns ends (Linkage n)
refused_answer s [] ends n h r = absurd h
refused_answer s (x ∷ ns) ends n (inl e) r = inr (subst (λ (y : Need). Refused s y) (sym e) r, ap (λ (y : Need). Linkage y) (sym e))
refused_answer s (x ∷ ns) ends n (inr h) r = inl (h.0, refused_answer s ns ends n h.1 r)

next_linking : (s : State) (before behind : List Kin) (k : Kin) (n : Need) → AllByRecursion (IsLinkedIn s) before → IsNext s (constraints_of k) n → IsNext s (flat_map constraints_of (before ++ k ∷ behind)) n
next_linking s [] behind k n all h = next_left s (constraints_of k) (flat_map constraints_of behind) n h
next_linking s (b ∷ before) behind k n all h = next_right s (constraints_of b) (flat_map constraints_of (before ++ k ∷ behind)) n all.0.imposed (next_linking s before behind k n all.1 h)

pub link_refusal_comes : (g : Setting) (s : State) (loader place : ℕ) (name : Name) (l k : Kin) (before behind : List Kin) (n : Need) → IsClosed g.world s → recorded_definer s.records loader name ≡ Some place → HasLineage g.world (class name place) l
    → lineage l ≡ before ++ k ∷ behind → AllByRecursion (IsLinkedIn s) before → IsNext s (constraints_of k) n → Refused s n → ComesTo g s (Link loader name) (Linkage n)
link_refusal_comes g s loader place name l k before behind n closed rec lin parts all h refused =
    let w = g.world in
    let d = class name place in
    let goes = link_goes_on w s loader place name l closed rec lin in
    let past = flat_map to_link (lineage l) in
    let next = gone_on_next w s (Link loader name) d (flat_map constraints_of (lineage l)) (IsLinked d) n goes (subst (λ (ks : List Kin). IsNext s (flat_map constraints_of ks) n) (sym parts) (next_linking s before behind k n all h)) in
    record {
      plan = goes.plan;
      wants = to_stand goes.plan.own ++ past;
      wanted = link_wants w s loader name goes.plan d l goes.planned goes.past.0 lin;
      over = inr (
        n,
        first_right s (to_stand goes.plan.own) past (ToStand n) (fulfilled_of s goes.plan.own goes.past.1)
            (subst (λ (ks : List Kin). IsFirst s (flat_map to_link ks) (ToStand n)) (sym parts)
            (links_first s before behind k (ToStand n) all (first_left s (to_stand (constraints_of k)) (ToPrepare k.class ∷ []) (ToStand n) (next_is_first s (constraints_of k) n h)))),
        refused,
      );
      may_say = record {
        answers = record {
          plan = next.plan;
          planned = next.planned;
          answered = refused_answer s (plan_needs next.plan) next.plan.ends n next.next refused;
        };
        rests = λ c e. absurd (refused_not_linked c n e);
      };
    }

-- ---- the end of the load

past_nothing : (w : World) (r : Request) (p : Plan) → WantsPast w r p None (to_stand p.more)
past_nothing w (Load loader name) p = refl
past_nothing w (Resolve loader name i) p = refl
past_nothing w (Link loader name) p = refl

rests_nothing : (w : World) (s : State) (r : Request) (p : Plan) (v : Verdict) → IsPlan w r p → p.reached ≡ None → Answers s (plan_needs p) p.ends v → RestsOn s r p v
rests_nothing w s (Load loader name) p v is none a = tt
rests_nothing w s (Resolve loader name i) p v is none a = λ d past settling. absurd (none_not_some p.reached none past.0)
rests_nothing w s (Link loader name) p v is none a = λ c e. absurd (at c e (ends_for w (Link loader name) p (λ (d : Class). IsLinked d) (λ n k r h. (step_is _ r h).1) is) (end_or_refused s (plan_needs p) p.ends v a))
  where
    at : (c : Class) → v ≡ IsLinked c → EndsFor (λ (d : Class). IsLinked d) p → ((v ≡ p.ends) × AllMet s (plan_needs p)) ⊎ ((n : Need) × (v ≡ Linkage n)) → ⊥
    at c e ends (inr k) = refused_not_linked c k.0 (sym k.1 ∙ e)
    at c e (inl x) (inl k) = none_not_some p.reached none x.1
    at c e (inr x) (inl k) = wrong_not_linked c x.0 (sym x.1 ∙ sym k.0 ∙ e)

pub unreached_comes : (g : Setting) (s : State) (r : Request) (p : Plan) (v : Verdict) → IsPlan g.world r p → p.reached ≡ None → AnswersPlan g s r v → ComesTo g s r v
unreached_comes g s r p v is none a =
    let same : a.plan ≡ p = one_plan g.world r a.plan p a.planned is in
    let answered : Answers s (plan_needs p) p.ends v = subst (λ (y : Plan). Answers s (plan_needs y) y.ends v) same a.answered in
    record {
      plan = p;
      wants = to_stand (plan_needs p);
      wanted = record { planned = is; past = to_stand p.more; follows = subst (λ (o : Option Class). WantsPast g.world r p o (to_stand p.more)) (sym none) (past_nothing g.world r p); whole = to_stand_both p.own p.more };
      over = answers_over s (plan_needs p) p.ends v answered;
      may_say = record { answers = record { plan = p; planned = is; answered = answered }; rests = rests_nothing g.world s r p v is none answered };
    }

-- what a request with this plan wants past its load
past_of : (w : World) (r : Request) (p : Plan) → IsPlan w r p → (past : List Want) × WantsPast w r p p.reached past
past_of w (Load loader name) p is = (to_stand p.more, refl)
past_of w (Resolve loader name i) p is = (to_stand p.more, refl)
past_of w (Link loader name) p is = at p.reached refl
  where
    at : (o : Option Class) → p.reached ≡ o → (past : List Want) × WantsPast w (Link loader name) p p.reached past
    at None e = (to_stand p.more, subst (λ (x : Option Class). WantsPast w (Link loader name) p x (to_stand p.more)) (sym e) refl)
    at (Some c) e =
        let x = reached w is.height (Link loader name) p c is.planned e in
        let past = flat_map to_link (lineage x.kin) in
        (past, subst (λ (y : Option Class). WantsPast w (Link loader name) p y past) (sym e) (x.kin, x.lineage, refl))

next_met : (s : State) (ns : List Need) (n : Need) → AllMet s ns → IsNext s ns n → Met s n
next_met s [] n all h = absurd h
next_met s (x ∷ ns) n all (inl e) = subst (λ (y : Need). Met s y) e all.0
next_met s (x ∷ ns) n all (inr h) = next_met s ns n all.1 h.1

rests_refused : (s : State) (r : Request) (p : Plan) (n : Need) → IsNext s p.own n → Refused s n → RestsOn s r p (Linkage n)
rests_refused s (Load loader name) p n h refused = tt
rests_refused s (Resolve loader name i) p n h refused = λ d past settling. absurd (refused.unmet (next_met s p.own n past.1 h))
rests_refused s (Link loader name) p n h refused = λ c e. absurd (refused_not_linked c n e)

pub load_refusal_comes : (g : Setting) (s : State) (r : Request) (p : Plan) (n : Need) → IsPlan g.world r p → IsNext s p.own n → Refused s n → ComesTo g s r (Linkage n)
load_refusal_comes g s r p n is h refused =
    let past = past_of g.world r p is in
    record {
      plan = p;
      wants = to_stand p.own ++ past.0;
      wanted = record { planned = is; past = past.0; follows = past.1; whole = refl };
      over = inr (n, first_left s (to_stand p.own) past.0 (ToStand n) (next_is_first s p.own n h), refused);
      may_say = record { answers = record { plan = p; planned = is; answered = refused_answer s (plan_needs p) p.ends n (next_left s p.own p.more n h) refused }; rests = rests_refused s r p n h refused };
    }

-- ---- records that come next

-- past its load a link needs equalities alone
link_more : (w : World) (loader : ℕ) (name : Name) (p : Plan) → IsPlan w (Link loader name) p → AllByRecursion IsEquality p.more
link_more w loader name p is =
    let l = then_some (plan_from w is.height (Link loader name)) (load w is.height ClassNotFound loader name) p is.planned in
    at l.0 l.0.ends l.2
  where
    at : (m : Made Kin) (e : Result Kin Error) → (elim e as (λ x. Option Plan) [
      | Err x ↦ Some (record { own = m.needs; more = []; asked = m.asked; reached = None; ends = Wrong x })
      | Ok k ↦ option_map (plan_after m k) (go_on_with w is.height (Link loader name) k)
    ]) ≡ Some p → AllByRecursion IsEquality p.more
    at m (Err x) h = subst (λ (y : Plan). AllByRecursion IsEquality y.more) (some_same _ p h) tt
    at m (Ok k) h =
        let on = map_some (plan_after m k) (go_on_with w is.height (Link loader name) k) p h in
        let needs = flat_map constraints_of (lineage k) in
        let all : AllByRecursion IsEquality (needs ++ []) = all_both IsEquality needs [] (flat_are constraints_of (λ c. constraints_are c) (lineage k)) tt in
        subst (λ (y : Plan). AllByRecursion IsEquality y.more) on.2 (subst (λ (ns : List Need). AllByRecursion IsEquality ns) (sym (step_is _ on.0 on.1).0) all)

-- so a record is one of the load
link_own : (w : World) (s : State) (loader to place : ℕ) (name other : Name) (p : Plan) → IsPlan w (Link loader name) p → IsNext s (plan_needs p) (Entry to other place) → IsNext s p.own (Entry to other place)
link_own w s loader to place name other p is h = elim (next_split s p.own p.more (Entry to other place) h) [
  | inl k ↦ k
  | inr k ↦ absurd (never_both (Entry to other place) tt (next_is s IsEquality p.more (Entry to other place) (link_more w loader name p is) k.1))
]

pub record_is_next : (g : Setting) (s : State) (r : Request) (loader place : ℕ) (name : Name) → IsNextNeed g.world s r (Entry loader name place) → MayAdd s (Entry loader name place) → IsNextStep g s r (step_for (Entry loader name place))
record_is_next g s (Load l n) loader place name next may = need_next g s (Load l n) (Entry loader name place) (load_wants l n) next may
record_is_next g s (Resolve l n i) loader place name next may = need_next g s (Resolve l n i) (Entry loader name place) (resolve_wants l n i) next may
record_is_next g s (Link l n) loader place name next may =
    let p = next.plan in
    let e = Entry loader name place in
    let past = past_of g.world (Link l n) p next.planned in
    record {
      plan = p;
      wants = to_stand p.own ++ past.0;
      wanted = record { planned = next.planned; past = past.0; follows = past.1; whole = refl };
      next = inl (ToStand e, first_left s (to_stand p.own) past.0 (ToStand e) (next_is_first s p.own e (link_own g.world s l loader place n name p next.planned next.next)), may, refl);
    }

pub link_record_comes : (g : Setting) (s : State) (loader to place : ℕ) (name other : Name) → IsNextNeed g.world s (Link loader name) (Entry to other place) → Refused s (Entry to other place) → ComesTo g s (Link loader name) (Linkage (Entry to other place))
link_record_comes g s loader to place name other next refused =
    load_refusal_comes g s (Link loader name) next.plan (Entry to other place) next.planned (link_own g.world s loader to place name other next.plan next.planned next.next) refused

-- ---- what tables bear

pub borne_said : (g : Setting) (s : State) (r : Request) (v : Verdict) → Bears s r v → AnswersPlan g s r v → MaySay g s r v
borne_said g s (Load loader name) v bears a = record { answers = a; rests = tt }
borne_said g s (Resolve loader name i) v bears a = record {
  answers = a;
  rests = λ d past settling. elim (bears d (reached_records g.world s (Resolve loader name i) a.plan d a.planned past.0 past.1)) [
    | inl e ↦ absurd (settling.is_entry e)
    | inr e ↦ elim e [ inl m ↦ absurd (settling.is_class_member m) | inr h ↦ h ]
  ];
}
borne_said g s (Link loader name) v bears a = record { answers = a; rests = λ c e. (bears c e).1 }

pub unrecorded_bears : (g : Setting) (s : State) (r : Request) (v : Verdict) → recorded_definer s.records (loaded_by r).loader (loaded_by r).name ≡ None → AnswersPlan g s r v → Bears s r v
unrecorded_bears g s (Load loader name) v none a = λ c e.
    answered_records g.world s (Load loader name) a.plan (λ (d : Class). IsClass d) v c (refused_no_class c) (wrong_no_class c) (one_class c) a.planned
    (ends_for g.world (Load loader name) a.plan (λ (d : Class). IsClass d) (λ n k r h. (step_is _ r h).1) a.planned) a.answered e
unrecorded_bears g s (Resolve loader name i) v none a = λ d rec. absurd (none_not_some (recorded_definer s.records loader name) none rec.1)
unrecorded_bears g s (Link loader name) v none a = λ c e.
    let rec : Records s loader name c = answered_records g.world s (Link loader name) a.plan (λ (d : Class). IsLinked d) v c (refused_not_linked c) (wrong_not_linked c) (one_linked c) a.planned
    (ends_for g.world (Link loader name) a.plan (λ (d : Class). IsLinked d) (λ n k r h. (step_is _ r h).1) a.planned) a.answered e in
    absurd (none_not_some (recorded_definer s.records loader name) none rec.1)

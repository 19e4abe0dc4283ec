-- What comes next in a service may happen, and it is one step.
use Rattle.std.proofs.Common.{ℕ, ◌≡◌, ◌⊎◌, inl, inr, true, List, [], ◌∷◌, ◌++◌, Option, Some, None, refl, sym, ap, subst, ◌∙◌, suc}
use Rattle.std.specs.Prelude.{flat_map, Contains}
use Rattle.std.specs.List.{AllByRecursion}
use Rattle.cl_classfile.specs.Files.{Name}
use Rattle.cl_model.specs.Homes.{World}
use Rattle.cl_model.specs.declared.class.Class.{Class}
use Rattle.cl_model.specs.Classes.{class, same_class, is_among, Above, AllAtHome, supers}
use Rattle.cl_model.specs.Lineages.{Kin, lineage}
use Rattle.cl_model.specs.Preparation.{constraints_of}
use Rattle.cl_model.specs.Ancestors.{SupersFirst}
use Rattle.cl_model.specs.States.{State, Need, Verdict, IsSettling, AllMet, Refused, IsNext, IsRecorded, recorded_definer, MayAdd}
use Rattle.cl_model.specs.Plans.{Request, Load, Resolve, Link, Plan, plan_needs}
use Rattle.cl_model.specs.Machine.{Setting, Step, Settle, IsPlan, IsPastLoad, Answers, AnswersReference, MaySay, May, after, Run, IsClosed, Scheduled, Prepare, NextRound, HasLineage, MaySettle, MayGoOn, state_after, step_for}
use Rattle.cl_model.specs.Service.{Want, ToStand, ToPrepare, Fulfils, FulfilsAll, IsFirst, MayServe, serving_step, to_stand, to_link, WantsPast, HasWants, SettlesByStep, IsNextStep, IsOver, ComesTo, IsBegun, IsLinkedIn, PassesRounds, AllServed}
use Rattle.cl_model.proofs.Complete.{is_class, or_true}
use Rattle.cl_model.proofs.Closed.{closed_after}
use Rattle.cl_model.proofs.Progress.{IsKept, lineage_kept, link_next, next_may}
use Rattle.cl_model.proofs.Trees.{lineage_of, lineage_is_derived}
use Rattle.cl_model.proofs.Ancestors.{lineage_first}
use Rattle.cl_model.proofs.Bind.{some_same}
use Rattle.cl_model.proofs.Planned.{one_plan, one_lineage}
use Rattle.cl_model.proofs.Sound.{one_reference_answer}
use Rattle.cl_model.proofs.Reached.{reference_answered, reference_is_plan}
use Rattle.cl_model.proofs.Service.{to_stand_both, resolve_wants, next_is_first}
use Rattle.cl_model.proofs.Tables.{reached_records}
use Rattle.cl_model.proofs.Aims.{next_left}
use Rattle.cl_model.proofs.Views.{state_then}

-- ---- wants in two parts

first_split : (s : State) (xs ys : List Want) (x : Want) → IsFirst s (xs ++ ys) x → IsFirst s xs x ⊎ (FulfilsAll s xs × IsFirst s ys x)
first_split s [] ys x h = inr (tt, h)
first_split s (z ∷ xs) ys x (inl e) = inl (inl e)
first_split s (z ∷ xs) ys x (inr h) = elim (first_split s xs ys x h.1) [
  | inl k ↦ inl (inr (h.0, k))
  | inr k ↦ inr ((h.0, k.0), k.1)
]

met_of : (s : State) (ns : List Need) → FulfilsAll s (to_stand ns) → AllMet s ns
met_of s [] h = tt
met_of s (n ∷ ns) h = (h.0, met_of s ns h.1)

pub stand_is : (n m : Need) → ToStand n ≡ ToStand m → n ≡ m
stand_is n m h = cc

next_of : (s : State) (ns : List Need) (n : Need) → IsFirst s (to_stand ns) (ToStand n) → IsNext s ns n
next_of s [] n h = absurd h
next_of s (m ∷ ns) n (inl e) = inl (stand_is m n e)
next_of s (m ∷ ns) n (inr h) = inr (h.0, next_of s ns n h.1)

needs_alone : (s : State) (ns : List Need) (c : Class) → IsFirst s (to_stand ns) (ToPrepare c) → ⊥
needs_alone s [] c h = h
needs_alone s (m ∷ ns) c (inl e) = absurd cc
needs_alone s (m ∷ ns) c (inr h) = needs_alone s ns c h.1

-- ---- what links a lineage

pub prepare_is : (c d : Class) → ToPrepare c ≡ ToPrepare d → c ≡ d
prepare_is c d h = cc

pub stand_not : (c : Class) (n : Need) → ToPrepare c ≡ ToStand n → ⊥
stand_not c n h = cc

-- the first of what links a class: a need, or its preparation, once its constraints are met
link_first : (s : State) (k : Kin) (x : Want) → IsFirst s (to_link k) x → ((n : Need) × (x ≡ ToStand n) × IsNext s (constraints_of k) n) ⊎ ((x ≡ ToPrepare k.class) × AllMet s (constraints_of k))
link_first s k x h = elim (first_split s (to_stand (constraints_of k)) (ToPrepare k.class ∷ []) x h) [
  | inl a ↦ at x a
  | inr a ↦ elim (a.1) [
    | inl e ↦ inr (sym e, met_of s (constraints_of k) a.0)
    | inr b ↦ absurd (b.1)
  ]
]
  where
    at : (y : Want) → IsFirst s (to_stand (constraints_of k)) y → ((n : Need) × (y ≡ ToStand n) × IsNext s (constraints_of k) n) ⊎ ((y ≡ ToPrepare k.class) × AllMet s (constraints_of k))
    at (ToStand n) a = inl (n, refl, next_of s (constraints_of k) n a)
    at (ToPrepare c) a = absurd (needs_alone s (constraints_of k) c a)

-- what is fulfilled of a class: its constraints, and its preparation
link_done : (s : State) (ns : List Need) (c : Class) → FulfilsAll s (to_stand ns ++ ToPrepare c ∷ []) → AllMet s ns × Contains s.prepared c
link_done s [] c h = (tt, h.0)
link_done s (n ∷ ns) c h = let k = link_done s ns c h.1 in ((h.0, k.0), k.1)

-- the class and those before it are prepared
abbrev Prepared : State → List Class → Type 0
Prepared s before = (c : Class) → is_among before c ≡ true → Contains s.prepared c

prepared_more : (s : State) (before : List Class) (c : Class) → Prepared s before → Contains s.prepared c → Prepared s (c ∷ before)
prepared_more s before c all h d k = elim (or_true (same_class d c) (is_among before d) k) [
  | inl e ↦ subst (λ (x : Class). Contains s.prepared x) (sym (is_class d c e)) h
  | inr e ↦ all d e
]

above_prepared : (w : World) (s : State) (before : List Class) (c : Class) (others : List Above) → Prepared s before → AllAtHome w c (λ t. is_among before t ≡ true) others → AllAtHome w c (Contains s.prepared) others
above_prepared w s before c [] all h = tt
above_prepared w s before c (a ∷ others) all h = (record { place = h.0.place; found = h.0.found; holds = all (class a.name h.0.place) h.0.holds }, above_prepared w s before c others all h.1)

-- the first unfulfilled of what links these classes
links_may : (g : Setting) (s : State) (before : List Class) (ks : List Kin) (x : Want) → AllByRecursion (IsKept g.world s) ks → SupersFirst g.world before ks → Prepared s before → IsFirst s (flat_map to_link ks) x → MayServe s x → May g s (serving_step x)
links_may g s before [] x kept order all h may = absurd h
links_may g s before (k ∷ ks) x kept order all h may = elim (first_split s (to_link k) (flat_map to_link ks) x h) [
  | inr a ↦ links_may g s (k.class ∷ before) ks x kept.1 order.1 (prepared_more s before k.class all (link_done s (constraints_of k) k.class a.0).1) a.1 may
  | inl a ↦ elim (link_first s k x a) [
    | inl n ↦
        subst (λ (y : Want). May g s (serving_step y)) (sym n.1)
        (link_next g s (k ∷ []) n.0 (kept.0, tt) (next_left s (constraints_of k) [] n.0 n.2) (subst (λ (y : Want). MayServe s y) n.1 may))
    | inr p ↦
        subst (λ (y : Want). May g s (serving_step y)) (sym p.0)
        (record {
          unprepared = subst (λ (y : Want). MayServe s y) p.0 may;
          preparable = record {
            recorded = kept.0.0;
            kin = k;
            lineage = lineage_is_derived g.world k kept.0.1;
            above = above_prepared g.world s before k.class (supers k.file) all order.0;
            imposed = p.1;
          };
        })
  ]
]

-- ---- what comes next may happen

needs_may : (g : Setting) (s : State) (r : Request) (p : Plan) (x : Want) → IsClosed g.world s → IsPlan g.world r p → IsFirst s (to_stand (plan_needs p)) x → MayServe s x → May g s (serving_step x)
needs_may g s r p (ToStand n) closed is h may = next_may g s r p n closed is (next_of s (plan_needs p) n h) may
needs_may g s r p (ToPrepare c) closed is h may = absurd (needs_alone s (plan_needs p) c h)

own_may : (g : Setting) (s : State) (r : Request) (p : Plan) (x : Want) → IsClosed g.world s → IsPlan g.world r p → IsFirst s (to_stand p.own) x → MayServe s x → May g s (serving_step x)
own_may g s r p (ToStand n) closed is h may = next_may g s r p n closed is (next_left s p.own p.more n (next_of s p.own n h)) may
own_may g s r p (ToPrepare c) closed is h may = absurd (needs_alone s p.own c h)

-- wants that are needs alone
alone_may : (g : Setting) (s : State) (r : Request) (p : Plan) (past wants : List Want) (x : Want) → IsClosed g.world s → IsPlan g.world r p → past ≡ to_stand p.more → wants ≡ to_stand p.own ++ past → IsFirst s wants x → MayServe s x → May g s (serving_step x)
alone_may g s r p past wants x closed is e whole h may =
    needs_may g s r p x closed is (subst (λ (ws : List Want). IsFirst s ws x) (whole ∙ ap (λ (ws : List Want). to_stand p.own ++ ws) e ∙ sym (to_stand_both p.own p.more)) h) may

past_may : (g : Setting) (s : State) (r : Request) (p : Plan) (o : Option Class) (past wants : List Want) (x : Want) → IsClosed g.world s → IsPlan g.world r p → p.reached ≡ o → WantsPast g.world r p o past → wants ≡ to_stand p.own ++ past → IsFirst s wants x → MayServe s x → May g s (serving_step x)
past_may g s (Load loader name) p o past wants x closed is reach follows whole h may = alone_may g s (Load loader name) p past wants x closed is follows whole h may
past_may g s (Resolve loader name i) p o past wants x closed is reach follows whole h may = alone_may g s (Resolve loader name i) p past wants x closed is follows whole h may
past_may g s (Link loader name) p None past wants x closed is reach follows whole h may = alone_may g s (Link loader name) p past wants x closed is follows whole h may
past_may g s (Link loader name) p (Some c) past wants x closed is reach follows whole h may =
    elim (first_split s (to_stand p.own) past x (subst (λ (ws : List Want). IsFirst s ws x) whole h)) [
      | inl a ↦ own_may g s (Link loader name) p x closed is a may
      | inr a ↦
          let k = follows.0 in
          let at = lineage_of g.world c k follows.1 in
          let rec = reached_records g.world s (Link loader name) p c is reach (met_of s p.own a.0) in
          let own : IsRecorded s c = subst (λ (n : Name). recorded_definer s.records c.loader n ≡ Some c.loader) (sym rec.0) (closed.own loader c.loader name rec.1) in
          let kept = lineage_kept g.world s k closed (subst (λ (d : Class). IsRecorded s d) (sym at.0) own) at.1 in
          links_may g s [] (lineage k) x kept (lineage_first g.world k at.1) (λ d e. absurd cc) (subst (λ (ws : List Want). IsFirst s ws x) follows.2 a.1) may
    ]

settles_may : (g : Setting) (s : State) (r : Request) (p : Plan) (e : Step) → SettlesByStep g s r p e → May g s e
settles_may g s (Load loader name) p e h = absurd h
settles_may g s (Resolve loader name i) p e h = subst (λ (f : Step). May g s f) (sym h.2.2) h.2.1
settles_may g s (Link loader name) p e h = absurd h

-- the step that comes next in a service may happen
pub next_step_may : (g : Setting) (s : State) (r : Request) (e : Step) → IsClosed g.world s → IsNextStep g s r e → May g s e
next_step_may g s r e closed next = elim (next.next) [
  | inl x ↦ subst (λ (f : Step). May g s f) (sym x.3) (past_may g s r next.plan next.plan.reached next.wanted.past next.wants x.0 closed next.wanted.planned refl next.wanted.follows next.wanted.whole x.1 x.2)
  | inr x ↦ settles_may g s r next.plan e x
]

-- a service that was begun is a run
pub begun_is_run : (g : Setting) (r : Request) (s : State) (es : List Step) → IsClosed g.world s → IsBegun g r s es → Run g s es
begun_is_run g r s [] closed b = tt
begun_is_run g r s (e ∷ es) closed b =
    let may = next_step_may g s r e closed b.0 in
    (may, begun_is_run g r (after s e) es (closed_after g s e may closed) b.1)

-- ---- one step comes next

past_same : (w : World) (r : Request) (p : Plan) (o : Option Class) (xs ys : List Want) → WantsPast w r p o xs → WantsPast w r p o ys → xs ≡ ys
past_same w (Load loader name) p o xs ys h k = h ∙ sym k
past_same w (Resolve loader name i) p o xs ys h k = h ∙ sym k
past_same w (Link loader name) p None xs ys h k = h ∙ sym k
past_same w (Link loader name) p (Some c) xs ys h k = h.2 ∙ ap (λ (x : Kin). flat_map to_link (lineage x)) (one_lineage w c h.0 k.0 h.1 k.1) ∙ sym k.2

-- a request wants one list
pub wants_same : (w : World) (r : Request) (p q : Plan) (xs ys : List Want) → HasWants w r p xs → HasWants w r q ys → xs ≡ ys
wants_same w r p q xs ys h k =
    let same : q ≡ p = one_plan w r q p k.planned h.planned in
    let follows : WantsPast w r p p.reached k.past = subst (λ (x : Plan). WantsPast w r x x.reached k.past) same k.follows in
    h.whole ∙ ap (λ (zs : List Want). to_stand p.own ++ zs) (past_same w r p p.reached h.past k.past h.follows follows) ∙ sym (k.whole ∙ ap (λ (x : Plan). to_stand x.own ++ k.past) same)

not_fulfilled : (s : State) (x : Want) → MayServe s x → Fulfils s x → ⊥
not_fulfilled s (ToStand n) may h = may.unmet h
not_fulfilled s (ToPrepare c) may h = may h

one_first : (s : State) (wants : List Want) (x y : Want) → IsFirst s wants x → IsFirst s wants y → MayServe s x → MayServe s y → x ≡ y
one_first s [] x y h k may also = absurd h
one_first s (z ∷ wants) x y (inl e) (inl d) may also = sym e ∙ d
one_first s (z ∷ wants) x y (inl e) (inr k) may also = absurd (not_fulfilled s x may (subst (λ (v : Want). Fulfils s v) e k.0))
one_first s (z ∷ wants) x y (inr h) (inl d) may also = absurd (not_fulfilled s y also (subst (λ (v : Want). Fulfils s v) d h.0))
one_first s (z ∷ wants) x y (inr h) (inr k) may also = one_first s wants x y h.1 k.1 may also

-- where needs have an answer none of them may be made
answered_none : (s : State) (ns : List Need) (ends v : Verdict) (x : Want) → Answers s ns ends v → IsFirst s (to_stand ns) x → MayServe s x → ⊥
answered_none s [] ends v x a h may = h
answered_none s (n ∷ ns) ends v x (inl a) (inl e) may = not_fulfilled s x may (subst (λ (y : Want). Fulfils s y) e a.0)
answered_none s (n ∷ ns) ends v x (inl a) (inr h) may = answered_none s ns ends v x a.1 h.1 may
answered_none s (n ∷ ns) ends v x (inr a) (inl e) may = let add : MayServe s (ToStand n) = subst (λ (y : Want). MayServe s y) (sym e) may in add.fits a.0.clashes
answered_none s (n ∷ ns) ends v x (inr a) (inr h) may = a.0.unmet h.0

-- where the reference may be settled none of the needs may be made
settled_none : (g : Setting) (s : State) (r : Request) (p q : Plan) (wants : List Want) (e : Step) (x : Want) → HasWants g.world r q wants → IsPlan g.world r p → SettlesByStep g s r p e → IsFirst s wants x → MayServe s x → ⊥
settled_none g s (Load loader name) p q wants e x has is h first may = h
settled_none g s (Link loader name) p q wants e x has is h first may = h
settled_none g s (Resolve loader name i) p q wants e x has is h first may =
    let answered = reference_is_plan g s loader name i p h.0 h.2.0 is h.1.0 h.1.1 h.2.1.answered in
    let same : wants ≡ to_stand (plan_needs p) = wants_same g.world (Resolve loader name i) q p wants (to_stand (plan_needs p)) has (resolve_wants loader name i g.world p is) in
    let plan_of : answered.plan ≡ p = one_plan g.world (Resolve loader name i) answered.plan p answered.planned is in
    answered_none s (plan_needs p) p.ends h.2.0 x (subst (λ (y : Plan). Answers s (plan_needs y) y.ends h.2.0) plan_of answered.answered) (subst (λ (ws : List Want). IsFirst s ws x) same first) may

one_settled : (g : Setting) (s : State) (r : Request) (p q : Plan) (e f : Step) → p ≡ q → SettlesByStep g s r p e → SettlesByStep g s r q f → e ≡ f
one_settled g s (Load loader name) p q e f same h k = absurd h
one_settled g s (Link loader name) p q e f same h k = absurd h
one_settled g s (Resolve loader name i) p q e f same h k =
    let d : h.0 ≡ k.0 = some_same h.0 k.0 (sym h.1.0 ∙ ap (λ (x : Plan). x.reached) same ∙ k.1.0) in
    let v : h.2.0 ≡ k.2.0 = one_reference_answer g s k.0 i h.2.0 k.2.0 (subst (λ (c : Class). AnswersReference g s c i h.2.0) d h.2.1.answered) k.2.1.answered in
    h.2.2 ∙ ap (λ (c : Class). Settle c i h.2.0) d ∙ ap (λ (x : Verdict). Settle k.0 i x) v ∙ sym k.2.2

-- at most one step comes next in a service
pub one_next_step : (g : Setting) (s : State) (r : Request) (e f : Step) → IsNextStep g s r e → IsNextStep g s r f → e ≡ f
one_next_step g s r e f a b =
    let same : b.wants ≡ a.wants = wants_same g.world r b.plan a.plan b.wants a.wants b.wanted a.wanted in
    elim (a.next) [
      | inl x ↦ elim (b.next) [
        | inl y ↦ x.3 ∙ ap serving_step (one_first s a.wants x.0 y.0 x.1 (subst (λ (ws : List Want). IsFirst s ws y.0) same y.1) x.2 y.2) ∙ sym y.3
        | inr y ↦ absurd (settled_none g s r b.plan a.plan a.wants f x.0 a.wanted b.wanted.planned y x.1 x.2)
      ]
      | inr x ↦ elim (b.next) [
        | inl y ↦ absurd (settled_none g s r a.plan b.plan b.wants e y.0 b.wanted a.wanted.planned x y.1 y.2)
        | inr y ↦ one_settled g s r a.plan b.plan e f (one_plan g.world r a.plan b.plan a.wanted.planned b.wanted.planned) x y
      ]
    ]

fulfilled_none : (s : State) (wants : List Want) (x : Want) → FulfilsAll s wants → IsFirst s wants x → MayServe s x → ⊥
fulfilled_none s [] x all h may = h
fulfilled_none s (y ∷ wants) x all (inl e) may = not_fulfilled s x may (subst (λ (v : Want). Fulfils s v) e all.0)
fulfilled_none s (y ∷ wants) x all (inr h) may = fulfilled_none s wants x all.1 h.1 may

refused_none : (s : State) (wants : List Want) (n : Need) (x : Want) → IsFirst s wants (ToStand n) → Refused s n → IsFirst s wants x → MayServe s x → ⊥
refused_none s [] n x f r h may = h
refused_none s (y ∷ wants) n x (inl e) r (inl d) may = let add : MayServe s (ToStand n) = subst (λ (v : Want). MayServe s v) (sym d ∙ e) may in add.fits r.clashes
refused_none s (y ∷ wants) n x (inl e) r (inr h) may = r.unmet (subst (λ (v : Want). Fulfils s v) e h.0)
refused_none s (y ∷ wants) n x (inr f) r (inl d) may = not_fulfilled s x may (subst (λ (v : Want). Fulfils s v) d f.0)
refused_none s (y ∷ wants) n x (inr f) r (inr h) may = refused_none s wants n x f.1 r h.1 may

over_none : (s : State) (wants : List Want) (x : Want) → IsOver s wants → IsFirst s wants x → MayServe s x → ⊥
over_none s wants x (inl all) h may = fulfilled_none s wants x all h may
over_none s wants x (inr n) h may = refused_none s wants n.0 x n.1 n.2 h may

none_some : {v : Verdict} → None ≡ Some v → ⊥
none_some h = cc

unsettled_none : (g : Setting) (s : State) (r : Request) (p : Plan) (v : Verdict) (e : Step) → MaySay g s r v → IsPlan g.world r p → SettlesByStep g s r p e → ⊥
unsettled_none g s (Load loader name) p v e say is h = h
unsettled_none g s (Link loader name) p v e say is h = h
unsettled_none g s (Resolve loader name i) p v e say is h =
    let may = h.2.1 in
    let a = say.answers in
    let same : p ≡ a.plan = one_plan g.world (Resolve loader name i) p a.plan is a.planned in
    let past : IsPastLoad s a.plan h.0 = subst (λ (x : Plan). IsPastLoad s x h.0) same h.1 in
    let answered = reference_answered g s loader name i a.plan h.0 v a.planned past.0 past.1 a.answered in
    let one : v ≡ h.2.0 = one_reference_answer g s h.0 i v h.2.0 answered may.answered in
    none_some (sym may.may_keep.unsettled ∙ say.rests h.0 past (subst (λ (x : Verdict). IsSettling x) (sym one) may.may_keep.settling))

-- what has come to its verdict has no step more
pub come_to_ends : (g : Setting) (s : State) (r : Request) (v : Verdict) (e : Step) → ComesTo g s r v → IsNextStep g s r e → ⊥
come_to_ends g s r v e c a =
    let same : a.wants ≡ c.wants = wants_same g.world r a.plan c.plan a.wants c.wants a.wanted c.wanted in
    elim (a.next) [
      | inl x ↦ over_none s c.wants x.0 c.over (subst (λ (ws : List Want). IsFirst s ws x.0) same x.1) x.2
      | inr x ↦ unsettled_none g s r a.plan v e c.may_say a.wanted.planned x
    ]

-- ---- what comes next of a reference, and of a link

pub settle_next : (g : Setting) (s : State) (loader : ℕ) (name : Name) (i : ℕ) (p : Plan) (d : Class) (v : Verdict) → IsPlan g.world (Resolve loader name i) p → p.reached ≡ Some d → AllMet s p.own → MaySettle g s d i v → IsNextStep g s (Resolve loader name i) (Settle d i v)
settle_next g s loader name i p d v is reach met may = record { plan = p; wants = to_stand (plan_needs p); wanted = resolve_wants loader name i g.world p is; next = inr (d, (reach, met), (v, may, refl)) }

pub first_right : (s : State) (xs ys : List Want) (x : Want) → FulfilsAll s xs → IsFirst s ys x → IsFirst s (xs ++ ys) x
first_right s [] ys x all h = h
first_right s (z ∷ xs) ys x all h = inr (all.0, first_right s xs ys x all.1 h)

pub first_left : (s : State) (xs ys : List Want) (x : Want) → IsFirst s xs x → IsFirst s (xs ++ ys) x
first_left s [] ys x h = absurd h
first_left s (z ∷ xs) ys x (inl e) = inl e
first_left s (z ∷ xs) ys x (inr h) = inr (h.0, first_left s xs ys x h.1)

pub fulfilled_of : (s : State) (ns : List Need) → AllMet s ns → FulfilsAll s (to_stand ns)
fulfilled_of s [] h = tt
fulfilled_of s (n ∷ ns) h = (h.0, fulfilled_of s ns h.1)

pub linked_of : (s : State) (ns : List Need) (c : Class) → AllMet s ns → Contains s.prepared c → FulfilsAll s (to_stand ns ++ ToPrepare c ∷ [])
linked_of s [] c h k = (k, tt)
linked_of s (n ∷ ns) c h k = (h.0, linked_of s ns c h.1 k)

-- where what stands before a class in a lineage is linked, what links that class comes first
pub links_first : (s : State) (before behind : List Kin) (k : Kin) (x : Want) → AllByRecursion (IsLinkedIn s) before → IsFirst s (to_link k) x → IsFirst s (flat_map to_link (before ++ k ∷ behind)) x
links_first s [] behind k x all h = first_left s (to_link k) (flat_map to_link behind) x h
links_first s (b ∷ before) behind k x all h = first_right s (to_link b) (flat_map to_link (before ++ k ∷ behind)) x (linked_of s (constraints_of b) b.class all.0.imposed all.0.prepared) (links_first s before behind k x all.1 h)

-- what links a class of the lineage comes next
link_step : (g : Setting) (s : State) (loader : ℕ) (name : Name) (p : Plan) (c : Class) (l k : Kin) (before behind : List Kin) (x : Want) → IsPlan g.world (Link loader name) p → p.reached ≡ Some c → AllMet s p.own → HasLineage g.world c l → lineage l ≡ before ++ k ∷ behind
    → AllByRecursion (IsLinkedIn s) before → IsFirst s (to_link k) x → MayServe s x → IsNextStep g s (Link loader name) (serving_step x)
link_step g s loader name p c l k before behind x is reach met lin parts all h may =
    let past = flat_map to_link (lineage l) in
    record {
      plan = p;
      wants = to_stand p.own ++ past;
      wanted = record { planned = is; past = past; follows = subst (λ (o : Option Class). WantsPast g.world (Link loader name) p o past) (sym reach) (l, lin, refl); whole = refl };
      next = inl (
        x,
        first_right s (to_stand p.own) past x (fulfilled_of s p.own met) (subst (λ (ks : List Kin). IsFirst s (flat_map to_link ks) x) (sym parts) (links_first s before behind k x all h)),
        may,
        refl,
      );
    }

pub link_need_next : (g : Setting) (s : State) (loader : ℕ) (name : Name) (p : Plan) (c : Class) (l k : Kin) (before behind : List Kin) (n : Need) → IsPlan g.world (Link loader name) p → p.reached ≡ Some c → AllMet s p.own → HasLineage g.world c l → lineage l ≡ before ++ k ∷ behind
    → AllByRecursion (IsLinkedIn s) before → IsNext s (constraints_of k) n → MayAdd s n → IsNextStep g s (Link loader name) (step_for n)
link_need_next g s loader name p c l k before behind n is reach met lin parts all h may =
    link_step g s loader name p c l k before behind (ToStand n) is reach met lin parts all (first_left s (to_stand (constraints_of k)) (ToPrepare k.class ∷ []) (ToStand n) (next_is_first s (constraints_of k) n h)) may

pub prepare_next : (g : Setting) (s : State) (loader : ℕ) (name : Name) (p : Plan) (c : Class) (l k : Kin) (before behind : List Kin) → IsPlan g.world (Link loader name) p → p.reached ≡ Some c → AllMet s p.own → HasLineage g.world c l → lineage l ≡ before ++ k ∷ behind
    → AllByRecursion (IsLinkedIn s) before → AllMet s (constraints_of k) → (Contains s.prepared k.class → ⊥) → IsNextStep g s (Link loader name) (Prepare k.class)
prepare_next g s loader name p c l k before behind is reach met lin parts all imposed free =
    link_step g s loader name p c l k before behind (ToPrepare k.class) is reach met lin parts all (first_right s (to_stand (constraints_of k)) (ToPrepare k.class ∷ []) (ToPrepare k.class) (fulfilled_of s (constraints_of k) imposed) (inl refl)) free

-- ---- rounds

pub passes_none : (g : Setting) (s : State) (es : List Step) → PassesRounds g s es → MayGoOn g (state_after s es) → ⊥
passes_none g s [] h may = h may
passes_none g s (e ∷ es) h may = passes_none g (after s NextRound) es h.2 (subst (λ (f : Step). MayGoOn g (state_after (after s f) es)) h.0 may)

-- once all are served no later round may begin
pub no_round_left : (g : Setting) (q : ℕ) (s : State) (rs : List Scheduled) (es : List Step) → AllServed g q s rs es → MayGoOn g (state_after s es) → ⊥
no_round_left g q s [] es all may = passes_none g s es all may
no_round_left g q s (r ∷ rs) es all may =
    let t = state_after (state_after s all.0) all.1 in
    let here : state_after s es ≡ state_after t all.2 = ap (state_after s) all.3 ∙ state_then s all.0 (all.1 ++ all.2) ∙ state_then (state_after s all.0) all.1 all.2 in
    no_round_left g (suc q) t rs all.2 all.6 (subst (λ (u : State). MayGoOn g u) here may)

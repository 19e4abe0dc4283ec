-- What a request's service does before its post is within its cost.
use Rattle.std.proofs.Common.{◌≡◌, ◌≤◌, inl, inr, ℕ, suc, ◌+◌, ◌*◌, List, [], ◌∷◌, ◌++◌, length, map, Option, Some, None, refl, sym, ap, subst, ◌∙◌, arith, length-append}
use Rattle.std.specs.Prelude.{count_by, sum_by, cond, flat_map}
use Rattle.std.proofs.lemmas.List.{length-map}
use Rattle.std.proofs.lemmas.List.Sums.{sum_by-cons}
use Rattle.cl_classfile.specs.Files.{Name}
use Rattle.cl_model.specs.Homes.{World}
use Rattle.cl_model.specs.declared.class.Class.{Class}
use Rattle.cl_model.specs.Lineages.{Kin, alone, classes, lineage}
use Rattle.cl_model.specs.Preparation.{constraints_of}
use Rattle.cl_model.specs.States.{State, Need, Entry, Equal, Verdict, settled_to}
use Rattle.cl_model.specs.Works.{Ask}
use Rattle.cl_model.specs.Plans.{Request, Load, Resolve, Link, Plan, plan_needs, nodes_of, homes_of, asked_at_home, edges_of, is_equal, cost}
use Rattle.cl_model.specs.Machine.{Setting, Step, Settle, HasLineage, IsPlan, after}
use Rattle.cl_model.specs.Service.{Want, ToStand, ToPrepare, IsFirst, MayServe, serving_step, to_stand, to_link, WantsPast, HasWants, SettlesByStep, IsNextStep}
use Rattle.cl_model.specs.Progress.{TakesSteps}
use Rattle.cl_model.proofs.Bind.{some_same, step_is, none_not_some}
use Rattle.cl_model.proofs.Planned.{one_plan, one_lineage}
use Rattle.cl_model.proofs.Reached.{reached}
use Rattle.cl_model.proofs.Ancestors.{lineage_once}
use Rattle.cl_model.proofs.Pieces.{stand_is, prepare_is, stand_not}
use Rattle.cl_model.proofs.Marks.{In, in_left, in_right, in_split, in_map, all_in, left, left_length, left_le, left_less, Mark, open_in, open_before, Closes, mark_of, need_closes, prepare_closes, settle_closes, OfAsk, OfClass, OfEqual, OfReference}
use Rattle.cl_model.proofs.Asks.{Asked, plan_covers, AskedFor, reached_asked, distinct_has, lineage_within}

-- ---- the marks of a request

abbrev equal_marks : List Need → List Mark
equal_marks [] = []
equal_marks (Entry loader name place ∷ ns) = equal_marks ns
equal_marks (Equal name a b ∷ ns) = OfEqual name a b ∷ equal_marks ns

equal_count : (ns : List Need) → length (equal_marks ns) ≡ count_by is_equal ns
equal_count [] = refl
equal_count (Entry loader name place ∷ ns) =
    let e = equal_count ns in
    let c : count_by is_equal (Entry loader name place ∷ ns) ≡ 0 + count_by is_equal ns = sum_by-cons (λ (n : Need). cond (is_equal n) 1 0) (Entry loader name place) ns in
    omega arith
equal_count (Equal name a b ∷ ns) =
    let e = equal_count ns in
    let c : count_by is_equal (Equal name a b ∷ ns) ≡ 1 + count_by is_equal ns = sum_by-cons (λ (n : Need). cond (is_equal n) 1 0) (Equal name a b) ns in
    omega arith

equal_marked : (ns : List Need) (name : Name) (a b : ℕ) → In (Equal name a b) ns → In (OfEqual name a b) (equal_marks ns)
equal_marked [] name a b h = absurd h
equal_marked (Entry l m p ∷ ns) name a b (inl e) = absurd cc
equal_marked (Entry l m p ∷ ns) name a b (inr h) = equal_marked ns name a b h
equal_marked (Equal m x y ∷ ns) name a b (inl e) = inl (equal_mark e)
  where
    equal_mark : Equal m x y ≡ Equal name a b → OfEqual m x y ≡ OfEqual name a b
    equal_mark k = cc
equal_marked (Equal m x y ∷ ns) name a b (inr h) = inr (equal_marked ns name a b h)

-- all that a request's service may close: what its plan asks for, the classes that it links, its equalities, and its reference
record Marked (w : World) (r : Request) (p : Plan) (marks : List Mark) : Type 0 where
  asks : (a : Ask) → In a p.asked → In (OfAsk a) marks
  equals : (name : Name) (a b : ℕ) → In (Equal name a b) (plan_needs p) → In (OfEqual name a b) marks
  prepares : (wants : List Want) (c : Class) → HasWants w r p wants → In (ToPrepare c) wants → In (OfClass c) marks
  settles : (g : Setting) (s : State) (e : Step) → SettlesByStep g s r p e → (d : Class) × (i : ℕ) × (v : Verdict) × (e ≡ Settle d i v) × (settled_to s.settled d i ≡ None) × In (OfReference d i) marks

needs_only : (ns : List Need) (c : Class) → In (ToPrepare c) (to_stand ns) → ⊥
needs_only [] c h = h
needs_only (n ∷ ns) c (inl e) = absurd cc
needs_only (n ∷ ns) c (inr h) = needs_only ns c h

stands_in : (ns : List Need) (n : Need) → In (ToStand n) (to_stand ns) → In n ns
stands_in [] n h = absurd h
stands_in (m ∷ ns) n (inl e) = inl (stand_is m n e)
stands_in (m ∷ ns) n (inr h) = inr (stands_in ns n h)

link_prepares : (ks : List Kin) (c : Class) → In (ToPrepare c) (flat_map to_link ks) → In c (classes ks)
link_prepares [] c h = absurd h
link_prepares (k ∷ ks) c h = elim (in_split (ToPrepare c) (to_link k) (flat_map to_link ks) h) [
  | inr i ↦ inr (link_prepares ks c i)
  | inl i ↦ elim (in_split (ToPrepare c) (to_stand (constraints_of k)) (ToPrepare k.class ∷ []) i) [
    | inl j ↦ absurd (needs_only (constraints_of k) c j)
    | inr j ↦ elim j [ inl e ↦ inl (prepare_is k.class c e) | inr x ↦ absurd x ]
  ]
]

link_needs : (ks : List Kin) (n : Need) → In (ToStand n) (flat_map to_link ks) → In n (flat_map constraints_of ks)
link_needs [] n h = absurd h
link_needs (k ∷ ks) n h = elim (in_split (ToStand n) (to_link k) (flat_map to_link ks) h) [
  | inr i ↦ in_right n (constraints_of k) (flat_map constraints_of ks) (link_needs ks n i)
  | inl i ↦ elim (in_split (ToStand n) (to_stand (constraints_of k)) (ToPrepare k.class ∷ []) i) [
    | inl j ↦ in_left n (constraints_of k) (flat_map constraints_of ks) (stands_in (constraints_of k) n j)
    | inr j ↦ elim j [ inl e ↦ absurd (stand_not k.class n e) | inr x ↦ absurd x ]
  ]
]

first_in : (s : State) (wants : List Want) (x : Want) → IsFirst s wants x → In x wants
first_in s [] x h = h
first_in s (y ∷ wants) x (inl e) = inl e
first_in s (y ∷ wants) x (inr h) = inr (first_in s wants x h.1)

-- past the load of a link its plan has the constraints of the lineage
pub link_more : (w : World) (loader : ℕ) (name : Name) (p : Plan) (c : Class) (k : Kin) → IsPlan w (Link loader name) p → p.reached ≡ Some c → HasLineage w c k → p.more ≡ flat_map constraints_of (lineage k) ++ []
link_more w loader name p c k is r lin =
    let x = reached w is.height (Link loader name) p c is.planned r in
    ap (λ (y : Plan). y.more) x.is ∙ (step_is _ x.rest x.goes_on).0 ∙ ap (λ (y : Kin). flat_map constraints_of (lineage y) ++ []) (one_lineage w c x.kin k x.lineage lin)

past_needs : (w : World) (r : Request) (p : Plan) (o : Option Class) (past : List Want) (n : Need) → IsPlan w r p → p.reached ≡ o → WantsPast w r p o past → In (ToStand n) past → In n p.more
past_needs w (Load loader name) p o past n is e h i = stands_in p.more n (subst (λ (ws : List Want). In (ToStand n) ws) h i)
past_needs w (Resolve loader name j) p o past n is e h i = stands_in p.more n (subst (λ (ws : List Want). In (ToStand n) ws) h i)
past_needs w (Link loader name) p None past n is e h i = stands_in p.more n (subst (λ (ws : List Want). In (ToStand n) ws) h i)
past_needs w (Link loader name) p (Some c) past n is e h i =
    subst (λ (ns : List Need). In n ns) (sym (link_more w loader name p c h.0 is e h.1))
    (in_left n (flat_map constraints_of (lineage h.0)) [] (link_needs (lineage h.0) n (subst (λ (ws : List Want). In (ToStand n) ws) h.2 i)))

wants_needs : (w : World) (r : Request) (p : Plan) (wants : List Want) (n : Need) → HasWants w r p wants → In (ToStand n) wants → In n (plan_needs p)
wants_needs w r p wants n has h = elim (in_split (ToStand n) (to_stand p.own) has.past (subst (λ (ws : List Want). In (ToStand n) ws) has.whole h)) [
  | inl i ↦ in_left n p.own p.more (stands_in p.own n i)
  | inr i ↦ in_right n p.own p.more (past_needs w r p p.reached has.past n has.planned refl has.follows i)
]

-- what a list of wants prepares
past_prepares : (w : World) (r : Request) (p : Plan) (wants : List Want) (c : Class) → HasWants w r p wants → In (ToPrepare c) wants → (past : List Want) × WantsPast w r p p.reached past × In (ToPrepare c) past
past_prepares w r p wants c has h = elim (in_split (ToPrepare c) (to_stand p.own) has.past (subst (λ (ws : List Want). In (ToPrepare c) ws) has.whole h)) [
  | inl i ↦ absurd (needs_only p.own c i)
  | inr i ↦ (has.past, has.follows, i)
]

-- marks of what is asked, of these classes, of the equalities and of these references
built : (w : World) (r : Request) (p : Plan) (cs : List Class) (refs : List Mark) → length cs ≤ length (nodes_of w p) → length refs ≤ 1
    → ((wants : List Want) (c : Class) → HasWants w r p wants → In (ToPrepare c) wants → In c cs)
    → ((g : Setting) (s : State) (e : Step) → SettlesByStep g s r p e → (d : Class) × (i : ℕ) × (v : Verdict) × (e ≡ Settle d i v) × (settled_to s.settled d i ≡ None) × In (OfReference d i) refs)
    → (marks : List Mark) × Marked w r p marks × (length marks + 1 ≤ cost w p)
built w r p cs refs few one prepares settles =
    let asks = map (λ (a : Ask). OfAsk a) (nodes_of w p) in
    let prepared = map (λ (c : Class). OfClass c) cs in
    let equals = equal_marks (plan_needs p) in
    let marks = asks ++ (prepared ++ (equals ++ refs)) in
    let total : length marks ≡ length (nodes_of w p) + (length cs + (count_by is_equal (plan_needs p) + length refs)) =
    length-append asks (prepared ++ (equals ++ refs))
    ∙ ap (λ (n : ℕ). n + length (prepared ++ (equals ++ refs))) (length-map (nodes_of w p) (λ (a : Ask). OfAsk a))
    ∙ ap (λ (n : ℕ). length (nodes_of w p) + n) (length-append prepared (equals ++ refs)
    ∙ ap (λ (n : ℕ). n + length (equals ++ refs)) (length-map cs (λ (c : Class). OfClass c))
    ∙ ap (λ (n : ℕ). length cs + n) (length-append equals refs ∙ ap (λ (n : ℕ). n + length refs) (equal_count (plan_needs p)))) in (
      marks,
      record {
        asks = λ a h. in_left (OfAsk a) asks (prepared ++ (equals ++ refs)) (in_map (λ (x : Ask). OfAsk x) a (nodes_of w p) (distinct_has a (p.asked ++ flat_map (asked_at_home w) p.asked) (in_left a p.asked (flat_map (asked_at_home w) p.asked) h)));
        equals = λ name a b h. in_right (OfEqual name a b) asks (prepared ++ (equals ++ refs)) (in_right (OfEqual name a b) prepared (equals ++ refs) (in_left (OfEqual name a b) equals refs (equal_marked (plan_needs p) name a b h)));
        prepares = λ wants c has h. in_right (OfClass c) asks (prepared ++ (equals ++ refs)) (in_left (OfClass c) prepared (equals ++ refs) (in_map (λ (x : Class). OfClass x) c cs (prepares wants c has h)));
        settles =
            λ g s e h.
            let k = settles g s e h in
            (k.0, k.1, k.2, k.3, k.4, in_right (OfReference k.0 k.1) asks (prepared ++ (equals ++ refs)) (in_right (OfReference k.0 k.1) prepared (equals ++ refs) (in_right (OfReference k.0 k.1) equals refs k.5)));
      },
      within (length marks) (length (nodes_of w p)) (length cs) (count_by is_equal (plan_needs p)) (length refs) (sum_by (edges_of w) (homes_of w p)) total few one,
    )
  where
    within : (m n c e r d : ℕ) → m ≡ n + (c + (e + r)) → c ≤ n → r ≤ 1 → m + 1 ≤ 3 * n + d + e + 7
    within m n c e r d a b f = omega arith

no_class : (w : World) (r : Request) (p : Plan) → ((past : List Want) → WantsPast w r p p.reached past → past ≡ to_stand p.more) → (wants : List Want) (c : Class) → HasWants w r p wants → In (ToPrepare c) wants → In c []
no_class w r p alone wants c has h =
    let k = past_prepares w r p wants c has h in
    absurd (needs_only p.more c (subst (λ (ws : List Want). In (ToPrepare c) ws) (alone k.0 k.1) k.2))

marked : (w : World) (r : Request) (p : Plan) → IsPlan w r p → (marks : List Mark) × Marked w r p marks × (length marks + 1 ≤ cost w p)
marked w (Load loader name) p is = built w (Load loader name) p [] [] (omega arith) (omega arith) (no_class w (Load loader name) p (λ past h. h)) (λ g s e h. absurd h)
marked w (Resolve loader name i) p is = at p.reached refl
  where
    at : (o : Option Class) → p.reached ≡ o → (marks : List Mark) × Marked w (Resolve loader name i) p marks × (length marks + 1 ≤ cost w p)
    at None r = built w (Resolve loader name i) p [] [] (omega arith) (omega arith) (no_class w (Resolve loader name i) p (λ past h. h)) (λ g s e h. absurd (none_not_some p.reached r h.1.0))
    at (Some d) r =
        built w (Resolve loader name i) p [] (OfReference d i ∷ []) (omega arith) (omega arith) (no_class w (Resolve loader name i) p (λ past h. h))
        (λ g s e h. (h.0, i, h.2.0, h.2.2, h.2.1.may_keep.unsettled, inl (ap (λ (c : Class). OfReference c i) (some_same d h.0 (sym r ∙ h.1.0)))))
marked w (Link loader name) p is = at p.reached refl
  where
    at : (o : Option Class) → p.reached ≡ o → (marks : List Mark) × Marked w (Link loader name) p marks × (length marks + 1 ≤ cost w p)
    at None r =
        built w (Link loader name) p [] [] (omega arith) (omega arith) (no_class w (Link loader name) p (λ past h. subst (λ (o : Option Class). WantsPast w (Link loader name) p o past) r h)) (λ g s e h. absurd h)
    at (Some d) r =
        let x = reached w is.height (Link loader name) p d is.planned r in
        let k = x.kin in
        let asked = reached_asked w (Link loader name) p d k is r x.lineage in
        let few : length (lineage k) ≤ length (nodes_of w p) =
        lineage_within (lineage k) (nodes_of w p) (lineage_once k)
        (λ y i. distinct_has (record { loader = y.class.loader; name = y.class.name }) (p.asked ++ flat_map (asked_at_home w) p.asked) (in_left (record { loader = y.class.loader; name = y.class.name }) p.asked (flat_map (asked_at_home w) p.asked) (all_in (AskedFor p.asked) (lineage k) y asked i))) in
        let as_long : length (classes (lineage k)) ≡ length (lineage k) = length-map (lineage k) (λ (y : Kin). y.class) in
        built w (Link loader name) p (classes (lineage k)) [] (omega arith) (omega arith)
        (λ wants c has h.
        let q = past_prepares w (Link loader name) p wants c has h in
        let follows = subst (λ (o : Option Class). WantsPast w (Link loader name) p o q.0) r q.1 in
        subst (λ (y : Kin). In c (classes (lineage y))) (one_lineage w d follows.0 k follows.1 x.lineage) (link_prepares (lineage follows.0) c (subst (λ (ws : List Want). In (ToPrepare c) ws) follows.2 q.2)))
        (λ g s e h. absurd h)

-- ---- each step of a service closes a mark

need_marked : (w : World) (r : Request) (p : Plan) (marks : List Mark) (n : Need) → IsPlan w r p → Marked w r p marks → In n (plan_needs p) → In (mark_of n) marks
need_marked w r p marks (Entry loader name place) is m h = m.asks (record { loader = loader; name = name }) (all_in (Asked p.asked) (plan_needs p) (Entry loader name place) (plan_covers w r p is) h)
need_marked w r p marks (Equal name a b) is m h = m.equals name a b h

want_closes : (w : World) (s : State) (r : Request) (p : Plan) (wants : List Want) (marks : List Mark) (x : Want) → HasWants w r p wants → Marked w r p marks → In x wants → MayServe s x → (m : Mark) × In m marks × Closes s (serving_step x) m
want_closes w s r p wants marks (ToStand n) has m h may = (mark_of n, need_marked w r p marks n has.planned m (wants_needs w r p wants n has h), need_closes s n may)
want_closes w s r p wants marks (ToPrepare c) has m h may = (OfClass c, m.prepares wants c has h, prepare_closes s c may)

step_closes : (g : Setting) (s : State) (r : Request) (p : Plan) (marks : List Mark) (e : Step) → IsPlan g.world r p → Marked g.world r p marks → IsNextStep g s r e → (m : Mark) × In m marks × Closes s e m
step_closes g s r p marks e is m next =
    let same : next.plan ≡ p = one_plan g.world r next.plan p next.wanted.planned is in
    elim (next.next) [
      | inl x ↦
          let k = want_closes g.world s r p next.wants marks x.0 (subst (λ (q : Plan). HasWants g.world r q next.wants) same next.wanted) m (first_in s next.wants x.0 x.1) x.2 in
          (k.0, k.1, subst (λ (f : Step). Closes s f k.0) (sym x.3) k.2)
      | inr x ↦
          let k = m.settles g s e (subst (λ (q : Plan). SettlesByStep g s r q e) same x) in
          (OfReference k.0 k.1, k.5, subst (λ (f : Step). Closes s f (OfReference k.0 k.1)) (sym k.3) (settle_closes s k.0 k.1 k.2 k.4))
    ]

takes_left : (g : Setting) (r : Request) (p : Plan) (marks : List Mark) (n : ℕ) (s : State) (es : List Step) → IsPlan g.world r p → Marked g.world r p marks → TakesSteps g r n s es → n ≤ left (open_in s) marks
takes_left g r p marks n s [] is m h = let e : n ≡ 0 = h in omega arith
takes_left g r p marks n s (e ∷ es) is m (inl h) =
    let ih : h.0 ≤ left (open_in (after s e)) marks = takes_left g r p marks h.0 (after s e) es is m h.3 in
    let k = step_closes g s r p marks e is m h.2 in
    let less : left (open_in (after s e)) marks + 1 ≤ left (open_in s) marks = left_less (open_in s) (open_in (after s e)) marks k.0 (λ x. open_before s e x) k.1 k.2.before k.2.after_it in
    let one : n ≡ suc h.0 = h.1 in
    omega arith
takes_left g r p marks n s (e ∷ es) is m (inr h) =
    let ih : n ≤ left (open_in (after s e)) marks = takes_left g r p marks n (after s e) es is m h in
    let less : left (open_in (after s e)) marks ≤ left (open_in s) marks = left_le (open_in s) (open_in (after s e)) marks (λ x. open_before s e x) in
    omega arith

-- the steps of a request's service, and its post, are within its cost
pub takes_within : (g : Setting) (r : Request) (p : Plan) (n : ℕ) (s : State) (es : List Step) → IsPlan g.world r p → TakesSteps g r n s es → n + 1 ≤ cost g.world p
takes_within g r p n s es is h =
    let m = marked g.world r p is in
    let few : n ≤ left (open_in s) m.0 = takes_left g r p m.0 n s es is m.1 h in
    let long : left (open_in s) m.0 ≤ length m.0 = left_length (open_in s) m.0 in
    let cheap : length m.0 + 1 ≤ cost g.world p = m.2 in
    omega arith

-- What each step of a link leads to, but for those that prepare a class.
use Rattle.std.proofs.Common.{Global, ◌≡◌, ◌∙◌, ◌<◌, ◌≤◌, ◌+◌, ◌-◌, ◌*◌, ◌^◌, ℕ, zero, suc, Bool, List, [], ◌∷◌, ◌++◌, drop, length, map, Option, Some, inl, refl, sym, ap, subst, arith}
use Rattle.std.specs.Prelude.{slice_get, option_map, unwrap_or, Contains}
use Rattle.std.specs.declared.sync.Arc.{Arc}
use Rattle.std.proofs.lemmas.List.{length-map}
use Rattle.cl_model.specs.declared.answer.Answer.TheVariants as answers
use Rattle.cl_model.specs.declared.class.Class.{Class}
use Rattle.cl_model.specs.declared.request.Request as request
use Rattle.cl_model.specs.declared.request.Request.TheVariants as requests
use Rattle.cl_model.specs.declared.verdict.Verdict.TheVariants as verdicts
use Rattle.cl_model.specs.Content.{Content}
use Rattle.cl_model.specs.Lineages.{Kin, IsLineage, lineage}
use Rattle.cl_model.specs.Machine.{Setting, IsSound}
use Rattle.cl_model.specs.Service.{ComesTo}
use Rattle.cl_model.specs.States.{State, IsLinked, IsRecorded, recorded_definer}
use Rattle.cl_model.specs.Tables.{Bears}
use Rattle.cl_model.specs.Views.{request_of}
use Rattle.cl_config.specs.Views.{Configured}
use Rattle.cl_delegation.specs.Worlds.{world_of}
use Rattle.cl_hierarchy.specs.Lineages.{IsInOrder, IsLineageOf, Lined, kin_of, rows_in}
use Rattle.cl_hierarchy.specs.Rows.{Rowed}
use Rattle.cl_findings.specs.Findings.{Answered, IsLookedUp, loader_of, ungrounded_answer}
use Rattle.cl_findings.proofs.Links.{lineage_classes}
use Rattle.cl_registry.specs.Posting.{IsBacked}
use Rattle.cl_registry.specs.Tables.{NamesLoaders, Shown, records_of, state_of}
use Rattle.cl_registry.specs.Traced.{IsTraced}
use Rattle.cl_registry.proofs.Linked.{prepared_comes}
use Rattle.cl_registry.proofs.Named.{recorded_is_named}
use Rattle.cl_tasks.specs.Calls.{Calls, calls_in, equalities_in, link_calls, own_homes, past_loads}
use Rattle.cl_tasks.specs.Follows.{CallsWithin, ServedIn}
use Rattle.cl_tasks.specs.Linking.{ChainTold, CountedTold, DoneTold, GoalTold, LineageTold, MarkedTold, PreparedTold, WholeTold}
use Rattle.cl_tasks.specs.Measures.{chain_left, each_left, linking_left, most, prepared_left, whole_left}
use Rattle.cl_tasks.specs.Rooms.{chain_room, last_room, listed_room, prepared_room, whole_room}
use Rattle.cl_tasks.specs.Stages.{IsChain, IsGoal, behind, chain_calls, class_in, classes_in, goal_facts}
use Rattle.cl_tasks.specs.Tasks.{HasLineage}
use Rattle.cl_tasks.specs.Steps.{LeadsBy}
use Rattle.cl_tasks.specs.declared.stage.Chain.{Chain}
use Rattle.cl_tasks.specs.declared.stage.Goal.{Goal}
use Rattle.cl_tasks.specs.declared.stage.Link.TheVariants as links
use Rattle.cl_tasks.specs.declared.stage.Next.{Next}
use Rattle.cl_tasks.specs.declared.stage.Stage.TheVariants as stages
use Rattle.cl_tasks.specs.declared.turn.Turn.TheVariants as turn
use Rattle.cl_tasks.specs.Waits as waits
use Rattle.cl_tasks.proofs.Lead.{HasPost, leads_by, leads_post}
use Rattle.cl_tasks.proofs.LinkFacts.{chain_goal, chain_of, chain_prepared, chain_whole, class_last, class_there, own_recorded, so_both, taken_above, taken_more, traced_recorded, whole_length}
use Rattle.cl_tasks.proofs.LinkPlan.{chain_within}
use Rattle.cl_tasks.proofs.MemberFacts.{traced_as}
use Rattle.cl_tasks.specs.Turns.{IsOf}
use Rattle.cl_model.proofs.Tables.{one_linked}

-- ---- in general

pub within_same : (c : Configured) (x : Shown) (l : ℕ) → x.config ≡ c → l < length c.loaders → l < length x.config.loaders
within_same c x l e lt = subst (λ (k : Configured). l < length k.loaders) (sym e) lt

-- a lineage of what is told is one of the setting that the request is served in
pub in_world : (told : Option Content) (c : Configured) (g : Setting) (s : State) → ServedIn told c g s → (l : Lined) → l.config ≡ c → IsLineageOf told l → IsLineage g.world (kin_of l)
in_world told c g s served l config lin =
    let told_lin : IsLineageOf (Some served.content) l = subst (λ (o : Option Content). IsLineageOf o l) served.told_so lin in
    subst (λ (t : Setting). IsLineage t.world (kin_of l)) (sym served.setting) (subst (λ (d : Configured). IsLineage (world_of d served.content) (kin_of l)) config told_lin)

-- ---- calls

-- no more are left than there is room for
pub stay : (told : Option Content) (c : Configured) (now : Shown → Type 0) (r : request.Request) (n : Calls) → CallsWithin told c now r 0 n n
stay told c now r n = λ g x p served is h. same_calls (calls_in n g.world p (state_of x))
  where
    same_calls : (a : ℕ) → 0 + a ≤ a
    same_calls a = omega arith

-- where none of them are of homes or equalities
pub fewer_calls : (told : Option Content) (c : Configured) (now : Shown → Type 0) (r : request.Request) (made a b : ℕ) → made + a ≤ b → CallsWithin told c now r made (past_loads 0 0 a) (past_loads 0 0 b)
fewer_calls told c now r made a b le = λ g x p served is h. omega (arith, le)

-- the post alone is left
pub post_calls : (told : Option Content) (c : Configured) (now : Shown → Type 0) (r : request.Request) (made homes equalities more : ℕ) → made + 1 ≤ more → CallsWithin told c now r made (past_loads 0 0 1) (past_loads homes equalities more)
post_calls told c now r made homes equalities more le = λ g x p served is h. below (own_homes g.world p) (equalities_in p) (homes * own_homes g.world p) (equalities * equalities_in p) made more le
  where
    below : (h e a b m n : ℕ) → m + 1 ≤ n → m + (0 + (0 * h + 0 * e + 1)) ≤ 0 + (a + b + n)
    below h e a b m n le = omega (arith, le)

-- there is room for the post
pub post_room : (turns made homes equalities more : ℕ) → made + 1 ≤ more → HasPost (record { turns = turns; made = made; calls = past_loads homes equalities more })
post_room turns made homes equalities more le = λ w p s. below (homes * own_homes w p) (equalities * equalities_in p) made more le
  where
    below : (a b m n : ℕ) → m + 1 ≤ n → m + 1 ≤ 0 + (a + b + n)
    below a b m n le = omega (arith, le)

-- ---- the request's class is recorded

pub goal_at : {A : Type 0} (x : Shown) (g : Goal A) → GoalTold g x → recorded_definer (records_of x) (loader_of g.request) g.class.value.class.name ≡ Some g.class.value.class.loader
goal_at x g h = h.0

more_by_one : (a : ℕ) → a + 2 < a + 3
more_by_one a = omega arith

pub whole_asked : {A : Type 0} (told : Option Content) (c : Configured) (g : Goal A) (prepared : Bool) (k : Class) → IsGoal c g → k ≡ g.class.value.class
    → LeadsBy told c g.q g.request prepared_room (PreparedTold g prepared) (record { stage = stages.Link (links.TracingWhole g); turn = turn.Lineage k })
whole_asked told c g prepared k goal is = record {
  kept = goal;
  number = refl;
  asks = ap (λ (d : Class). waits.Tracing d) (sym is);
  serves = refl;
  left = more_by_one (chain_left most);
  calls = stay told c (PreparedTold g prepared) g.request (past_loads 2 1 3);
  keeps = λ x h. record { frames = tt; facts = h.before };
  backed = λ x config names fine h. subst (λ (d : Class). IsRecorded (state_of x) d) (sym is) (own_recorded x (loader_of g.request) g.class.value.class fine (goal_at x g h.before));
  follows = λ s x served h. tt;
}

-- a request to link looks up a linked class
link_looks_up : (r : request.Request) (name : List ℕ) (d : Class) → r ≡ requests.Link (loader_of r) name → IsLookedUp r (verdicts.Linked d)
link_looks_up r name d is = subst (λ (q : request.Request). IsLookedUp q (verdicts.Linked d)) (sym is) tt

linked_borne : (s : State) (r : request.Request) (d : Class) → r ≡ requests.Link (loader_of r) d.name → recorded_definer s.records (loader_of r) d.name ≡ Some d.loader → Contains s.prepared d → Bears s (request_of r) (IsLinked d)
linked_borne s r d is at prepared =
    subst (λ (q : request.Request). Bears s (request_of q) (IsLinked d)) (sym is)
    (λ e h. subst (λ (k : Class). ((k.name ≡ d.name) × (recorded_definer s.records (loader_of r) d.name ≡ Some k.loader)) × Contains s.prepared k) (one_linked e d h) ((refl, at), prepared))

-- the answer of a link
abbrev pub linked_answer : request.Request → Class → Answered
linked_answer r d = ungrounded_answer r (answers.Said (verdicts.Linked d))

linked_backed : (c : Configured) (x : Shown) (r : request.Request) (d : Class) → x.config ≡ c → NamesLoaders x → loader_of r < length c.loaders → r ≡ requests.Link (loader_of r) d.name
    → recorded_definer (records_of x) (loader_of r) d.name ≡ Some d.loader → Contains (state_of x).prepared d → IsBacked x (linked_answer r d)
linked_backed c x r d config names asked is at prepared = record {
  within = record { loader = within_same c x (loader_of r) config asked; answer = recorded_is_named x (loader_of r) d.loader d.name names at };
  answer = record { grounded = inl (link_looks_up r d.name d is); borne = linked_borne (state_of x) r d is at prepared };
}

linked_comes : (g : Setting) (s : State) (r : request.Request) (d : Class) → IsSound g s → r ≡ requests.Link (loader_of r) d.name → recorded_definer s.records (loader_of r) d.name ≡ Some d.loader → Contains s.prepared d
    → ComesTo g s (request_of r) (IsLinked d)
linked_comes g s r d sound is at prepared = subst (λ (q : request.Request). ComesTo g s (request_of q) (IsLinked d)) (sym is) (prepared_comes g s (loader_of r) d.loader d.name sound at prepared)

pub linked_leads : {A : Type 0} (told : Option Content) (c : Configured) (g : Goal A) (k : Class) → IsGoal c g → k ≡ g.class.value.class
    → LeadsBy {A = A} told c g.q g.request last_room (DoneTold g) (record { stage = stages.Done g.q; turn = turn.Post (linked_answer g.request k) })
linked_leads told c g k goal is =
    let d = g.class.value.class in
    leads_post refl (omega arith) (λ w p s. omega arith)
    (λ x config names fine h.
    subst (λ (e : Class). IsBacked x (linked_answer g.request e)) (sym is) (linked_backed c x g.request d config names goal.asked goal.of (goal_at x g h.before) h.now))
    (λ s x served h.
    subst (λ (e : Class). ComesTo s (state_of x) (request_of g.request) (IsLinked e)) (sym is) (linked_comes s (state_of x) g.request d served.sound goal.of (goal_at x g h.before) h.now))

-- ---- its lineage

pub one_more : (a : ℕ) → a < a + 1
one_more a = omega arith

pub trace_leads : {A : Type 0} (told : Option Content) (c : Configured) (k : Chain A) (d : Class) → IsChain c k → d ≡ class_in k.whole k.place
    → LeadsBy told c k.goal.q k.goal.request (chain_room k) (ChainTold k) (record { stage = stages.Link (links.Tracing k); turn = turn.Lineage d })
trace_leads told c k d chain is = record {
  kept = chain;
  number = refl;
  asks = ap (λ (e : Class). waits.Tracing e) (sym is);
  serves = refl;
  left = one_more (chain_left (behind k));
  calls = stay told c (ChainTold k) k.goal.request (past_loads 0 0 (chain_calls k.whole k.place + 1));
  keeps = λ x h. record { frames = tt; facts = h };
  backed = λ x config names fine h. subst (λ (e : Class). IsRecorded (state_of x) e) (sym is) (traced_recorded x k.whole.own.class k.whole k.place (chain_whole x k h) chain.within);
  follows = λ s x served h. tt;
}

-- ---- the last class, whose lineage is the whole

last_place : {A : Type 0} (c : Configured) (k : Chain A) → IsChain c k → length k.whole.above ≤ k.place → class_in k.whole k.place ≡ k.whole.own.class
last_place c k chain le =
    let many = whole_length k.whole in
    let lt = chain.within in
    let at : k.place ≡ length k.whole.above = omega (arith, many, lt, le) in
    ap (λ (p : ℕ). class_in k.whole p) at ∙ class_last k.whole

pub whole_of : {A : Type 0} (c : Configured) (k : Chain A) (l : Lined) → IsChain c k → length k.whole.above ≤ k.place → l ≡ k.whole → IsOf c (class_in k.whole k.place) l
whole_of c k l chain le same = subst (λ (w : Lined). IsOf c (class_in k.whole k.place) w) (sym same) (record { class = sym (last_place c k chain le); config = chain.whole.config })

-- a step that goes on from the whole asks for no lineage
pub whole_leads : {A : Type 0} {n : Next A} (told : Option Content) (c : Configured) (k : Chain A) (l : Lined) → IsChain c k → length k.whole.above ≤ k.place → l ≡ k.whole
    → LeadsBy told c k.goal.q k.goal.request (listed_room k) (LineageTold k l) n → LeadsBy told c k.goal.q k.goal.request (chain_room k) (ChainTold k) n
whole_leads told c k l chain le same next =
    leads_by (chain_room k) (ChainTold k) next (one_turn_less (chain_left (behind k)))
    (fewer_calls told c (ChainTold k) k.goal.request 0 (chain_calls k.whole k.place) (chain_calls k.whole k.place + 1) (no_call (chain_calls k.whole k.place)))
    (λ x h. record { before = h; now = subst (λ (w : Lined). IsTraced x (class_in k.whole k.place) w) (sym same) (subst (λ (d : Class). IsTraced x d k.whole) (sym (last_place c k chain le)) (chain_whole x k h)) })
  where
    one_turn_less : (a : ℕ) → a ≤ a + 1
    one_turn_less a = omega arith

    no_call : (a : ℕ) → 0 + a ≤ a + 1
    no_call a = omega arith

abbrev pub chain_from : {A : Type 0} → Goal A → Lined → ℕ → Chain A
chain_from g whole n = record { goal = g; whole = whole; place = n }

pub counted_told : {A : Type 0} (x : Shown) (g : Goal A) (whole : Lined) (n : ℕ) → n ≤ length whole.above → CountedTold g whole n x → ChainTold (chain_from g whole n) x
counted_told x g whole n le h = chain_of x (chain_from g whole n) h.before h.whole_is (taken_above (Contains (state_of x).prepared) whole.above whole.own n le h.now)

pub counted_chain : {A : Type 0} (c : Configured) (g : Goal A) (whole : Lined) (n : ℕ) → IsGoal c g → IsOf c g.class.value.class whole → n ≤ length whole.above → IsChain c (chain_from g whole n)
counted_chain c g whole n goal of le = let many = whole_length whole in record { goal = goal; whole = of; within = omega (arith, many, le) }

abbrev pub next_of : {A : Type 0} → Chain A → Chain A
next_of k = record k { place = k.place + 1 }

pub marked_told : {A : Type 0} (c : Configured) (x : Shown) (k : Chain A) → IsChain c k → MarkedTold k x → ChainTold (next_of k) x
marked_told c x k chain h =
    chain_of x (next_of k) (chain_goal x k h.before) (chain_whole x k h.before)
    (taken_more (Contains (state_of x).prepared) (classes_in k.whole) k.place (class_in k.whole k.place) (chain_prepared x k h.before) (class_there k.whole k.place chain.within) h.now)

pub last_told : {A : Type 0} (c : Configured) (x : Shown) (k : Chain A) → IsChain c k → length k.whole.above ≤ k.place → MarkedTold k x → DoneTold k.goal x
last_told c x k chain le h = record {
  before = chain_goal x k h.before;
  now = subst (λ (d : Class). Contains (state_of x).prepared d) (last_place c k chain le ∙ chain.whole.class) h.now;
}

pub next_chain : {A : Type 0} (c : Configured) (k : Chain A) → IsChain c k → k.place < length k.whole.above → IsChain c (next_of k)
next_chain c k chain lt = let many = whole_length k.whole in record { goal = chain.goal; whole = chain.whole; within = omega (arith, many, lt) }

-- the class at a place is that of the row above there, if there is one
pub class_told : (l : Lined) (rows : List (Arc Rowed Global)) (place : ℕ) (o : Option (Arc Rowed Global)) → map (λ r. r.value) rows ≡ l.above → slice_get rows place ≡ o
    → class_in l place ≡ unwrap_or (option_map (λ (r : Arc Rowed Global). r.value.class) o) l.own.class
class_told l rows place o are at =
    ap (λ (rs : List Rowed). unwrap_or (slice_get (map (λ (r : Rowed). r.class) (rs ++ l.own ∷ [])) place) l.own.class) (sym are) ∙ within rows place
    ∙ ap (λ (x : Option (Arc Rowed Global)). unwrap_or (option_map (λ (r : Arc Rowed Global). r.value.class) x) l.own.class) at
  where
    within : (rs : List (Arc Rowed Global)) (k : ℕ) → unwrap_or (slice_get (map (λ (r : Rowed). r.class) (map (λ (r : Arc Rowed Global). r.value) rs ++ l.own ∷ [])) k) l.own.class
        ≡ unwrap_or (option_map (λ (r : Arc Rowed Global). r.value.class) (slice_get rs k)) l.own.class
    within [] zero = refl
    within [] (suc k) = refl
    within (r ∷ rs) zero = refl
    within (r ∷ rs) (suc k) = within rs k

-- ---- how many calls are left

-- each class of a lineage has two calls at least
pub chain_each_calls : (l : Lined) (place : ℕ) → IsInOrder l → place < length (rows_in l) → chain_calls l (place + 1) + 2 ≤ chain_calls l place
chain_each_calls l place order lt =
    let ks = lineage (kin_of l) in
    let many : length ks ≡ length (rows_in l) =
    sym (length-map ks (λ (k : Kin). k.class)) ∙ ap (λ (cs : List Class). length cs) (lineage_classes l order) ∙ length-map (rows_in l) (λ (row : Rowed). row.class) in
    let one : suc place ≡ place + 1 = omega arith in
    subst (λ (n : ℕ). chain_calls l n + 2 ≤ chain_calls l place) one (each ks place (subst (λ (n : ℕ). place < n) (sym many) lt))
  where
    each : (ks : List Kin) (n : ℕ) → n < length ks → link_calls (drop (suc n) ks) + 2 ≤ link_calls (drop n ks)
    each [] n lt = absurd (omega (arith, lt))
    each (k ∷ ks) zero lt = omega arith
    each (k ∷ ks) (suc n) lt = each ks n (omega (arith, lt))

-- something is left at a place of a lineage
pub chain_some_calls : (l : Lined) (place : ℕ) → IsInOrder l → place < length (rows_in l) → 1 ≤ chain_calls l place
chain_some_calls l place order lt = let two = chain_each_calls l place order lt in omega (arith, two)

-- those behind the classes that are prepared are no more than all
pub counted_calls : {A : Type 0} (told : Option Content) (c : Configured) (g : Goal A) (l : Lined) (n : ℕ) → CallsWithin told c (CountedTold g l n) g.request 0 (past_loads 0 0 (chain_calls l n + 1)) (past_loads 0 0 (chain_calls l 0 + 1))
counted_calls told c g l n =
    fewer_calls told c (CountedTold g l n) g.request 0 (chain_calls l n + 1) (chain_calls l 0 + 1) (within (chain_calls l n) (chain_calls l 0) (falls (lineage (kin_of l)) n))
  where
    falls : (ks : List Kin) (n : ℕ) → link_calls (drop n ks) ≤ link_calls (drop 0 ks)
    falls ks zero = omega arith
    falls [] (suc n) = omega arith
    falls (k ∷ ks) (suc n) = let fewer = falls ks n in omega (arith, fewer)

    within : (a b : ℕ) → a ≤ b → 0 + (a + 1) ≤ b + 1
    within a b le = omega (arith, le)

pub one_call : (a : ℕ) → 0 + 1 ≤ a + 1
one_call a = omega arith

-- the lineage of the class at the place of a chain was had, and there is room for the post
pub listed_post : {A : Type 0} (c : Configured) (k : Chain A) → IsChain c k → IsInOrder k.whole → HasPost (listed_room k)
listed_post c k chain order = post_room (chain_left (behind k)) 0 0 0 (chain_calls k.whole k.place) (one_at_least (chain_calls k.whole k.place) (chain_some_calls k.whole k.place order chain.within))
  where
    one_at_least : (a : ℕ) → 1 ≤ a → 0 + 1 ≤ a
    one_at_least a le = omega (arith, le)

-- all classes of the lineage are within what a link has left
pub whole_calls : {A : Type 0} (told : Option Content) (c : Configured) (g : Goal A) (whole : Lined) → IsGoal c g → IsOf c g.class.value.class whole → IsLineageOf told whole
    → CallsWithin told c (WholeTold g whole) g.request 0 (past_loads 0 0 (chain_calls whole 0 + 2)) (past_loads 2 1 2)
whole_calls told c g whole goal of lin =
    λ w x p served is h.
    let l = whole in
    let kept : recorded_definer (records_of x) (loader_of g.request) l.own.class.name ≡ Some l.own.class.loader =
    subst (λ (d : Class). recorded_definer (records_of x) (loader_of g.request) d.name ≡ Some d.loader) (sym of.class) (goal_at x g h.before) in
    let for_it : g.request ≡ requests.Link (loader_of g.request) l.own.class.name = subst (λ (d : Class). g.request ≡ requests.Link (loader_of g.request) d.name) (sym of.class) goal.of in
    let all = chain_within w (state_of x) g.request l p served.sound for_it kept (in_world told c w (state_of x) served l of.config lin) is in
    within (own_homes w.world p) (equalities_in p) (chain_calls l 0) all
  where
    within : (a b n : ℕ) → n ≤ 2 * a + b → 0 + (0 + (0 * a + 0 * b + (n + 2))) ≤ 0 + (2 * a + 1 * b + 2)
    within a b n le = omega (arith, le)

-- ---- how many turns are left

pub chain_some_turns : {A : Type 0} (c : Configured) (k : Chain A) → IsChain c k → 0 < chain_left (behind k)
chain_some_turns c k chain = let lt = chain.within in let some : 0 < behind k = omega (arith, lt) in product_some (behind k) most some
  where
    product_some : (n m : ℕ) → 0 < n → 0 < n * (m + 3)
    product_some n m lt = grind (arith, lt)

pub each_more : (b e : ℕ) → (b + 1) * e ≡ b * e + e
each_more b e = grind arith

pub chain_grows : (a b e : ℕ) → a ≤ b → a * e ≤ b * e
chain_grows a b e le = grind (arith, le)

pub whole_turns : (n : ℕ) → n ≤ most → chain_left n + 2 ≤ whole_left
whole_turns n le = let l = chain_grows n most each_left le in omega (arith, l)

pub one_turn : (a m : ℕ) → 1 ≤ a + (m + 1)
one_turn a m = omega arith

pub one_prepared : 1 ≤ prepared_left
one_prepared = one_turn (chain_left most) 2

pub rows_few : (l : Lined) (n : ℕ) → n < 2 ^ 64 → n ≡ length l.above → length (rows_in l) ≤ most
unfolding most
rows_few l n lt is =
    let many = whole_length l in
    let lim : 2 ^ 64 ≡ most = refl in
    omega (arith, lt, is, many, lim)

pub next_turns : (n p : ℕ) → chain_left (n - (p + 1)) + 1 ≤ linking_left ((n - p) - 1) 0
next_turns n p =
    let is : n - (p + 1) ≡ (n - p) - 1 = omega arith in
    let e = ap (λ (k : ℕ). chain_left k) is in
    omega (arith, e)

-- and behind those that are prepared no more than for all
pub counted_turns : (rows n : ℕ) → chain_left (rows - n) + 1 ≤ chain_left rows + 1
counted_turns rows n =
    let few : rows - n ≤ rows = omega arith in
    let l = chain_grows (rows - n) rows each_left few in
    omega (arith, l)

-- ---- how many of the classes above are prepared

pub count_leads : {A : Type 0} (told : Option Content) (c : Configured) (g : Goal A) (l same : Lined) → IsGoal c g → IsOf c g.class.value.class l → IsLineageOf told l → same ≡ l → length (rows_in l) ≤ most
    → LeadsBy told c g.q g.request whole_room (WholeTold g l) (record { stage = stages.Link (links.Counting g l); turn = turn.CountPrepared same })
count_leads told c g l same goal of lin is few = record {
  kept = (goal, of);
  number = refl;
  asks = ap (λ (k : Lined). waits.CountingPrepared k) (sym is);
  serves = refl;
  left = let turns = whole_turns (length (rows_in l)) few in omega (arith, turns);
  calls = whole_calls told c g l goal of lin;
  keeps = λ x h. record { frames = tt; facts = so_both x (goal_facts g) (HasLineage l ∷ []) h.before (traced_as x g.class.value.class l h.now, tt) };
  backed = λ x config names fine h. tt;
  follows = λ s x served h. tt;
}

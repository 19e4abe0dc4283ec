-- What a link does on a reply.
use Rattle.std.proofs.Common.{Global, ◌≡◌, ◌∙◌, ◌<◌, ◌≤◌, ◌+◌, ◌-◌, ◌*◌, ℕ, Bool, true, false, List, [], ◌∷◌, length, Option, Some, None, refl, sym, ap, subst, arith}
use Rattle.std.specs.Prelude.{slice_get, option_map, Contains, IfSome}
use Rattle.std.specs.declared.sync.Arc.{Arc}
use Rattle.cl_model.specs.declared.answer.Answer.TheVariants as answers
use Rattle.cl_model.specs.declared.class.Class.{Class}
use Rattle.cl_model.specs.declared.need.Equality.{Equality}
use Rattle.cl_model.specs.declared.need.Need as rust
use Rattle.cl_model.specs.declared.request.Request.{Request}
use Rattle.cl_model.specs.declared.verdict.Verdict.TheVariants as verdicts
use Rattle.cl_model.specs.Content.{Content}
use Rattle.cl_model.specs.States.{Met}
use Rattle.cl_model.specs.Views.{need_of}
use Rattle.cl_model.proofs.Bind.{some_same}
use Rattle.cl_config.specs.Views.{Configured}
use Rattle.cl_hierarchy.specs.Imposed.{Listed, Sprung, equal_need}
use Rattle.cl_hierarchy.specs.Lineages.{IsInOrder, Lined, rows_in}
use Rattle.cl_hierarchy.specs.Rows.{Rowed}
use Rattle.cl_registry.specs.Imposing.{IsPreparedBy}
use Rattle.cl_registry.specs.Tables.{Shown, state_of}
use Rattle.cl_registry.proofs.Schedules.{some_at}
use Rattle.cl_tasks.specs.Deriving.{IsPast}
use Rattle.cl_tasks.specs.Calls.{equalities_in, own_homes, past_loads}
use Rattle.cl_tasks.specs.Follows.{CallsWithin, EndsAsRefused, Posts, Tells}
use Rattle.cl_tasks.specs.Linking.{CountedTold, LineageTold, ListTold, MarkedTold, PreparedTold, RefusedTold, WholeTold}
use Rattle.cl_tasks.specs.Measures.{chain_left, linking_left, prepared_left, whole_left}
use Rattle.cl_tasks.specs.Rooms.{counted_room, last_room, linking_room, listed_room, marked_room, prepared_room, whole_room}
use Rattle.cl_tasks.specs.Stages.{IsAtPlace, IsChain, behind, chain_calls, class_in, goal_facts, linking_at, list_calls, task_at}
use Rattle.cl_tasks.specs.Steps.{IsPlain, LeadsBy, Steps, task_room}
use Rattle.cl_tasks.specs.Tasks.{HasLineage}
use Rattle.cl_tasks.specs.Turns.{AnswersOwn, PostsOr}
use Rattle.cl_tasks.specs.Waits as waits
use Rattle.cl_tasks.specs.declared.stage.Chain.{Chain}
use Rattle.cl_tasks.specs.declared.stage.Goal.{Goal}
use Rattle.cl_tasks.specs.declared.stage.Link.TheVariants as links
use Rattle.cl_tasks.specs.declared.stage.Next.{Next}
use Rattle.cl_tasks.specs.declared.turn.Reply.TheVariants as reply
use Rattle.cl_tasks.proofs.Deriving.{past_derives}
use Rattle.cl_tasks.proofs.Lead.{HasPost, plain_steps}
use Rattle.cl_tasks.proofs.LinkFacts.{list_chain, list_imposed, list_of, list_traced, row_there, met_more, so_first, so_second}
use Rattle.cl_tasks.proofs.LinkLeads.{chain_some_calls, fewer_calls, post_calls, post_room}
use Rattle.std.proofs.lemmas.Option.{none-some}

same_turns : (m : ℕ) → m ≤ m
same_turns m = omega arith

-- one call was made
one_made : (told : Option Content) (c : Configured) (now : Shown → Type 0) (r : Request) (homes equalities more : ℕ) → CallsWithin told c now r 1 (past_loads homes equalities more) (past_loads homes equalities (more + 1))
one_made told c now r homes equalities more = λ g x p served is h. one_more (homes * own_homes g.world p) (equalities * equalities_in p) more
  where
    one_more : (a b n : ℕ) → 1 + (0 + (a + b + n)) ≤ 0 + (a + b + (n + 1))
    one_more a b n = omega arith

-- ---- whether the request's class is prepared

prepared_told : {A : Type 0} (c : Configured) (g : Goal A) (p : Bool) (x : Shown) → Tells {A = A} x (linking_at c (links.LookingPrepared g)) (reply.LookedPrepared p) → PreparedTold g p x
prepared_told c g true x h = record { before = h.before.facts; now = λ e. h.now }
prepared_told c g false x h = record { before = h.before.facts; now = λ e. absurd cc }

waits_same : (a b : Class) → waits.LookingPrepared a ≡ waits.LookingPrepared b → a ≡ b
waits_same a b h = cc

prepared_own : {A : Type 0} (c : Configured) (g : Goal A) (p : Bool) (n : Next A) → (p ≡ true → PostsOr (answers.Said (verdicts.Linked g.class.value.class)) n.turn)
    → AnswersOwn (linking_at c (links.LookingPrepared g)) (task_at c n.stage) (reply.LookedPrepared p) n.turn
prepared_own c g true n own = λ d e alone. subst (λ (k : Class). PostsOr (answers.Said (verdicts.Linked k)) n.turn) (waits_same g.class.value.class d e) (own refl)
prepared_own c g false n own = tt

pub prepared_steps : {A : Type 0} (told : Option Content) (c : Configured) (g : Goal A) (p : Bool) (n : Next A) → LeadsBy told c g.q g.request prepared_room (PreparedTold g p) n
    → (p ≡ true → PostsOr (answers.Said (verdicts.Linked g.class.value.class)) n.turn) → IsPlain n.turn → IsPast n.stage → Steps told (linking_at c (links.LookingPrepared g)) (reply.LookedPrepared p) n
prepared_steps told c g p n l own plain past =
    plain_steps (linking_at c (links.LookingPrepared g)) (reply.LookedPrepared p) n refl refl refl l (same_turns prepared_left) (one_made told c _ g.request 2 1 3)
    (λ x h. prepared_told c g p x h) tt tt (λ h. tt) (past_derives _ [] n.stage past) (prepared_own c g p n own) plain

-- ---- how many of the classes above are prepared

one_counted : (a : ℕ) → 1 + (a + 1) ≤ a + 2
one_counted a = omega arith

counted_so : {A : Type 0} (c : Configured) (g : Goal A) (l : Lined) (count : ℕ) (x : Shown) → Tells {A = A} x (linking_at c (links.Counting g l)) (reply.CountedPrepared count) → CountedTold g l count x
counted_so c g l count x h = record {
  before = so_first x (goal_facts g) (HasLineage l ∷ []) h.before.facts;
  whole_is = (so_second x (goal_facts g) (HasLineage l ∷ []) h.before.facts).0;
  now = h.now;
}

pub counted_steps : {A : Type 0} (told : Option Content) (c : Configured) (g : Goal A) (whole : Lined) (count : ℕ) (n : Next A) → LeadsBy told c g.q g.request (counted_room whole) (CountedTold g whole count) n → IsPlain n.turn → IsPast n.stage
    → Steps told (linking_at c (links.Counting g whole)) (reply.CountedPrepared count) n
counted_steps told c g whole count n l plain past =
    plain_steps (linking_at c (links.Counting g whole)) (reply.CountedPrepared count) n refl refl refl l (same_turns (chain_left (length (rows_in whole)) + 1)) (fewer_calls told c _ g.request 1 (chain_calls whole 0 + 1) (chain_calls whole 0 + 2) (one_counted (chain_calls whole 0)))
    (λ x h. counted_so c g whole count x h) tt tt (λ h. tt) (past_derives _ [] n.stage past) tt plain

-- ---- lineages

pub whole_steps : {A : Type 0} (told : Option Content) (c : Configured) (g : Goal A) (whole : Lined) (n : Next A) → LeadsBy told c g.q g.request whole_room (WholeTold g whole) n → IsPlain n.turn → IsPast n.stage
    → Steps told (linking_at c (links.TracingWhole g)) (reply.Lineage whole) n
whole_steps told c g whole n l plain past =
    plain_steps (linking_at c (links.TracingWhole g)) (reply.Lineage whole) n refl refl refl l (same_turns whole_left) (one_made told c _ g.request 2 1 2)
    (λ x h. record { before = h.before.facts; now = h.now }) tt tt (λ h. tt) (past_derives _ [] n.stage past) tt plain

pub traced_steps : {A : Type 0} (told : Option Content) (c : Configured) (k : Chain A) (lineage : Lined) (n : Next A) → LeadsBy told c k.goal.q k.goal.request (listed_room k) (LineageTold k lineage) n → IsPlain n.turn → IsPast n.stage
    → Steps told (linking_at c (links.Tracing k)) (reply.Lineage lineage) n
traced_steps told c k lineage n l plain past =
    plain_steps (linking_at c (links.Tracing k)) (reply.Lineage lineage) n refl refl refl l (same_turns (chain_left (behind k))) (fewer_calls told c _ k.goal.request 1 (chain_calls k.whole k.place) (chain_calls k.whole k.place + 1) (one_traced (chain_calls k.whole k.place)))
    (λ x h. record { before = h.before.facts; now = h.now }) tt tt (λ h. tt) (past_derives _ [] n.stage past) tt plain
  where
    one_traced : (a : ℕ) → 1 + a ≤ a + 1
    one_traced a = omega arith

-- ---- equalities

imposed_told : {A : Type 0} (k : Chain A) (e : Listed) (i : ℕ) (x : Shown) (o : Option Equality) → slice_get e.needs i ≡ o → i < length e.needs → IsAtPlace k e → ListTold k e i x → IfSome o (λ n. Met (state_of x) (equal_need n)) → ListTold k e (i + 1) x
imposed_told k e i x None at lt place h one = absurd (past e.needs i at lt)
  where
    past : (ys : List Equality) (j : ℕ) → slice_get ys j ≡ None → j < length ys → ⊥
    past ys j f g = let s = some_at ys j g in none-some s.0 (sym f ∙ s.1)
imposed_told k e i x (Some y) at lt place h one =
    list_of x k e (i + 1) place.at place.prepares (list_chain x k e i h) (list_traced x k e i place.at place.prepares h) (met_more x e i y at (list_imposed x k e i h) one)

next_less : (a m p : ℕ) → p < m → a + ((m - (p + 1)) + 1) + 1 ≤ a + ((m - p) + 1)
next_less a m p lt = omega (arith, lt)

one_imposed : (a m p : ℕ) → p < m → 1 + (a + ((m - (p + 1)) + 2)) ≤ a + ((m - p) + 2)
one_imposed a m p lt = omega (arith, lt)

pub imposed_steps : {A : Type 0} (told : Option Content) (c : Configured) (k : Chain A) (e : Arc Listed Global) (i : ℕ) (n : Next A) → IsAtPlace k e.value → i < length e.value.needs
    → LeadsBy told c k.goal.q k.goal.request (linking_room k e.value (i + 1)) (ListTold k e.value (i + 1)) n → IsPlain n.turn → IsPast n.stage → Steps told (linking_at c (links.Imposing k e i)) reply.Imposed n
imposed_steps told c k e i n place lt l plain past =
    plain_steps (linking_at c (links.Imposing k e i)) reply.Imposed n refl refl refl l (next_less (chain_left (behind k - 1)) (length e.value.needs) i lt)
    (fewer_calls told c _ k.goal.request 1 (list_calls k.whole k.place (length e.value.needs - (i + 1))) (list_calls k.whole k.place (length e.value.needs - i)) (one_imposed (chain_calls k.whole (k.place + 1)) (length e.value.needs) i lt))
    (λ x h. imposed_told k e.value i x (slice_get e.value.needs i) refl lt place h.before.facts h.now) tt tt (λ h. tt) (past_derives _ [] n.stage past) tt plain

one_less : (a m : ℕ) → 1 ≤ a + (m + 1)
one_less a m = omega arith

two_more : (a m : ℕ) → 1 + 1 ≤ a + (m + 2)
two_more a m = omega arith

pub refused_steps : {A : Type 0} (told : Option Content) (c : Configured) (k : Chain A) (e : Arc Listed Global) (i : ℕ) (need : rust.Need) (n : Next A)
    → LeadsBy told c k.goal.q k.goal.request last_room (RefusedTold k e.value i (need_of need)) n → IsPlain n.turn → IsPast n.stage → EndsAsRefused k.goal.request need n.turn → (Posts answers.Memory n.turn → ⊥) → Steps told (linking_at c (links.Imposing k e i)) (reply.Refused need) n
refused_steps told c k e i need n l plain past ends posts =
    plain_steps (linking_at c (links.Imposing k e i)) (reply.Refused need) n refl refl refl l (one_less (chain_left (behind k - 1)) (length e.value.needs - i))
    (post_calls told c _ k.goal.request 1 0 0 (list_calls k.whole k.place (length e.value.needs - i)) (two_more (chain_calls k.whole (k.place + 1)) (length e.value.needs - i)))
    (λ x h. record { before = h.before.facts; now = h.now }) ends tt (λ h. absurd (posts h)) (past_derives _ [] n.stage past) tt plain

-- ---- preparations

prepared_there : {A : Type 0} (c : Configured) (k : Chain A) (e : Listed) (x : Shown) → IsChain c k → (place : IsAtPlace k e) → IsPreparedBy x e.origin → Contains (state_of x).prepared (class_in k.whole k.place)
prepared_there c k e x chain place h =
    let row = row_there k.whole k.place chain.within in
    let is : class_in k.whole k.place ≡ place.at.own.class = row.2 ∙ some_same row.0.class place.at.own.class (sym (ap (λ (o : Option Rowed). option_map (λ (y : Rowed). y.class) o) row.1) ∙ place.there) in
    let here : Contains (state_of x).prepared place.at.own.class = subst (λ (from : Sprung). IsPreparedBy x from) place.prepares h in
    subst (λ (d : Class). Contains (state_of x).prepared d) (sym is) here

one_marked : (a : ℕ) → 1 + (a + 1) ≤ a + (0 + 2)
one_marked a = omega arith

pub marked_steps : {A : Type 0} (told : Option Content) (c : Configured) (k : Chain A) (e : Arc Listed Global) (n : Next A) → IsChain c k → IsAtPlace k e.value
    → LeadsBy told c k.goal.q k.goal.request (marked_room k) (MarkedTold k) n → IsPlain n.turn → IsPast n.stage → Steps told (linking_at c (links.Marking k e)) reply.Marked n
marked_steps told c k e n chain place l plain past =
    plain_steps (linking_at c (links.Marking k e)) reply.Marked n refl refl refl l (same_turns (linking_left (behind k - 1) 0))
    (fewer_calls told c _ k.goal.request 1 (chain_calls k.whole (k.place + 1) + 1) (list_calls k.whole k.place 0) (one_marked (chain_calls k.whole (k.place + 1))))
    (λ x h. record { before = list_chain x k e.value (length e.value.needs) h.before.facts; now = prepared_there c k e.value x chain place h.now }) tt tt (λ h. tt) (past_derives _ [] n.stage past) tt plain

-- ---- memory

-- before the lineage of the class that is linked was had there is room for the post
pub past_post : (turns more : ℕ) → HasPost (record { turns = turns; made = 1; calls = past_loads 2 1 (more + 2) })
past_post turns more = post_room turns 1 2 1 (more + 2) (two_of more)
  where
    two_of : (m : ℕ) → 1 + 1 ≤ m + 2
    two_of m = omega arith

-- and so before it is known how many of the classes above are prepared
pub counted_post : {A : Type 0} (c : Configured) (g : Goal A) (whole : Lined) → HasPost (task_room (linking_at c (links.Counting g whole)))
counted_post c g whole = post_room (chain_left (length (rows_in whole)) + 1) 1 0 0 (chain_calls whole 0 + 2) (two_calls (chain_calls whole 0))
  where
    two_calls : (a : ℕ) → 1 + 1 ≤ a + 2
    two_calls a = omega arith

-- and before the lineage of a class of it was had
pub traced_post : {A : Type 0} (c : Configured) (k : Chain A) → IsChain c k → IsInOrder k.whole → HasPost (task_room (linking_at c (links.Tracing k)))
traced_post c k chain order = post_room (chain_left (behind k)) 1 0 0 (chain_calls k.whole k.place + 1) (one_and_more (chain_calls k.whole k.place) (chain_some_calls k.whole k.place order chain.within))
  where
    one_and_more : (a : ℕ) → 1 ≤ a → 1 + 1 ≤ a + 1
    one_and_more a le = omega (arith, le)

-- and where its equalities are imposed
pub list_post : (turns a m : ℕ) → HasPost (record { turns = turns; made = 1; calls = past_loads 0 0 (a + (m + 2)) })
list_post turns a m = post_room turns 1 0 0 (a + (m + 2)) (two_more a m)

pub some_left : (a m : ℕ) → 0 < a + (m + 1)
some_left a m = omega arith

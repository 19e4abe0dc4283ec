-- What the resolution of an entry that asks for a member does on a reply.
use Rattle.std.proofs.Common.{Global, ◌≡◌, ◌<◌, ◌≤◌, ◌+◌, ◌-◌, ℕ, [], ◌∷◌, ◌++◌, length, Option, Some, inl, refl, sym, subst, arith}
use Rattle.std.specs.Prelude.{slice_get, IfSome}
use Rattle.std.specs.declared.sync.Arc.{Arc}
use Rattle.cl_model.specs.declared.answer.Answer.TheVariants as answers
use Rattle.cl_model.specs.declared.class.Class.{Class}
use Rattle.cl_model.specs.declared.need.Equality.{Equality}
use Rattle.cl_model.specs.declared.need.Need as rust
use Rattle.cl_model.specs.declared.request.Request.{Request}
use Rattle.cl_model.specs.declared.request.Request.TheVariants as requests
use Rattle.cl_model.specs.declared.settled.Settled.{Settled}
use Rattle.cl_model.specs.Content.{Content}
use Rattle.cl_model.specs.States.{Met, recorded_definer}
use Rattle.cl_model.specs.Views.{need_of}
use Rattle.cl_config.specs.Views.{Configured}
use Rattle.cl_hierarchy.specs.Imposed.{equal_need}
use Rattle.cl_hierarchy.specs.Lineages.{Lined}
use Rattle.cl_hierarchy.specs.Rows.{Rowed}
use Rattle.cl_findings.specs.Findings.{loader_of, ungrounded_answer}
use Rattle.cl_registry.specs.References.{IsSettledIn}
use Rattle.cl_registry.specs.Tables.{Shown, records_of, state_of}
use Rattle.cl_registry.proofs.Schedules.{some_at}
use Rattle.cl_tasks.specs.Calls.{past_loads}
use Rattle.cl_tasks.specs.Facts.{AreSo}
use Rattle.cl_tasks.specs.Deriving.{IsPast}
use Rattle.cl_tasks.specs.Follows.{EndsAsRefused, ResolvesReference, IsSettledOf, Tells}
use Rattle.cl_tasks.specs.Measures.{imposing_left, settling_left, tracing_named_left, tracing_own_left}
use Rattle.cl_tasks.specs.Resolving.{ImposedTold, OwnTold, MemberRefusedTold, TracedTold}
use Rattle.cl_tasks.specs.Rooms.{imposing_room, room_of, settle_room, tracing_named_room, tracing_own_room}
use Rattle.cl_tasks.specs.Stages.{IsEntry, named_facts, resolving_at}
use Rattle.cl_tasks.specs.Steps.{IsPlain, LeadsBy, Steps}
use Rattle.cl_tasks.specs.Tasks.{HasLineage}
use Rattle.cl_tasks.specs.declared.stage.Entry as entries
use Rattle.cl_tasks.specs.declared.stage.Member.{Member}
use Rattle.cl_tasks.specs.declared.stage.Next.{Next}
use Rattle.cl_tasks.specs.declared.stage.Resolution.TheVariants as resolutions
use Rattle.cl_tasks.specs.declared.stage.Stage.TheVariants as stages
use Rattle.cl_tasks.specs.declared.turn.Reply.TheVariants as reply
use Rattle.cl_tasks.specs.declared.turn.Turn.TheVariants as turn
use Rattle.cl_tasks.proofs.Deriving.{past_derives}
use Rattle.cl_tasks.proofs.Entries.{leads_shared}
use Rattle.cl_tasks.proofs.Lacking.{shared_memory}
use Rattle.cl_tasks.proofs.Lead.{plain_steps}
use Rattle.cl_tasks.proofs.LinkFacts.{met_more}
use Rattle.cl_tasks.proofs.MemberFacts.{member_imposed, member_needs, member_of, member_own, member_through, traced_as}

same_room : (m : ℕ) → m ≤ m
same_room m = omega arith

-- ---- lineages

pub own_steps : {A : Type 0} (told : Option Content) (c : Configured) (e : entries.Entry A) (k : Arc Rowed Global) (own : Lined) (n : Next A) → LeadsBy told c e.q e.request tracing_own_room (OwnTold e k.value own) n → IsPlain n.turn → IsPast n.stage
    → Steps told (resolving_at c (resolutions.TracingOwn e k)) (reply.Lineage own) n
own_steps told c e k own n l plain past =
    plain_steps (resolving_at c (resolutions.TracingOwn e k)) (reply.Lineage own) n refl refl refl l (same_room tracing_own_left) (λ g x p served is h. omega arith)
    (λ x h. record { before = h.before.facts; now = h.now }) tt tt (λ h. tt) (past_derives _ [] n.stage past) tt plain

pub named_steps : {A : Type 0} (told : Option Content) (c : Configured) (e : entries.Entry A) (own : Lined) (k : Arc Rowed Global) (named : Lined) (n : Next A) → named.own.class ≡ k.value.class
    → LeadsBy told c e.q e.request tracing_named_room (TracedTold e own named) n → IsPlain n.turn → IsPast n.stage → Steps told (resolving_at c (resolutions.TracingNamed e own k)) (reply.Lineage named) n
named_steps told c e own k named n is l plain past =
    plain_steps (resolving_at c (resolutions.TracingNamed e own k)) (reply.Lineage named) n refl refl refl l (same_room tracing_named_left) (λ g x p served is h. omega arith)
    (λ x h. record {
      before = subst (λ (j : Class). AreSo x (named_facts e.request e.d.value.class j ++ HasLineage own ∷ [])) (sym is) h.before.facts;
      now = traced_as x k.value.class named h.now;
    }) tt tt (λ h. tt) (past_derives _ [] n.stage past) tt plain

-- ---- equalities

imposed_told : {A : Type 0} (m : Member A) (i : ℕ) (x : Shown) → i < length m.equalities.value.needs → ImposedTold m i x → IfSome (slice_get m.equalities.value.needs i) (λ n. Met (state_of x) (equal_need n)) → ImposedTold m (i + 1) x
imposed_told m i x lt h one =
    let y = some_at m.equalities.value.needs i lt in
    let met : Met (state_of x) (equal_need y.0) = subst (λ (o : Option Equality). IfSome o (λ n. Met (state_of x) (equal_need n))) y.1 one in
    member_of x m (i + 1) (member_needs x m i h) (member_own x m i h) (member_through x m i h) (met_more x m.equalities.value i y.0 y.1 (member_imposed x m i h) met)

next_less : (m p : ℕ) → p < m → imposing_left (m - (p + 1)) + 1 ≤ imposing_left (m - p)
next_less m p lt = omega (arith, lt)

pub imposed_steps : {A : Type 0} (told : Option Content) (c : Configured) (m : Member A) (i : ℕ) (n : Next A) → i < length m.equalities.value.needs
    → LeadsBy told c m.entry.q m.entry.request (imposing_room m (i + 1)) (ImposedTold m (i + 1)) n → IsPlain n.turn → IsPast n.stage → Steps told (resolving_at c (resolutions.Imposing m i)) reply.Imposed n
imposed_steps told c m i n lt l plain past =
    plain_steps (resolving_at c (resolutions.Imposing m i)) reply.Imposed n refl refl refl l (next_less (length m.equalities.value.needs) i lt) (λ g x p served is h. omega arith)
    (λ x h. imposed_told m i x lt h.before.facts h.now) tt tt (λ h. tt) (past_derives _ [] n.stage past) tt plain

two_less : (m p : ℕ) → p < m → 2 ≤ imposing_left (m - p)
two_less m p lt = omega (arith, lt)

pub refused_steps : {A : Type 0} (told : Option Content) (c : Configured) (m : Member A) (i : ℕ) (need : rust.Need) (n : Next A) → i < length m.equalities.value.needs
    → LeadsBy told c m.entry.q m.entry.request settle_room (MemberRefusedTold m i (need_of need)) n → IsPlain n.turn → IsPast n.stage → EndsAsRefused m.entry.request need n.turn → ResolvesReference m.entry.request → Steps told (resolving_at c (resolutions.Imposing m i)) (reply.Refused need) n
refused_steps told c m i need n lt l plain past ends resolves =
    plain_steps (resolving_at c (resolutions.Imposing m i)) (reply.Refused need) n refl refl refl l (two_less (length m.equalities.value.needs) i lt) (λ g x p served is h. omega arith)
    (λ x h. record { before = h.before.facts; now = h.now }) ends tt (λ h. resolves) (past_derives _ [] n.stage past) tt plain

-- ---- what is settled

settled_in : (x : Shown) (r : Request) (d : Class) (i : ℕ) (s : Settled) → r ≡ requests.Resolve (loader_of r) d.name i → recorded_definer (records_of x) (loader_of r) d.name ≡ Some d.loader → IsSettledOf x r s → IsSettledIn x d i s
settled_in x r d i s is at h = subst (λ (q : Request). IsSettledOf x q s) is h d (refl, at)

pub settled_steps : {A : Type 0} (told : Option Content) (c : Configured) (e : entries.Entry A) (s : Arc Settled Global) → IsEntry c e
    → Steps {A = A} told (resolving_at c (resolutions.Settling e)) (reply.Settled s) (record { stage = stages.Done e.q; turn = turn.Post (ungrounded_answer e.request (answers.Shared s)) })
settled_steps {A} told c e s entry =
    let holds : Shown → Type 0 = λ x. Tells {A = A} x (resolving_at c (resolutions.Settling e)) (reply.Settled s) in
    let kept : (x : Shown) → holds x → recorded_definer (records_of x) (loader_of e.request) e.d.value.class.name ≡ Some e.d.value.class.loader = λ x h. h.before.facts.0 in
    let led = leads_shared A told c e.q e.request e.d.value.class e.index s (room_of settling_left (past_loads 0 0 1)) holds entry.of entry.asked kept (λ x h. settled_in x e.request e.d.value.class e.index s.value entry.of (kept x h) h.now) (omega arith) (λ w p s. omega arith) in
    plain_steps (resolving_at c (resolutions.Settling e)) (reply.Settled s) _ refl refl refl led (same_room settling_left) (λ g x p served is h. omega arith) (λ x h. h) tt tt (λ h. shared_memory s h) tt (inl refl) tt

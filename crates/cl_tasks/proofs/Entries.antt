-- Steps of a request whose class is recorded, and of the entry that it asks for (JVMS SE 8, 5.3, 5.4.3, 5.4.3.1).
use Rattle.std.proofs.Common.{◌≡◌, ◌∙◌, ◌<◌, ◌≤◌, ◌+◌, ℕ, zero, suc, Bool, true, false, List, length, Option, Some, None, inl, inr, refl, sym, ap, subst, arith}
use Rattle.std.specs.declared.alloc.Global.{Global}
use Rattle.std.specs.declared.sync.Arc.{Arc}
use Rattle.cl_model.specs.declared.answer.Answer.TheVariants as answers
use Rattle.cl_model.specs.declared.class.Class.{Class}
use Rattle.cl_model.specs.declared.request.Request.{Request}
use Rattle.cl_model.specs.declared.request.Request.TheVariants as requests
use Rattle.cl_model.specs.declared.settled.Settled.{Settled}
use Rattle.cl_model.specs.declared.verdict.Verdict as verdict
use Rattle.cl_model.specs.declared.verdict.Verdict.TheVariants as verdicts
use Rattle.cl_classfile.specs.Files.{Reference, ToClass, ToField, ToMethod, ToInterfaceMethod}
use Rattle.cl_model.specs.Classes.{Error, IllegalAccess}
use Rattle.cl_model.specs.declared.verdict.ErrorKind.{ErrorKind}
use Rattle.cl_model.specs.declared.verdict.ErrorKind.TheVariants as kinds
use Rattle.cl_model.specs.Plans.{class_verdict}
use Rattle.cl_model.specs.Content.{Content}
use Rattle.cl_model.specs.Homes.{World}
use Rattle.cl_model.specs.Machine.{AnswersPlan, IsSound, Setting}
use Rattle.cl_model.specs.Plans as plans
use Rattle.cl_model.specs.Service.{ComesTo}
use Rattle.cl_model.specs.States.{State, Verdict, IsArrayOf, IsArrayOfBase, IsClass, Wrong, recorded_definer, settled_to}
use Rattle.cl_model.specs.States as states
use Rattle.cl_model.specs.Tables.{Bears, Records}
use Rattle.cl_model.specs.Texts.{VerdictNames}
use Rattle.cl_model.specs.Views.{error_of, request_of, verdict_of}
use Rattle.cl_model.proofs.Gone.{borne_said}
use Rattle.cl_model.proofs.Planned.{plan_exists}
use Rattle.cl_model.proofs.Reached.{reference_is_plan}
use Rattle.cl_model.proofs.Service.{resolve_wants, said_comes}
use Rattle.cl_model.proofs.Tables.{recorded_reached}
use Rattle.cl_model.proofs.Bind.{some_same}
use Rattle.cl_config.specs.Views.{Configured}
use Rattle.cl_findings.specs.Findings.{Answered, Based, Rests, loader_of, grounded_answer, ungrounded_answer}
use Rattle.cl_hierarchy.specs.Rows.{Rowed}
use Rattle.cl_registry.proofs.Named.{recorded_is_named}
use Rattle.cl_findings.specs.References.{EndsAtClass, EndsAtOnce, IsAtClass, IsAtOnce, class_basis, entry_basis}
use Rattle.cl_registry.specs.References.{IsSettledIn, settled_by}
use Rattle.cl_registry.specs.Tables.{Shown, records_of, settled_at, state_of}
use Rattle.cl_registry.proofs.Backed.{settled_named}
use Rattle.cl_registry.specs.Settling.{IsSettledKind}
use Rattle.cl_tasks.specs.Calls.{calls_in, past_loads}
use Rattle.cl_tasks.specs.Resolving.{EntryTold, IsNoneSettled, IsSame, NamedTold, SettledTold}
use Rattle.cl_tasks.specs.Rooms.{Room, named_room, reference_room}
use Rattle.cl_tasks.specs.declared.stage.Next.{Next}
use Rattle.cl_tasks.specs.Stages.{IsEntry}
use Rattle.cl_tasks.specs.Steps.{LeadsBy}
use Rattle.cl_tasks.specs.declared.stage.Entry as entries
use Rattle.cl_tasks.specs.declared.stage.Resolution.TheVariants as resolutions
use Rattle.cl_tasks.specs.declared.stage.Stage.TheVariants as stages
use Rattle.cl_tasks.specs.declared.turn.Turn.TheVariants as turn
use Rattle.cl_tasks.specs.Waits as waits
use Rattle.cl_tasks.proofs.Lead.{HasPost, Holding, leads_by, leads_post}
use Rattle.cl_tasks.proofs.Said.{Settling, Stood, borne, may_settle, settled_next, stood_answers}
use Rattle.cl_tasks.proofs.MemberFacts.{same_entry, same_told}

-- ---- rooms

-- there is room for what is settled and for the post, beside the call that was made
abbrev pub HasSettle : Room → Type 0
HasSettle room = (w : World) (p : plans.Plan) (s : State) → room.made + 2 ≤ calls_in room.calls w p s

settles_within : (told : Option Content) (c : Configured) (now : Shown → Type 0) (r : Request) (room : Room) → HasSettle room → Holding told c now r (past_loads 0 0 2) room
settles_within told c now r room h = λ g x p served is k. let two = h g.world p (state_of x) in omega arith

-- ---- an entry that is never settled is answered so

never_bears : (s : State) (l : ℕ) (n : List ℕ) (i : ℕ) (v : verdict.Verdict) → IsNoneSettled v → Bears s (plans.Resolve l n i) (verdict_of v)
never_bears s l n i verdicts.BadEntry never = λ d kept. inl refl
never_bears s l n i verdicts.ArrayMember never = λ d kept. inr (inl refl)
never_bears s l n i other never = absurd (never (record { is_entry = λ e. cc; is_class_member = λ e. cc }))

-- of a request that resolves an entry
resolving : (r : Request) (d : Class) (i : ℕ) (P : Request → Type 0) → r ≡ requests.Resolve (loader_of r) d.name i → P (requests.Resolve (loader_of r) d.name i) → P r
resolving r d i P is p = subst P (sym is) p

-- an answer of a resolution that the tables bear is what it comes to
bears_comes : (g : Setting) (s : State) (l : ℕ) (n : List ℕ) (i : ℕ) (v : Verdict) → Bears s (plans.Resolve l n i) v → AnswersPlan g s (plans.Resolve l n i) v → ComesTo g s (plans.Resolve l n i) v
bears_comes g s l n i v bears answer = said_comes g s (plans.Resolve l n i) v (resolve_wants l n i) (borne_said g s (plans.Resolve l n i) v bears answer)

pub leads_never : (A : Type 0) (told : Option Content) (c : Configured) (q : ℕ) (r : Request) (d : Class) (i : ℕ) (v : verdict.Verdict) (b : Based) (room : Room) (holds : Shown → Type 0) → Stood told c r v b holds → r ≡ requests.Resolve (loader_of r) d.name i → IsNoneSettled v → 0 < room.turns → HasPost room
    → LeadsBy {A = A} told c q r room holds (record { stage = stages.Done q; turn = turn.Post (grounded_answer r v b) })
leads_never A told c q r d i v b room holds stood is never more post =
    let bears = λ (s : State). resolving r d i (λ (k : Request). Bears s (request_of k) (verdict_of v)) is (never_bears s (loader_of r) d.name i v never) in
    leads_post refl more post
    (λ x config named consistent h. record {
      within = stood.within x config named h;
      answer = record {
        grounded = inr (record { within = stood.within x config named h; basis = borne told c r v b holds stood x config h });
        borne = bears (state_of x);
      };
    })
    (λ g x served h.
    let answer = stood_answers told c r v b holds stood g x served h in
    resolving r d i (λ (k : Request). ComesTo g (state_of x) (request_of k) (verdict_of v)) is
    (bears_comes g (state_of x) (loader_of r) d.name i (verdict_of v) (never_bears (state_of x) (loader_of r) d.name i v never)
    (subst (λ (k : Request). AnswersPlan g (state_of x) (request_of k) (verdict_of v)) is answer)))

-- ---- an entry is settled

pub leads_settles : (A : Type 0) (told : Option Content) (c : Configured) (q : ℕ) (r : Request) (d : Class) (i : ℕ) (v : verdict.Verdict) (b : Based) (room : Room) (holds : Shown → Type 0) (kept : entries.Entry A) → Stood told c r v b holds → Settling r d i v holds → IsEntry c kept → kept.q ≡ q → kept.request ≡ r
    → ((x : Shown) → holds x → EntryTold kept x) → 1 < room.turns → HasSettle room → LeadsBy {A = A} told c q r room holds (record { stage = stages.Resolve (resolutions.Settling kept); turn = turn.Settle (grounded_answer r v b) })
leads_settles A told c q r d i v b room holds kept stood may entry number same told_so more two = record {
  kept = entry;
  number = number;
  asks = ap (λ (k : Request). waits.Settling k) same;
  serves = (refl, ap (λ (k : Request). Some k) same);
  left = more;
  calls = settles_within told c holds r room two;
  keeps = λ x h. record { frames = tt; facts = told_so x h };
  backed = λ x config named consistent h. may_settle told c r d i v b holds stood may x config named h;
  follows = λ g x served h. settled_next told c r d i v b holds stood may g x served h;
}

-- ---- what is settled is the answer

-- what is settled for the entry that a request resolves
entry_settled : (x : Shown) (l : ℕ) (d : Class) (i : ℕ) (s : Settled) → recorded_definer (records_of x) l d.name ≡ Some d.loader → settled_at x d i ≡ Some s → settled_by x (requests.Resolve l d.name i) ≡ Some s
entry_settled x l d i s kept at = rw (kept) at

-- what a reference is settled to is the answer of a resolution that gets to it
settled_comes : (g : Setting) (s : State) (l : ℕ) (d : Class) (i : ℕ) (v : Verdict) → IsSound g s → recorded_definer s.records l d.name ≡ Some d.loader → settled_to s.settled d i ≡ Some v → ComesTo g s (plans.Resolve l d.name i) v
settled_comes g s l d i v sound kept settled =
    let q = plans.Resolve l d.name i in
    let p = plan_exists g.world q in
    let at = recorded_reached g.world s q p.0 d.loader sound.closed p.1 kept in
    bears_comes g s l d.name i v (λ e is. inr (inr (subst (λ (k : Class). settled_to s.settled k i ≡ Some v) (one_class e is) settled)))
    (reference_is_plan g s l d.name i p.0 d v p.1 at.0 at.1 (sound.settled d i v settled).answered)
  where
    one_class : (e : Class) → Records s l d.name e → d ≡ e
    one_class e is = let same : d.loader ≡ e.loader = some_same d.loader e.loader (sym kept ∙ is.1) in rw (same, sym is.0) refl

pub leads_shared : (A : Type 0) (told : Option Content) (c : Configured) (q : ℕ) (r : Request) (d : Class) (i : ℕ) (s : Arc Settled Global) (room : Room) (holds : Shown → Type 0) → r ≡ requests.Resolve (loader_of r) d.name i → loader_of r < length c.loaders → ((x : Shown) → holds x → recorded_definer (records_of x) (loader_of r) d.name ≡ Some d.loader)
    → ((x : Shown) → holds x → IsSettledIn x d i s.value) → 0 < room.turns → HasPost room → LeadsBy {A = A} told c q r room holds (record { stage = stages.Done q; turn = turn.Post (ungrounded_answer r (answers.Shared s)) })
leads_shared A told c q r d i s room holds is asked kept settled more post =
    leads_post refl more post
    (λ x config named consistent h. record {
      within = record {
        loader = subst (λ (k : Configured). loader_of r < length k.loaders) (sym config) asked;
        answer = settled_named x d i s.value named (settled x h).entry;
      };
      answer = resolving r d i (λ (k : Request). settled_by x k ≡ Some s.value) is (entry_settled x (loader_of r) d i s.value (kept x h) (settled x h).entry);
    })
    (λ g x served h.
    resolving r d i (λ (k : Request). ComesTo g (state_of x) (request_of k) (verdict_of s.value.verdict)) is
    (settled_comes g (state_of x) (loader_of r) d i (verdict_of s.value.verdict) served.sound (kept x h) (settled x h).verdict))

-- ---- what a verdict of an entry rests on

-- a verdict that names no class
abbrev IsBare : Verdict → Type 0
IsBare (IsArrayOfBase dims letter) = Unit {0}
IsBare states.BadEntry = Unit {0}
IsBare states.ArrayMember = Unit {0}
IsBare other = ⊥

nameless_bare : (o : Option Reference) (v : Verdict) → EndsAtOnce o v → IsBare v
nameless_bare None v e = subst IsBare (sym e) tt
nameless_bare (Some (ToClass t)) v e = subst IsBare (sym e.1) tt
nameless_bare (Some (ToField t key)) v e = subst IsBare (sym e.1) tt
nameless_bare (Some (ToMethod t key)) v e = subst IsBare (sym e.1) tt
nameless_bare (Some (ToInterfaceMethod t key)) v e = subst IsBare (sym e.1) tt

bare_names : (count : ℕ) (v : verdict.Verdict) → IsBare (verdict_of v) → VerdictNames count v
bare_names count (verdicts.PrimitiveArray dims p) bare = tt
bare_names count verdicts.BadEntry bare = tt
bare_names count verdicts.ArrayMember bare = tt
bare_names count other bare = absurd bare

-- a verdict that tells of this class alone
abbrev IsErrorOf : Class → Error → Type 0
IsErrorOf c (IllegalAccess k) = k ≡ c
IsErrorOf c other = ⊥

abbrev IsOfClass : Class → Verdict → Type 0
IsOfClass c (IsClass k) = k ≡ c
IsOfClass c (IsArrayOf dims k) = k ≡ c
IsOfClass c (Wrong e) = IsErrorOf c e
IsOfClass c other = ⊥

verdict_of_class : (dims : ℕ) (c : Class) → IsOfClass c (class_verdict dims c)
verdict_of_class zero c = refl
verdict_of_class (suc n) c = refl

ends_of_class : (b : Bool) (cited : Reference) (c : Class) (v : Verdict) → EndsAtClass b cited c v → IsOfClass c v
ends_of_class false cited c v e = subst (IsOfClass c) (sym e) refl
ends_of_class true (ToClass t) c v e = subst (IsOfClass c) (sym e) (verdict_of_class t.dims c)
ends_of_class true (ToField t key) c v e = absurd e
ends_of_class true (ToMethod t key) c v e = absurd e
ends_of_class true (ToInterfaceMethod t key) c v e = absurd e

error_names : (count : ℕ) (c k : Class) (kind : ErrorKind) → IsErrorOf c (error_of kind k) → c.loader < count → k.loader < count
error_names count c k kinds.IllegalAccessError h below = subst (λ (d : Class). d.loader < count) (sym h) below
error_names count c k other h below = absurd h

class_names : (count : ℕ) (c : Class) (v : verdict.Verdict) → IsOfClass c (verdict_of v) → c.loader < count → VerdictNames count v
class_names count c (verdicts.Class k) h below = subst (λ (d : Class). d.loader < count) (sym h) below
class_names count c (verdicts.Array dims k) h below = subst (λ (d : Class). d.loader < count) (sym h) below
class_names count c (verdicts.Error kind k) h below = error_names count c k kind h below
class_names count c other h below = absurd h

entry_stood : (A : Type 0) (told : Option Content) (c config : Configured) (e : entries.Entry A) (v : verdict.Verdict) → IsEntry c e → config ≡ c → IsAtOnce e.request e.d.value (verdict_of v) → Rests told (grounded_answer e.request v (entry_basis config e.request e.d.value.class))
    → Stood told c e.request v (entry_basis config e.request e.d.value.class) (EntryTold e)
entry_stood A told c config e v entry same ends rests = record {
  rests = rests;
  config = same;
  unprepared = refl;
  needs = λ x h. (h.0, tt);
  refused = λ x h. tt;
  within = λ x is named h. record {
    loader = subst (λ (k : Configured). loader_of e.request < length k.loaders) (sym is) entry.asked;
    answer = bare_names (length x.config.loaders) v (nameless_bare _ (verdict_of v) ends.ends);
  };
}

class_stood : (A : Type 0) (told : Option Content) (c config : Configured) (e : entries.Entry A) (k : Rowed) (v : verdict.Verdict) → IsEntry c e → config ≡ c → IsAtClass e.request e.d.value k (verdict_of v) → Rests told (grounded_answer e.request v (class_basis config e.request e.d.value.class k.class))
    → Stood told c e.request v (class_basis config e.request e.d.value.class k.class) (NamedTold e k)
class_stood A told c config e k v entry same ends rests = record {
  rests = rests;
  config = same;
  unprepared = refl;
  needs = λ x h. (h.0, (h.1.0, tt));
  refused = λ x h. tt;
  within = λ x is named h. record {
    loader = subst (λ (k : Configured). loader_of e.request < length k.loaders) (sym is) entry.asked;
    answer =
        class_names (length x.config.loaders) k.class v (ends_of_class _ ends.cites.cited k.class (verdict_of v) ends.ends)
        (recorded_is_named x e.d.value.class.loader k.class.loader k.class.name named h.1.0);
  };
}

-- ---- steps

-- a finding that says this, on this basis
pub record IsFound (told : Option Content) (f : Answered) (r : Request) (v : verdict.Verdict) (b : Based) : Type 0 where
  pub is : f ≡ grounded_answer r v b
  pub rests : Rests told f

pub posts_entry : (A : Type 0) (told : Option Content) (c config : Configured) (e : entries.Entry A) (v : verdict.Verdict) (f : Answered) (n : Next A) → IsEntry c e → config ≡ c → IsAtOnce e.request e.d.value (verdict_of v) → IsNoneSettled v
    → IsFound told f e.request v (entry_basis config e.request e.d.value.class) → n ≡ record { stage = stages.Done e.q; turn = turn.Post f } → LeadsBy told c e.q e.request reference_room (EntryTold e) n
posts_entry A told c config e v f n entry same ends never h is =
    let b = entry_basis config e.request e.d.value.class in
    let whole = h.is in
    subst (λ (m : Next A). LeadsBy told c e.q e.request reference_room (EntryTold e) m) (sym (is ∙ ap (λ (k : Answered). record { stage = stages.Done e.q; turn = turn.Post k }) whole))
    (leads_never A told c e.q e.request e.d.value.class e.index v b reference_room (EntryTold e) (entry_stood A told c config e v entry same ends (subst (Rests told) whole h.rests)) entry.of never (omega arith) (λ w p s. omega arith))

pub settles_entry : (A : Type 0) (told : Option Content) (c config : Configured) (e kept : entries.Entry A) (v : verdict.Verdict) (f : Answered) (n : Next A) → IsEntry c e → IsSame e kept → config ≡ c → IsAtOnce e.request e.d.value (verdict_of v) → IsSettledKind v
    → IsFound told f e.request v (entry_basis config e.request e.d.value.class) → n ≡ record { stage = stages.Resolve (resolutions.Settling kept); turn = turn.Settle f } → LeadsBy told c e.q e.request reference_room (EntryTold e) n
settles_entry A told c config e kept v f n entry same_kept same ends kind h is =
    let b = entry_basis config e.request e.d.value.class in
    let whole = h.is in
    subst (λ (m : Next A). LeadsBy told c e.q e.request reference_room (EntryTold e) m) (sym (is ∙ ap (λ (k : Answered). record { stage = stages.Resolve (resolutions.Settling kept); turn = turn.Settle k }) whole))
    (leads_settles A told c e.q e.request e.d.value.class e.index v b reference_room (EntryTold e) kept (entry_stood A told c config e v entry same ends (subst (Rests told) whole h.rests))
    (record { resolves = entry.of; kept = λ x k. k.0; kind = kind })
    (same_entry c e kept entry same_kept) same_kept.number same_kept.request (λ x k. same_told x e kept same_kept k) (omega arith) (λ w p s. omega arith))

pub settles_class : (A : Type 0) (told : Option Content) (c config : Configured) (e kept : entries.Entry A) (k : Rowed) (v : verdict.Verdict) (f : Answered) (n : Next A) → IsEntry c e → IsSame e kept → config ≡ c → IsAtClass e.request e.d.value k (verdict_of v) → IsSettledKind v
    → IsFound told f e.request v (class_basis config e.request e.d.value.class k.class) → n ≡ record { stage = stages.Resolve (resolutions.Settling kept); turn = turn.Settle f } → LeadsBy told c e.q e.request named_room (NamedTold e k) n
settles_class A told c config e kept k v f n entry same_kept same ends kind h is =
    let b = class_basis config e.request e.d.value.class k.class in
    let whole = h.is in
    subst (λ (m : Next A). LeadsBy told c e.q e.request named_room (NamedTold e k) m) (sym (is ∙ ap (λ (k : Answered). record { stage = stages.Resolve (resolutions.Settling kept); turn = turn.Settle k }) whole))
    (leads_settles A told c e.q e.request e.d.value.class e.index v b named_room (NamedTold e k) kept (class_stood A told c config e k v entry same ends (subst (Rests told) whole h.rests))
    (record { resolves = entry.of; kept = λ x t. t.0; kind = kind })
    (same_entry c e kept entry same_kept) same_kept.number same_kept.request (λ x t. same_told x e kept same_kept (t.0, tt)) (omega arith) (λ w p s. omega arith))

-- what the entry was found to be settled to is the answer
pub shares_entry : (A : Type 0) (told : Option Content) (c : Configured) (e : entries.Entry A) (o : Option (Arc Settled Global)) (s : Arc Settled Global) (n : Next A) → IsEntry c e → o ≡ Some s → n ≡ record { stage = stages.Done e.q; turn = turn.Post (ungrounded_answer e.request (answers.Shared s)) }
    → LeadsBy told c e.q e.request reference_room (SettledTold e o) n
shares_entry A told c e o s n entry found is =
    subst (λ (m : Next A). LeadsBy told c e.q e.request reference_room (SettledTold e o) m) (sym is)
    (leads_shared A told c e.q e.request e.d.value.class e.index s reference_room (SettledTold e o) entry.of entry.asked (λ x h. h.before.0) (λ x h. found_now x h found) (omega arith) (λ w p s. omega arith))
  where
    found_now : (x : Shown) → SettledTold e o x → o ≡ Some s → IsSettledIn x e.d.value.class e.index s.value
    found_now x h eq = (subst (λ (k : Option (Arc Settled Global)). SettledTold e k x) eq h).now

-- nothing was found, and the entry is opened
pub opens_entry : (A : Type 0) (told : Option Content) (c : Configured) (e : entries.Entry A) (o : Option (Arc Settled Global)) (n : Next A) → LeadsBy told c e.q e.request reference_room (EntryTold e) n → LeadsBy told c e.q e.request reference_room (SettledTold e o) n
opens_entry A told c e o n l = leads_by reference_room (SettledTold e o) l (omega arith) (λ g x p served is h. omega arith) (λ x h. h.before)

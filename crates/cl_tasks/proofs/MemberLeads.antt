-- What the resolution of an entry that asks for a member leads to (JVMS SE 8, 5.4.3.2 to 5.4.3.4).
use Rattle.std.proofs.Common.{Global, ◌≡◌, ◌∙◌, ◌<◌, ◌≤◌, ◌+◌, ◌-◌, ℕ, List, ◌++◌, length, Option, Some, Err, refl, sym, ap, subst, arith}
use Rattle.std.specs.Prelude.{slice_get, take, option_map, IfSome}
use Rattle.std.proofs.lemmas.Option.{slice_get-map}
use Rattle.std.specs.declared.sync.Arc.{Arc}
use Rattle.cl_model.specs.declared.class.Class.{Class}
use Rattle.cl_model.specs.declared.need.Equality.{Equality}
use Rattle.cl_model.specs.declared.need.Need as rust
use Rattle.cl_model.specs.declared.need.Need.TheVariants as needs
use Rattle.cl_model.specs.declared.request.Request.{Request}
use Rattle.cl_model.specs.declared.verdict.ErrorKind.TheVariants as kinds
use Rattle.cl_model.specs.declared.verdict.Verdict as verdict
use Rattle.cl_model.specs.declared.verdict.Verdict.TheVariants as verdicts
use Rattle.cl_model.specs.Content.{Content}
use Rattle.cl_model.specs.Machine.{Setting, step_for}
use Rattle.cl_model.specs.Plans as plans
use Rattle.cl_model.specs.Service.{IsNextNeed, IsNextStep}
use Rattle.cl_model.specs.States.{Need, AllMet, IsRecorded}
use Rattle.cl_model.specs.Tables.{IsConsistent}
use Rattle.cl_model.specs.Texts.{VerdictNames}
use Rattle.cl_model.specs.Views.{need_of, request_of, verdict_of}
use Rattle.cl_model.proofs.Service.{need_next, resolve_wants}
use Rattle.cl_model.proofs.Closed.{met_both}
use Rattle.cl_config.specs.Views.{Configured}
use Rattle.cl_hierarchy.specs.Imposed.{IsListed, Listed, Sprung, equal_need, needs_of}
use Rattle.cl_hierarchy.specs.Lineages.{Lined}
use Rattle.cl_hierarchy.specs.Rows.{Rowed}
use Rattle.cl_members.specs.Asking.{IsDeniedIn, IsLocated}
use Rattle.cl_members.specs.declared.fault.LookupFault.{LookupFault}
use Rattle.cl_findings.specs.Findings.{Answered, Based, Rests, grounded_answer, loader_of}
use Rattle.cl_findings.specs.References.{AreAsked, IsOfFound, asked_basis, class_basis, origin_config, fault_verdict, member_basis, reference_needs, sprung_needs}
use Rattle.cl_findings.proofs.References.{asked_rests}
use Rattle.cl_registry.specs.Imposing.{IsNextOf, IsReached, IsStanding, MayImpose, OriginStands}
use Rattle.cl_registry.specs.Tables.{NamesLoaders, Shown, state_of}
use Rattle.cl_registry.proofs.Schedules.{some_at}
use Rattle.cl_registry.specs.Settling.{IsSettledKind}
use Rattle.cl_tasks.specs.Follows.{IsWanted, ServedIn}
use Rattle.cl_tasks.specs.Measures.{imposing_left, most, tracing_named_left}
use Rattle.cl_tasks.specs.Resolving.{EntryTold, ImposedTold, IsInaccessible, IsSame, OwnTold, MemberRefusedTold, TracedTold}
use Rattle.cl_tasks.specs.Rooms.{Room, imposing_room, settle_room, tracing_named_room, tracing_own_room}
use Rattle.cl_tasks.specs.Stages.{IsEntry, IsMember}
use Rattle.cl_tasks.specs.Steps.{LeadsBy}
use Rattle.cl_tasks.specs.declared.member.Inaccessible.{Inaccessible}
use Rattle.cl_tasks.specs.declared.stage.Entry as entries
use Rattle.cl_tasks.specs.declared.stage.Member.{Member}
use Rattle.cl_tasks.specs.declared.stage.Resolution.TheVariants as resolutions
use Rattle.cl_tasks.specs.declared.stage.Stage.TheVariants as stages
use Rattle.cl_tasks.specs.declared.turn.Turn.TheVariants as turn
use Rattle.cl_tasks.specs.Waits as waits
use Rattle.cl_tasks.proofs.Entries.{HasSettle, leads_settles}
use Rattle.cl_tasks.proofs.Lead.{Holding}
use Rattle.cl_tasks.proofs.LinkNamed.{refused_named}
use Rattle.cl_tasks.proofs.MemberCounts.{member_few}
use Rattle.cl_tasks.proofs.MemberFacts.{all_taken, fault_of, found_owner, member_entry, member_imposed, member_needs, member_through, member_told, own_within, row_within, same_entry, same_told, traced_as, traced_entry, traced_needs}
use Rattle.cl_tasks.proofs.Said.{Settling, Stood, concludes_at}
use Rattle.cl_tasks.proofs.LinkLeads.{within_same}
use Rattle.cl_tasks.specs.Turns.{IsOf}

-- an entry is settled to what a finding says, where that stands
pub leads_settle : {A : Type 0} (told : Option Content) (c : Configured) (e kept : entries.Entry A) (f : Answered) (v : verdict.Verdict) (b : Based) (room : Room) (holds : Shown → Type 0) → IsEntry c e → IsSame e kept
    → f ≡ grounded_answer e.request v b → Stood told c e.request v b holds → IsSettledKind v → ((x : Shown) → holds x → EntryTold e x) → 1 < room.turns → HasSettle room
    → LeadsBy told c e.q e.request room holds (record { stage = stages.Resolve (resolutions.Settling kept); turn = turn.Settle f })
leads_settle {A} told c e kept f v b room holds entry same is stood kind entry_told more two =
    let may : Settling e.request e.d.value.class e.index v holds = record { resolves = entry.of; kept = λ x h. (entry_told x h).0; kind = kind } in
    subst (λ (a : Answered). LeadsBy {A = A} told c e.q e.request room holds (record { stage = stages.Resolve (resolutions.Settling kept); turn = turn.Settle a })) (sym is)
    (leads_settles A told c e.q e.request e.d.value.class e.index v b room holds kept stood may (same_entry c e kept entry same) same.number same.request (λ x h. same_told x e kept same (entry_told x h)) more two)

-- ---- an end at the class that the entry names

-- what rests on the two classes alone
pub class_leads : {A : Type 0} (told : Option Content) (c : Configured) (e kept : entries.Entry A) (own named : Lined) (config : Configured) (f : Answered) (v : verdict.Verdict) → IsEntry c e → IsOf c e.d.value.class own → IsSame e kept
    → config ≡ c → f ≡ grounded_answer e.request v (class_basis config e.request own.own.class named.own.class) → Rests told f → IsSettledKind v
    → ((x : Shown) → NamesLoaders x → TracedTold e own named x → VerdictNames (length x.config.loaders) v)
    → LeadsBy told c e.q e.request tracing_named_room (TracedTold e own named) (record { stage = stages.Resolve (resolutions.Settling kept); turn = turn.Settle f })
class_leads {A} told c e kept own named config f v entry of same here is rests kind names =
    let b : Based = class_basis config e.request own.own.class named.own.class in
    let stood : Stood told c e.request v b (TracedTold e own named) = record {
      rests = subst (λ (a : Answered). Rests told a) is rests;
      config = here;
      unprepared = refl;
      needs = λ x h. traced_needs c x e own named of h;
      refused = λ x h. tt;
      within = λ x config loaders h. record { loader = within_same c x (loader_of e.request) config entry.asked; answer = names x loaders h };
    } in
    leads_settle {A = A} told c e kept f v b tracing_named_room (TracedTold e own named) entry same is stood kind (λ x h. traced_entry x e own named h) (more most) (λ w p s. omega arith)
  where
    more : (n : ℕ) → 1 < n + 2
    more n = omega arith

-- the class that the entry names is not accessible
pub inaccessible_leads : {A : Type 0} (told : Option Content) (c : Configured) (e kept : entries.Entry A) (own named : Lined) (end : Inaccessible A) (f : Answered) → IsEntry c e → IsOf c e.d.value.class own → IsSame e kept → IsInaccessible c own named end
    → f ≡ grounded_answer e.request end.verdict (class_basis end.config.value e.request end.d.value.class end.named.value.class) → Rests told f
    → LeadsBy told c e.q e.request tracing_named_room (TracedTold e own named) (record { stage = stages.Resolve (resolutions.Settling kept); turn = turn.Settle f })
inaccessible_leads told c e kept own named end f entry of same is said rests =
    let v : verdict.Verdict = verdicts.Error kinds.IllegalAccessError named.own.class in
    class_leads told c e kept own named end.config.value f v entry of same is.config_is
    (said ∙ ap (λ (u : verdict.Verdict). grounded_answer e.request u (class_basis end.config.value e.request end.d.value.class end.named.value.class)) is.verdict_is
    ∙ ap (λ (d : Rowed). grounded_answer e.request v (class_basis end.config.value e.request d.class end.named.value.class)) is.own_is
    ∙ ap (λ (d : Rowed). grounded_answer e.request v (class_basis end.config.value e.request own.own.class d.class)) is.named_is) rests
    (record { is_entry = λ h. cc; is_class_member = λ h. cc }) (λ x loaders h. own_within x named.own.class named loaders h.now)

-- the member was not found
pub fault_leads : {A : Type 0} (told : Option Content) (c : Configured) (e kept : entries.Entry A) (own named : Lined) (fault : LookupFault) (f : Answered) (v : verdict.Verdict) → IsEntry c e → IsOf c e.d.value.class own → IsSame e kept
    → fault_verdict named.own.class fault ≡ Some v → IsDeniedIn named (Err fault) → f ≡ grounded_answer e.request v (class_basis own.config e.request own.own.class named.own.class) → Rests told f
    → LeadsBy told c e.q e.request tracing_named_room (TracedTold e own named) (record { stage = stages.Resolve (resolutions.Settling kept); turn = turn.Settle f })
fault_leads told c e kept own named fault f v entry of same error denied is rests =
    let owner = fault_of named fault v error denied in
    class_leads told c e kept own named own.config f v entry of same of.config is rests owner.of.kind
    (λ x loaders h. owner.of.names (length x.config.loaders) (owner.within x loaders h.now))

-- ---- the lineages

pub own_taken : {A : Type 0} (told : Option Content) (c : Configured) (e : entries.Entry A) (own : Lined) (k : Arc Rowed Global) (d : Class) → IsEntry c e → IsOf c e.d.value.class own → d ≡ k.value.class
    → LeadsBy told c e.q e.request tracing_own_room (OwnTold e k.value own) (record { stage = stages.Resolve (resolutions.TracingNamed e own k); turn = turn.Lineage d })
own_taken told c e own k d entry of is = record {
  kept = (entry, of);
  number = refl;
  asks = ap (λ (j : Class). waits.Tracing j) (sym is);
  serves = refl;
  left = more most;
  calls = λ g x p served is h. omega arith;
  keeps = λ x h. record { frames = tt; facts = (h.before.0, (h.before.1.0, (traced_as x e.d.value.class own h.now, tt))) };
  backed = λ x config names fine h. subst (λ (j : Class). IsRecorded (state_of x) j) (sym is) (fine.own e.d.value.class.loader k.value.class.loader k.value.class.name h.before.1.0);
  follows = λ g x served h. tt;
}
  where
    more : (n : ℕ) → n + 2 < n + 3
    more n = omega arith

-- ---- equalities

module _ {A : Type 0} (told : Option Content) (c : Configured) (m : Member A) (member : IsMember c m) where
  asked : AreAsked m.entry.request m.equalities.value.origin
  asked = subst (λ (from : Sprung). AreAsked m.entry.request from) (sym member.origin) member.reference

  config_is : origin_config m.equalities.value.origin ≡ c
  config_is = ap origin_config member.origin ∙ member.own.config

  needs_met : (x : Shown) (i : ℕ) → ImposedTold m i x → AllMet (state_of x) (sprung_needs m.entry.request m.equalities.value.origin ++ take i (needs_of m.equalities.value.needs))
  needs_met x i h =
      subst (λ (from : Sprung). AllMet (state_of x) (sprung_needs m.entry.request from ++ take i (needs_of m.equalities.value.needs))) (sym member.origin)
      (met_both (state_of x) (reference_needs m.entry.request m.found.d.own.class m.found.c.own.class) (take i (needs_of m.equalities.value.needs)) (member_needs x m i h) (member_imposed x m i h))

  -- the equality at a place comes next, where those before it are imposed
  next : IsListed told m.equalities.value → (g : Setting) (x : Shown) (i : ℕ) (need : rust.Need) → slice_get (needs_of m.equalities.value.needs) i ≡ Some (need_of need) → ServedIn told c g (state_of x) → ImposedTold m i x → IsNextNeed g.world (state_of x) (request_of m.entry.request) (need_of need)
  next known g x i need is served h =
      (concludes_at told c g (state_of x) m.entry.request (verdicts.Linkage need) (asked_basis m.entry.request m.equalities.value i (Some (need_of need))) served
      (asked_rests told m.entry.request m.equalities.value i need asked known.lineages known.are is) config_is refl (needs_met x i h)).next

  wanted : IsListed told m.equalities.value → (g : Setting) (x : Shown) (i : ℕ) (y : Equality) → slice_get (needs_of m.equalities.value.needs) i ≡ Some (equal_need y) → ServedIn told c g (state_of x) → ImposedTold m i x → IsWanted g (state_of x) m.entry.request (equal_need y)
  wanted known g x i y is served h =
      let first = next known g x i (needs.Equal y) is served h in
      let resolves = member.entry.of in
      record {
        need = first;
        step = λ may.
            subst (λ (q : Request). IsNextStep g (state_of x) (request_of q) (step_for (equal_need y))) (sym resolves)
            (need_next g (state_of x) (plans.Resolve (loader_of m.entry.request) m.entry.d.value.class.name m.entry.index) (equal_need y) (resolve_wants (loader_of m.entry.request) m.entry.d.value.class.name m.entry.index)
            (subst (λ (q : Request). IsNextNeed g.world (state_of x) (request_of q) (equal_need y)) resolves first) may);
      }

  pub wanted_next : IsListed told m.equalities.value → (g : Setting) (x : Shown) (i : ℕ) → i < length m.equalities.value.needs → ServedIn told c g (state_of x) → ImposedTold m i x → IsNextOf m.equalities.value i (IsWanted g (state_of x) m.entry.request)
  wanted_next known g x i lt served h =
      let one = some_at m.equalities.value.needs i lt in
      let there : slice_get (needs_of m.equalities.value.needs) i ≡ Some (equal_need one.0) = slice_get-map equal_need m.equalities.value.needs i ∙ ap (λ (o : Option Equality). option_map equal_need o) one.1 in
      subst (λ (o : Option Equality). IfSome o (λ n. IsWanted g (state_of x) m.entry.request (equal_need n))) (sym one.1) (wanted known g x i one.0 there served h)

  may_impose : (x : Shown) (i : ℕ) → i < length m.equalities.value.needs → x.config ≡ c → IsConsistent (state_of x) → ImposedTold m i x → MayImpose x m.equalities.value i
  may_impose x i lt config fine h =
      let d = m.found.d.own.class in
      let standing : IsStanding x m.found.d = record { config = member.own.config ∙ sym config; recorded = fine.own (loader_of m.entry.request) d.loader d.name h.0 } in
      let reached : IsReached x m.found.d m.found.c = record { config = member.reference.config ∙ member.own.config ∙ sym config; recorded = h.1.0; accessible = member.reference.accessible } in
      record {
        stands = subst (λ (from : Sprung). OriginStands x from) (sym member.origin) (standing, reached);
        within = lt;
        earlier = member_imposed x m i h;
      }

  one_more : (a : ℕ) → a < a + 1
  one_more a = omega arith

  pub impose_leads : IsListed told m.equalities.value → (i : ℕ) (shared : Arc Listed Global) → shared.value ≡ m.equalities.value → i < length m.equalities.value.needs
      → LeadsBy told c m.entry.q m.entry.request (imposing_room m i) (ImposedTold m i) (record { stage = stages.Resolve (resolutions.Imposing m i); turn = turn.Impose shared i })
  impose_leads known i shared same lt = record {
    kept = (member, lt);
    number = refl;
    asks = ap (λ (l : Listed). waits.Imposing l i) (sym same);
    serves = refl;
    left = one_more (imposing_left (length m.equalities.value.needs - i));
    calls = λ g x p served is h. omega arith;
    keeps = λ x h. record { frames = tt; facts = h };
    backed = λ x config names fine h. subst (λ (l : Listed). MayImpose x l i) (sym same) (may_impose x i lt config fine h);
    follows = λ g x served h. subst (λ (l : Listed). IsNextOf l i (IsWanted g (state_of x) m.entry.request)) (sym same) (wanted_next known g x i lt served h);
  }

  -- ---- one of them is refused

  pub refused_leads : (i : ℕ) (kept : entries.Entry A) (f : Answered) (need : rust.Need) → IsSame m.entry kept
      → f ≡ grounded_answer m.entry.request (verdicts.Linkage need) (asked_basis m.entry.request m.equalities.value i (Some (need_of need))) → Rests told f
      → LeadsBy told c m.entry.q m.entry.request settle_room (MemberRefusedTold m i (need_of need)) (record { stage = stages.Resolve (resolutions.Settling kept); turn = turn.Settle f })
  refused_leads i kept f need same is rests =
      let b : Based = asked_basis m.entry.request m.equalities.value i (Some (need_of need)) in
      let v : verdict.Verdict = verdicts.Linkage need in
      let stood : Stood told c m.entry.request v b (MemberRefusedTold m i (need_of need)) = record {
        rests = subst (λ (a : Answered). Rests told a) is rests;
        config = config_is;
        unprepared = refl;
        needs = λ x h. needs_met x i h.before;
        refused = λ x h. h.now;
        within = λ x config loaders h. record { loader = within_same c x (loader_of m.entry.request) config member.entry.asked; answer = refused_named x need loaders h.now };
      } in
      leads_settle {A = A} told c m.entry kept f v b settle_room (MemberRefusedTold m i (need_of need)) member.entry same is stood (record { is_entry = λ h. cc; is_class_member = λ h. cc }) (λ x h. member_entry c x m i member h.before) (omega arith) (λ w p s. omega arith)

-- ---- the member

pub found_leads : {A : Type 0} (told : Option Content) (c : Configured) (m : Member A) (kept : entries.Entry A) (f : Answered) (v : verdict.Verdict) → IsMember c m → IsSame m.entry kept
    → f ≡ grounded_answer m.entry.request v (member_basis m.entry.request m.found m.equalities.value) → Rests told f → IsLocated m.found → IsOfFound m.found (verdict_of v)
    → LeadsBy told c m.entry.q m.entry.request settle_room (ImposedTold m (length m.equalities.value.needs)) (record { stage = stages.Resolve (resolutions.Settling kept); turn = turn.Settle f })
found_leads {A} told c m kept f v member same is rests located found =
    let owner = found_owner m.found v located found in
    let b : Based = member_basis m.entry.request m.found m.equalities.value in
    let all : ℕ = length m.equalities.value.needs in
    let stood : Stood told c m.entry.request v b (ImposedTold m all) = record {
      rests = subst (λ (a : Answered). Rests told a) is rests;
      config = member.own.config;
      unprepared = refl;
      needs = λ x h.
          met_both (state_of x) (reference_needs m.entry.request m.found.d.own.class m.found.c.own.class) (needs_of m.equalities.value.needs) (member_needs x m all h)
          (subst (λ (ns : List Need). AllMet (state_of x) ns) (all_taken m.equalities.value) (member_imposed x m all h));
      refused = λ x h. tt;
      within = λ x config loaders h. record { loader = within_same c x (loader_of m.entry.request) config member.entry.asked; answer = owner.names (length x.config.loaders) (row_within x m.found.c.own.class m.found.c m.found.owner loaders (member_through x m all h) located.row) };
    } in
    leads_settle {A = A} told c m.entry kept f v b settle_room (ImposedTold m all) member.entry same is stood owner.kind (λ x h. member_entry c x m all member h) (omega arith) (λ w p s. omega arith)

-- ---- how many turns are left

pub two_room : (n : ℕ) → 2 ≤ imposing_left n + 1
two_room n = omega arith

pub member_room : (n : ℕ) → n < most → imposing_left (n - 0) + 1 ≤ tracing_named_left
member_room n lt = omega (arith, lt)

-- ---- how many calls

-- where all equalities are imposed the calls that are left are within
pub two_within : {A : Type 0} (told : Option Content) (c : Configured) (m : Member A) (place : ℕ) (now : Shown → Type 0) → Holding told c now m.entry.request settle_room.calls (imposing_room m place)
two_within told c m place now = λ g x p served is h. omega arith

-- the equalities of a member are within what its request may still need
pub member_within : {A : Type 0} (told : Option Content) (c : Configured) (m : Member A) (own named : Lined) → IsMember c m → IsOf c m.entry.d.value.class own → m.found.d ≡ own → m.found.c ≡ named → IsListed told m.equalities.value
    → Holding told c (TracedTold m.entry own named) m.entry.request (imposing_room m 0).calls tracing_named_room
member_within told c m own named member of one two known = λ g x p served is h.
    let few = member_few told c m g x p member known.lineages known.are served is (member_told c x m own named of one two h) in
    omega arith

-- What a registry keeps goes on by a reference that is settled.
use Rattle.std.proofs.Common.{◌≡◌, ◌≢◌, ◌∙◌, ◌≤◌, ◌+◌, ◌-◌, ℕ, List, Option, Some, None, refl, sym, ap, subst, Bool, true, false, if◌then◌else◌, length}
use Rattle.std.specs.Prelude.{◌==◌, ◌&&◌, option_and_then, option_map}
use Rattle.std.specs.declared.alloc.Global.{Global}
use Rattle.std.specs.declared.sync.Arc.{Arc}
use Rattle.std.proofs.lemmas.Cmp.{nat_eq_equiv}
use Rattle.std.proofs.lemmas.List.Elements.{All-push}
use Rattle.cl_classfile.specs.Files.{Name}
use Rattle.cl_model.specs.declared.class.Class.{Class}
use Rattle.cl_model.specs.declared.event.Event.{Event}
use Rattle.cl_model.specs.declared.event.Event.TheVariants as events
use Rattle.cl_model.specs.declared.request.Request.{Request}
use Rattle.cl_model.specs.declared.request.Request.TheVariants as requests
use Rattle.cl_model.specs.declared.settled.Settled.{Settled}
use Rattle.cl_model.specs.declared.verdict.Verdict.{Verdict}
use Rattle.cl_model.specs.declared.verdict.Verdict.TheVariants as verdicts
use Rattle.cl_model.specs.Content.{Content}
use Rattle.cl_model.specs.Classes.{class, same_class}
use Rattle.cl_model.specs.Texts.{AnswerNames, VerdictNames}
use Rattle.cl_model.specs.States.{State, IsRecorded, settled_to, recorded_definer}
use Rattle.cl_model.specs.States as states
use Rattle.cl_model.specs.Machine.{Settle, May, MayKeep}
use Rattle.cl_model.specs.Machine as machine
use Rattle.cl_model.specs.Views.{verdict_of}
use Rattle.cl_model.proofs.Ancestors.{same_self}
use Rattle.cl_model.proofs.Sound.{runs_are_sound}
use Rattle.cl_model.proofs.Tables.{trusted_is_consistent}
use Rattle.cl_config.specs.Loaders.{schedule_of}
use Rattle.cl_delegation.specs.Worlds.{setting_of}
use Rattle.cl_hierarchy.specs.Rows.{Rowed}
use Rattle.cl_hierarchy.specs.Lineages.{row_of}
use Rattle.cl_constraints.specs.Books.{IsBookOf}
use Rattle.cl_findings.specs.Findings.{Answered, Based, BasisStands, Rests, Stands}
use Rattle.cl_findings.proofs.Answered.{standing_settles}
use Rattle.cl_registry.specs.Kept.{Fields, IsRegistry}
use Rattle.cl_registry.specs.Tables.{Shown, steps, state_of, settlements, settled_at, looked_row, IsKept}
use Rattle.cl_registry.specs.References.{Cited, cited_by, settled_by, AddsSettled, IsReferencePut}
use Rattle.cl_registry.specs.Settling.{SaysVerdict, IsToSettle, with_settle, Settles, SettledAs}
use Rattle.cl_registry.specs.SettlingLaws.{AllowedIsSettled, OtherFindingIsStray}
use Rattle.cl_registry.proofs.Cited.{IsCitedBy, cited_is, settled_cited}
use Rattle.cl_registry.proofs.Kept.{HasRoom, IsFine, book_event, kept_event, moved, registry_event, rows_same, same_rounds, state_event}
use Rattle.cl_registry.proofs.Settled.{settled_more, settled_is_told, unsettled_is_told}

-- ---- the verdicts that are settled

-- what is no bad entry reads as none, and what is no member of an array as none
pub apart_is : (v : Verdict) → (v ≢ verdicts.BadEntry → verdict_of v ≢ states.BadEntry) × (v ≢ verdicts.ArrayMember → verdict_of v ≢ states.ArrayMember)
apart_is (verdicts.Class c) = (λ h e. cc, λ h e. cc)
apart_is (verdicts.Array d c) = (λ h e. cc, λ h e. cc)
apart_is (verdicts.PrimitiveArray d b) = (λ h e. cc, λ h e. cc)
apart_is (verdicts.Field c k) = (λ h e. cc, λ h e. cc)
apart_is (verdicts.Method c k) = (λ h e. cc, λ h e. cc)
apart_is (verdicts.Linked c) = (λ h e. cc, λ h e. cc)
apart_is verdicts.BadEntry = (λ h e. h refl, λ h e. cc)
apart_is verdicts.ArrayMember = (λ h e. cc, λ h e. h refl)
apart_is (verdicts.Error k c) = (λ h e. cc, λ h e. cc)
apart_is (verdicts.Linkage n) = (λ h e. cc, λ h e. cc)

-- ---- what may happen

module _ (told : Option Content) (x : Shown) (f : Answered) (s : Settled) (k : IsKept told x) (free : settled_by x f.request ≡ None) (to : IsToSettle x f s) where
  abbrev entry : Cited
  entry = record { class = s.class; index = s.index }

  is_cited : IsCitedBy x f.request entry
  is_cited = cited_is x f.request entry to.cited

  -- the entry is not settled
  pub unsettled : settled_at x s.class s.index ≡ None
  unsettled = sym (settled_cited x f.request entry to.cited) ∙ free

  own : IsRecorded (state_of x) s.class
  own = (trusted_is_consistent (schedule_of x.script) x.script.rounds (steps x) k.trusted.tables).own is_cited.loader s.class.loader s.class.name is_cited.recorded

  -- the tables allow it
  pub may_keep : MayKeep (state_of x) s.class s.index (verdict_of s.verdict)
  may_keep = record {
    recorded = own;
    unsettled = (unsettled_is_told x s.class s.index unsettled).verdict;
    settling = record { is_entry = (apart_is s.verdict).0 to.says.kind.is_entry; is_class_member = (apart_is s.verdict).1 to.says.kind.is_class_member };
  }

-- what a finding settles may be settled by the machine
pub settled_is_allowed : (content : Content) (x : Shown) (f : Answered) (s : Settled) → IsKept (Some content) x → Rests (Some content) f → settled_by x f.request ≡ None → IsToSettle x f s
    → machine.MaySettle (setting_of x.config x.script content) (state_of x) s.class s.index (verdict_of s.verdict)
settled_is_allowed content x f s k rests free to =
    let g = setting_of x.config x.script content in
    let sound = runs_are_sound g (steps x) k.run in
    let cited = is_cited (Some content) x f s k free to in
    record {
      may_keep = may_keep (Some content) x f s k free to;
      answered = standing_settles content x.config x.script (state_of x) f s.verdict cited.loader s.class.loader s.index s.class.name (record { rests = rests; sound = sound; stands = to.stands; said = to.says.said }) cited.request cited.recorded;
    }

may_settle : (told : Option Content) (x : Shown) (f : Answered) (s : Settled) → IsKept told x → Rests told f → settled_by x f.request ≡ None → IsToSettle x f s → (content : Content) → told ≡ Some content
    → May (setting_of x.config x.script content) (state_of x) (Settle s.class s.index (verdict_of s.verdict))
may_settle told x f s k rests free to content e = settled_is_allowed content x f s (subst (λ t. IsKept t x) e k) (subst (λ t. Rests t f) e rests) free to

-- ---- what is kept

abbrev event_of : Arc Settled Global → Event
event_of shared = events.Settle shared

fine : (told : Option Content) (x : Shown) (f : Answered) (shared : Arc Settled Global) → IsKept told x → Rests told f → settled_by x f.request ≡ None → IsToSettle x f shared.value → IsFine told x (event_of shared)
fine told x f shared k rests free to =
    record { silent = refl; allows = may_keep told x f shared.value k free to; may = may_settle told x f shared.value k rests free to; names = tt }

-- the verdict names loaders that there are
named_verdict : (x : Shown) (f : Answered) (v : Verdict) → SaysVerdict f v → Stands x.config (state_of x) f → VerdictNames (length x.config.loaders) v
named_verdict x f v says stands = subst (λ a. AnswerNames (length x.config.loaders) a) says.said stands.within.answer

pub kept_settle : (told : Option Content) (x : Shown) (f : Answered) (shared : Arc Settled Global) → IsKept told x → Rests told f → settled_by x f.request ≡ None → IsToSettle x f shared.value → IsKept told (with_settle x shared)
kept_settle told x f shared k rests free to =
    let e = event_of shared in
    kept_event told x x.rows e k (fine told x f shared k rests free to) (rows_same told x e k refl)
    (same_rounds x x.rows e k.trusted (ap (λ (s : State). s.round) (state_event x x.rows e)))
    (All-push (λ s. VerdictNames (length x.config.loaders) s.verdict) (settlements x.history) shared.value k.named.settled (named_verdict x f shared.value.verdict to.says to.stands))

-- what is settled then
pub settled_then : (x : Shown) (shared : Arc Settled Global) (c : Class) (i : ℕ) → settled_at x shared.value.class shared.value.index ≡ None
    → settled_at (with_settle x shared) c i ≡ (if same_class shared.value.class c && (shared.value.index == i) then Some shared.value else settled_at x c i)
settled_then x shared c i free = settled_more x (with_settle x shared) (event_of shared) shared.value c i refl refl free

-- ---- what the type keeps

table_settle : (x : Shown) (shared : Arc Settled Global) (c : Class) (i : ℕ) (old new : Class → ℕ → Option Settled) → settled_at x shared.value.class shared.value.index ≡ None → ((c : Class) (i : ℕ) → old c i ≡ settled_at x c i)
    → IsReferencePut old new shared.value.class shared.value.index shared.value → new c i ≡ settled_at (with_settle x shared) c i
table_settle x shared c i old new free are put =
    put c i ∙ ap (λ (o : Option Settled). if same_class shared.value.class c && (shared.value.index == i) then Some shared.value else o) (are c i) ∙ sym (settled_then x shared c i free)

-- what is looked up stays so
looked_settle : (x : Shown) (shared : Arc Settled Global) (l : ℕ) (n : Name) → looked_row (with_settle x shared) l n ≡ looked_row x l n
looked_settle x shared l n = ap (λ (s : State). option_and_then (λ place. row_of x.rows (class n place)) (recorded_definer s.records l n)) (state_event x x.rows (event_of shared))

pub registry_settle : (told : Option Content) (x : Shown) (f : Answered) (shared : Arc Settled Global) (g : Fields) (home : Name → ℕ → Option ℕ) (joins : Name → ℕ → ℕ → Type 0) (table : ℕ → List ℕ → Option Rowed) (wide : ℕ)
    (references : Class → ℕ → Option Settled) (prepared : List Class) (used come more : ℕ)
    → IsRegistry told x g (IsBookOf home joins) → Rests told f → settled_by x f.request ≡ None → IsToSettle x f shared.value → wide ≡ g.parts → ((l : ℕ) (n : List ℕ) → table l n ≡ g.table l n) → prepared ≡ g.prepared
    → IsReferencePut g.references references shared.value.class shared.value.index shared.value → HasRoom x g used come more
    → IsRegistry told (with_settle x shared) (moved g table wide references prepared used more) (IsBookOf home joins)
registry_settle told x f shared g home joins table wide references prepared used come more k rests free to same rows_are prepared_are put room =
    let e = event_of shared in
    let is = state_event x x.rows e in
    registry_event told x x.rows e g (IsBookOf home joins) (IsBookOf home joins) table wide references prepared used come more k (kept_settle told x f shared k.kept rests free to)
    (ap (λ (s : State). s.round) is) same (λ l n. rows_are l n ∙ k.rows l n ∙ sym (looked_settle x shared l n))
    (book_event home joins x x.rows e refl refl k.book)
    (λ c i. table_settle x shared c i g.references references (unsettled told x f shared.value k.kept free to) k.references put)
    (prepared_are ∙ k.prepared ∙ sym (ap (λ (s : State). s.prepared) is)) room

-- the same of fields that a call has made
pub registry_bound : (told : Option Content) (x : Shown) (f : Answered) (s : Settled) (history : List Event) (g : Fields) (home : Name → ℕ → Option ℕ) (joins : Name → ℕ → ℕ → Type 0) (table : ℕ → List ℕ → Option Rowed) (wide : ℕ)
    (references : Class → ℕ → Option Settled) (prepared : List Class) (used come more : ℕ)
    → IsRegistry told x g (IsBookOf home joins) → Rests told f → settled_by x f.request ≡ None → IsToSettle x f s → AddsSettled x.history history s → wide ≡ g.parts → ((l : ℕ) (n : List ℕ) → table l n ≡ g.table l n) → prepared ≡ g.prepared
    → IsReferencePut g.references references s.class s.index s → used ≡ g.events + 1 → come ≡ g.left + (x.script.rounds - (g.round + 1)) → used + come ≤ more
    → IsRegistry told (record x { history = history }) (moved g table wide references prepared used more) (IsBookOf home joins)
registry_bound told x f s history g home joins table wide references prepared used come more k rests free to adds same rows_are prepared_are put one come_is fits =
    subst (λ (h : List Event). IsRegistry told (record x { history = h }) (moved g table wide references prepared used more) (IsBookOf home joins)) (sym adds.more)
    (registry_settle told x f adds.shared g home joins table wide references prepared used come more k rests free (subst (λ (t : Settled). IsToSettle x f t) (sym adds.value) to) same rows_are prepared_are
    (subst (λ (t : Settled). IsReferencePut g.references references t.class t.index t) (sym adds.value) put) (record { one = one; come_is = come_is; fits = fits }))

-- ---- what is answered

cited_settle : (x : Shown) (shared : Arc Settled Global) (r : Request) → cited_by (with_settle x shared) r ≡ cited_by x r
cited_settle x shared (requests.Load l n) = refl
cited_settle x shared (requests.Link l n) = refl
cited_settle x shared (requests.Resolve l n i) = ap (λ (s : State). cited_in s l n i) (state_event x x.rows (event_of shared))
  where
    cited_in : State → ℕ → Name → ℕ → Option Cited
    cited_in s l n i = option_map (λ p. record { class = class n p; index = i }) (recorded_definer s.records l n)

if_true : (b : Bool) (s : Settled) (o : Option Settled) → b ≡ true → (if b then Some s else o) ≡ Some s
if_true true s o e = refl
if_true false s o e = absurd cc

it_self : (s : Settled) → (same_class s.class s.class && (s.index == s.index)) ≡ true
it_self s = ap (λ (b : Bool). b && (s.index == s.index)) (same_self s.class) ∙ nat_eq_equiv.refl s.index

shown_settle : (x : Shown) (f : Answered) (shared : Arc Settled Global) → settled_by x f.request ≡ None → IsToSettle x f shared.value → settled_by (with_settle x shared) f.request ≡ Some shared.value
shown_settle x f shared free to =
    let e : Cited = record { class = shared.value.class; index = shared.value.index } in
    settled_cited (with_settle x shared) f.request e (cited_settle x shared f.request ∙ to.cited)
    ∙ settled_then x shared e.class e.index (sym (settled_cited x f.request e to.cited) ∙ free) ∙ if_true (same_class e.class e.class && (e.index == e.index)) shared.value (settled_at x e.class e.index) (it_self shared.value)

-- what a call answers that has settled an entry
pub bound : (x : Shown) (f : Answered) (s v : Settled) (history : List Event) → settled_by x f.request ≡ None → IsToSettle x f s → AddsSettled x.history history s → v ≡ s
    → Settles x (record x { history = history }) f v × (settled_by (record x { history = history }) f.request ≡ Some v)
bound x f s v history free to adds is =
    let y : Shown = record x { history = history } in
    let here : settled_by (with_settle x adds.shared) f.request ≡ Some adds.shared.value = shown_settle x f adds.shared free (subst (λ (t : Settled). IsToSettle x f t) (sym adds.value) to) in
    let shown : settled_by y f.request ≡ Some s = ap (λ (h : List Event). settled_by (record x { history = h }) f.request) adds.more ∙ here ∙ ap (λ (t : Settled). Some t) adds.value in
    let done : Settles x y f s = subst (λ (o : Option Settled). SettledAs x y f s o) (sym free) (to, record { shared = adds.shared; value = adds.value; more = ap (λ (h : List Event). record x { history = h }) adds.more }) in
    (subst (λ (t : Settled). Settles x y f t) (sym is) done, shown ∙ ap (λ (t : Settled). Some t) (sym is))

-- ---- what the machine allows

lacks_some : {A : Type 0} (o : Option A) (v : A) → o ≡ None → o ≡ Some v → ⊥
lacks_some o v e f = cc

-- where an entry is not settled by the machine, it is not settled
unsettled_by : (x : Shown) (c : Class) (i : ℕ) → settled_to (state_of x).settled c i ≡ None → settled_at x c i ≡ None
unsettled_by x c i none = at (settled_at x c i) refl
  where
    at : (o : Option Settled) → settled_at x c i ≡ o → settled_at x c i ≡ None
    at None e = e
    at (Some s) e = absurd (lacks_some (settled_to (state_of x).settled c i) (verdict_of s.verdict) none (settled_is_told x c i s e).verdict)

pub allowed_is_settled : AllowedIsSettled
allowed_is_settled content x f s k cited said stands may = (
  settled_cited x f.request (record { class = s.class; index = s.index }) cited ∙ unsettled_by x s.class s.index may.may_keep.unsettled,
  record {
    cited = cited;
    says = record { said = said; kind = record { is_entry = λ e. may.may_keep.settling.is_entry (ap verdict_of e); is_class_member = λ e. may.may_keep.settling.is_class_member (ap verdict_of e) } };
    stands = stands;
  },
)

pub other_finding_is_stray : OtherFindingIsStray
other_finding_is_stray x f b based other free = (free, λ may. other (subst (λ (o : Option Based). BasisStands x.config (state_of x) o) based may.1.stands.basis).config)

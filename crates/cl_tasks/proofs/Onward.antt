-- What a step leads to where a path grows, goes on or loses its last class.
use Rattle.std.proofs.Common.{◌≡◌, ◌≢◌, ◌∙◌, ◌<◌, ◌≤◌, ◌+◌, ◌*◌, ℕ, false, List, [], ◌∷◌, ◌++◌, inl, inr, length, Option, Some, None, refl, sym, ap, subst, slice_get, arith}
use Rattle.std.proofs.Common.{Global, eqb, true}
use Rattle.std.proofs.lemmas.Bool.{eq-eqb}
use Rattle.std.specs.Prelude.{IsSome, MatchOption, map}
use Rattle.std.specs.List.{AllByRecursion}
use Rattle.std.specs.declared.sync.Arc.{Arc}
use Rattle.cl_classfile.specs.Files.{file_of}
use Rattle.cl_model.specs.declared.class.Class.{Class}
use Rattle.cl_model.specs.declared.need.Need as rust
use Rattle.cl_model.specs.declared.need.Need.TheVariants as needs
use Rattle.cl_model.specs.declared.request.Request.{Request}
use Rattle.cl_model.specs.declared.verdict.Verdict.TheVariants as verdicts
use Rattle.cl_model.specs.Classes.{Above, supers}
use Rattle.cl_model.specs.Content.{Content}
use Rattle.cl_model.specs.Frames.{Frame, wanted_supertype}
use Rattle.cl_model.specs.Machine.{Setting}
use Rattle.cl_model.specs.Service.{IsNextNeed}
use Rattle.cl_model.specs.States.{Entry, recorded_definer}
use Rattle.cl_model.specs.Views.{request_of}
use Rattle.cl_model.proofs.Gone.{record_is_next}
use Rattle.cl_config.specs.Views.{Configured}
use Rattle.cl_delegation.specs.Searches.{LeadsTo, Located}
use Rattle.cl_delegation.specs.declared.search.Home.{Home}
use Rattle.cl_hierarchy.specs.Drafts.{Drafted, IsDraft, IsSpelt}
use Rattle.cl_hierarchy.specs.Frames.{Framed, accepted_of, frame_of}
use Rattle.cl_hierarchy.specs.Paths.{Accepts, AllStand, Completes, IsPath, Pathed, at_loader, at_name, fresh, frames_of, is_on, misfit_under, name_of, with_frame, with_frames}
use Rattle.cl_hierarchy.specs.Rows.{Rowed}
use Rattle.cl_model.specs.Frames.{asking_loader, kept_of}
use Rattle.cl_model.specs.States.{AllMet}
use Rattle.cl_model.proofs.Stacks.{kept_is_met}
use Rattle.cl_findings.specs.declared.load.Target.{Target}
use Rattle.cl_findings.specs.declared.load.Target.TheVariants as targets
use Rattle.cl_findings.specs.declared.load.NextRecord.TheVariants as nexts
use Rattle.cl_findings.specs.Findings.{Based}
use Rattle.cl_findings.specs.Loads.{IsFor, IsSought, IsWhole, refused_at, home_record}
use Rattle.cl_findings.proofs.Loads.{away_rests, whole_rests}
use Rattle.cl_findings.proofs.Whole.{completed_is_whole, root_is_whole}
use Rattle.cl_registry.specs.Tables.{MayEnter, Shown, records_of, state_of}
use Rattle.cl_tasks.specs.Facts.{IsRecordedAs}
use Rattle.cl_tasks.specs.Calls.{Calls, ask_for, away_calls}
use Rattle.cl_tasks.specs.Follows.{CallsWithin, IsWanted, ServedIn}
use Rattle.cl_tasks.specs.Measures.{Phase, left_at, left_while_loading, most, turns}
use Rattle.cl_tasks.specs.Measures as phases
use Rattle.cl_tasks.specs.Rooms.{Room, calls_at, room_at, room_of}
use Rattle.cl_tasks.specs.Stages.{IsHoming, IsJob, job_calls, past_left, sought_ask}
use Rattle.cl_tasks.specs.Steps.{DefinesBy, FindsRow, FindsAt, HoldsOn, Leads, LeadsAt, LeadsBy, LeadsFrom}
use Rattle.cl_tasks.specs.Waits as waits
use Rattle.cl_tasks.specs.declared.stage.Job.{Job}
use Rattle.cl_tasks.specs.declared.stage.Load.TheVariants as loads
use Rattle.cl_tasks.specs.declared.stage.Next.{Next}
use Rattle.cl_tasks.specs.declared.stage.Stage.TheVariants as stages
use Rattle.cl_tasks.specs.declared.turn.Turn.TheVariants as turn
use Rattle.cl_tasks.proofs.Fall.{accepts_less, completes_less, defined_less, descends_less, homes_less, roots_less}
use Rattle.cl_tasks.proofs.Keep.{Has, accepts_holds, all_last, completes_holds, fresh_has, have_more, push_holds, whole_fits, whole_recorded, frame_kept}
use Rattle.cl_tasks.proofs.Lead.{HasPost, leads_by, leads_memory}
use Rattle.cl_tasks.proofs.Moves.{Holds, accepts_left, away_defined, completes_left, descends_holds, homing_holds, phase_has, root_holds, same_holds}
use Rattle.cl_tasks.proofs.Obstacles.{path_met}
use Rattle.cl_tasks.proofs.Said.{concludes_at}

-- ---- rooms

pub more_room : (p a b : ℕ) → a ≤ b → p + a ≤ p + b
more_room p a b h = omega arith

pub less_room : (p a b : ℕ) → a < b → p + a < p + b
less_room p a b h = omega arith

-- a look takes no more than what is more than a look
pub fresh_looks : (p : ℕ) (xs : List Frame) (b : ℕ) → left_at phases.Looking xs 0 < b → p + left_at phases.Fresh xs 0 ≤ p + b
fresh_looks p xs b h = above p (turns * left_while_loading xs) most b h
  where
    above : (p a m b : ℕ) → a + (m + 7) < b → p + (a + (m + 8)) ≤ p + b
    above p a m b h = omega arith

-- ---- jobs

within : {c d : Configured} {n : ℕ} → c ≡ d → n < length d.loaders → n < length c.loaders
within {n = n} e h = subst (λ (k : Configured). n < length k.loaders) (sym e) h

asks_within : (told : Option Content) (c : Configured) (loader : ℕ) (name : List ℕ) (xs : List Framed) → loader < length c.loaders → AllStand c loader name xs → AllByRecursion (λ x. IsDraft told x.draft) xs
    → asking_loader loader (map frame_of xs) < length c.loaders
asks_within told c loader name [] h stand drafts = h
asks_within told c loader name (x ∷ xs) h stand drafts =
    asks_within told c x.draft.class.loader (name_of (wanted_supertype (frame_of x))) xs
    (subst (λ (l : ℕ). l < length c.loaders) (sym (ap (λ (k : Class). k.loader) drafts.0.placed)) (within (sym stand.0.config) drafts.0.within)) stand.1 drafts.1

-- ---- a class is to be recorded

-- the record of a class that has all its supertypes is wanted next
whole_wanted : {A : Type 0} (told : Option Content) (j : Job A) (x : Framed) → IsJob told j.path.config j → IsPath told j.path → IsWhole told j.path x → (g : Setting) (y : Shown) → ServedIn told j.path.config g (state_of y) → HoldsOn j y → Has y (frame_of x)
    → IsWanted g (state_of y) j.request (Entry x.draft.class.loader x.draft.class.name x.draft.class.loader)
whole_wanted {A} told j x job path whole g y served h has =
    let c = x.draft.class in
    let need : rust.Need = needs.Entry c.loader c.name c.loader in
    let b : Based = refused_at {B = A} j.request j.target j.path (nexts.Define x) in
    let met : AllMet (state_of y) b.needs = path_met y j (kept_of (frame_of x ∷ [])) h ((kept_is_met (state_of y) (frame_of x ∷ [])).1 (frame_kept y (frame_of x) has, tt)) in
    let next : IsNextNeed g.world (state_of y) (request_of j.request) (Entry c.loader c.name c.loader) =
    (concludes_at told j.path.config g (state_of y) j.request (verdicts.Linkage need) b served (whole_rests told j.request j.target j.path x need job.for_request job.spelt path whole refl) refl refl met).next in
    record { need = next; step = λ may. record_is_next g (state_of y) (request_of j.request) c.loader c.loader c.name next may }

-- such a class may be recorded
whole_enters : {A : Type 0} (told : Option Content) (j : Job A) (x : Framed) → IsWhole told j.path x → IsDraft told x.draft → (y : Shown) → y.config ≡ j.path.config → Has y (frame_of x) → MayEnter y x.draft
whole_enters told j x whole draft y config has = record {
  config = whole.home.config ∙ sym config;
  loader =
      within (config ∙ sym whole.home.config) (subst (λ (l : ℕ). l < length x.draft.home.config.loaders) (sym (ap (λ (k : Class). k.loader) draft.placed)) draft.within);
  above = whole_recorded y (frame_of x) has whole.complete;
  fit = whole_fits y (frame_of x) has whole.complete;
}

-- the calls of a job whose class is to be recorded
abbrev pub defining_calls : {A : Type 0} → Job A → Framed → Calls
defining_calls j x = job_calls [] (sought_ask j.path ∷ ask_for x.draft.class ∷ []) (1 + away_calls (at_loader j.path) x.draft.class.loader) j

defining : {A : Type 0} (told : Option Content) (j : Job A) (x : Framed) (room : Room) (holds : Shown → Type 0) → IsJob told j.path.config j → IsPath told j.path → IsWhole told j.path x → IsDraft told x.draft → room_at phases.Defining j 0 < room.turns
    → Holds told j holds room.made (defining_calls j x) room.calls → ((y : Shown) → holds y → HoldsOn j y × Has y (frame_of x)) → Leads told j room holds (record { stage = stages.Load (loads.Defining j x); turn = turn.Define x.draft })
defining told j x room holds job path whole draft less calls has = record {
  kept = (job, whole);
  number = refl;
  asks = refl;
  serves = refl;
  left = less;
  calls = calls;
  keeps = λ y h. record { frames = have_more y (frames_of j.path) (frame_of x) (has y h).0.frames (has y h).1; facts = (has y h).0.facts };
  backed = λ y config named consistent h. whole_enters told j x whole draft y config (has y h).1;
  follows = λ g y s h. whole_wanted told j x job path whole g y s (has y h).0 (has y h).1;
}

pub leads_define : {A : Type 0} (told : Option Content) (j : Job A) (x : Framed) (room : Room) (holds : Shown → Type 0) (n : Next A) → IsJob told j.path.config j → IsPath told j.path → IsWhole told j.path x → IsDraft told x.draft → room_at phases.Defining j 0 < room.turns
    → HasPost room → Holds told j holds room.made (defining_calls j x) room.calls → ((y : Shown) → holds y → HoldsOn j y × Has y (frame_of x)) → DefinesBy j x n → Leads told j room holds n
leads_define told j x room holds n job path whole draft less post calls has (inl is) =
    subst (λ (m : Next _). Leads told j room holds m) (sym is) (leads_memory told j.path.config j.q j.request room holds holds job.asked (omega arith) post)
leads_define told j x room holds n job path whole draft less post calls has (inr is) = subst (λ (m : Next _). Leads told j room holds m) (sym is) (defining told j x room holds job path whole draft less calls has)

-- ---- a class without supertypes

none_waits : (others : List Above) → length others ≡ 0 → slice_get others (length (accepted_of others [])) ≡ None
none_waits [] h = refl
none_waits (a ∷ others) h = absurd cc

some_waits : (others : List Above) → (length others ≡ 0 → ⊥) → IsSome (slice_get others (length (accepted_of others [])))
some_waits [] h = absurd (h refl)
some_waits (a ∷ others) h = refl

pub waits_first : (d : Drafted) → (length (supers (file_of d.file)) ≡ 0 → ⊥) → IsSome (wanted_supertype (frame_of (fresh d)))
waits_first d h = some_waits (supers (file_of d.file)) h

pub leads_root : {A : Type 0} (told : Option Content) (j : Job A) (d : Drafted) (n : Next A) → IsJob told j.path.config j → IsPath told j.path → IsSought j.path d.home → IsDraft told d → is_on j.path d.class ≡ false → length (supers (file_of d.file)) ≡ 0
    → DefinesBy j (fresh d) n → LeadsFrom told phases.Homing j d.home.definer (HoldsOn j) n
leads_root told j d n job path home draft off alone h =
    let place = ap (λ (k : Class). k.loader) draft.placed in
    let whole : IsWhole told j.path (fresh d) = root_is_whole told j.path d path draft home off (none_waits (supers (file_of d.file)) alone) in
    leads_define told j (fresh d) (room_of (room_at phases.Homing j 0) (calls_at phases.Homing j d.home.definer)) (HoldsOn j) n job path whole draft
    (less_room (past_left j.target) (left_at phases.Defining (frames_of j.path) 0) (left_at phases.Homing (frames_of j.path) 0) (roots_less told j.path phases.Homing 0 0 path tt)) (phase_has phases.Homing j d.home.definer)
    (subst (λ (l : ℕ). Holds told j (HoldsOn j) 0 (defining_calls j (fresh d)) (calls_at phases.Homing j l)) place (root_holds told j (fresh d) job path whole)) (λ y k. (k, fresh_has y d)) h

-- ---- a job on another path

for_moved : {A : Type 0} (r : Request) (t : Target A) (p q : Pathed) → q.loader ≡ p.loader → q.name ≡ p.name → IsFor r t p → IsFor r t q
for_moved r targets.Own p q loader name h = record { loader = h.loader ∙ sym loader; name = h.name ∙ sym name }
for_moved r (targets.Reference d) p q loader name h = record {
  index = h.index;
  of = h.of;
  cites = record { cited = h.cites.cited; found = h.cites.found; names = h.cites.names ∙ ap (λ (n : List ℕ). Some n) (sym name) };
  loader = loader ∙ h.loader;
}

-- the same request on a path from the same loader and name
abbrev pub on_path : {A : Type 0} → Job A → Pathed → Job A
on_path j p = record j { path = p }

pub job_on : {A : Type 0} (told : Option Content) (j : Job A) (new : Pathed) → IsJob told j.path.config j → IsPath told new → j.path.loader < length j.path.config.loaders → new.config ≡ j.path.config → new.loader ≡ j.path.loader → new.name ≡ j.path.name
    → IsJob {A = A} told new.config (on_path j new)
job_on told j new job path root config loader name =
    let below : new.loader < length new.config.loaders = within config (subst (λ (l : ℕ). l < length j.path.config.loaders) (sym loader) root) in
    record {
      spelt = job.spelt;
      for_request = for_moved j.request j.target j.path new loader name job.for_request;
      config = refl;
      asked = within config job.asked;
      root = below;
      loader = asks_within told new.config new.loader new.name new.frames below path.stand path.drafts;
    }

-- the job goes on with these frames
pub job_with : {A : Type 0} (told : Option Content) (j : Job A) (new : Pathed) (xs : List Framed) → IsJob told j.path.config j → IsPath told new → new ≡ with_frames j.path xs → IsJob {A = A} told new.config (on_path j new)
job_with told j new xs job path is = job_on told j new job path job.root (ap (λ (p : Pathed). p.config) is) (ap (λ (p : Pathed). p.loader) is) (ap (λ (p : Pathed). p.name) is)

-- where a job on a path of the same configuration leads
pub leads_moved : {A : Type 0} (told : Option Content) (j : Job A) (c : Configured) (room : Room) (holds : Shown → Type 0) (n : Next A) → c ≡ j.path.config → LeadsBy told c j.q j.request room holds n → Leads told j room holds n
leads_moved told j c room holds n e l = subst (λ (k : Configured). LeadsBy told k j.q j.request room holds n) e l

-- ---- a class that waits for its first supertype

pub leads_descent : {A : Type 0} (told : Option Content) (j : Job A) (d : Drafted) (new : Pathed) (n : Next A) → IsJob told j.path.config j → IsPath told j.path → IsPath told new → new ≡ with_frame j.path (fresh d) → length (supers (file_of d.file)) ≤ most → IsSome (wanted_supertype (frame_of (fresh d)))
    → LeadsAt told phases.Fresh (on_path j new) (HoldsOn (on_path j new)) n → LeadsFrom told phases.Homing j d.home.definer (HoldsOn j) n
leads_descent {A} told j d new n job path on is few waits l =
    let grown = with_frame j.path (fresh d) in
    let m : LeadsAt told phases.Fresh (on_path j grown) (HoldsOn (on_path j grown)) n = subst (λ (p : Pathed). LeadsAt {A = A} told phases.Fresh (on_path j p) (HoldsOn (on_path j p)) n) is l in
    let drafts : AllByRecursion (λ (x : Framed). IsDraft told x.draft) (j.path.frames ++ fresh d ∷ []) = subst (λ (p : Pathed). AllByRecursion (λ (x : Framed). IsDraft told x.draft) p.frames) is on.drafts in
    let draft : IsDraft told d = all_last (λ (x : Framed). IsDraft told x.draft) j.path.frames (fresh d) drafts in
    let place = ap (λ (k : Class). k.loader) draft.placed in
    let calls : Holds told j (HoldsOn j) 0 (calls_at phases.Fresh (on_path j grown) 0) (calls_at phases.Homing j d.home.definer) =
    subst (λ (l : ℕ). Holds told j (HoldsOn j) 0 (calls_at phases.Fresh (on_path j grown) 0) (calls_at phases.Homing j l)) place
    (descends_holds told j d grown job path (subst (λ (p : Pathed). IsPath told p) is on) refl waits) in
    leads_by (room_of (room_at phases.Homing j 0) (calls_at phases.Homing j d.home.definer)) (HoldsOn j) m
    (fresh_looks (past_left j.target) (frames_of grown) (left_at phases.Homing (frames_of j.path) 0) (descends_less told j.path d phases.Homing 0 0 path tt few waits)) calls
    (λ x h. record { frames = push_holds x j.path d h.frames; facts = h.facts })

-- ---- the next supertype

pub leads_next : {A : Type 0} (told : Option Content) (j : Job A) (row : Rowed) (new : Pathed) (n : Next A) → IsPath told j.path → misfit_under j.path.frames row.class (file_of row.file) ≡ None → Accepts j.path new row.class.loader
    → LeadsAt told phases.Fresh (on_path j new) (HoldsOn (on_path j new)) n → LeadsAt told phases.Initiating j (FindsRow j row) n
leads_next told j row new n path fits step l =
    let room = room_of (room_at phases.Initiating j 0) (calls_at phases.Initiating j 0) in
    let config : new.config ≡ j.path.config = ap (λ (p : Pathed). p.config) step.now in
    leads_moved told j new.config room (FindsRow j row) n config
    (leads_by room (FindsRow j row) l
    (fresh_looks (past_left j.target) (frames_of new) (left_at phases.Initiating (frames_of j.path) 0) (accepts_less told j.path new row.class.loader phases.Initiating 0 0 path tt step))
    (subst (λ (c : Configured). CallsWithin told c (FindsRow j row) j.request 0 (calls_at phases.Fresh (on_path j new) 0) room.calls) (sym config) (accepts_left told j new row.class.loader (FindsRow j row) path step))
    (λ x h. record { frames = accepts_holds told x j.path new row path h.before.frames h.now fits step; facts = h.before.facts }))

-- ---- a class that has all its supertypes

pub draft_whole : (told : Option Content) (old new : Pathed) (place : ℕ) (x : Framed) → IsPath told old → Completes old new place x → IsDraft told x.draft
draft_whole told old new place x path step =
    subst (λ (f : Framed). IsDraft told f.draft) (sym step.whole_is)
    (all_last (λ (f : Framed). IsDraft told f.draft) step.before step.last (subst (λ (xs : List Framed). AllByRecursion (λ (f : Framed). IsDraft told f.draft) xs) step.split path.drafts))

pub leads_complete : {A : Type 0} (told : Option Content) (j : Job A) (row : Rowed) (new : Pathed) (x : Framed) (n : Next A) → IsJob told new.config (on_path j new) → IsPath told j.path → IsPath told new → IsSpelt told row.class row.file → row.class.name ≡ at_name j.path
    → misfit_under j.path.frames row.class (file_of row.file) ≡ None → Completes j.path new row.class.loader x → DefinesBy (on_path j new) x n → LeadsAt told phases.Initiating j (FindsRow j row) n
leads_complete told j row new x n onward path path_new spelt named fits step h =
    let place = row.class.loader in
    let room = room_of (room_at phases.Initiating j 0) (calls_at phases.Initiating j 0) in
    let config : new.config ≡ j.path.config = ap (λ (p : Pathed). p.config) step.now in
    let whole = completed_is_whole told j.path new place x row path step spelt refl named fits in
    leads_moved told j new.config room (FindsRow j row) n config
    (leads_define told (on_path j new) x room (FindsRow j row) n onward path_new whole (draft_whole told j.path new place x path step)
    (less_room (past_left j.target) (left_at phases.Defining (frames_of new) 0) (left_at phases.Initiating (frames_of j.path) 0) (completes_less told j.path new place x phases.Initiating 0 0 path tt step)) (phase_has phases.Initiating j 0)
    (subst (λ (c : Configured). CallsWithin told c (FindsRow j row) j.request 0 (defining_calls (on_path j new) x) room.calls) (sym config) (completes_left told j new place x (FindsRow j row) path step whole))
    (λ y k. let both = completes_holds told y j.path new row x path k.before.frames k.now fits step in (record { frames = both.0; facts = k.before.facts }, both.1)) h)

-- ---- what accepting answers

pub accepts_next : (old new : Pathed) (place : ℕ) (o : Option Framed) → o ≡ None → MatchOption o (Accepts old new place) (λ x. Completes old new place x) → Accepts old new place
accepts_next old new place o e h = subst (λ (k : Option Framed). MatchOption k (Accepts old new place) (λ x. Completes old new place x)) e h

pub accepts_last : (old new : Pathed) (place : ℕ) (o : Option Framed) (x : Framed) → o ≡ Some x → MatchOption o (Accepts old new place) (λ y. Completes old new place y) → Completes old new place x
accepts_last old new place o x e h = subst (λ (k : Option Framed). MatchOption k (Accepts old new place) (λ y. Completes old new place y)) e h

-- ---- the loader that was asked

home_records : (x : Shown) (p : Pathed) (h : Located) (row : Rowed) → IsSought p h → IsRecordedAs x h.definer (at_name p) row → row.class.loader ≡ h.definer → recorded_definer (records_of x) h.definer h.name ≡ Some h.definer
home_records x p h row sought told own =
    subst (λ (n : List ℕ). recorded_definer (records_of x) h.definer n ≡ Some h.definer) (sym sought.name) (told.records.1 ∙ ap (λ (l : ℕ). Some l) own)

away_wanted : {A : Type 0} (told : Option Content) (j : Job A) (h : Arc (Home A) Global) → IsJob told j.path.config j → IsPath told j.path → IsSought j.path h.value → h.value.definer ≢ at_loader j.path → LeadsTo told h.value.config h.value.asked h.value.name (Some h.value.definer)
    → (g : Setting) (y : Shown) → ServedIn told j.path.config g (state_of y) → HoldsOn j y → recorded_definer (records_of y) h.value.definer h.value.name ≡ Some h.value.definer → IsWanted g (state_of y) j.request (Entry h.value.asked h.value.name h.value.definer)
away_wanted {A} told j h job path sought other lead g y served holds rec =
    let i = h.value in
    let need : rust.Need = needs.Entry i.asked i.name i.definer in
    let b : Based = refused_at {B = A} j.request j.target j.path (nexts.Initiate h) in
    let met : AllMet (state_of y) b.needs = path_met y j (home_record i ∷ []) holds (rec, tt) in
    let next : IsNextNeed g.world (state_of y) (request_of j.request) (Entry i.asked i.name i.definer) =
    (concludes_at told j.path.config g (state_of y) j.request (verdicts.Linkage need) b served (away_rests told j.request j.target j.path i need job.for_request job.spelt path (sought, other) lead refl) refl refl met).next in
    record { need = next; step = λ may. record_is_next g (state_of y) (request_of j.request) i.asked i.definer i.name next may }

pub leads_initiate : {A : Type 0} (told : Option Content) (j : Job A) (h kept : Arc (Home A) Global) (row : Rowed) → kept.value ≡ h.value → IsJob told j.path.config j → IsPath told j.path → IsSought j.path h.value
    → LeadsTo told h.value.config h.value.asked h.value.name (Some h.value.definer) → h.value.definer ≢ at_loader j.path → row.class.loader ≡ h.value.definer
    → LeadsFrom told phases.Defining j h.value.definer (FindsAt j h.value.definer row) (record { stage = stages.Load (loads.Initiating j kept); turn = turn.Initiate h })
leads_initiate told j h kept row same job path sought lead other own = record {
  kept = (job, (subst (λ (i : Located). IsSought j.path i) (sym same) sought, subst (λ (i : Located). i.definer ≢ at_loader j.path) (sym same) other));
  number = refl;
  asks = ap (λ (i : Located). waits.Initiating i) same;
  serves = refl;
  left = less_room (past_left j.target) (left_at phases.Initiating (frames_of j.path) 0) (left_at phases.Defining (frames_of j.path) 0) (defined_less (frames_of j.path) 0 0);
  calls = same_holds told j (FindsAt j h.value.definer row) (job_calls [] (sought_ask j.path ∷ []) 1 j) (calls_at phases.Defining j h.value.definer) (sym (away_defined j h.value.definer (λ e. other (sym e))));
  keeps = λ x f. record {
    frames = f.before.frames;
    facts = (subst (λ (i : Located). recorded_definer (records_of x) i.definer i.name ≡ Some i.definer) (sym same) (home_records x j.path h.value row sought f.now own), f.before.facts);
  };
  backed = λ x config named consistent f. record {
    config = sought.config ∙ sym config;
    loader = subst (λ (l : ℕ). l < length x.config.loaders) (sym sought.asked) (within config job.loader);
    defined = home_records x j.path h.value row sought f.now own;
  };
  follows = λ g x s f. (away_wanted told j h job path sought other lead g x s f.before (home_records x j.path h.value row sought f.now own), λ e. other (sym e ∙ sought.asked));
}

pub differ : (a b : ℕ) → eqb a b ≡ false → a ≡ b → ⊥
differ a b h e = let k : eqb a b ≡ true = eq-eqb a b e in cc

-- the home, another loader, is asked for what is looked for
pub leads_homing : {A : Type 0} (told : Option Content) (j : Job A) (h : Located) (loader : ℕ) (name : List ℕ) → IsJob told j.path.config j → IsPath told j.path → IsHoming j h → LeadsTo told h.config h.asked h.name (Some h.definer) → loader ≡ h.definer → name ≡ at_name j.path
    → LeadsAt told phases.Reading j (HoldsOn j) (record { stage = stages.Load (loads.Homing j h); turn = turn.Look loader name })
leads_homing told j h loader name job path homing leads is_loader is_name = record {
  kept = (job, homing);
  number = refl;
  asks = ap (λ (l : ℕ). waits.Looking l (at_name j.path)) (sym is_loader) ∙ ap (λ (n : List ℕ). waits.Looking loader n) (sym is_name);
  serves = refl;
  left = less_room (past_left j.target) (left_at phases.Homing (frames_of j.path) 0) (left_at phases.Reading (frames_of j.path) 0) (homes_less (frames_of j.path) 0 0);
  calls = homing_holds told j h job path homing leads;
  keeps = λ x k. record { frames = k.frames; facts = k.facts };
  backed = λ x config named consistent k. tt;
  follows = λ g x s k. tt;
}

-- What a task was told stays so, wherever the registry goes on to (JVMS SE 8, 5.3 to 5.4.3).
use Rattle.std.proofs.Common.{◌≡◌, inl, inr, ◌∙◌, ℕ, List, [], ◌∷◌, ◌++◌, Option, Some, None, refl, sym, ap, subst, append_assoc}
use Rattle.std.specs.Prelude.{◌&&◌, ◌==◌, find, Contains}
use Rattle.std.specs.Option.{option_or}
use Rattle.std.specs.List.{AllByRecursion}
use Rattle.std.proofs.lemmas.List.{append-nil}
use Rattle.std.proofs.lemmas.List.Folds.{find-append}
use Rattle.cl_classfile.specs.Files.{file_of}
use Rattle.cl_config.specs.Loaders.{schedule_of}
use Rattle.cl_hierarchy.specs.Lineages.{rows_in, row_of}
use Rattle.cl_hierarchy.specs.Rows.{Rowed}
use Rattle.cl_model.specs.declared.answer.Answer as rust
use Rattle.cl_model.specs.declared.class.Class.{Class}
use Rattle.cl_model.specs.declared.event.Event.{Event}
use Rattle.cl_model.specs.declared.event.Event.TheVariants as events
use Rattle.cl_model.specs.declared.settled.Settled.{Settled}
use Rattle.cl_model.specs.Content.{Content}
use Rattle.cl_model.specs.Classes.{class, same_class, Above, supers}
use Rattle.cl_model.specs.Frames.{Frame}
use Rattle.cl_model.specs.Machine.{Step, Post, state_after}
use Rattle.cl_model.specs.States.{State, Need, Met, Refused, Verdict, recorded_definer, settled_to, start}
use Rattle.cl_model.specs.Views.{answer_of, verdict_of}
use Rattle.cl_model.proofs.Runs.{IsLater, met_later, refused_later, run_later}
use Rattle.cl_model.proofs.Sound.{prepared_stay, settled_stay}
use Rattle.cl_model.proofs.Tables.{trusted_is_consistent}
use Rattle.cl_model.proofs.Views.{state_then}
use Rattle.cl_registry.specs.References.{IsSettledIn}
use Rattle.cl_registry.specs.Tables.{Shown, ArePlaced, IsKept, IsOpen, IsTrusted, records_of, settled_at, settlements, state_of, steps, with_post}
use Rattle.cl_registry.specs.Traced.{IsRowOf}
use Rattle.cl_registry.proofs.Histories.{steps_posts, unposted, settlements_then}
use Rattle.cl_registry.proofs.Tracing.{row_of_record}
use Rattle.cl_tasks.specs.Facts.{AllHave, AreSo, HaveAccepted, Holds, IsRecordedAs, IsSo}
use Rattle.cl_tasks.specs.Tasks.{Tasked, Fact, Stands, StandsRefused, HasLineage, IsPrepared}
use Rattle.cl_schedule.specs.Replies.{Did}
use Rattle.cl_schedule.specs.Rounds.{RoundsPassed}
use Rattle.cl_schedule.specs.Seats.{GoesOn, IsAfter}
use Rattle.cl_schedule.specs.Serving.{GoesBy}

-- ---- how a registry goes on

pub goes_on_none : (x : Shown) → GoesOn x x
goes_on_none x = record {
  config = refl;
  script = refl;
  more = [];
  rows = sym (append-nil x.rows);
  events = [];
  history = sym (append-nil x.history);
  made = [];
  steps_more = sym (append-nil (steps x));
}

pub goes_on_by : (old new : Shown) (e : Step) → GoesBy old new e → GoesOn old new
goes_on_by old new e h = record { config = h.config; script = h.script; more = h.more; rows = h.rows; events = h.event ∷ []; history = h.history; made = e ∷ []; steps_more = h.step }

pub goes_on_did : (old new : Shown) (such : Step → Type 0) → Did old new such → GoesOn old new
goes_on_did old new such (inl same) = subst (λ (y : Shown). GoesOn old y) (sym same) (goes_on_none old)
goes_on_did old new such (inr did) = goes_on_by old new did.0 did.2

pub goes_on_posted : (x : Shown) (q : ℕ) (a : rust.Answer) → IsTrusted x → IsOpen x q → GoesOn x (with_post x q a)
goes_on_posted x q a t is = record {
  config = refl;
  script = refl;
  more = [];
  rows = sym (append-nil x.rows);
  events = events.Post q ∷ [];
  history = refl;
  made = Post q (answer_of a) ∷ [];
  steps_more = steps_posts x q a (unposted x q t is) is;
}

pub goes_on_rounds : (old new : Shown) → RoundsPassed old new → GoesOn old new
goes_on_rounds old new h = record { config = h.config; script = h.script; more = []; rows = h.rows ∙ sym (append-nil old.rows); events = h.events; history = h.history; made = h.passed; steps_more = h.steps_more }

pub goes_on_then : (a b c : Shown) → GoesOn a b → GoesOn b c → GoesOn a c
goes_on_then a b c h k = record {
  config = k.config ∙ h.config;
  script = k.script ∙ h.script;
  more = h.more ++ k.more;
  rows = k.rows ∙ ap (λ (rs : List Rowed). rs ++ k.more) h.rows ∙ append_assoc a.rows h.more k.more;
  events = h.events ++ k.events;
  history = k.history ∙ ap (λ (es : List Event). es ++ k.events) h.history ∙ append_assoc a.history h.events k.events;
  made = h.made ++ k.made;
  steps_more = k.steps_more ∙ ap (λ (es : List Step). es ++ k.made) h.steps_more ∙ append_assoc (steps a) h.made k.made;
}

pub after_then : (told : Option Content) (a b c : Shown) → GoesOn a b → IsAfter told b c → IsAfter told a c
after_then told a b c h k = record { goes = goes_on_then a b c h k.goes; kept = k.kept }

pub state_later : (old new : Shown) (h : GoesOn old new) → state_of new ≡ state_after (state_of old) h.made
state_later old new h = ap (state_after start) h.steps_more ∙ state_then start (steps old) h.made

pub is_later : (old new : Shown) → GoesOn old new → IsLater (state_of old) (state_of new)
is_later old new h = subst (λ (s : State). IsLater (state_of old) s) (sym (state_later old new h)) (run_later (state_of old) h.made)

-- ---- records and rows

pub record_later : (old new : Shown) (loader place : ℕ) (name : List ℕ) → GoesOn old new → recorded_definer (records_of old) loader name ≡ Some place → recorded_definer (records_of new) loader name ≡ Some place
record_later old new loader place name h is = (is_later old new h).records loader place name is

pub prepared_later : (old new : Shown) (c : Class) → GoesOn old new → Contains (state_of old).prepared c → Contains (state_of new).prepared c
prepared_later old new c h so = subst (λ (s : State). Contains s.prepared c) (sym (state_later old new h)) (prepared_stay (state_of old) h.made c so)

or_first : {A : Type 0} (o p : Option A) (a : A) → o ≡ Some a → option_or o p ≡ Some a
or_first None p a e = absurd cc
or_first (Some b) p a e = e

pub row_stays : (old more new : List Rowed) (c : Class) (row : Rowed) → new ≡ old ++ more → row_of old c ≡ Some row → row_of new c ≡ Some row
row_stays old more new c row e found =
    subst (λ (rs : List Rowed). row_of rs c ≡ Some row) (sym e)
    (find-append (λ (r : Rowed). same_class r.class c) old more ∙ or_first (row_of old c) (row_of more c) row found)

pub recorded_as_later : (old new : Shown) (loader : ℕ) (name : List ℕ) (row : Rowed) → GoesOn old new → IsRecordedAs old loader name row → IsRecordedAs new loader name row
recorded_as_later old new loader name row h is =
    let place = row.class.loader in
    let there = record_later old new loader place name h is.records.1 in
    record {
      records = (is.records.0, there);
      kept =
          row_of_record new loader place name there
          ∙ row_stays old.rows h.more new.rows (class name place) row h.rows (sym (row_of_record old loader place name is.records.1) ∙ is.kept);
    }

accepted_later : (old new : Shown) → GoesOn old new → (c : Class) (ts : List Class) (others : List Above) → HaveAccepted old c ts others → HaveAccepted new c ts others
accepted_later old new h c [] others all = tt
accepted_later old new h c (t ∷ ts) [] all = absurd all
accepted_later old new h c (t ∷ ts) (a ∷ others) all =
    let one = all.0 in (
      record { row = one.row; recorded = recorded_as_later old new c.loader a.name one.row h one.recorded; is = one.is; fits = one.fits },
      accepted_later old new h c ts others all.1,
    )

frames_later : (old new : Shown) → GoesOn old new → (fs : List Frame) → AllHave old fs → AllHave new fs
frames_later old new h [] all = tt
frames_later old new h (f ∷ fs) all = (accepted_later old new h f.class f.accepted (supers f.file) all.0, frames_later old new h fs all.1)

-- ---- facts

placed_later : (old new : Shown) (loader : ℕ) → GoesOn old new → (above : List Above) (places : List ℕ) → ArePlaced (records_of old) loader above places → ArePlaced (records_of new) loader above places
placed_later old new loader h [] [] all = all
placed_later old new loader h [] (p ∷ places) all = all
placed_later old new loader h (a ∷ above) [] all = all
placed_later old new loader h (a ∷ above) (p ∷ places) all = (record_later old new loader p a.name h all.0, placed_later old new loader h above places all.1)

pub rows_later : (old new : Shown) → GoesOn old new → (rs : List Rowed) → AllByRecursion (IsRowOf old) rs → AllByRecursion (IsRowOf new) rs
rows_later old new h [] all = tt
rows_later old new h (r ∷ rs) all =
    let one = all.0 in (
      record {
        recorded = record_later old new r.class.loader r.class.loader r.class.name h one.recorded;
        kept = row_stays old.rows h.more new.rows r.class r h.rows one.kept;
        placed = placed_later old new r.class.loader h (supers (file_of r.file)) r.definers one.placed;
      },
      rows_later old new h rs all.1,
    )

pub met_goes : (old new : Shown) (n : Need) → GoesOn old new → Met (state_of old) n → Met (state_of new) n
met_goes old new n h met = met_later (state_of old) (state_of new) (is_later old new h) n met

-- what is refused stays so, since nothing is violated
pub refused_goes : (told : Option Content) (old new : Shown) (n : Need) → GoesOn old new → IsKept told new → Refused (state_of old) n → Refused (state_of new) n
refused_goes told old new n h kept refused =
    refused_later (state_of old) (state_of new) (is_later old new h)
    (trusted_is_consistent (schedule_of new.script) new.script.rounds (steps new) kept.trusted.tables).unviolated n refused

fact_later : (told : Option Content) (old new : Shown) → GoesOn old new → IsKept told new → (f : Fact) → IsSo old f → IsSo new f
fact_later told old new h kept (Stands n) so = met_goes old new n h so
fact_later told old new h kept (StandsRefused n) so = refused_goes told old new n h kept so
fact_later told old new h kept (HasLineage l) so = record { config = so.config ∙ sym h.config; class = so.class; rows = rows_later old new h (rows_in l) so.rows }
fact_later told old new h kept (IsPrepared c) so = prepared_later old new c h so

facts_later : (told : Option Content) (old new : Shown) → GoesOn old new → IsKept told new → (fs : List Fact) → AreSo old fs → AreSo new fs
facts_later told old new h kept [] all = tt
facts_later told old new h kept (f ∷ fs) all = (fact_later told old new h kept f all.0, facts_later told old new h kept fs all.1)

pub holds_later : (told : Option Content) (old new : Shown) (t : Tasked) → IsAfter told old new → Holds old t → Holds new t
holds_later told old new t h held = record { frames = frames_later old new h.goes t.frames held.frames; facts = facts_later told old new h.goes h.kept t.facts held.facts }

-- ---- what is settled

pub settled_at_later : (old new : Shown) (c : Class) (i : ℕ) (s : Settled) → GoesOn old new → settled_at old c i ≡ Some s → settled_at new c i ≡ Some s
settled_at_later old new c i s h is =
    let test = λ (k : Settled). same_class k.class c && (k.index == i) in
    ap (find test) (ap settlements h.history ∙ settlements_then old.history h.events)
    ∙ find-append test (settlements old.history) (settlements h.events)
    ∙ or_first (settled_at old c i) (find test (settlements h.events)) s is

pub settled_in_later : (old new : Shown) (c : Class) (i : ℕ) (s : Settled) → GoesOn old new → IsSettledIn old c i s → IsSettledIn new c i s
settled_in_later old new c i s h is = record {
  class = is.class;
  index = is.index;
  entry = settled_at_later old new c i s h is.entry;
  verdict = settled_to_later (verdict_of s.verdict) is.verdict;
}
  where
    settled_to_later : (v : Verdict) → settled_to (state_of old).settled c i ≡ Some v → settled_to (state_of new).settled c i ≡ Some v
    settled_to_later v at = subst (λ (k : State). settled_to k.settled c i ≡ Some v) (sym (state_later old new h)) (settled_stay (state_of old) h.made c i v at)

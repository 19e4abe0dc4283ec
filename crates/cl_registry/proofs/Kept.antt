-- What a registry keeps goes on by an event more that posts nothing.
use Rattle.std.proofs.Common.{◌≡◌, ◌∙◌, ◌<◌, ◌≤◌, ◌+◌, ◌-◌, ℕ, List, [], ◌∷◌, ◌++◌, length, map, Option, Some, refl, sym, ap, subst}
use Rattle.std.specs.Prelude.{slice_get, nat_eq, IsSome, All, find, ◌==◌, ◌&&◌}
use Rattle.std.specs.List.{AllByRecursion, list_any}
use Rattle.std.proofs.lemmas.List.{append-nil, length_push}
use Rattle.std.proofs.lemmas.List.Elements.{All-same, All-push}
use Rattle.cl_classfile.specs.Files.{Name, file_of}
use Rattle.cl_model.specs.declared.class.Class.{Class}
use Rattle.cl_model.specs.declared.event.Event.{Event}
use Rattle.cl_model.specs.declared.settled.Settled.{Settled}
use Rattle.cl_model.specs.Content.{Content}
use Rattle.cl_model.specs.Classes.{Above, supers, same_class}
use Rattle.cl_model.specs.Texts.{EventNames, VerdictNames}
use Rattle.cl_model.specs.States.{State, Record, recorded_definer}
use Rattle.cl_model.specs.Machine.{Step, after, May}
use Rattle.cl_model.specs.Tables.{Allows}
use Rattle.cl_model.specs.Views.{answers_of, answer_at, step_of}
use Rattle.cl_model.proofs.Runs.{records_stay}
use Rattle.cl_config.specs.Views.{Scripted}
use Rattle.cl_config.specs.Loaders.{schedule_of}
use Rattle.cl_delegation.specs.Worlds.{setting_of}
use Rattle.cl_hierarchy.specs.Drafts.{IsSpelt}
use Rattle.cl_hierarchy.specs.Imposed.{needs_of}
use Rattle.cl_hierarchy.specs.Rows.{Rowed}
use Rattle.cl_hierarchy.specs.RowTables.{AreRows}
use Rattle.cl_constraints.specs.Books.{IsBookOf}
use Rattle.cl_constraints.proofs.Standing.{stands_alike}
use Rattle.cl_registry.specs.Kept.{Fields, IsRegistry}
use Rattle.cl_registry.specs.Tables.{Shown, steps, state_of, records_of, round_of, posts, defined_classes, settlements, settled_at, IsTrusted, IsKept, IsPlaced, ArePlaced, looked_row}
use Rattle.cl_registry.proofs.Histories.{steps_more, state_more, trusted_more, run_more, posts_then, defined_then, settlements_then}
use Rattle.cl_registry.proofs.Known.{met_after}

-- ---- one event more

abbrev pub with_event : Shown → List Rowed → Event → Shown
with_event x rows e = record x { rows = rows; history = x.history ++ e ∷ [] }

-- the step of an event
abbrev pub step_by : Shown → Event → Step
step_by x e = step_of (answers_of x.answers) e

steps_event : (x : Shown) (rows : List Rowed) (e : Event) → steps (with_event x rows e) ≡ steps x ++ step_by x e ∷ []
steps_event x rows e = steps_more (answers_of x.answers) x.history e

pub state_event : (x : Shown) (rows : List Rowed) (e : Event) → state_of (with_event x rows e) ≡ after (state_of x) (step_by x e)
state_event x rows e = state_more x (with_event x rows e) (step_by x e) (steps_event x rows e)

-- what is recorded stays so
pub records_event : (x : Shown) (rows : List Rowed) (e : Event) (l p : ℕ) (n : Name) → recorded_definer (records_of x) l n ≡ Some p → recorded_definer (records_of (with_event x rows e)) l n ≡ Some p
records_event x rows e l p n h =
    subst (λ (s : State). recorded_definer s.records l n ≡ Some p) (sym (state_event x rows e)) (records_stay (state_of x) (step_by x e ∷ []) l p n h)

-- what is settled, after an event more that settles nothing
pub settled_event : (x : Shown) (rows : List Rowed) (e : Event) → settlements (e ∷ []) ≡ [] → settlements (with_event x rows e).history ≡ settlements x.history
settled_event x rows e none = settlements_then x.history (e ∷ []) ∙ ap (λ (rs : List Settled). settlements x.history ++ rs) none ∙ append-nil (settlements x.history)

pub settled_same : (x : Shown) (rows : List Rowed) (e : Event) (c : Class) (i : ℕ) → settlements (e ∷ []) ≡ [] → settled_at (with_event x rows e) c i ≡ settled_at x c i
settled_same x rows e c i none = ap (λ (rs : List Settled). find (λ s. same_class s.class c && (s.index == i)) rs) (settled_event x rows e none)

-- ---- rows that stay

abbrev Grows : List Record → List Record → Type 0
Grows rs ss = (l p : ℕ) (n : Name) → recorded_definer rs l n ≡ Some p → recorded_definer ss l n ≡ Some p

places_stay : (rs ss : List Record) (l : ℕ) (above : List Above) (places : List ℕ) → Grows rs ss → ArePlaced rs l above places → ArePlaced ss l above places
places_stay rs ss l [] [] grows h = tt
places_stay rs ss l [] (p ∷ ps) grows h = absurd h
places_stay rs ss l (a ∷ above) [] grows h = absurd h
places_stay rs ss l (a ∷ above) (p ∷ ps) grows h = (grows l p a.name h.0, places_stay rs ss l above ps grows h.1)

rows_stay : (rs ss : List Record) (rows : List Rowed) → Grows rs ss → AllByRecursion (IsPlaced rs) rows → AllByRecursion (IsPlaced ss) rows
rows_stay rs ss [] grows h = tt
rows_stay rs ss (r ∷ rows) grows h = (places_stay rs ss r.class.loader (supers (file_of r.file)) r.definers grows h.0, rows_stay rs ss rows grows h.1)

placed_push : (rs : List Record) (rows : List Rowed) (r : Rowed) → AllByRecursion (IsPlaced rs) rows → IsPlaced rs r → AllByRecursion (IsPlaced rs) (rows ++ r ∷ [])
placed_push rs [] r h one = (one, tt)
placed_push rs (s ∷ rows) r h one = (h.0, placed_push rs rows r h.1 one)

-- the rows keep their places, with an event more
pub placed_event : (told : Option Content) (x : Shown) (rows : List Rowed) (e : Event) → IsKept told x → AllByRecursion (IsPlaced (records_of (with_event x rows e))) x.rows
placed_event told x rows e k = rows_stay (records_of x) (records_of (with_event x rows e)) x.rows (records_event x rows e) k.placed

-- and so does a row more, whose supertypes were recorded before
pub placed_more : (told : Option Content) (x : Shown) (r : Rowed) (e : Event) → IsKept told x → IsPlaced (records_of x) r → AllByRecursion (IsPlaced (records_of (with_event x (x.rows ++ r ∷ []) e))) (x.rows ++ r ∷ [])
placed_more told x r e k one =
    let rows = x.rows ++ r ∷ [] in
    placed_push (records_of (with_event x rows e)) x.rows r (placed_event told x rows e k)
    (places_stay (records_of x) (records_of (with_event x rows e)) r.class.loader (supers (file_of r.file)) r.definers (records_event x rows e) one)

-- ---- what is kept

-- an event may happen, by the tables and by the machine, and names loaders that there are
pub record IsFine (told : Option Content) (x : Shown) (e : Event) : Type 0 where
  pub silent : posts (e ∷ []) ≡ []
  pub allows : Allows (schedule_of x.script) x.script.rounds (state_of x) (step_by x e)
  pub may : (content : Content) → told ≡ Some content → May (setting_of x.config x.script content) (state_of x) (step_by x e)
  pub names : EventNames (length x.config.loaders) e

-- the rows after an event
pub record AreRowsBy (told : Option Content) (x : Shown) (rows : List Rowed) (e : Event) : Type 0 where
  pub classes : map (λ r. r.class) rows ≡ defined_classes x.history ++ defined_classes (e ∷ [])
  pub spelt : All (λ r. IsSpelt told r.class r.file) rows
  pub order : AreRows told x.config rows
  pub placed : AllByRecursion (IsPlaced (records_of (with_event x rows e))) rows

-- the rounds before an event's are answered
abbrev AreEarlier : Shown → List Rowed → Event → Type 0
AreEarlier x rows e = (q round : ℕ) → slice_get x.script.rounds_of q ≡ Some round → round < round_of (with_event x rows e) → IsSome (answer_at (answers_of x.answers) q)

abbrev NamesSettled : Shown → List Settled → Type 0
NamesSettled x rs = All (λ s. VerdictNames (length x.config.loaders) s.verdict) rs

-- what is kept goes on by an event that is no post
pub kept_event : (told : Option Content) (x : Shown) (rows : List Rowed) (e : Event) → IsKept told x → IsFine told x e → AreRowsBy told x rows e → AreEarlier x rows e
    → NamesSettled x (settlements x.history ++ settlements (e ∷ [])) → IsKept told (with_event x rows e)
kept_event told x rows e k fine by earlier settled = record {
  trusted = record {
    script = k.trusted.script;
    tables = trusted_more x (with_event x rows e) (step_by x e) refl (steps_event x rows e) k.trusted.tables fine.allows;
    posted = λ q. ap (list_any (nat_eq q)) (posts_then x.history (e ∷ []) ∙ ap (λ (ps : List ℕ). posts x.history ++ ps) fine.silent ∙ append-nil (posts x.history)) ∙ k.trusted.posted q;
    whole = k.trusted.whole;
    earlier = earlier;
  };
  named = record {
    history = All-push (EventNames (length x.config.loaders)) x.history e k.named.history fine.names;
    settled = All-same (λ s. VerdictNames (length x.config.loaders) s.verdict) (settlements (x.history ++ e ∷ [])) (settlements x.history ++ settlements (e ∷ [])) (settlements_then x.history (e ∷ [])) settled;
    answers = k.named.answers;
  };
  run = run_more told x (with_event x rows e) (step_by x e) refl refl (steps_event x rows e) k.run fine.may;
  rows = by.classes ∙ sym (defined_then x.history (e ∷ []));
  spelt = by.spelt;
  order = by.order;
  placed = by.placed;
}

pub same_rounds : (x : Shown) (rows : List Rowed) (e : Event) → IsTrusted x → round_of (with_event x rows e) ≡ round_of x → AreEarlier x rows e
same_rounds x rows e t same q round asked less = t.earlier q round asked (subst (λ (n : ℕ). round < n) same less)

pub none_settled : (told : Option Content) (x : Shown) (e : Event) → IsKept told x → settlements (e ∷ []) ≡ [] → NamesSettled x (settlements x.history ++ settlements (e ∷ []))
none_settled told x e k none =
    All-same (λ s. VerdictNames (length x.config.loaders) s.verdict) (settlements x.history ++ settlements (e ∷ [])) (settlements x.history)
    (ap (λ (rs : List Settled). settlements x.history ++ rs) none ∙ append-nil (settlements x.history)) k.named.settled

-- the same rows, after an event that defines nothing
pub rows_same : (told : Option Content) (x : Shown) (e : Event) → IsKept told x → defined_classes (e ∷ []) ≡ [] → AreRowsBy told x x.rows e
rows_same told x e k none = record {
  classes = k.rows ∙ sym (append-nil (defined_classes x.history)) ∙ sym (ap (λ (cs : List Class). defined_classes x.history ++ cs) none);
  spelt = k.spelt;
  order = k.order;
  placed = placed_event told x x.rows e k;
}

-- ---- what the type keeps

-- the fields after a call: rows by name, references, prepared classes, and the room of the history
abbrev pub moved : Fields → (ℕ → List ℕ → Option Rowed) → ℕ → (Class → ℕ → Option Settled) → List Class → ℕ → ℕ → Fields
moved f table wide references prepared used more =
    record f { table = table; parts = wide; references = references; prepared = prepared; events = used; room_for_events = more }

-- how far the history was filled, and that there is room for what is to come
pub record HasRoom (x : Shown) (f : Fields) (used come more : ℕ) : Type 0 where
  pub one : used ≡ f.events + 1
  pub come_is : come ≡ f.left + (x.script.rounds - (f.round + 1))
  pub fits : used + come ≤ more

-- what is to come is counted by the rounds of the script
pub come_by : {come rounds : ℕ} {s t : Scripted} (left round : ℕ) → come ≡ left + (rounds - (round + 1)) → rounds ≡ s.rounds → s ≡ t → come ≡ left + (t.rounds - (round + 1))
come_by left round is of same = is ∙ ap (λ (n : ℕ). left + (n - (round + 1))) (of ∙ ap (λ (y : Scripted). y.rounds) same)

-- a registry after an event that is no post, and begins no round
pub registry_event : (told : Option Content) (x : Shown) (rows : List Rowed) (e : Event) (f : Fields) (old new : State → Type 0) (table : ℕ → List ℕ → Option Rowed) (wide : ℕ) (references : Class → ℕ → Option Settled) (prepared : List Class) (used come more : ℕ)
    → IsRegistry told x f old → IsKept told (with_event x rows e) → round_of (with_event x rows e) ≡ round_of x → wide ≡ f.parts → ((l : ℕ) (n : List ℕ) → table l n ≡ looked_row (with_event x rows e) l n)
    → new (state_of (with_event x rows e)) → ((c : Class) (i : ℕ) → references c i ≡ settled_at (with_event x rows e) c i) → prepared ≡ (state_of (with_event x rows e)).prepared → HasRoom x f used come more
    → IsRegistry told (with_event x rows e) (moved f table wide references prepared used more) new
registry_event told x rows e f old new table wide references prepared used come more k kept round same rows_are book references_are prepared_are room = record {
  kept = kept;
  script = k.script;
  width = same ∙ k.width;
  rows = rows_are;
  book = book;
  references = references_are;
  prepared = prepared_are;
  met = met_after (state_of x) (state_of (with_event x rows e)) (step_by x e) (needs_of f.met) (state_event x rows e) k.met;
  left = k.left;
  counts = k.counts;
  each_round = k.each_round;
  round = k.round ∙ sym round;
  begun = k.begun;
  used = room.one ∙ ap (λ (n : ℕ). n + 1) k.used ∙ sym (length_push x.history e);
  events_fit = subst (λ (n : ℕ). used + n ≤ more) room.come_is room.fits;
  empty = k.empty;
  answers_fit = k.answers_fit;
}

-- a book that stood before an event which adds neither record nor equality stands after it
pub book_event : (home : Name → ℕ → Option ℕ) (joins : Name → ℕ → ℕ → Type 0) (x : Shown) (rows : List Rowed) (e : Event) → (after (state_of x) (step_by x e)).records ≡ records_of x → (after (state_of x) (step_by x e)).equalities ≡ (state_of x).equalities
    → IsBookOf home joins (state_of x) → IsBookOf home joins (state_of (with_event x rows e))
book_event home joins x rows e records equalities book =
    let is = state_event x rows e in
    stands_alike home joins (state_of x) (state_of (with_event x rows e)) (ap (λ (s : State). s.records) is ∙ records) (ap (λ (s : State). s.equalities) is ∙ equalities) book

-- ---- a call that failed

abbrev pub grown : Shown → List Rowed → List Event → Shown
grown x rows history = record x { rows = rows; history = history }

-- what is shown stays, and so does what is kept of it, where only room was made
pub kept_failed : (told : Option Content) (x : Shown) (f : Fields) (old new : State → Type 0) (table : ℕ → List ℕ → Option Rowed) (wide : ℕ) (references : Class → ℕ → Option Settled) (prepared : List Class) (used come more : ℕ) (rows : List Rowed) (history : List Event)
    → IsRegistry told x f old → rows ≡ x.rows → history ≡ x.history → ((l : ℕ) (n : List ℕ) → table l n ≡ f.table l n) → wide ≡ f.parts → (old (state_of x) → new (state_of x)) → ((c : Class) (i : ℕ) → references c i ≡ f.references c i) → prepared ≡ f.prepared
    → used ≡ f.events → come ≡ f.left + (x.script.rounds - (f.round + 1)) → used + come ≤ more
    → IsRegistry told (record x { rows = rows; history = history }) (moved f table wide references prepared used more) new
kept_failed told x f old new table wide references prepared used come more rows history k r h put same book kept-references kept-prepared one is fits =
    subst (λ (y : Shown). IsRegistry told y (moved f table wide references prepared used more) new) (sym (ap (λ (rs : List Rowed). grown x rs history) r ∙ ap (λ (hs : List Event). grown x x.rows hs) h))
    (record {
      kept = k.kept;
      script = k.script;
      width = same ∙ k.width;
      rows = λ l n. put l n ∙ k.rows l n;
      book = book k.book;
      references = λ c i. kept-references c i ∙ k.references c i;
      prepared = kept-prepared ∙ k.prepared;
      met = k.met;
      left = k.left;
      counts = k.counts;
      each_round = k.each_round;
      round = k.round;
      begun = k.begun;
      used = one ∙ k.used;
      events_fit = subst (λ (n : ℕ). used + n ≤ more) is fits;
      empty = k.empty;
      answers_fit = k.answers_fit;
    })

-- What a registry keeps, and what a call does to it (JVMS SE 8, 5.3, 5.3.5).
use Rattle.std.specs.Prelude.{◌≡◌, ◌<◌, ℕ, ◌&&◌, ◌==◌, nat_eq, List, [], ◌∷◌, ◌++◌, length, map, Option, Some, None, is_some, replicate, find, slice_get, slice_set, option_and_then, option_map, IsSome, IfSome, All}
use Rattle.std.specs.declared.alloc.Global.{Global}
use Rattle.std.specs.declared.sync.Arc.{Arc}
use Rattle.std.specs.HashMap.{HashMap, get}
use Rattle.std.specs.List.{AllByRecursion, AllZip, list_any}
use Rattle.std.specs.Cmp.Lexicographic.{pointwise}
use Rattle.cl_classfile.specs.Files.{file_of}
use Rattle.cl_model.specs.declared.class.Class.{Class}
use Rattle.cl_model.specs.declared.event.Event.{Event}
use Rattle.cl_model.specs.declared.event.Event.TheVariants as events
use Rattle.cl_model.specs.declared.answer.Answer.{Answer}
use Rattle.cl_model.specs.declared.settled.Settled.{Settled}
use Rattle.cl_model.specs.Content.{Content}
use Rattle.cl_model.specs.Classes.{class, same_class, Above, supers}
use Rattle.cl_model.specs.Texts.{AnswerNames, EventNames, VerdictNames}
use Rattle.cl_model.specs.States.{State, IsRecorded, Record, recorded_definer, start, Refused}
use Rattle.cl_model.specs.Machine.{Step, state_after, Run, Setting, EndsRound}
use Rattle.cl_model.specs.Tables as tables
use Rattle.cl_model.specs.Views.{answers_of, answer_at, steps_of}
use Rattle.cl_config.specs.Views.{Configured, Scripted}
use Rattle.cl_config.specs.Loaders.{schedule_of}
use Rattle.cl_config.specs.Scripts.{IsScript}
use Rattle.cl_delegation.specs.Searches.{Located}
use Rattle.cl_delegation.specs.Worlds.{setting_of}
use Rattle.cl_hierarchy.specs.Drafts.{Drafted, IsSpelt, home_class}
use Rattle.cl_hierarchy.specs.Rows.{FitsAs, Rowed}
use Rattle.cl_hierarchy.specs.Lineages.{row_of}
use Rattle.cl_hierarchy.specs.RowTables.{AreRows}
use Rattle.cl_findings.specs.Findings.{Answered}
use Rattle.cl_findings.specs.Loads.{asked_record, own_record}
use Rattle.cl_registry.specs.Parts.{place_by, row_by}

-- what a registry shows: whose it is, the rows of the classes that were defined, in order, what happened, and the answer of
-- each request that has one
pub record Shown : Type 0 where
  pub config : Configured
  pub script : Scripted
  pub rows : List Rowed
  pub history : List Event
  pub answers : List (Option Answer)

-- no class, no event, and no answer to any request
abbrev pub empty_of : Configured → Scripted → Shown
empty_of config script =
    record {
      config = config;
      script = script;
      rows = [];
      history = [];
      answers = replicate
          (length script.requests) None;
    }

-- the steps of the linkage machine that the history tells
abbrev pub steps : Shown → List Step
steps x = steps_of (answers_of x.answers) x.history

-- the state that the history leads to
abbrev pub state_of : Shown → State
state_of x = state_after start (steps x)

-- what each loader has recorded (5.3)
abbrev pub records_of : Shown → List Record
records_of x = (state_of x).records

-- the round that is being served
abbrev pub round_of : Shown → ℕ
round_of x = (state_of x).round

-- the requests that are posted, in order
abbrev pub posts : List Event → List ℕ
posts [] = []
posts (events.Define c ∷ es) = posts es
posts (events.Initiate c loader ∷ es) = posts es
posts (events.Constrain e ∷ es) = posts es
posts (events.Settle s ∷ es) = posts es
posts (events.Prepare c ∷ es) = posts es
posts (events.NextRound ∷ es) = posts es
posts (events.Post q ∷ es) = q ∷ posts es

-- the classes that are defined, in order (5.3.5)
abbrev pub defined_classes : List Event → List Class
defined_classes [] = []
defined_classes (events.Define c ∷ es) = c ∷ defined_classes es
defined_classes (events.Initiate c loader ∷ es) = defined_classes es
defined_classes (events.Constrain e ∷ es) = defined_classes es
defined_classes (events.Settle s ∷ es) = defined_classes es
defined_classes (events.Prepare c ∷ es) = defined_classes es
defined_classes (events.NextRound ∷ es) = defined_classes es
defined_classes (events.Post q ∷ es) = defined_classes es

-- the references that are settled, in order (5.4.3)
abbrev pub settlements : List Event → List Settled
settlements [] = []
settlements (events.Define c ∷ es) = settlements es
settlements (events.Initiate c loader ∷ es) = settlements es
settlements (events.Constrain e ∷ es) = settlements es
settlements (events.Settle s ∷ es) = s.value ∷ settlements es
settlements (events.Prepare c ∷ es) = settlements es
settlements (events.NextRound ∷ es) = settlements es
settlements (events.Post q ∷ es) = settlements es

-- what holds under any source: the script is one, the tables can be trusted, those requests have an answer whose post the
-- history has, each has a place for one, and those of the rounds before are answered (5.3, 5.3.5)
pub record IsTrusted (x : Shown) : Type 0 where
  pub script : IsScript x.script
  pub tables : tables.AreTrusted (schedule_of x.script) x.script.rounds (steps x)
  pub posted : (q : ℕ) → list_any (nat_eq q) (posts x.history) ≡ is_some
      (answer_at (answers_of x.answers) q)
  pub whole : length x.answers ≡ length x.script.requests
  pub earlier : (q round : ℕ) → slice_get x.script.rounds_of q ≡ Some round → round < round_of x
      → IsSome (answer_at (answers_of x.answers) q)

-- the machine that the history is one of, where this content is told (5.3)
abbrev pub machine : Shown → Content → Setting
machine x content = setting_of x.config x.script content

-- the history is a run of the linkage machine, where a content is told (5.3)
abbrev pub RunsAs : Option Content → Shown → Type 0
RunsAs None x = Unit {0}
RunsAs (Some content) x = Run (machine x content) start (steps x)

-- each loader that the texts of the history, of what is settled and of the answers name is one of the configuration
pub record NamesLoaders (x : Shown) : Type 0 where
  pub history : All (EventNames (length x.config.loaders)) x.history
  pub settled : All (λ s. VerdictNames (length x.config.loaders) s.verdict) (settlements x.history)
  pub answers : All (λ o. IfSome o (AnswerNames (length x.config.loaders))) x.answers

-- each direct supertype of a class is recorded by a loader as the class that this one defined (5.3; 5.3.5, steps 3 and 4)
abbrev pub ArePlaced : List Record → ℕ → List Above → List ℕ → Type 0
ArePlaced records loader above places = AllZip
    (λ a place. recorded_definer records loader a.name ≡ Some place) above places

-- the direct supertypes of a row are recorded by its class's loader (5.3; 5.3.5, steps 3 and 4)
abbrev pub IsPlaced : List Record → Rowed → Type 0
IsPlaced records r = ArePlaced records r.class.loader (supers (file_of r.file)) r.definers

-- what a registry keeps: each class that was defined has its row, whose file its bytes spell, whose direct supertypes are recorded
-- by its loader, and which stands after those (5.3, 5.3.5)
pub record IsKept (told : Option Content) (x : Shown) : Type 0 where
  pub trusted : IsTrusted x
  pub named : NamesLoaders x
  pub run : RunsAs told x
  pub rows : map (λ r. r.class) x.rows ≡ defined_classes x.history
  pub spelt : All (λ r. IsSpelt told r.class r.file) x.rows
  pub order : AreRows told x.config x.rows
  pub placed : AllByRecursion (IsPlaced (records_of x)) x.rows

-- ---- rows

-- the row of the class that a loader has recorded for a name (5.3)
abbrev pub looked_row : Shown → ℕ → List ℕ → Option Rowed
looked_row x loader name = option_and_then (λ place. row_of x.rows (class name place))
    (recorded_definer (records_of x) loader name)

-- which loader defined the class that a loader has recorded for a name (5.3); nothing is asked where none is
abbrev pub recorded_place : List Record → ℕ → Above → ℕ
recorded_place records loader a = place_by (recorded_definer records loader) a

-- the row that the class of a draft gets: each supertype is the one that its loader has recorded (5.3.5, steps 3 to 5)
abbrev pub row_for : Shown → Drafted → Rowed
row_for x d = row_by (recorded_definer (records_of x) d.class.loader) d

-- the row in a table of each loader (5.3)
abbrev pub table_row : {R S : Type 0} → List (HashMap (List ℕ) R S) → ℕ → List ℕ → Option R
table_row rows loader name = option_and_then (λ m. get (pointwise nat_eq) m name)
    (slice_get rows loader)

-- which loader defined the class that a table has for a loader and a name (5.3)
abbrev pub placed_at : {S : Type 0} → List (HashMap (List ℕ) (Arc Rowed Global) S) → ℕ → List ℕ
    → Option ℕ
placed_at rows loader name = option_map (λ r. r.value.class.loader) (table_row rows loader name)

-- the entry in a table of the settled references of each class (5.4.3)
abbrev pub reference_in : {R S : Type 0} → HashMap Class (HashMap ℕ R S) S → Class → ℕ → Option R
reference_in table c index = option_and_then (λ m. get nat_eq m index) (get same_class table c)

-- what a reference is settled to, with its class and index, if it is settled (5.4.3)
abbrev pub settled_at : Shown → Class → ℕ → Option Settled
settled_at x c index = find (λ s. same_class s.class c && (s.index == index))
    (settlements x.history)

-- ---- calls

-- the loader has not recorded the name (5.3)
abbrev pub LacksRecord : Shown → ℕ → List ℕ → Type 0
LacksRecord x loader name = recorded_definer (records_of x) loader name ≡ None

-- the class's own loader has not recorded it (5.3.5)
abbrev pub IsNew : Shown → Drafted → Type 0
IsNew x d = LacksRecord x d.class.loader d.class.name

-- each direct supertype of a draft that has a row in this table fits (5.3.5, steps 3 and 4)
abbrev pub SupertypesFit : (ℕ → List ℕ → Option Rowed) → Drafted → Type 0
SupertypesFit table d = AllByRecursion (λ (a : Above). IfSome (table d.class.loader a.name)
    (FitsAs d.class a)) (supers (file_of d.file))

-- a class may be defined: its home was found under this configuration, its loader is one of these, and records each of its
-- direct supertypes, which fit (5.3.5, steps 1, 3 and 4)
pub record MayEnter (x : Shown) (d : Drafted) : Type 0 where
  pub config : d.home.config ≡ x.config
  pub loader : d.class.loader < length x.config.loaders
  pub above : AllByRecursion (λ (a : Above). IsSome
      (recorded_definer (records_of x) d.class.loader a.name)) (supers (file_of d.file))
  pub fit : SupertypesFit (looked_row x) d

-- an event more
abbrev pub with_event : Shown → Event → Shown
with_event x e = record x { history = x.history ++ e ∷ [] }

-- a class and its row more, and the event (5.3.5, step 5)
abbrev pub with_define : Shown → Drafted → Shown
with_define x d = record (with_event x (events.Define d.class))
    { rows = x.rows ++ row_for x d ∷ [] }

-- an event more with its row, where its record is not refused; or no event and the row that stands, where the loader has
-- recorded the name (5.3.4, 5.3.5)
abbrev pub DefinedAs : Shown → Shown → Drafted → Rowed → Option ℕ → Type 0
DefinedAs old new d row None =
    MayEnter old d × (Refused (state_of old) (own_record d) → ⊥) × (new ≡ with_define old d)
    × (row ≡ row_for old d)
DefinedAs old new d row (Some place) = (new ≡ old)
    × (looked_row old d.class.loader d.class.name ≡ Some row)

-- the class is recorded, by an event more unless its loader has recorded the name before (5.3.5)
abbrev pub Defines : Shown → Shown → Drafted → Rowed → Type 0
Defines old new d row = DefinedAs old new d row
    (recorded_definer (records_of old) d.class.loader d.class.name)

-- a loader may be recorded as initiating: the home was found under this configuration, the loader is one of these, and the
-- home has defined the class (5.3)
pub record MayJoin (x : Shown) (h : Located) : Type 0 where
  pub config : h.config ≡ x.config
  pub loader : h.asked < length x.config.loaders
  pub defined : IsRecorded (state_of x) (class h.name h.definer)

-- the loader that was asked is recorded as initiating (5.3)
abbrev pub with_initiate : Shown → Located → Shown
with_initiate x h = with_event x (events.Initiate (home_class h) h.asked)

-- an event more and the row of the home's class, where its record is not refused; or no event and the row that stands, where the
-- loader has recorded the name (5.3, 5.3.4)
abbrev pub InitiatedAs : Shown → Shown → Located → Rowed → Option ℕ → Type 0
InitiatedAs old new h row None =
    MayJoin old h × (Refused (state_of old) (asked_record h) → ⊥) × (new ≡ with_initiate old h)
    × (looked_row old h.definer h.name ≡ Some row)
InitiatedAs old new h row (Some place) = (new ≡ old) × (looked_row old h.asked h.name ≡ Some row)

-- the loader that was asked is recorded, by an event more unless it has recorded the name before (5.3)
abbrev pub Initiates : Shown → Shown → Located → Rowed → Type 0
Initiates old new h row = InitiatedAs old new h row
    (recorded_definer (records_of old) h.asked h.name)

-- an answer more, and its event
abbrev pub with_post : Shown → ℕ → Answer → Shown
with_post x q a = record (with_event x (events.Post q)) { answers = slice_set x.answers q (Some a) }

-- the next round begins
abbrev pub with_round : Shown → Shown
with_round x = with_event x events.NextRound

-- the request of this number asks what was answered
abbrev pub IsAsked : Shown → ℕ → Answered → Type 0
IsAsked x q f = slice_get x.script.requests q ≡ Some f.request

-- the request of this number is of a later round
pub record IsLater (x : Shown) (q : ℕ) : Type 0 where
  pub round : ℕ
  pub of : slice_get x.script.rounds_of q ≡ Some round
  pub later : round_of x < round

-- the request of this number has no answer yet
abbrev pub IsOpen : Shown → ℕ → Type 0
IsOpen x q = slice_get x.answers q ≡ Some None

-- each request of the round has its answer, and there is a later round
abbrev pub RoundMayBegin : Shown → Type 0
RoundMayBegin x = EndsRound (schedule_of x.script) x.script.rounds (state_of x)

-- What a report says where a content is told: the headline, clause by clause (JVMS SE 8, 5.3 to 5.4.3).
use Rattle.std.specs.Prelude.{◌≡◌, ◌⊎◌, ◌≤◌, ◌+◌, ℕ, List, length, Option, Some, None, slice_get}
use Rattle.std.specs.List.{range_with_len}
use Rattle.cl_classfile.specs.Structure.{Structure}
use Rattle.cl_model.specs.declared.class.Class.{Class}
use Rattle.cl_model.specs.declared.request.Request as requests
use Rattle.cl_model.specs.Content.{Content}
use Rattle.cl_model.specs.Homes.{World}
use Rattle.cl_model.specs.Classes.{ClassCircularity, EndsInCircle}
use Rattle.cl_model.specs.States.{IsRecorded, Verdict, Wrong, IsLinkageError, Said}
use Rattle.cl_model.specs.Tables.{IsConsistent, Records}
use Rattle.cl_model.specs.Views.{answers_of, answer_at}
use Rattle.cl_config.specs.Views.{Configured, Scripted}
use Rattle.cl_hierarchy.specs.Drafts.{IsSpelt}
use Rattle.cl_registry.specs.declared.report.Report.{Report}
use Rattle.cl_registry.specs.Reports.{IsNamed}
use Rattle.cl_registry.specs.Tables.{Shown, IsTrusted, RunsAs, posts, round_of, state_of, machine}
use Rattle.cl_schedule.specs.Blames.{EachBlames}
use Rattle.cl_schedule.specs.Known.{KnownStays}
use Rattle.cl_schedule.specs.Serving.{HasEachBelow, InOrder, reported_registry}

-- each class that is recorded is spelled by its defining loader's bytes, by the grammar (4.1; 5.3.5)
abbrev pub EachSpelt : Option Content → Shown → Type 0
EachSpelt told x = (c : Class) → IsRecorded (state_of x) c → (f : Structure) × IsSpelt told c f

-- the request of this number asks this, and was answered so
pub record AnswersSo (x : Shown) (q : ℕ) (r : requests.Request) (v : Verdict) : Type 0 where
  pub asked : slice_get x.script.requests q ≡ Some r
  pub answered : answer_at (answers_of x.answers) q ≡ Some (Said v)

-- equal requests are answered alike, failures apart
abbrev pub Alike : Option Content → Shown → Type 0
Alike None x = Unit {0}
Alike (Some content) x =
    (p q : ℕ) (r : requests.Request) (v u : Verdict) → AnswersSo x p r v → AnswersSo x q r u → v ≡ u

-- this reference of a class was asked for, of a loader that records the class, and was answered so (5.4.3)
pub record SaysOf (x : Shown) (q : ℕ) (d : Class) (i : ℕ) (v : Verdict) : Type 0 where
  pub loader : ℕ
  pub name : List ℕ
  pub says : AnswersSo x q (requests.TheVariants.Resolve loader name i) v
  pub kept : Records (state_of x) loader name d

-- equal references are answered alike, through whatever loaders they were asked for, failures apart (5.4.3)
abbrev pub ReferencesAlike : Option Content → Shown → Type 0
ReferencesAlike None x = Unit {0}
ReferencesAlike (Some content) x =
    (p q : ℕ) (d : Class) (i : ℕ) (v u : Verdict) → SaysOf x p d i v → SaysOf x q d i u → v ≡ u

-- ClassCircularityError is answered where the load ends in a circle, of that class, unless a need before is refused; and nowhere
-- else (5.3.5)
pub record CircleAnswer (w : World) (loader : ℕ) (name : List ℕ) (v : Verdict) : Type 0 where
  pub only : (c : Class) → v ≡ Wrong (ClassCircularity c) → EndsInCircle w loader name c
  pub there : (c : Class) → EndsInCircle w loader name c → (v ≡ Wrong (ClassCircularity c))
      ⊎ IsLinkageError v

-- each load that is answered with a verdict is answered so (5.3.5)
abbrev pub CirclesExact : Option Content → Shown → Type 0
CirclesExact None x = Unit {0}
CirclesExact (Some content) x =
    (q loader : ℕ) (name : List ℕ) (v : Verdict)
    → AnswersSo x q (requests.TheVariants.Load loader name) v
    → CircleAnswer (machine x content).world loader name v

-- the report of a script that was served in some order, or by threads, under a configuration. Where a content is told, the history is a run of the
-- linkage machine over it, in which each request is answered once, in its round, with what its plan yields in the state at that
-- point, or with a failure; each class is spelled by its defining loader's bytes, equal requests and equal references are
-- answered alike, and circles are told exactly. Under any source each request has one post, the last round has begun, the
-- tables can be trusted, no loader records a name twice and no constraint is violated (5.3 to 5.4.3)
pub record IsServed (told : Option Content) (config : Configured) (script : Scripted)
    (r : Report) : Type 0 where
  pub of_script : r.script.value ≡ script
  pub each_once : HasEachBelow (length script.requests) (posts r.history)
  pub named : IsNamed (length config.loaders) r
  pub last : script.rounds ≤ round_of (reported_registry config r) + 1
  pub trusted : IsTrusted (reported_registry config r)
  pub consistent : IsConsistent (state_of (reported_registry config r))
  pub run : RunsAs told (reported_registry config r)
  pub spelt : EachSpelt told (reported_registry config r)
  pub alike : Alike told (reported_registry config r)
  pub references : ReferencesAlike told (reported_registry config r)
  pub circles : CirclesExact told (reported_registry config r)

-- the report of a script that was served in order under a configuration: each request is posted in the script's order. Where a content is told,
-- each one is served alone, and the next round begins as soon as it may. Under any source what the tables have of a request is its answer,
-- and a fault of the source blames whom the search for a name asks, a name that its request asks for where a content is told (5.3 to 5.4.3)
pub record IsServedInOrder (told : Option Content) (config : Configured) (script : Scripted)
    (r : Report) : Type 0 where
  pub served : IsServed told config script r
  pub posted : posts r.history ≡ range_with_len 0 (length script.requests)
  pub known : KnownStays (reported_registry config r)
  pub in_order : InOrder told (reported_registry config r)
  pub blames : EachBlames told (reported_registry config r)

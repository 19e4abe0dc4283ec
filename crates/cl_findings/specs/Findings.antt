-- What an answer rests on (JVMS SE 8, 5.3 to 5.4.3).
use Rattle.std.specs.Prelude.{
  ◌≡◌,
  ◌<◌,
  ℕ,
  List,
  ◌∷◌,
  ◌++◌,
  length,
  Option,
  Some,
  None,
  IfSome,
  Contains,
}
use Rattle.std.specs.List.{AllByRecursion}
pub use Rattle.cl_names.specs.Truth.{Decides}
use Rattle.cl_model.specs.declared.verdict.Verdict.TheVariants as verdicts
use Rattle.cl_model.specs.declared.verdict.Verdict as verdict
use Rattle.cl_model.specs.declared.answer.Answer as answer
use Rattle.cl_model.specs.declared.answer.Answer.TheVariants as answers
use Rattle.cl_model.specs.declared.request.Request as request
use Rattle.cl_model.specs.declared.request.Request.TheVariants as requests
use Rattle.cl_model.specs.Content.{Content}
use Rattle.cl_model.specs.declared.class.Class.{Class}
use Rattle.cl_model.specs.declared.settled.Settled.{Settled}
use Rattle.cl_model.specs.States.{
  State,
  Need,
  Entry,
  Equal,
  Verdict,
  Linkage,
  recorded_definer,
  AllMet,
  IsNext,
  Refused,
}
use Rattle.cl_classfile.specs.Files.{Name}
use Rattle.cl_model.specs.Classes.{class}
use Rattle.cl_model.specs.Homes.{World}
use Rattle.cl_model.specs.Plans.{Request, Load, Resolve, Link, loaded_by}
use Rattle.cl_model.specs.Preparation.{constraints_of}
use Rattle.cl_model.specs.Lineages.{Kin, classes, lineage}
use Rattle.cl_model.specs.Machine.{IsClosed, HasLineage}
use Rattle.cl_model.specs.Service.{IsNextNeed}
use Rattle.cl_model.specs.Frames.{EndsHere}
use Rattle.cl_model.specs.Texts.{AnswerNames}
use Rattle.cl_model.specs.Views.{request_of, verdict_of}
use Rattle.cl_config.specs.Views.{Configured}
use Rattle.cl_delegation.specs.Worlds.{world_of}

-- what an answer rests on: the configuration under which it was found, the needs that are met and
-- the classes that are prepared where it is given, and the need that is refused there, if it is a
-- refusal; of a link's equality also the classes before its own in the lineage (5.3 to 5.4.3)
pub record Based : Type 0 where
  pub config : Configured
  pub needs : List Need
  pub prepared : List Class
  pub before : List Class
  pub refused : Option Need

-- a request, its answer, and what that rests on, unless it is looked up (5.3 to 5.4.3)
pub record Answered : Type 0 where
  pub request : request.Request
  pub answer : answer.Answer
  pub basis : Option Based

-- a request is answered with a verdict, which rests on this (5.3 to 5.4.3)
abbrev pub grounded_answer : request.Request → verdict.Verdict → Based → Answered
grounded_answer r v b = record { request = r; answer = answers.Said v; basis = Some b }

-- a request is answered so, and the answer rests on nothing: it is looked up, or a failure
-- (5.3 to 5.4.3)
abbrev pub ungrounded_answer : request.Request → answer.Answer → Answered
ungrounded_answer r a = record { request = r; answer = a; basis = None }

-- through which loader a request loads its class (5.3)
abbrev pub loader_of : request.Request → ℕ
loader_of r = (loaded_by (request_of r)).loader

-- the name of the class that a request loads (5.3)
abbrev pub name_of : request.Request → List ℕ
name_of r = (loaded_by (request_of r)).name

-- the request is one to load (5.3)
abbrev pub IsLoad : request.Request → Type 0
IsLoad (requests.Load loader name) = Unit {0}
IsLoad (requests.Resolve loader name i) = ⊥
IsLoad (requests.Link loader name) = ⊥

-- the request is one to link (5.4)
abbrev pub IsLink : request.Request → Type 0
IsLink (requests.Load loader name) = ⊥
IsLink (requests.Resolve loader name i) = ⊥
IsLink (requests.Link loader name) = Unit {0}

-- the request resolves the entry at an index of the pool of the class of this name (5.4.3)
abbrev pub Resolves : request.Request → List ℕ → ℕ → Type 0
Resolves r name i = r ≡ requests.Resolve (loader_of r) name i

-- what is settled is the entry that a request resolves (5.4.3)
abbrev pub IsSettledFor : request.Request → Settled → Type 0
IsSettledFor r s = Resolves r s.class.name s.index

-- ---- in the words of the linkage machine

-- all constraints of a class are imposed (5.4.2)
pub record HasImposed (w : World) (s : State) (c : Class) : Type 0 where
  pub kin : Kin
  pub lineage : HasLineage w c kin
  pub imposed : AllMet s (constraints_of kin)

-- a state has what an answer rests on, but for the refusal (5.3 to 5.4.3)
pub record Grounds (w : World) (s : State) (b : Based) : Type 0 where
  pub needs : AllMet s b.needs
  pub prepared : AllByRecursion (HasImposed w s) b.prepared

-- the equality that comes next in a link stands among those of a class before which in the lineage
-- these stand (5.4, 5.4.2)
pub record LinkIsPlaced (w : World) (s : State) (loader : ℕ) (name : Name) (n : Need)
    (earlier : List Class) : Type 0 where
  pub place : ℕ
  pub kept : recorded_definer s.records loader name ≡ Some place
  pub kin : Kin
  pub of : HasLineage w (class name place) kin
  pub before : List Kin
  pub at : Kin
  pub behind : List Kin
  pub split : lineage kin ≡ before ++ at ∷ behind
  pub are : classes before ≡ earlier
  pub next : IsNext s (constraints_of at) n

-- what is known of the place of a refused need in a request: of a link's equality, in which class's
-- preparation it stands (5.4.2)
abbrev pub NeedIsPlaced : World → State → Request → Need → List Class → Type 0
NeedIsPlaced w s (Load loader name) n earlier = Unit {0}
NeedIsPlaced w s (Resolve loader name i) n earlier = Unit {0}
NeedIsPlaced w s (Link loader name) (Entry to other place) earlier = Unit {0}
NeedIsPlaced w s (Link loader name) (Equal other a b) earlier =
    LinkIsPlaced w s loader name (Equal other a b) earlier

-- the verdict is the refusal of this need, which comes next in the request's plan (5.3.4)
pub record IsRefusal (w : World) (s : State) (r : Request) (n : Need) (earlier : List Class)
    (v : Verdict) : Type 0 where
  pub linkage : v ≡ Linkage n
  pub next : IsNextNeed w s r n
  pub placed : NeedIsPlaced w s r n earlier

-- the plan of a request ends in a verdict, and all its needs are met; or the need that is to be
-- refused comes next in it (5.3.4, 5.3.5)
abbrev pub Concludes : World → State → Request → Option Need → List Class → Verdict → Type 0
Concludes w s r None earlier v = EndsHere w s r v
Concludes w s r (Some n) earlier v = IsRefusal w s r n earlier v

-- a verdict that is looked up in the tables: the class of a load, the linked class of a link
-- (5.3, 5.4)
abbrev pub IsLookedUp : request.Request → verdict.Verdict → Type 0
IsLookedUp (requests.Load loader name) (verdicts.Class c) = Unit {0}
IsLookedUp (requests.Link loader name) (verdicts.Linked c) = Unit {0}
IsLookedUp r v = ⊥

-- a verdict is none that is looked up; wherever a closed state has what it rests on, it is the
-- conclusion of the request (5.3 to 5.4.3)
pub record VerdictRests (w : World) (r : request.Request) (v : verdict.Verdict) (b : Based)
    : Type 0 where
  pub apart : IsLookedUp r v → ⊥
  pub concludes : (s : State) → IsClosed w s → Grounds w s b
      → Concludes w s (request_of r) b.refused b.before (verdict_of v)

-- a verdict rests on its basis, or is looked up (5.3 to 5.4.3)
abbrev pub SaidRests : Content → request.Request → verdict.Verdict → Option Based → Type 0
SaidRests content r v None = IsLookedUp r v
SaidRests content r v (Some b) = VerdictRests (world_of b.config content) r v b

-- an answer rests on its basis; what is settled is looked up, failures say nothing of a class
-- (5.3 to 5.4.3)
abbrev pub AnswerRests : Content → request.Request → answer.Answer → Option Based → Type 0
AnswerRests content r (answers.Said v) b = SaidRests content r v b
AnswerRests content r (answers.Shared s) b = b ≡ None
AnswerRests content r answers.Memory b = b ≡ None
AnswerRests content r (answers.SourceFault name loader) b = b ≡ None

-- the same, where a content is told (5.3 to 5.4.3)
abbrev pub Rests : Option Content → Answered → Type 0
Rests None f = Unit {0}
Rests (Some content) f = AnswerRests content f.request f.answer f.basis

-- ---- in the words of tables

-- the loader of the request, and those that the text of the answer names, are of a configuration
-- of so many loaders
pub record IsWithin (count : ℕ) (f : Answered) : Type 0 where
  pub loader : loader_of f.request < count
  pub answer : AnswerNames count f.answer

-- a state has the needs and the prepared classes that an answer rests on, and refuses the need that
-- is refused, if one is (5.3 to 5.4.3)
abbrev pub Carries : State → Based → Type 0
Carries s b =
    AllMet s b.needs × AllByRecursion (Contains s.prepared) b.prepared
    × IfSome b.refused (Refused s)

-- what an answer rests on was found under this configuration, and a state carries it (5.3 to 5.4.3)
pub record IsBorne (c : Configured) (s : State) (b : Based) : Type 0 where
  pub config : b.config ≡ c
  pub carried : Carries s b

-- there is something that it rests on, and it stands (5.3 to 5.4.3)
abbrev pub BasisStands : Configured → State → Option Based → Type 0
BasisStands c s None = ⊥
BasisStands c s (Some b) = IsBorne c s b

-- an answer stands in a state of a configuration (5.3 to 5.4.3)
pub record Stands (c : Configured) (s : State) (f : Answered) : Type 0 where
  pub within : IsWithin (length c.loaders) f
  pub basis : BasisStands c s f.basis

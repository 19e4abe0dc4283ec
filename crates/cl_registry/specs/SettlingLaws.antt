-- What is settled and posted, as the linkage machine has it, and under any source (JVMS SE 8, 5.3 to 5.4.3): laws, each the contract of a function without a body.
use Rattle.std.specs.Prelude.{◌≡◌, ◌≢◌, ℕ, List, ◌++◌, Option, Some, None, Contains}
use Rattle.std.specs.declared.alloc.Global.{Global}
use Rattle.std.specs.declared.sync.Arc.{Arc}
use Rattle.cl_classfile.specs.Files.{Name}
use Rattle.cl_model.specs.declared.class.Class.{Class}
use Rattle.cl_model.specs.declared.event.Event.{Event}
use Rattle.cl_model.specs.declared.answer.Answer.TheVariants as answers
use Rattle.cl_model.specs.declared.request.Request.{Request}
use Rattle.cl_model.specs.declared.request.Request.TheVariants as requests
use Rattle.cl_model.specs.declared.settled.Settled.{Settled}
use Rattle.cl_model.specs.declared.verdict.Verdict as verdict
use Rattle.cl_model.specs.Content.{Content}
use Rattle.cl_model.specs.Classes.{class}
use Rattle.cl_model.specs.States.{Verdict, IsLinked, BadEntry, ArrayMember, Said, recorded_definer, settled_to}
use Rattle.cl_model.specs.Plans.{Link}
use Rattle.cl_model.specs.Machine.{MaySettle}
use Rattle.cl_model.specs.Service.{ComesTo}
use Rattle.cl_model.specs.Tables.{BearsAnswer, Records}
use Rattle.cl_model.specs.Views.{answer_of, request_of, verdict_of}
use Rattle.cl_findings.specs.Findings.{Answered, Based, IsLookedUp, Rests, Stands, ungrounded_answer}
use Rattle.cl_registry.specs.declared.registry.RegistryFault.TheVariants.{Stray}
use Rattle.cl_registry.specs.Tables.{Shown, state_of, records_of, IsKept, settled_at, machine}
use Rattle.cl_registry.specs.References.{IsSettledIn, IsUnsettled, cited_by, settled_by}
use Rattle.cl_registry.specs.Settling.{IsToSettle}
use Rattle.cl_registry.specs.Posting.{AnswerFits, IsBacked}
use Rattle.cl_registry.specs.Refusals.{SettleRefusedFor}

-- what a history tells to be settled is so in the linkage machine (5.4.3)
abbrev pub SettledIsTold : Type 0
SettledIsTold = (x : Shown) (c : Class) (index : ℕ) (s : Settled) → settled_at x c index ≡ Some s
    → IsSettledIn x c index s

-- and what it does not tell to be settled is not (5.4.3)
abbrev pub UnsettledIsTold : Type 0
UnsettledIsTold = (x : Shown) (c : Class) (index : ℕ) → settled_at x c index ≡ None
    → IsUnsettled x c index

-- under any source what a reference is settled to never changes (5.4.3)
abbrev pub SettledStays : Type 0
SettledStays =
    (x y : Shown) (es : List Event) (c : Class) (index : ℕ) (s : Settled) → y.history ≡ x.history
    ++ es
    → settled_at x c index ≡ Some s → settled_at y c index ≡ Some s

-- a request to link a class that its loader has recorded and that is prepared comes to that (5.4)
abbrev pub PreparedComes : Type 0
PreparedComes =
    (content : Content) (x : Shown) (loader place : ℕ) (name : Name) → IsKept (Some content) x
    → recorded_definer (records_of x) loader name ≡ Some place
    → Contains (state_of x).prepared (class name place)
    → ComesTo (machine x content) (state_of x) (Link loader name) (IsLinked (class name place))

-- what a finding of the told content settles, where the entry is not settled, may be settled by the machine (5.4.3)
abbrev pub SettledIsAllowed : Type 0
SettledIsAllowed =
    (content : Content) (x : Shown) (f : Answered) (s : Settled) → IsKept (Some content) x
    → Rests (Some content) f
    → settled_by x f.request ≡ None → IsToSettle x f s
    → MaySettle (machine x content) (state_of x) s.class s.index (verdict_of s.verdict)

-- where a finding stands and says what its request's entry may be settled to by the machine, it settles that: `settle` refuses
-- it for memory alone (5.4.3)
abbrev pub AllowedIsSettled : Type 0
AllowedIsSettled =
    (content : Content) (x : Shown) (f : Answered) (s : Settled) → IsKept (Some content) x
    → cited_by x f.request ≡ Some (record { class = s.class; index = s.index })
    → f.answer ≡ answers.Said s.verdict
    → Stands x.config (state_of x) f
    → MaySettle (machine x content) (state_of x) s.class s.index (verdict_of s.verdict)
    → (settled_by x f.request ≡ None) × IsToSettle x f s

-- a finding that rests on another configuration is refused as Stray by `settle`, where the entry of its request is not settled
abbrev pub OtherFindingIsStray : Type 0
OtherFindingIsStray =
    (x : Shown) (f : Answered) (b : Based) → f.basis ≡ Some b → (b.config ≡ x.config → ⊥)
    → settled_by x f.request ≡ None
    → SettleRefusedFor x f Stray

-- and a verdict that it says, which is none that is looked up, is not borne: `post` takes none of it
abbrev pub OtherFindingIsUnbacked : Type 0
OtherFindingIsUnbacked =
    (x : Shown) (f : Answered) (b : Based) (v : verdict.Verdict) → f.basis ≡ Some b
    → (b.config ≡ x.config → ⊥)
    → f.answer ≡ answers.Said v → (IsLookedUp f.request v → ⊥) → IsBacked x f → ⊥

-- under any source the tables bear what is posted (5.3 to 5.4.3)
abbrev pub FittingIsBorne : Type 0
FittingIsBorne = (x : Shown) (q : ℕ) (f : Answered) → AnswerFits x q f
    → BearsAnswer (state_of x) (request_of f.request) (answer_of f.answer)

-- so a reference's verdict is posted only as it is settled, where the class of its request is recorded (5.4.3)
abbrev pub PostedIsSettled : Type 0
PostedIsSettled =
    (x : Shown) (q : ℕ) (f : Answered) (loader place index : ℕ) (name : Name) (v : Verdict)
    → AnswerFits x q f
    → f.request ≡ requests.Resolve loader name index
    → recorded_definer (records_of x) loader name ≡ Some place
    → answer_of f.answer ≡ Said v → v ≢ BadEntry → v ≢ ArrayMember
    → settled_to (state_of x).settled (class name place) index ≡ Some v

-- and a class is posted to be linked only where it is recorded and prepared (5.4)
abbrev pub PostedLinkIsPrepared : Type 0
PostedLinkIsPrepared =
    (x : Shown) (q : ℕ) (f : Answered) (loader : ℕ) (name : Name) (c : Class) → AnswerFits x q f
    → f.request ≡ requests.Link loader name → answer_of f.answer ≡ Said (IsLinked c)
    → Records (state_of x) loader name c × Contains (state_of x).prepared c

-- what the entry of a request is settled to may be its answer, under any source (5.4.3)
abbrev pub SettledIsBacked : Type 0
SettledIsBacked =
    (told : Option Content) (x : Shown) (r : Request) (s : Arc Settled Global) → IsKept told x
    → settled_by x r ≡ Some s.value
    → IsBacked x (ungrounded_answer r (answers.Shared s))

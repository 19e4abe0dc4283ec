-- The linkage machine, of one event a step, over a script of requests (JVMS SE 8, 5.3 to 5.4.3).
use Rattle.std.specs.Prelude.{◌==◌, if◌then◌else◌, ◌≡◌, ◌≢◌, ◌⊎◌, ℕ, ◌+◌, ◌<◌, List, [], ◌∷◌, ◌++◌, Some, None, Ok, slice_get, IsSome, Contains}
use Rattle.cl_classfile.specs.Files.{Name, File}
use Rattle.cl_model.specs.Homes.{World, home}
use Rattle.cl_model.specs.declared.class.Class.{Class}
use Rattle.cl_model.specs.Classes.{class, IsAtHome, IsGood, HasFile, AllAtHome, supers}
use Rattle.cl_model.specs.Lineages.{Kin}
use Rattle.cl_model.specs.Preparation.{constraints_of}
use Rattle.cl_model.specs.States.{State, Need, Entry, Equal, entry_for, Verdict, IsLinked, Linkage, Answer, IfSaid, IsSettling, recorded_definer, Keeps, IsRecorded, settled_to, answer_to, Met, Refused, MayAdd, Violated, AllMet, IsNext, with_need}
use Rattle.cl_model.specs.Works.{Made}
use Rattle.cl_model.specs.Plans.{Request, Load, Resolve, Link, Plan, plan, derive, resolve, plan_needs, ending_verdict}

-- a request and its round
pub record Scheduled : Type 0 where
  pub request : Request
  pub round : ℕ

-- what is given, what is asked, and in how many rounds; a round may be empty
pub record Setting : Type 0 where
  pub world : World
  pub script : List Scheduled
  pub rounds : ℕ

-- one step: a definition, an initiating record, a constraint, a resolution, a preparation, an answer (5.3 to 5.4.3);
-- Stray is the post of a request that has no answer, which never happens
pub data Step : Type 0 where
  Define : (class : Class) → Step
  Initiate : (name : Name) → (place : ℕ) → (loader : ℕ) → Step
  Constrain : (name : Name) → (one : ℕ) → (other : ℕ) → Step
  Settle : (class : Class) → (index : ℕ) → (verdict : Verdict) → Step
  Prepare : (class : Class) → Step
  Post : (request : ℕ) → (answer : Answer) → Step
  NextRound : Step
  Stray : Step

-- a class has this lineage: some height derives it (5.3.5)
pub record HasLineage (w : World) (c : Class) (k : Kin) : Type 0 where
  pub height : ℕ
  pub made : Made Kin
  pub derived : derive w height [] c ≡ Some made
  pub ends : made.ends ≡ Ok k

-- some height gives a request this plan (5.3 to 5.4.3)
pub record IsPlan (w : World) (q : Request) (p : Plan) : Type 0 where
  pub height : ℕ
  pub planned : plan w height q ≡ Some p

-- some height resolves an entry of a class so (5.4.3)
pub record IsResolution (w : World) (d : Class) (i : ℕ) (m : Made Verdict) : Type 0 where
  pub kin : Kin
  pub above : HasLineage w d kin
  pub height : ℕ
  pub made : resolve w height kin i ≡ Some m

-- the needs are met and the end is the verdict, or the first unmet one is refused (5.3.4, 5.4.3)
abbrev pub Answers : State → List Need → Verdict → Verdict → Type 0
Answers s [] ends v = v ≡ ends
Answers s (n ∷ ns) ends v = (Met s n × Answers s ns ends v) ⊎ (Refused s n × (v ≡ Linkage n))

-- a request is answered so in a state (5.3 to 5.4.3)
pub record AnswersPlan (g : Setting) (s : State) (q : Request) (v : Verdict) : Type 0 where
  pub plan : Plan
  pub planned : IsPlan g.world q plan
  pub answered : Answers s (plan_needs plan) plan.ends v

-- a reference is answered so in a state (5.4.3)
pub record AnswersReference (g : Setting) (s : State) (d : Class) (i : ℕ)
    (v : Verdict) : Type 0 where
  pub made : Made Verdict
  pub resolved : IsResolution g.world d i made
  pub answered : Answers s made.needs (ending_verdict made.ends) v

-- ---- what may happen

-- a class may be defined: it is good, and its loader records its supertypes (5.3.5)
pub record MayDefine (g : Setting) (s : State) (c : Class) : Type 0 where
  pub at_home : IsAtHome g.world c
  pub good : IsGood g.world c
  pub file : File
  pub has_file : HasFile g.world c file
  pub above : AllAtHome g.world c (Keeps s c.loader) (supers file)
  pub may_add : MayAdd s (entry_for c.loader c)

-- a loader may be recorded as initiating (5.3)
pub record MayInitiate (g : Setting) (s : State) (name : Name) (place loader : ℕ) : Type 0 where
  pub found : home g.world loader name ≡ Some place
  pub not_own : loader ≢ place
  pub defined : Met s (Entry place name place)
  pub may_add : MayAdd s (Entry loader name place)

-- a list of needs that may impose equalities belongs to a recorded class: its preparation, or a reference of it (5.3.4, 5.4.2, 5.4.3)
abbrev pub AreOfRecorded : Setting → State → List Need → Type 0
AreOfRecorded g s needs =
    ((c : Class) × IsRecorded s c × ((k : Kin) × HasLineage g.world c k
    × (needs ≡ constraints_of k)))
    ⊎ ((d : Class) × IsRecorded s d × ((i : ℕ) × (m : Made Verdict) × IsResolution g.world d i m
    × (needs ≡ m.needs)))

-- an equality may be imposed: it is next in such a list (5.3.4)
pub record MayConstrain (g : Setting) (s : State) (name : Name) (one other : ℕ) : Type 0 where
  pub needs : List Need
  pub imposes : AreOfRecorded g s needs
  pub next : IsNext s needs (Equal name one other)
  pub may_add : MayAdd s (Equal name one other)

-- a reference of a recorded class is not settled, and its verdict is one that settles (5.4.3)
pub record MayKeep (s : State) (d : Class) (i : ℕ) (v : Verdict) : Type 0 where
  pub recorded : IsRecorded s d
  pub unsettled : settled_to s.settled d i ≡ None
  pub settling : IsSettling v

-- a reference may be settled to its answer, once (5.4.3)
pub record MaySettle (g : Setting) (s : State) (d : Class) (i : ℕ) (v : Verdict) : Type 0 where
  pub may_keep : MayKeep s d i v
  pub answered : AnswersReference g s d i v

-- all that preparation asks of a class but that it is not prepared yet: the class is recorded, its supertypes are prepared,
-- and all its constraints are imposed (5.4.2)
pub record IsPreparable (g : Setting) (s : State) (c : Class) : Type 0 where
  pub recorded : IsRecorded s c
  pub kin : Kin
  pub lineage : HasLineage g.world c kin
  pub above : AllAtHome g.world c (Contains s.prepared) (supers kin.file)
  pub imposed : AllMet s (constraints_of kin)

-- a class may be prepared after its supertypes, once all its constraints are imposed (5.4.2)
pub record MayPrepare (g : Setting) (s : State) (c : Class) : Type 0 where
  pub unprepared : Contains s.prepared c → ⊥
  pub preparable : IsPreparable g s c

-- a plan is past its load: it reaches this class, and all needs of the load are met (5.3 to 5.4.3)
abbrev pub IsPastLoad : State → Plan → Class → Type 0
IsPastLoad s p d = (p.reached ≡ Some d) × AllMet s p.own

-- what a verdict rests on: a reference that was reached is settled to it, what is linked is prepared (5.4.2, 5.4.3)
abbrev pub RestsOn : State → Request → Plan → Verdict → Type 0
RestsOn s (Load loader name) p v = Unit {0}
RestsOn s (Resolve loader name i) p v = (d : Class) → IsPastLoad s p d → IsSettling v
    → settled_to s.settled d i ≡ Some v
RestsOn s (Link loader name) p v = (c : Class) → v ≡ IsLinked c → Contains s.prepared c

-- a request may be answered with a verdict (5.3 to 5.4.3)
pub record MaySay (g : Setting) (s : State) (q : Request) (v : Verdict) : Type 0 where
  pub answers : AnswersPlan g s q v
  pub rests : RestsOn s q answers.plan v

-- a request may be answered: with a verdict where that may be said
abbrev pub MayAnswer : Setting → State → Request → Answer → Type 0
MayAnswer g s q a = IfSaid (MaySay g s q) a

-- a request of the script is of the round and has no answer, and P holds of it
pub record IsPostable (script : List Scheduled) (s : State) (q : ℕ)
    (P : Request → Type 0) : Type 0 where
  pub scheduled : Scheduled
  pub asked : slice_get script q ≡ Some scheduled
  pub in_round : scheduled.round ≡ s.round
  pub unposted : answer_to s.answers q ≡ None
  pub fits : P scheduled.request

-- an answer may be posted, in its round and once
abbrev pub MayPost : Setting → State → ℕ → Answer → Type 0
MayPost g s q a = IsPostable g.script s q (λ r. MayAnswer g s r a)

-- all of a script's requests of the round are answered, and there is a later round
pub record EndsRound (script : List Scheduled) (rounds : ℕ) (s : State) : Type 0 where
  pub answered : (q : ℕ) (e : Scheduled) → slice_get script q ≡ Some e → e.round ≡ s.round
      → IsSome (answer_to s.answers q)
  pub later : s.round + 1 < rounds

-- the next round may begin
abbrev pub MayGoOn : Setting → State → Type 0
MayGoOn g s = EndsRound g.script g.rounds s

-- a step may happen in a state (5.3 to 5.4.3)
abbrev pub May : Setting → State → Step → Type 0
May g s (Define c) = MayDefine g s c
May g s (Initiate name place loader) = MayInitiate g s name place loader
May g s (Constrain name a b) = MayConstrain g s name a b
May g s (Settle d i v) = MaySettle g s d i v
May g s (Prepare c) = MayPrepare g s c
May g s (Post q a) = MayPost g s q a
May g s NextRound = MayGoOn g s
May g s Stray = ⊥

-- ---- what happens

-- the state after a step: one entry more, and nothing else changes (5.3 to 5.4.3)
abbrev pub after : State → Step → State
after s (Define c) = with_need s (entry_for c.loader c)
after s (Initiate name place loader) = with_need s (Entry loader name place)
after s (Constrain name a b) = with_need s (Equal name a b)
after s (Settle d i v) = record s {
  settled = s.settled
      ++ record { class = d; index = i; verdict = v } ∷ [];
}
after s (Prepare c) = record s { prepared = s.prepared ++ c ∷ [] }
after s (Post q a) = record s { answers = s.answers ++ record { request = q; answer = a } ∷ [] }
after s NextRound = record s { round = s.round + 1 }
after s Stray = s

-- the state after these steps
abbrev pub state_after : State → List Step → State
state_after s [] = s
state_after s (e ∷ es) = state_after (after s e) es

-- P holds of each of these steps in the state where it is made, one after another
abbrev pub Along : (State → Step → Type 0) → State → List Step → Type 0
Along P s [] = Unit {0}
Along P s (e ∷ es) = P s e × Along P (after s e) es

-- the steps may happen one after another (5.3 to 5.4.3)
abbrev pub Run : Setting → State → List Step → Type 0
Run g s es = Along (May g) s es

-- the step that makes a need stand (5.3, 5.3.4)
abbrev pub step_for : Need → Step
step_for (Entry loader name place) = if loader == place then Define
    (class name place) else Initiate name place loader
step_for (Equal name a b) = Constrain name a b

-- ---- what every state of a run is

-- a record has its home, whose own record stands; a recorded class is good, and the records of its supertypes stand (5.3, 5.3.5)
pub record IsClosed (w : World) (s : State) : Type 0 where
  pub homes : (loader place : ℕ) (name : Name) → recorded_definer s.records loader name ≡ Some place
      → home w loader name ≡ Some place
  pub own : (loader place : ℕ) (name : Name) → recorded_definer s.records loader name ≡ Some place
      → recorded_definer s.records place name ≡ Some place
  pub good : (c : Class) → IsRecorded s c → IsGood w c
  pub above : (c : Class) (f : File) → IsRecorded s c → HasFile w c f
      → AllAtHome w c (Keeps s c.loader) (supers f)

-- a settled reference is one of a recorded class, and is answered so (5.4.3)
pub record IsSettled (g : Setting) (s : State) (d : Class) (i : ℕ) (v : Verdict) : Type 0 where
  pub recorded : IsRecorded s d
  pub answered : AnswersReference g s d i v

-- an answer is one of a request of the script, which may be answered so
pub record IsAnswered (g : Setting) (s : State) (q : ℕ) (a : Answer) : Type 0 where
  pub scheduled : Scheduled
  pub asked : slice_get g.script q ≡ Some scheduled
  pub may_answer : MayAnswer g s scheduled.request a

-- all that a state holds is as it should be (5.3 to 5.4.3)
pub record IsSound (g : Setting) (s : State) : Type 0 where
  pub closed : IsClosed g.world s
  pub unviolated : Violated s → ⊥
  pub settled : (d : Class) (i : ℕ) (v : Verdict) → settled_to s.settled d i ≡ Some v
      → IsSettled g s d i v
  pub prepared : (c : Class) → Contains s.prepared c → IsPreparable g s c
  pub answered : (q : ℕ) (a : Answer) → answer_to s.answers q ≡ Some a → IsAnswered g s q a

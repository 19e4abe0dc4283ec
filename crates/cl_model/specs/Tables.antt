-- What holds of the tables under any source: of each step's condition, what script, rounds and state alone decide (JVMS SE 8, 5.3 to 5.4.3).
use Rattle.std.specs.Prelude.{◌≡◌, ◌⊎◌, ℕ, List, [], ◌∷◌, ◌++◌, Some, None, Contains}
use Rattle.cl_classfile.specs.Files.{Name}
use Rattle.cl_model.specs.declared.class.Class.{Class}
use Rattle.cl_model.specs.States.{State, start, Record, Posted, Entry, Equal, Verdict, IsClass, IsLinked, BadEntry, ArrayMember, Answer, IfSaid, recorded_definer, IsRecorded, settled_to, answer_to, Violated, Met, Clashes, MayAdd}
use Rattle.cl_model.specs.Plans.{Request, Load, Resolve, Link}
use Rattle.cl_model.specs.Machine.{Scheduled, Step, Define, Initiate, Constrain, Settle, Prepare, Post, NextRound, Stray, MayKeep, IsPostable, EndsRound, Along}

-- a loader has no record of a name, and this one would not violate (5.3, 5.3.4)
pub record MayRecord (s : State) (loader place : ℕ) (name : Name) : Type 0 where
  pub fresh : recorded_definer s.records loader name ≡ None
  pub fits : Clashes s (Entry loader name place) → ⊥

-- the class that a loader records for a name (5.3)
abbrev pub Records : State → ℕ → Name → Class → Type 0
Records s loader name c = (c.name ≡ name) × (recorded_definer s.records loader name ≡ Some c.loader)

-- the tables bear a verdict of a request: a class that is loaded is recorded; where the class of a reference is recorded the
-- reference is settled so, or its entry is none that is settled; a class that is linked is recorded and prepared (5.3, 5.4.2, 5.4.3)
abbrev pub Bears : State → Request → Verdict → Type 0
Bears s (Load loader name) v = (c : Class) → v ≡ IsClass c → Records s loader name c
Bears s (Resolve loader name i) v = (d : Class) → Records s loader name d → (v ≡ BadEntry)
    ⊎ (v ≡ ArrayMember) ⊎ (settled_to s.settled d i ≡ Some v)
Bears s (Link loader name) v = (c : Class) → v ≡ IsLinked c → Records s loader name c
    × Contains s.prepared c

-- they bear an answer: with a verdict where they bear that
abbrev pub BearsAnswer : State → Request → Answer → Type 0
BearsAnswer s r a = IfSaid (Bears s r) a

-- a request of the round has no answer, and the tables bear this one
abbrev pub MayTell : List Scheduled → State → ℕ → Answer → Type 0
MayTell script s q a = IsPostable script s q (λ r. BearsAnswer s r a)

-- the tables allow a step (5.3 to 5.4.3)
abbrev pub Allows : List Scheduled → ℕ → State → Step → Type 0
Allows script rounds s (Define c) = MayRecord s c.loader c.loader c.name
Allows script rounds s (Initiate name place loader) = Met s (Entry place name place)
    × MayRecord s loader place name
Allows script rounds s (Constrain name a b) = MayAdd s (Equal name a b)
Allows script rounds s (Settle d i v) = MayKeep s d i v
Allows script rounds s (Prepare c) = IsRecorded s c × (Contains s.prepared c → ⊥)
Allows script rounds s (Post q a) = MayTell script s q a
Allows script rounds s NextRound = EndsRound script rounds s
Allows script rounds s Stray = ⊥

-- the tables allow the steps one after another (5.3 to 5.4.3)
abbrev pub Orderly : List Scheduled → ℕ → State → List Step → Type 0
Orderly script rounds s es = Along (Allows script rounds) s es

-- the tables of a history can be trusted, whatever its source told: each step was allowed where it was made (5.3 to 5.4.3)
abbrev pub AreTrusted : List Scheduled → ℕ → List Step → Type 0
AreTrusted script rounds es = Orderly script rounds start es

-- each of these is new behind those before it
abbrev pub EachNew : {A : Type 0} → (List A → A → Type 0) → List A → List A → Type 0
EachNew IsNew before [] = Unit {0}
EachNew IsNew before (x ∷ xs) = IsNew before x × EachNew IsNew (before ++ x ∷ []) xs

-- none of these has its loader and name among those before it: no loader records a name twice (5.3.5, step 1)
abbrev pub NoneRecordedTwice : List Record → List Record → Type 0
NoneRecordedTwice before rs = EachNew (λ front r. recorded_definer front r.loader r.name ≡ None)
    before rs

-- none of these answers a request that is answered before it
abbrev pub NoneAnsweredTwice : List Posted → List Posted → Type 0
NoneAnsweredTwice before ps = EachNew (λ front p. answer_to front p.request ≡ None) before ps

-- what trusted tables are: no name is recorded twice by a loader, a record's home has its own, nothing is violated,
-- and no request is answered twice (5.3, 5.3.4)
pub record IsConsistent (s : State) : Type 0 where
  pub recorded_once : NoneRecordedTwice [] s.records
  pub own : (loader place : ℕ) (name : Name) → recorded_definer s.records loader name ≡ Some place
      → recorded_definer s.records place name ≡ Some place
  pub unviolated : Violated s → ⊥
  pub answered_once : NoneAnsweredTwice [] s.answers

-- a step stands in a list
abbrev pub StepsHave : List Step → Step → Type 0
StepsHave [] e = ⊥
StepsHave (f ∷ es) e = (f ≡ e) ⊎ StepsHave es e

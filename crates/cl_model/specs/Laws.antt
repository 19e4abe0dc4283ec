-- Laws of the definitions (JVMS SE 8, 5.3 to 5.4.5): each is the contract of a function without a body.
use Rattle.std.specs.Prelude.{IsSome, ◌≡◌, ℕ, suc, ◌+◌, true, List, [], ◌∷◌, ◌++◌, length, Some, None, Ok, Err, ◌⊎◌, ◌↔◌, Contains, Option, slice_get, ◌≢◌, ◌≤◌, find}
use Rattle.cl_classfile.specs.Files.{Name, File, Key, same_key, field_of, method_of}
use Rattle.cl_model.specs.Homes.{World, home, is_loader}
use Rattle.cl_model.specs.Probes.{probes, route, has_own, EachOnce}
use Rattle.cl_model.specs.declared.class.Class.{Class}
use Rattle.cl_model.specs.Preparation.{constraints_of}
use Rattle.cl_model.specs.Classes.{class, is_among, AllAtHome, supers, Error, ClassCircularity, HasFile, IsAtHome, Good, IsGood, Fails, Circular, Next, Returns, EndsInCircle}
use Rattle.cl_model.specs.Lineages.{Kin, IsLineage, classes, lineage}
use Rattle.cl_model.specs.Ancestors.{EachClassOnce, SupersFirst}
use Rattle.cl_model.specs.Works.{Made}
use Rattle.cl_model.specs.Plans.{derive, load, Load, Request, Plan, Resolve, Link, loaded_by, plan_needs, cost}
use Rattle.cl_model.specs.States.{State, start, Entry, Equal, IsClass, Answer, settled_to, answer_to, IsFresh, Clashes, with_need, Need, Verdict, IsSettling, IsLinkageError, recorded_definer, Violated, Met, AllMet, IsRecorded, IsLinked, MayAdd, Said, Wrong, IsNext}
use Rattle.cl_model.specs.Progress.{TakesSteps}
use Rattle.cl_model.specs.Service.{IsNextNeed, IsNextStep, ComesTo, MayEnd, IsBegun, Serves, PassesRounds, AllServed, IsLinkedIn}
use Rattle.cl_model.specs.Machine.{Setting, Scheduled, Step, Post, Settle, Prepare, May, state_after, Run, Answers, IsClosed, IsSound, after, AnswersPlan, AnswersReference, MaySay, IsPlan, IsPastLoad, HasLineage, IsResolution, step_for, MaySettle, MayGoOn, MayConstrain, AreOfRecorded}
use Rattle.std.specs.List.{AllByRecursion}
use Rattle.cl_model.specs.Content.{content_at}
use Rattle.cl_model.specs.declared.event.Event as events
use Rattle.cl_model.specs.Keys.{descriptor_of, key_of}
use Rattle.cl_model.specs.Views.{answer_at, steps_of, IsOther}
use Rattle.cl_model.specs.Tables.{Records}

-- a home is its own home (5.3.1, 5.3.2)
abbrev pub HomeOfHome : Type 0
HomeOfHome = (w : World) (loader found : ℕ) (name : Name) → home w loader name ≡ Some found
    → home w found name ≡ Some found

-- a home is the first of the loaders that are asked whose own content has the name (5.3.2)
abbrev pub HomeIsOnRoute : Type 0
HomeIsOnRoute = (w : World) (loader : ℕ) (name : Name)
    → home w loader name ≡ find (has_own w name) (route w.loaders loader name)

-- a home is the first of the loaders that are probed whose own content has the name (5.3.2)
abbrev pub HomeIsProbed : Type 0
HomeIsProbed = (w : World) (loader : ℕ) (name : Name)
    → home w loader name ≡ find (has_own w name) (probes w loader name)

-- no loader is probed twice (5.3.2)
abbrev pub ProbedOnce : Type 0
ProbedOnce = (w : World) (loader : ℕ) (name : Name) → EachOnce (probes w loader name)

-- what is probed is a loader (5.3.2)
abbrev pub ProbesAreLoaders : Type 0
ProbesAreLoaders = (w : World) (loader : ℕ) (name : Name)
    → AllByRecursion (λ (n : ℕ). is_loader w n ≡ true) (probes w loader name)

-- a greater height derives the same (5.3.5)
abbrev pub HigherDerives : Type 0
HigherDerives = (w : World) (n : ℕ) (path : List Class) (c : Class) (m : Made Kin)
    → derive w n path c ≡ Some m → derive w (suc n) path c ≡ Some m

-- what is good does not fail (5.3.5)
abbrev pub GoodIsNotFailing : Type 0
GoodIsNotFailing = (w : World) (n m : ℕ) (c : Class) (e : Error) → Good w n c → Fails w m c e → ⊥

-- what derives to a lineage is good (5.3.5)
abbrev pub DerivedIsGood : Type 0
DerivedIsGood = (w : World) (n : ℕ) (path : List Class) (c : Class) (m : Made Kin) (k : Kin)
    → derive w n path c ≡ Some m → m.ends ≡ Ok k → Good w n c

-- a run goes on by what may happen (5.3 to 5.4.3)
abbrev pub RunGoesOn : Type 0
RunGoesOn = (g : Setting) (s : State) (es : List Step) (e : Step) → Run g s es
    → May g (state_after s es) e → Run g s (es ++ e ∷ [])

-- a record never changes (5.3)
abbrev pub RecordsStay : Type 0
RecordsStay = (s : State) (es : List Step) (loader place : ℕ) (name : Name)
    → recorded_definer s.records loader name ≡ Some place
    → recorded_definer (state_after s es).records loader name ≡ Some place

-- what is met stays met (5.3, 5.3.4)
abbrev pub MetStays : Type 0
MetStays = (s : State) (es : List Step) (n : Need) → Met s n → Met (state_after s es) n

-- along a run nothing is violated (5.3.4)
abbrev pub NeverViolated : Type 0
NeverViolated = (g : Setting) (es : List Step) → Run g start es → Violated (state_after start es)
    → ⊥

-- an answer stays the same along a run (5.3 to 5.4.3)
abbrev pub AnswersStay : Type 0
AnswersStay = (g : Setting) (s : State) (es : List Step) (ns : List Need) (ends v : Verdict)
    → (Violated s → ⊥) → Run g s es → Answers s ns ends v → Answers (state_after s es) ns ends v

-- a list of needs has one answer in a state (5.3 to 5.4.3)
abbrev pub OneAnswer : Type 0
OneAnswer = (s : State) (ns : List Need) (ends v u : Verdict) → Answers s ns ends v
    → Answers s ns ends u → v ≡ u

-- in a closed state a recorded class needs nothing more: all needs of its derivation are met (5.3, 5.3.5)
abbrev pub RecordedIsMet : Type 0
RecordedIsMet = (w : World) (s : State) (n : ℕ) (path : List Class) (c : Class) (m : Made Kin)
    (k : Kin) → IsClosed w s → IsRecorded s c → derive w n path c ≡ Some m → m.ends ≡ Ok k
    → AllMet s m.needs

-- every state of a run is closed (5.3, 5.3.5)
abbrev pub RunsAreClosed : Type 0
RunsAreClosed = (g : Setting) (es : List Step) → Run g start es
    → IsClosed g.world (state_after start es)

-- what is good is derived at its height: a class met again cannot be good (5.3.5)
abbrev pub GoodIsDerived : Type 0
GoodIsDerived = (w : World) (n : ℕ) (c : Class) → Good w n c → (m : Made Kin) × (k : Kin)
    × (derive w n [] c ≡ Some m) × (m.ends ≡ Ok k)

-- what derives to an error fails with it, or a walk ends in it (5.3.5)
abbrev pub ErrorIsFailing : Type 0
ErrorIsFailing = (w : World) (n : ℕ) (path : List Class) (c : Class) (m : Made Kin) (e : Error)
    → derive w n path c ≡ Some m → m.ends ≡ Err e → Fails w n c e
    ⊎ ((x : Class) × (e ≡ ClassCircularity x) × Returns w path c x)

-- a class fails with one error (5.3.5)
abbrev pub OneError : Type 0
OneError = (w : World) (n m : ℕ) (c : Class) (e d : Error) → Fails w n c e → Fails w m c d → e ≡ d

-- what is good at a height is good at a greater one (5.3.5)
abbrev pub GoodGrows : Type 0
GoodGrows = (w : World) (n : ℕ) (c : Class) → Good w n c → Good w (suc n) c

-- what fails at a height fails at a greater one (5.3.5)
abbrev pub FailsGrows : Type 0
FailsGrows = (w : World) (n : ℕ) (c : Class) (e : Error) → Fails w n c e → Fails w (suc n) c e

-- what fails is derived to its error at its height: a class met again cannot fail (5.3.5)
abbrev pub FailingIsDerived : Type 0
FailingIsDerived = (w : World) (n : ℕ) (c : Class) (e : Error) → Fails w n c e → (m : Made Kin)
    × (derive w n [] c ≡ Some m) × (m.ends ≡ Err e)

-- a walk that returns excludes both (5.3.5, steps 3 and 4)
abbrev pub ReturnIsCircular : Type 0
ReturnIsCircular = (w : World) (c x : Class) → Returns w [] c x → Circular w c

-- from a class whose walk returns the first supertype that is not good is circular too (5.3.5, steps 3 and 4)
abbrev pub ReturnGoesOn : Type 0
ReturnGoesOn = (w : World) (c x : Class) → Returns w [] c x → (s : Class) × Next w c s
    × Circular w s

-- what derives to a circle is where a walk returns (5.3.5, steps 3 and 4)
abbrev pub CircleReturns : Type 0
CircleReturns = (w : World) (n : ℕ) (path : List Class) (c : Class) (m : Made Kin) (x : Class)
    → derive w n path c ≡ Some m → m.ends ≡ Err (ClassCircularity x) → Returns w path c x

-- where a walk returns, the class is derived to the circle of that subject (5.3.5, steps 3 and 4)
abbrev pub ReturnIsDerived : Type 0
ReturnIsDerived = (w : World) (c x : Class) → Returns w [] c x → (n : ℕ) × (m : Made Kin)
    × (derive w n [] c ≡ Some m) × (m.ends ≡ Err (ClassCircularity x))

-- a circle has one subject (5.3.5, steps 3 and 4)
abbrev pub OneSubject : Type 0
OneSubject = (w : World) (c x y : Class) → Returns w [] c x → Returns w [] c y → x ≡ y

-- a failure is no circle (5.3.5, steps 3 and 4)
abbrev pub FailureIsNoCircle : Type 0
FailureIsNoCircle = (w : World) (n : ℕ) (c x : Class) → Fails w n c (ClassCircularity x) → ⊥

-- two heights derive the same (5.3.5)
abbrev pub OneDerivation : Type 0
OneDerivation = (w : World) (n h : ℕ) (path : List Class) (c : Class) (m k : Made Kin)
    → derive w n path c ≡ Some m → derive w h path c ≡ Some k → m ≡ k

-- what has a file, and so what is good, is at home (5.3)
abbrev pub GoodIsAtHome : Type 0
GoodIsAtHome = (w : World) (n : ℕ) (c : Class) → Good w n c → IsAtHome w c

-- each class is good, or fails, or a walk from it returns (5.3.5)
abbrev pub ComesOut : Type 0
ComesOut = (w : World) (c : Class) → IsGood w c ⊎ ((n : ℕ) × (e : Error) × Fails w n c e)
    ⊎ ((x : Class) × Returns w [] c x)

-- from a circular class a walk returns (5.3.5, steps 3 and 4)
abbrev pub CircularReturns : Type 0
CircularReturns = (w : World) (c : Class) → Circular w c → (x : Class) × Returns w [] c x

-- of a circular class the first supertype that is not good is circular too (5.3.5, steps 3 and 4)
abbrev pub CircularGoesOn : Type 0
CircularGoesOn = (w : World) (c : Class) → Circular w c → (s : Class) × Next w c s × Circular w s

-- each request has a plan (5.3 to 5.4.3)
abbrev pub PlanExists : Type 0
PlanExists = (w : World) (q : Request) → (p : Plan) × IsPlan w q p

-- a request has one plan (5.3 to 5.4.3)
abbrev pub OnePlan : Type 0
OnePlan = (w : World) (q : Request) (p r : Plan) → IsPlan w q p → IsPlan w q r → p ≡ r

-- a good class has a lineage (5.3.5)
abbrev pub LineageExists : Type 0
LineageExists = (w : World) (n : ℕ) (c : Class) → Good w n c → (k : Kin) × HasLineage w c k

-- a class has one lineage (5.3.5)
abbrev pub OneLineage : Type 0
OneLineage = (w : World) (c : Class) (k l : Kin) → HasLineage w c k → HasLineage w c l → k ≡ l

-- each entry of a good class has a resolution (5.4.3)
abbrev pub ResolutionExists : Type 0
ResolutionExists = (w : World) (d : Class) (i n : ℕ) → Good w n d → (m : Made Verdict)
    × IsResolution w d i m

-- an entry of a class has one resolution (5.4.3)
abbrev pub OneResolution : Type 0
OneResolution = (w : World) (d : Class) (i : ℕ) (m k : Made Verdict) → IsResolution w d i m
    → IsResolution w d i k → m ≡ k

-- what a derivation ends in is the lineage of its class (5.3.5)
abbrev pub DerivedIsLineage : Type 0
DerivedIsLineage = (w : World) (n : ℕ) (path : List Class) (c : Class) (m : Made Kin) (k : Kin)
    → derive w n path c ≡ Some m → m.ends ≡ Ok k → (k.class ≡ c) × IsLineage w k

-- a lineage is what its class is derived to (5.3.5)
abbrev pub LineageIsDerived : Type 0
LineageIsDerived = (w : World) (k : Kin) → IsLineage w k → HasLineage w k.class k

-- a lineage has each class once (5.4)
abbrev pub LineageOnce : Type 0
LineageOnce = (k : Kin) → EachClassOnce (lineage k)

-- a lineage has its own class (5.4)
abbrev pub LineageHas : Type 0
LineageHas = (k : Kin) → is_among (classes (lineage k)) k.class ≡ true

-- in a lineage each class stands after its direct supertypes (5.3.5, 5.4)
abbrev pub LineageSupersFirst : Type 0
LineageSupersFirst = (w : World) (k : Kin) → IsLineage w k → SupersFirst w [] (lineage k)

-- the classes of a recorded class's lineage are recorded by their own loaders (5.3.5)
abbrev pub LineageRecorded : Type 0
LineageRecorded = (w : World) (s : State) (k : Kin) → IsClosed w s → IsLineage w k
    → IsRecorded s k.class → AllByRecursion (λ (a : Kin). IsRecorded s a.class) (lineage k)

-- a settled verdict never changes (5.4.3)
abbrev pub SettledStay : Type 0
SettledStay = (s : State) (es : List Step) (d : Class) (i : ℕ) (v : Verdict)
    → settled_to s.settled d i ≡ Some v → settled_to (state_after s es).settled d i ≡ Some v

-- what is prepared stays so (5.4.2)
abbrev pub PreparedStay : Type 0
PreparedStay = (s : State) (es : List Step) (c : Class) → Contains s.prepared c
    → Contains (state_after s es).prepared c

-- a posted answer never changes
abbrev pub PostedStay : Type 0
PostedStay = (s : State) (es : List Step) (q : ℕ) (a : Answer) → answer_to s.answers q ≡ Some a
    → answer_to (state_after s es).answers q ≡ Some a

-- the answer of a request stays the same along a run (5.3 to 5.4.3)
abbrev pub RequestAnswerStays : Type 0
RequestAnswerStays = (g : Setting) (s : State) (es : List Step) (q : Request) (v : Verdict)
    → (Violated s → ⊥) → Run g s es → AnswersPlan g s q v → AnswersPlan g (state_after s es) q v

-- the answer of a reference stays the same along a run (5.4.3)
abbrev pub ReferenceAnswerStays : Type 0
ReferenceAnswerStays = (g : Setting) (s : State) (es : List Step) (d : Class) (i : ℕ) (v : Verdict)
    → (Violated s → ⊥) → Run g s es → AnswersReference g s d i v
    → AnswersReference g (state_after s es) d i v

-- a request has one answer in a state (5.3 to 5.4.3)
abbrev pub OneRequestAnswer : Type 0
OneRequestAnswer = (g : Setting) (s : State) (q : Request) (v u : Verdict) → AnswersPlan g s q v
    → AnswersPlan g s q u → v ≡ u

-- a reference has one answer in a state (5.4.3)
abbrev pub OneReferenceAnswer : Type 0
OneReferenceAnswer = (g : Setting) (s : State) (d : Class) (i : ℕ) (v u : Verdict)
    → AnswersReference g s d i v → AnswersReference g s d i u → v ≡ u

-- all that a state of a run holds is as it should be (5.3 to 5.4.3)
abbrev pub RunsAreSound : Type 0
RunsAreSound = (g : Setting) (es : List Step) → Run g start es → IsSound g (state_after start es)

-- an equality may be imposed where it stands in a list that imposes, all needs before it are met, and it may be added; and nowhere else (5.3.4)
abbrev pub ConstrainsInOrder : Type 0
ConstrainsInOrder =
    (g : Setting) (s : State) (name : Name) (one other : ℕ)
    → MayConstrain g s name one other
    ↔ ((before : List Need) × (behind : List Need)
    × AreOfRecorded g s (before ++ Equal name one other ∷ behind) × AllMet s before
    × MayAdd s (Equal name one other))

-- a step that may happen keeps a state sound (5.3 to 5.4.3)
abbrev pub StepIsSound : Type 0
StepIsSound = (g : Setting) (s : State) (e : Step) → May g s e → IsSound g s → IsSound g (after s e)

-- what clashes would violate, where it is fresh (5.3.4)
abbrev pub ClashViolates : Type 0
ClashViolates = (s : State) (n : Need) → IsFresh s n → Clashes s n → Violated (with_need s n)

-- what would violate clashes, where nothing was violated before (5.3.4)
abbrev pub ViolationClashes : Type 0
ViolationClashes = (s : State) (n : Need) → Violated (with_need s n) → Violated s ⊎ Clashes s n

-- where a loader records a name, its load ends in that class, and all its needs stand, its own record too (5.3, 5.3.5)
abbrev pub RecordedLoadStands : Type 0
RecordedLoadStands = (w : World) (s : State) (n : ℕ) (absent : Class → Error) (loader place : ℕ)
    (name : Name) (m : Made Kin) → IsClosed w s → recorded_definer s.records loader name ≡ Some
    place → load w n absent loader name ≡ Some m → (k : Kin) × (m.ends ≡ Ok k)
    × (k.class ≡ class name place) × AllMet s m.needs

-- the class that a loader records for a name is the answer of its load (5.3)
abbrev pub RecordedAnswers : Type 0
RecordedAnswers = (g : Setting) (s : State) (loader place : ℕ) (name : Name) → IsClosed g.world s
    → recorded_definer s.records loader name ≡ Some place
    → AnswersPlan g s (Load loader name) (IsClass (class name place))

-- a record that is wanted with its home and does not stand is fresh (5.3)
abbrev pub UnmetIsFresh : Type 0
UnmetIsFresh = (w : World) (s : State) (loader place : ℕ) (name : Name) → IsClosed w s
    → home w loader name ≡ Some place → (Met s (Entry loader name place) → ⊥)
    → recorded_definer s.records loader name ≡ None

-- ---- service

-- a service that was begun goes on by the step that comes next
abbrev pub ServiceGoesOn : Type 0
ServiceGoesOn = (g : Setting) (r : Request) (s : State) (es : List Step) (e : Step)
    → IsBegun g r s es → IsNextStep g (state_after s es) r e → IsBegun g r s (es ++ e ∷ [])

-- a service that was begun is whole once its answer is posted
abbrev pub ServiceIsWhole : Type 0
ServiceIsWhole = (g : Setting) (q : ℕ) (r : Request) (s : State) (es : List Step) (a : Answer)
    → IsBegun g r s es → MayEnd g (state_after s es) r a → Serves g q r s (es ++ Post q a ∷ [])

-- in a closed state the step that comes next in a service may happen (5.3 to 5.4.3)
abbrev pub NextStepMayHappen : Type 0
NextStepMayHappen = (g : Setting) (s : State) (r : Request) (e : Step) → IsClosed g.world s
    → IsNextStep g s r e → May g s e

-- from a closed state a service that was begun is a run (5.3 to 5.4.3)
abbrev pub BegunIsRun : Type 0
BegunIsRun = (g : Setting) (r : Request) (s : State) (es : List Step) → IsClosed g.world s
    → IsBegun g r s es → Run g s es

-- at most one step comes next in a service
abbrev pub OneNextStep : Type 0
OneNextStep = (g : Setting) (s : State) (r : Request) (e f : Step) → IsNextStep g s r e
    → IsNextStep g s r f → e ≡ f

-- where a service has come to its verdict no step is left
abbrev pub ComeToEnds : Type 0
ComeToEnds = (g : Setting) (s : State) (r : Request) (v : Verdict) (e : Step) → ComesTo g s r v
    → IsNextStep g s r e → ⊥

-- a service ends with a verdict only where no step comes next
abbrev pub VerdictEnds : Type 0
VerdictEnds = (g : Setting) (s : State) (r : Request) (v : Verdict) (e : Step)
    → MayEnd g s r (Said v) → IsNextStep g s r e → ⊥

-- the rounds that begin between services may begin: they are a run
abbrev pub PassedIsRun : Type 0
PassedIsRun = (g : Setting) (s : State) (es : List Step) → PassesRounds g s es → Run g s es

-- the need that comes next in the plan of a load is served next (5.3, 5.3.5)
abbrev pub LoadNeedIsNext : Type 0
LoadNeedIsNext = (g : Setting) (s : State) (loader : ℕ) (name : Name) (n : Need)
    → IsNextNeed g.world s (Load loader name) n → MayAdd s n
    → IsNextStep g s (Load loader name) (step_for n)

-- the need that comes next in the plan of a resolution is served next (5.4.3)
abbrev pub ResolveNeedIsNext : Type 0
ResolveNeedIsNext = (g : Setting) (s : State) (loader : ℕ) (name : Name) (i : ℕ) (n : Need)
    → IsNextNeed g.world s (Resolve loader name i) n → MayAdd s n
    → IsNextStep g s (Resolve loader name i) (step_for n)

-- past its load a resolution settles its reference next, where that may be settled (5.4.3)
abbrev pub SettleIsNext : Type 0
SettleIsNext =
    (g : Setting) (s : State) (loader : ℕ) (name : Name) (i : ℕ) (p : Plan) (d : Class)
    (v : Verdict) → IsPlan g.world (Resolve loader name i) p → IsPastLoad s p d
    → MaySettle g s d i v → IsNextStep g s (Resolve loader name i) (Settle d i v)

-- past its load a link imposes next what comes next of the constraints of a class of the lineage all before which are linked (5.4, 5.4.2)
abbrev pub LinkNeedIsNext : Type 0
LinkNeedIsNext =
    (g : Setting) (s : State) (loader : ℕ) (name : Name) (p : Plan) (c : Class) (l k : Kin)
    (before behind : List Kin) (n : Need) → IsPlan g.world (Link loader name) p → IsPastLoad s p c
    → HasLineage g.world c l → lineage l ≡ before ++ k ∷ behind
    → AllByRecursion (IsLinkedIn s) before → IsNext s (constraints_of k) n → MayAdd s n
    → IsNextStep g s (Link loader name) (step_for n)

-- and prepares that class next once its constraints are imposed, unless it is prepared (5.4, 5.4.2)
abbrev pub PrepareIsNext : Type 0
PrepareIsNext =
    (g : Setting) (s : State) (loader : ℕ) (name : Name) (p : Plan) (c : Class) (l k : Kin)
    (before behind : List Kin) → IsPlan g.world (Link loader name) p → IsPastLoad s p c
    → HasLineage g.world c l → lineage l ≡ before ++ k ∷ behind
    → AllByRecursion (IsLinkedIn s) before → AllMet s (constraints_of k)
    → (Contains s.prepared k.class → ⊥) → IsNextStep g s (Link loader name) (Prepare k.class)

-- a load that has an answer comes to it (5.3, 5.3.5)
abbrev pub LoadComes : Type 0
LoadComes = (g : Setting) (s : State) (loader : ℕ) (name : Name) (v : Verdict)
    → AnswersPlan g s (Load loader name) v → ComesTo g s (Load loader name) v

-- a resolution whose verdict may be posted comes to it (5.4.3)
abbrev pub ResolutionComes : Type 0
ResolutionComes = (g : Setting) (s : State) (loader : ℕ) (name : Name) (i : ℕ) (v : Verdict)
    → MaySay g s (Resolve loader name i) v → ComesTo g s (Resolve loader name i) v

-- whatever else happens, so many steps of a request's service, and its post, are within its cost
abbrev pub ServiceWithinCost : Type 0
ServiceWithinCost = (g : Setting) (r : Request) (p : Plan) (n : ℕ) (s : State) (es : List Step)
    → IsPlan g.world r p → TakesSteps g r n s es → n + 1 ≤ cost g.world p

-- services go on by that of the next request, and by the rounds that begin after it
abbrev pub ServicesGoOn : Type 0
ServicesGoOn =
    (g : Setting) (q p : ℕ) (s : State) (rs : List Scheduled) (r : Scheduled)
    (es one rounds : List Step) → AllServed g q s rs es
    → Serves g p r.request (state_after s es) one
    → PassesRounds g (state_after (state_after s es) one) rounds → p ≡ q + length rs
    → AllServed g q s (rs ++ r ∷ []) (es ++ (one ++ rounds))

-- once all are served no later round may begin
abbrev pub NoRoundLeft : Type 0
NoRoundLeft = (g : Setting) (q : ℕ) (s : State) (rs : List Scheduled) (es : List Step)
    → AllServed g q s rs es → MayGoOn g (state_after s es) → ⊥

-- a load is answered a circle only where its home is circular, of the class that its walk meets again (5.3.5, step 3)
abbrev pub CircleIsAnswered : Type 0
CircleIsAnswered = (g : Setting) (s : State) (l : ℕ) (name : Name) (x : Class)
    → AnswersPlan g s (Load l name) (Wrong (ClassCircularity x)) → EndsInCircle g.world l name x

-- a load whose home is circular is answered so, unless a need before is refused (5.3.5, step 3)
abbrev pub CircularIsAnswered : Type 0
CircularIsAnswered = (g : Setting) (s : State) (l : ℕ) (name : Name) (x : Class) (v : Verdict)
    → EndsInCircle g.world l name x → AnswersPlan g s (Load l name) v
    → (v ≡ Wrong (ClassCircularity x)) ⊎ IsLinkageError v

-- the first part of a service that was begun is one
abbrev pub PartBegins : Type 0
PartBegins = (g : Setting) (r : Request) (s : State) (xs ys : List Step) → IsBegun g r s (xs ++ ys)
    → IsBegun g r s xs

-- a run in two parts is a run and one that goes on from its state (5.3 to 5.4.3)
abbrev pub RunThen : Type 0
RunThen = (g : Setting) (s : State) (es fs : List Step) → Run g s es → Run g (state_after s es) fs
    → Run g s (es ++ fs)

-- each part of a run is a run (5.3 to 5.4.3)
abbrev pub RunParts : Type 0
RunParts = (g : Setting) (s : State) (es fs : List Step) → Run g s (es ++ fs) → Run g s es
    × Run g (state_after s es) fs

-- the state after two parts
abbrev pub StateThen : Type 0
StateThen = (s : State) (es fs : List Step) → state_after s (es ++ fs) ≡ state_after
    (state_after s es) fs

-- two answers of the machine to equal requests are equal (5.3 to 5.4.3)
abbrev pub SaidAlike : Type 0
SaidAlike = (g : Setting) (s : State) (p q : ℕ) (a b : Scheduled) (v u : Verdict) → IsSound g s
    → slice_get g.script p ≡ Some a → slice_get g.script q ≡ Some b → a.request ≡ b.request
    → answer_to s.answers p ≡ Some (Said v) → answer_to s.answers q ≡ Some (Said u) → v ≡ u

-- the answer of a request that got past the load of its class is that of the reference, which has one (5.4.3)
abbrev pub SaidReference : Type 0
SaidReference = (g : Setting) (s : State) (q : ℕ) (a : Scheduled) (loader : ℕ) (name : Name) (i : ℕ)
    (p : Plan) (d : Class) (v : Verdict) → IsSound g s → slice_get g.script q ≡ Some a
    → a.request ≡ Resolve loader name i → IsPlan g.world (Resolve loader name i) p
    → IsPastLoad s p d → answer_to s.answers q ≡ Some (Said v) → AnswersReference g s d i v

-- past its load the answer of a resolution is that of the reference (5.4.3)
abbrev pub PlanIsReference : Type 0
PlanIsReference =
    (g : Setting) (s : State) (loader : ℕ) (name : Name) (i : ℕ) (p : Plan) (d : Class)
    (v : Verdict) → IsPlan g.world (Resolve loader name i) p → IsPastLoad s p d
    → AnswersPlan g s (Resolve loader name i) v → AnswersReference g s d i v

-- past the load of a resolution the answer of the reference is its own (5.4.3)
abbrev pub ReferenceIsPlan : Type 0
ReferenceIsPlan =
    (g : Setting) (s : State) (loader : ℕ) (name : Name) (i : ℕ) (p : Plan) (d : Class)
    (v : Verdict) → IsPlan g.world (Resolve loader name i) p → IsPastLoad s p d
    → AnswersReference g s d i v → AnswersPlan g s (Resolve loader name i) v

-- where a loader records the class of a request, its plan reaches that class, past its load (5.3)
abbrev pub RecordedIsReached : Type 0
RecordedIsReached =
    (w : World) (s : State) (q : Request) (p : Plan) (place : ℕ) → IsClosed w s → IsPlan w q p
    → recorded_definer s.records (loaded_by q).loader (loaded_by q).name ≡ Some place
    → IsPastLoad s p (class (loaded_by q).name place)

-- past the load of a request its loader records the class that is reached (5.3)
abbrev pub ReachedIsRecorded : Type 0
ReachedIsRecorded = (w : World) (s : State) (q : Request) (p : Plan) (d : Class) → IsPlan w q p
    → IsPastLoad s p d → Records s (loaded_by q).loader (loaded_by q).name d

-- an answered reference of a recorded class that is not settled may be, unless its verdict is none that is (5.4.3)
abbrev pub AnsweredMaySettle : Type 0
AnsweredMaySettle = (g : Setting) (s : State) (d : Class) (i : ℕ) (v : Verdict) → IsRecorded s d
    → settled_to s.settled d i ≡ None → AnswersReference g s d i v → IsSettling v
    → May g s (Settle d i v)

-- a recorded class that is not prepared may be, once its constraints are imposed and its supertypes are prepared (5.4.2)
abbrev pub ImposedMayPrepare : Type 0
ImposedMayPrepare =
    (g : Setting) (s : State) (c : Class) (k : Kin) → IsRecorded s c → (Contains s.prepared c → ⊥)
    → HasLineage g.world c k → AllAtHome g.world c (Contains s.prepared) (supers k.file)
    → AllMet s (constraints_of k) → May g s (Prepare c)

-- in a sound state what was said of a resolution past its load is what the reference is settled to (5.4.3)
abbrev pub SaidIsSettled : Type 0
SaidIsSettled =
    (g : Setting) (s : State) (q : ℕ) (a : Scheduled) (loader : ℕ) (name : Name) (i : ℕ) (p : Plan)
    (d : Class) (v : Verdict) → IsSound g s → slice_get g.script q ≡ Some a
    → a.request ≡ Resolve loader name i
    → IsPlan g.world (Resolve loader name i) p → IsPastLoad s p d → IsSettling v
    → answer_to s.answers q ≡ Some (Said v) → settled_to s.settled d i ≡ Some v

-- in a sound state a class that was said to be linked is prepared (5.4)
abbrev pub LinkedIsPrepared : Type 0
LinkedIsPrepared =
    (g : Setting) (s : State) (q : ℕ) (a : Scheduled) (loader : ℕ) (name : Name) (c : Class)
    → IsSound g s → slice_get g.script q ≡ Some a → a.request ≡ Link loader name
    → answer_to s.answers q ≡ Some (Said (IsLinked c)) → Contains s.prepared c

-- in a sound state the lineage of what is prepared is (5.4.2)
abbrev pub LineagePrepared : Type 0
LineagePrepared = (g : Setting) (s : State) (k : Kin) → IsSound g s → IsLineage g.world k
    → Contains s.prepared k.class → AllByRecursion (λ (a : Kin). Contains s.prepared a.class)
    (lineage k)

-- what has a file is spelled by its own loader's bytes, and the file names it (5.3.5, step 2)
abbrev pub FileIsRead : Type 0
FileIsRead = (w : World) (c : Class) (f : File) → HasFile w c f → (bytes : List ℕ)
    × (content_at w.content c.loader c.name ≡ Some bytes) × (w.read bytes ≡ Ok f)
    × (f.name ≡ c.name)

-- what a history tells, where it goes on
abbrev pub StepsThen : Type 0
StepsThen = (given : List (Option Answer)) (es fs : List events.Event)
    → steps_of given (es ++ fs) ≡ steps_of given es ++ steps_of given fs

-- answers that differ at one request alone tell the same of a history in which it is not posted
abbrev pub StepsSame : Type 0
StepsSame = (given more : List (Option Answer)) (q : ℕ)
    → ((p : ℕ) → p ≢ q → answer_at more p ≡ answer_at given p) → (es : List events.Event)
    → AllByRecursion (IsOther q) es → steps_of more es ≡ steps_of given es

-- the first need of a plan that does not stand may be made, unless it is refused (5.3 to 5.4.3)
abbrev pub NextMayBeMade : Type 0
NextMayBeMade = (g : Setting) (s : State) (q : Request) (p : Plan) (n : Need) → IsClosed g.world s
    → IsPlan g.world q p → IsNext s (plan_needs p) n → MayAdd s n → May g s (step_for n)

-- the step of a need adds it (5.3, 5.3.4)
abbrev pub StepAdds : Type 0
StepAdds = (s : State) (n : Need) → after s (step_for n) ≡ with_need s n

-- ---- words of the definitions that say the same

-- the test of two keys tells whether they are equal (4.5, 4.6)
abbrev pub SameKey : Type 0
SameKey = (a b : Key) → (same_key a b ≡ true) ↔ (a ≡ b)

-- the key of a field's name and descriptor is that of their texts (4.5)
abbrev pub FieldKey : Type 0
FieldKey = (name descriptor : Name) (k : Key) → field_of name descriptor ≡ Some k
    → IsSome (descriptor_of descriptor) × (key_of name descriptor ≡ k)

-- and so of a method's: no text is the descriptor of both (4.6)
abbrev pub MethodKey : Type 0
MethodKey = (name descriptor : Name) (k : Key) → method_of name descriptor ≡ Some k
    → IsSome (descriptor_of descriptor) × (key_of name descriptor ≡ k)

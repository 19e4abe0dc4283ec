-- Laws of requests whose class is recorded, and of what their answers rest on (JVMS SE 8, 5.3 to 5.4.3): each is the contract of a function without a body.
use Rattle.std.specs.Prelude.{◌≡◌, ℕ, List, [], ◌∷◌, ◌++◌, Some, None, flat_map}
use Rattle.std.specs.List.{AllByRecursion}
use Rattle.cl_classfile.specs.Files.{Name, Reference, reference}
use Rattle.cl_model.specs.Homes.{World}
use Rattle.cl_model.specs.declared.class.Class.{Class}
use Rattle.cl_model.specs.Classes.{class, NoClassDef}
use Rattle.cl_model.specs.Lineages.{Kin, lineage}
use Rattle.cl_model.specs.Preparation.{constraints_of}
use Rattle.cl_model.specs.States.{State, Need, Entry, Verdict, IsClass, IsLinked, BadEntry, Linkage, recorded_definer, AllMet, MayAdd, IsNext, Refused}
use Rattle.cl_model.specs.Works.{Made, ◌>>=◌}
use Rattle.cl_model.specs.Plans.{class_named, through, nameless, load, resolve, Request, Load, Resolve, Link, loaded_by, Plan, ending_verdict}
use Rattle.cl_model.specs.Machine.{Setting, HasLineage, IsPlan, IsClosed, Answers, AnswersPlan, AnswersReference, MaySay, step_for}
use Rattle.cl_model.specs.Service.{IsNextNeed, IsNextStep, IsLinkedIn, ComesTo}
use Rattle.cl_model.specs.Frames.{EndsHere}
use Rattle.cl_model.specs.Tables.{Bears}
use Rattle.cl_model.specs.References.{ended_with, GoesThrough, PlanGoesOn}

-- the resolution of a reference that names a class is the load of that class, and what follows it (5.4.3.1)
abbrev pub ResolvesThrough : Type 0
ResolvesThrough =
    (w : World) (n : ℕ) (d : Kin) (i : ℕ) (r : Reference) (name : Name)
    → reference d.file i ≡ Some r → class_named r ≡ Some name
    → resolve w n d i ≡ (load w n NoClassDef d.class.loader name >>= λ c. through d r c)

-- what follows that load always comes to an end (5.4.3)
abbrev pub ThroughEnds : Type 0
ThroughEnds = (d c : Kin) (r : Reference) → (m : Made Verdict) × (through d r c ≡ Some m)

-- where the class that a reference names is recorded, the resolution goes on with what follows its load (5.4.3.1)
abbrev pub ReferenceGoesThrough : Type 0
ReferenceGoesThrough =
    (w : World) (s : State) (d : Class) (k c : Kin) (i place : ℕ) (r : Reference) (name : Name)
    (m : Made Verdict)
    → IsClosed w s → HasLineage w d k → reference k.file i ≡ Some r → class_named r ≡ Some name
    → recorded_definer s.records d.loader name ≡ Some place → HasLineage w (class name place) c
    → through k r c ≡ Some m
    → GoesThrough w s d i m

-- an entry that is no reference is resolved at once
abbrev pub BadEntryGoesThrough : Type 0
BadEntryGoesThrough =
    (w : World) (s : State) (d : Class) (k : Kin) (i : ℕ) → HasLineage w d k
    → reference k.file i ≡ None
    → GoesThrough w s d i (ended_with BadEntry)

-- a reference that names no class is resolved at once (5.4.3.1; own choice for members of arrays)
abbrev pub NamelessGoesThrough : Type 0
NamelessGoesThrough =
    (w : World) (s : State) (d : Class) (k : Kin) (i : ℕ) (r : Reference) → HasLineage w d k
    → reference k.file i ≡ Some r → class_named r ≡ None
    → GoesThrough w s d i (ended_with (nameless r))

-- the answer of what follows is that of the reference (5.4.3)
abbrev pub ThroughAnswers : Type 0
ThroughAnswers =
    (g : Setting) (s : State) (d : Class) (i : ℕ) (m : Made Verdict) (v : Verdict)
    → GoesThrough g.world s d i m
    → Answers s m.needs (ending_verdict m.ends) v → AnswersReference g s d i v

-- where a loader records the class of a request to load it, the plan needs nothing more (5.3)
abbrev pub LoadGoesOn : Type 0
LoadGoesOn =
    (w : World) (s : State) (loader place : ℕ) (name : Name) → IsClosed w s
    → recorded_definer s.records loader name ≡ Some place
    → PlanGoesOn w s (Load loader name) (class name place) [] (IsClass (class name place))

-- of a request to resolve an entry, the plan goes on with what the entry's resolution goes on with (5.4.3)
abbrev pub ResolveGoesOn : Type 0
ResolveGoesOn =
    (w : World) (s : State) (loader place i : ℕ) (name : Name) (m : Made Verdict) → IsClosed w s
    → recorded_definer s.records loader name ≡ Some place → GoesThrough w s (class name place) i m
    → PlanGoesOn w s (Resolve loader name i) (class name place) m.needs (ending_verdict m.ends)

-- of a request to link it, the plan goes on with the constraints of each class of its lineage in order (5.4.2)
abbrev pub LinkGoesOn : Type 0
LinkGoesOn =
    (w : World) (s : State) (loader place : ℕ) (name : Name) (k : Kin) → IsClosed w s
    → recorded_definer s.records loader name ≡ Some place → HasLineage w (class name place) k
    → PlanGoesOn w s (Link loader name) (class name place) (flat_map constraints_of (lineage k))
    (IsLinked (class name place))

-- where all that a plan goes on with is met, it ends here (5.3 to 5.4.3)
abbrev pub GoneOnEnds : Type 0
GoneOnEnds =
    (w : World) (s : State) (r : Request) (c : Class) (needs : List Need) (v : Verdict)
    → PlanGoesOn w s r c needs v
    → AllMet s needs → EndsHere w s r v

-- what comes next in what a plan goes on with comes next in the plan (5.3 to 5.4.3)
abbrev pub GoneOnIsNext : Type 0
GoneOnIsNext =
    (w : World) (s : State) (r : Request) (c : Class) (needs : List Need) (v : Verdict) (n : Need)
    → PlanGoesOn w s r c needs v
    → IsNext s needs n → IsNextNeed w s r n

-- where each class of a list is linked, all constraints of these are imposed (5.4.2)
abbrev pub LinkedIsImposed : Type 0
LinkedIsImposed = (s : State) (ks : List Kin) → AllByRecursion (IsLinkedIn s) ks
    → AllMet s (flat_map constraints_of ks)

-- where each class of a recorded class's lineage is linked, a request to link it comes to that (5.4)
abbrev pub LinkComes : Type 0
LinkComes =
    (g : Setting) (s : State) (loader place : ℕ) (name : Name) (k : Kin) → IsClosed g.world s
    → recorded_definer s.records loader name ≡ Some place → HasLineage g.world (class name place) k
    → AllByRecursion (IsLinkedIn s) (lineage k) → ComesTo g s (Link loader name)
    (IsLinked (class name place))

-- where those before a class of it are linked, and its next constraint is refused, the request comes to that refusal (5.3.4, 5.4.2)
abbrev pub LinkRefusalComes : Type 0
LinkRefusalComes =
    (g : Setting) (s : State) (loader place : ℕ) (name : Name) (l k : Kin)
    (before behind : List Kin) (n : Need) → IsClosed g.world s
    → recorded_definer s.records loader name ≡ Some place → HasLineage g.world (class name place) l
    → lineage l ≡ before ++ k ∷ behind
    → AllByRecursion (IsLinkedIn s) before → IsNext s (constraints_of k) n → Refused s n
    → ComesTo g s (Link loader name) (Linkage n)

-- a request whose plan reaches no class comes to its answer (5.3.5)
abbrev pub UnreachedComes : Type 0
UnreachedComes =
    (g : Setting) (s : State) (r : Request) (p : Plan) (v : Verdict) → IsPlan g.world r p
    → p.reached ≡ None
    → AnswersPlan g s r v → ComesTo g s r v

-- a request the next need of whose load is refused comes to that refusal (5.3.4)
abbrev pub LoadRefusalComes : Type 0
LoadRefusalComes =
    (g : Setting) (s : State) (r : Request) (p : Plan) (n : Need) → IsPlan g.world r p
    → IsNext s p.own n → Refused s n
    → ComesTo g s r (Linkage n)

-- a record that comes next in a request's plan is made next in its service (5.3, 5.3.5)
abbrev pub RecordIsNext : Type 0
RecordIsNext =
    (g : Setting) (s : State) (r : Request) (loader place : ℕ) (name : Name)
    → IsNextNeed g.world s r (Entry loader name place)
    → MayAdd s (Entry loader name place) → IsNextStep g s r (step_for (Entry loader name place))

-- of a request to link it is what the request comes to, where it is refused (5.3.4)
abbrev pub LinkRecordComes : Type 0
LinkRecordComes =
    (g : Setting) (s : State) (loader to place : ℕ) (name other : Name)
    → IsNextNeed g.world s (Link loader name) (Entry to other place)
    → Refused s (Entry to other place) → ComesTo g s (Link loader name)
    (Linkage (Entry to other place))

-- a request is answered with a verdict that the tables bear (5.3 to 5.4.3)
abbrev pub BorneMayBeSaid : Type 0
BorneMayBeSaid = (g : Setting) (s : State) (r : Request) (v : Verdict) → Bears s r v
    → AnswersPlan g s r v → MaySay g s r v

-- where no loader records its class, a request's answer rests on nothing (5.3)
abbrev pub FirstLoadRestsOnNothing : Type 0
FirstLoadRestsOnNothing =
    (g : Setting) (s : State) (r : Request) (v : Verdict)
    → recorded_definer s.records (loaded_by r).loader (loaded_by r).name ≡ None
    → AnswersPlan g s r v → Bears s r v

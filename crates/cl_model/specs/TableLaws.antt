-- Laws of trusted tables, under any source (JVMS SE 8, 5.3 to 5.4.3): each is the contract of a function without a body.
use Rattle.std.specs.Prelude.{◌≡◌, ℕ, List, [], ◌∷◌, ◌++◌, Some, ◌⊎◌, Contains, slice_get, None}
use Rattle.cl_classfile.specs.Files.{Name}
use Rattle.cl_model.specs.declared.class.Class.{Class}
use Rattle.cl_model.specs.Plans.{Load, Resolve, Link}
use Rattle.cl_model.specs.States.{State, start, IsClass, Answer, settled_to, Verdict, IsSettling, recorded_definer, IsLinked, Said, IsRecorded}
use Rattle.cl_model.specs.Machine.{Setting, Scheduled, Step, Post, May, state_after, Run, IsClosed, after, Define, Initiate, Settle, Prepare, NextRound, Stray, MayKeep, EndsRound}
use Rattle.cl_model.specs.Tables.{Records, Allows, Orderly, AreTrusted, IsConsistent, StepsHave}

-- trusted tables are consistent (5.3, 5.3.4)
abbrev pub TrustedIsConsistent : Type 0
TrustedIsConsistent = (script : List Scheduled) (rounds : ℕ) (es : List Step)
    → AreTrusted script rounds es → IsConsistent (state_after start es)

-- a step that the tables allow keeps them consistent (5.3, 5.3.4)
abbrev pub AllowedIsConsistent : Type 0
AllowedIsConsistent = (script : List Scheduled) (rounds : ℕ) (s : State) (e : Step)
    → Allows script rounds s e → IsConsistent s → IsConsistent (after s e)

-- trusted tables stay so by a step that they allow (5.3 to 5.4.3)
abbrev pub TrustedGoesOn : Type 0
TrustedGoesOn = (script : List Scheduled) (rounds : ℕ) (es : List Step) (e : Step)
    → AreTrusted script rounds es → Allows script rounds (state_after start es) e
    → AreTrusted script rounds (es ++ e ∷ [])

-- each part of a trusted history is trusted, or allowed after it (5.3 to 5.4.3)
abbrev pub TrustedParts : Type 0
TrustedParts = (script : List Scheduled) (rounds : ℕ) (es fs : List Step)
    → AreTrusted script rounds (es ++ fs) → AreTrusted script rounds es
    × Orderly script rounds (state_after start es) fs

-- in a closed state the tables allow a step that may happen (5.3 to 5.4.3)
abbrev pub MayIsAllowed : Type 0
MayIsAllowed = (g : Setting) (s : State) (e : Step) → IsClosed g.world s → May g s e
    → Allows g.script g.rounds s e

-- in a run the tables are trusted (5.3 to 5.4.3)
abbrev pub RunsAreTrusted : Type 0
RunsAreTrusted = (g : Setting) (es : List Step) → Run g start es → AreTrusted g.script g.rounds es

-- a class is defined once (5.3.5, step 1)
abbrev pub DefinedOnce : Type 0
DefinedOnce = (script : List Scheduled) (rounds : ℕ) (es fs : List Step) (c : Class)
    → AreTrusted script rounds (es ++ Define c ∷ fs) → StepsHave es (Define c)
    ⊎ StepsHave fs (Define c) → ⊥

-- a request is answered once
abbrev pub AnsweredOnce : Type 0
AnsweredOnce = (script : List Scheduled) (rounds : ℕ) (es fs : List Step) (q : ℕ) (a b : Answer)
    → AreTrusted script rounds (es ++ Post q a ∷ fs) → StepsHave es (Post q b)
    ⊎ StepsHave fs (Post q b) → ⊥

-- an answer is posted in the round of its request
abbrev pub ToldInRound : Type 0
ToldInRound = (script : List Scheduled) (rounds : ℕ) (es fs : List Step) (q : ℕ) (a : Answer)
    (r : Scheduled) → AreTrusted script rounds (es ++ Post q a ∷ fs) → slice_get script q ≡ Some r
    → r.round ≡ (state_after start es).round

-- a class that was told of a load was recorded by its loader (5.3)
abbrev pub ToldIsRecorded : Type 0
ToldIsRecorded =
    (script : List Scheduled) (rounds : ℕ) (es fs : List Step) (q : ℕ) (r : Scheduled) (loader : ℕ)
    (name : Name) (c : Class) → AreTrusted script rounds (es ++ Post q (Said (IsClass c)) ∷ fs)
    → slice_get script q ≡ Some r
    → r.request ≡ Load loader name → Records (state_after start es) loader name c

-- a verdict that was told of a resolution whose class was recorded was the settled one of the reference (5.4.3)
abbrev pub ToldIsSettled : Type 0
ToldIsSettled =
    (script : List Scheduled) (rounds : ℕ) (es fs : List Step) (q : ℕ) (r : Scheduled) (loader : ℕ)
    (name : Name) (i : ℕ) (d : Class) (v : Verdict)
    → AreTrusted script rounds (es ++ Post q (Said v) ∷ fs) → slice_get script q ≡ Some r
    → r.request ≡ Resolve loader name i → Records (state_after start es) loader name d
    → IsSettling v → settled_to (state_after start es).settled d i ≡ Some v

-- a class that was told to be linked was recorded by its loader, and prepared (5.4)
abbrev pub ToldIsPrepared : Type 0
ToldIsPrepared =
    (script : List Scheduled) (rounds : ℕ) (es fs : List Step) (q : ℕ) (r : Scheduled) (loader : ℕ)
    (name : Name) (c : Class) → AreTrusted script rounds (es ++ Post q (Said (IsLinked c)) ∷ fs)
    → slice_get script q ≡ Some r
    → r.request ≡ Link loader name → Records (state_after start es) loader name c
    × Contains (state_after start es).prepared c

-- an initiating record stands for a class that its own loader recorded, and its loader had none of the name (5.3)
abbrev pub InitiatedOverRecord : Type 0
InitiatedOverRecord =
    (script : List Scheduled) (rounds : ℕ) (es fs : List Step) (name : Name) (place loader : ℕ)
    → AreTrusted script rounds (es ++ Initiate name place loader ∷ fs)
    → (recorded_definer (state_after start es).records place name ≡ Some place)
    × (recorded_definer (state_after start es).records loader name ≡ None)

-- what is settled is a reference of a recorded class, once, and to a verdict that settles (5.4.3)
abbrev pub SettledOnTables : Type 0
SettledOnTables =
    (script : List Scheduled) (rounds : ℕ) (es fs : List Step) (d : Class) (i : ℕ) (v : Verdict)
    → AreTrusted script rounds (es ++ Settle d i v ∷ fs)
    → MayKeep (state_after start es) d i v

-- what is prepared is a recorded class, once (5.4.2)
abbrev pub PreparedOnTables : Type 0
PreparedOnTables =
    (script : List Scheduled) (rounds : ℕ) (es fs : List Step) (c : Class)
    → AreTrusted script rounds (es ++ Prepare c ∷ fs)
    → IsRecorded (state_after start es) c × (Contains (state_after start es).prepared c → ⊥)

-- a round begins where another has ended
abbrev pub RoundsOnTables : Type 0
RoundsOnTables =
    (script : List Scheduled) (rounds : ℕ) (es fs : List Step)
    → AreTrusted script rounds (es ++ NextRound ∷ fs)
    → EndsRound script rounds (state_after start es)

-- no request is posted without an answer
abbrev pub NoStray : Type 0
NoStray = (script : List Scheduled) (rounds : ℕ) (es fs : List Step)
    → AreTrusted script rounds (es ++ Stray ∷ fs) → ⊥

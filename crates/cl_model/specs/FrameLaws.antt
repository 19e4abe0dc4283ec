-- Laws of loads through many loaders: what comes next under frames, where a plan ends, and that what is left falls (JVMS SE 8, 5.3, 5.3.5).
use Rattle.std.specs.Prelude.{◌≡◌, ◌≢◌, ◌↔◌, ℕ, ◌+◌, ◌*◌, ◌<◌, ◌≤◌, true, false, List, [], ◌∷◌, ◌++◌, length, Some, None, Err, IsSome}
use Rattle.std.specs.List.{AllByRecursion, list_any}
use Rattle.cl_classfile.specs.Files.{Name, File}
use Rattle.cl_model.specs.Homes.{World, home}
use Rattle.cl_model.specs.declared.class.Class.{Class}
use Rattle.cl_model.specs.Classes.{class, same_class, is_among, Error, ClassCircularity, read_class, Above, supers}
use Rattle.cl_model.specs.States.{State, Need, Entry, entry_for, Verdict, Wrong, Linkage, recorded_definer, Keeps, AllMet, IsRecorded, Refused}
use Rattle.cl_model.specs.Plans.{Request}
use Rattle.cl_model.specs.Machine.{Setting, Step, state_after, AnswersPlan, IsClosed}
use Rattle.cl_model.specs.Service.{IsNextNeed}
use Rattle.cl_model.specs.Frames.{Frame, wanted_supertype, Judged, AcceptsFirst, NamedAs, KeepsAccepted, AllKept, IsFrame, IsFrames, path_of, asking_loader, absent_under, EndsHere, Under, kept_of, with_accepted}
use Rattle.cl_model.specs.Measures.{left_loading, left_ended}

-- where all supertypes of what is loaded now are accepted, its own record is the need that comes next (5.3.5)
abbrev pub CompleteIsNext : Type 0
CompleteIsNext =
    (w : World) (s : State) (r : Request) (absent : Class → Error) (xs : List Frame) (x : Frame)
    (at_loader : ℕ) → IsClosed w s → Under w s r absent xs at_loader x.class.name
    → IsFrame w (path_of [] xs) at_loader x.class.name x → KeepsAccepted s x
    → wanted_supertype x ≡ None → IsNextNeed w s r (entry_for x.class.loader x.class)

-- where what is loaded now is recorded at its home, the record of the loader that asked is the need that comes next (5.3)
abbrev pub DefinedIsNext : Type 0
DefinedIsNext =
    (w : World) (s : State) (r : Request) (absent : Class → Error) (xs : List Frame)
    (at_loader place : ℕ) (at_name : Name) → IsClosed w s → Under w s r absent xs at_loader at_name
    → home w at_loader at_name ≡ Some place → IsRecorded s (class at_name place) → at_loader ≢ place
    → IsNextNeed w s r (Entry at_loader at_name place)

-- where what is looked for has no home, the plan ends there (5.3.1, 5.3.5)
abbrev pub MissingEnds : Type 0
MissingEnds =
    (w : World) (s : State) (r : Request) (absent : Class → Error) (xs : List Frame) (at_loader : ℕ)
    (at_name : Name) → IsClosed w s → Under w s r absent xs at_loader at_name
    → home w at_loader at_name ≡ None → EndsHere w s r
    (Wrong (absent_under absent xs (class at_name at_loader)))

-- where the bytes of what is looked for are not its class, the plan ends in what is wrong with them (5.3.5, step 2)
abbrev pub FaultyEnds : Type 0
FaultyEnds =
    (w : World) (s : State) (r : Request) (absent : Class → Error) (xs : List Frame)
    (at_loader place : ℕ) (at_name : Name) (e : Error) → IsClosed w s
    → Under w s r absent xs at_loader at_name
    → home w at_loader at_name ≡ Some place → is_among (path_of [] xs) (class at_name place) ≡ false
    → read_class w (class at_name place) ≡ Err e → EndsHere w s r (Wrong e)

-- where what is looked for is being derived already, the plan ends in the circle (5.3.5, step 3)
abbrev pub CircleEnds : Type 0
CircleEnds =
    (w : World) (s : State) (r : Request) (absent : Class → Error) (xs : List Frame)
    (at_loader place : ℕ) (at_name : Name) → IsClosed w s → Under w s r absent xs at_loader at_name
    → home w at_loader at_name ≡ Some place → is_among (path_of [] xs) (class at_name place) ≡ true
    → EndsHere w s r (Wrong (ClassCircularity (class at_name place)))

-- where the recorded supertype that a frame wants does not fit, the plan ends in what is wrong with it (5.3.5, steps 3 and 4)
abbrev pub MisfitEnds : Type 0
MisfitEnds =
    (w : World) (s : State) (r : Request) (absent : Class → Error) (xs : List Frame) (x : Frame)
    (at_loader : ℕ) (a : Above) (t : Class) (e : Error) → IsClosed w s
    → Under w s r absent xs at_loader x.class.name
    → IsFrame w (path_of [] xs) at_loader x.class.name x → KeepsAccepted s x
    → wanted_supertype x ≡ Some a → t.name ≡ a.name
    → Judged w x.class a.role (Some e) t → Keeps s x.class.loader t → EndsHere w s r (Wrong e)

-- a request whose plan ends here is answered so (5.3.5)
abbrev pub AnswersHere : Type 0
AnswersHere = (g : Setting) (s : State) (r : Request) (v : Verdict) → EndsHere g.world s r v
    → AnswersPlan g s r v

-- a class that is looked for becomes a frame, and its first supertype is looked for (5.3.5, step 3)
abbrev pub FramePush : Type 0
FramePush =
    (w : World) (path : List Class) (loader at_loader : ℕ) (name : Name) (xs : List Frame)
    (x : Frame) (a : Above) → IsFrames w path loader name xs at_loader x.class.name
    → IsFrame w (path_of path xs) at_loader x.class.name x → wanted_supertype x ≡ Some a
    → IsFrames w path loader name (xs ++ x ∷ []) x.class.loader a.name

-- the frames under the last one lead to its class (5.3.5, steps 3 and 4)
abbrev pub FramePop : Type 0
FramePop =
    (w : World) (path : List Class) (loader at_loader : ℕ) (name at_name : Name) (xs : List Frame)
    (x : Frame) → IsFrames w path loader name (xs ++ x ∷ []) at_loader at_name
    → IsFrames w path loader name xs (asking_loader loader xs) x.class.name
    × IsFrame w (path_of path xs) (asking_loader loader xs) x.class.name x
    × ((a : Above) × (wanted_supertype x ≡ Some a) × (x.class.loader ≡ at_loader)
    × (a.name ≡ at_name))

-- the last frame accepts the supertype that it wants, and goes on with the next (5.3.5, steps 3 and 4)
abbrev pub FrameAccept : Type 0
FrameAccept =
    (w : World) (path : List Class) (loader at_loader : ℕ) (name at_name : Name) (xs : List Frame)
    (x : Frame) (a b : Above) (t : Class)
    → IsFrames w path loader name (xs ++ x ∷ []) at_loader at_name → wanted_supertype x ≡ Some a
    → t.name ≡ a.name → Judged w x.class a.role None t
    → wanted_supertype (with_accepted x t) ≡ Some b
    → IsFrames w path loader name (xs ++ with_accepted x t ∷ []) x.class.loader b.name

-- a frame stays one where it accepts the supertype that it wants (5.3.5, steps 3 and 4)
abbrev pub FrameFits : Type 0
FrameFits =
    (w : World) (path : List Class) (loader : ℕ) (name : Name) (x : Frame) (a : Above) (t : Class)
    → IsFrame w path loader name x → wanted_supertype x ≡ Some a → t.name ≡ a.name
    → Judged w x.class a.role None t → IsFrame w path loader name (with_accepted x t)

-- what was accepted stays recorded (5.3)
abbrev pub KeptStays : Type 0
KeptStays = (s : State) (es : List Step) (xs : List Frame) → AllKept s xs
    → AllKept (state_after s es) xs

-- what is next and refused is the answer (5.3.4)
abbrev pub RefusedAnswers : Type 0
RefusedAnswers = (g : Setting) (s : State) (r : Request) (n : Need) → IsNextNeed g.world s r n
    → Refused s n → AnswersPlan g s r (Linkage n)

-- the classes of the path are those of the frames
abbrev pub PathScanned : Type 0
PathScanned = (xs : List Frame) (c : Class) → is_among (path_of [] xs) c ≡ list_any
    (λ x. same_class c x.class) xs

-- a new frame leaves less
abbrev pub PushFalls : Type 0
PushFalls =
    (most room : ℕ) (xs : List Frame) (x : Frame) (a : Above) → length xs < room
    → length (supers x.file) ≤ most → x.accepted ≡ [] → wanted_supertype x ≡ Some a
    → left_loading most room (xs ++ x ∷ []) < left_loading most room xs

-- a new frame without supertypes leaves less
abbrev pub RootFalls : Type 0
RootFalls = (most room : ℕ) (xs : List Frame) (x : Frame) → length xs < room
    → wanted_supertype x ≡ None → left_ended most room (xs ++ x ∷ []) < left_loading most room xs

-- the end of a load leaves less
abbrev pub LoadFalls : Type 0
LoadFalls = (most room : ℕ) (xs : List Frame) → length xs ≤ room
    → left_ended most room xs < left_loading most room xs

-- the next supertype leaves less
abbrev pub AcceptFalls : Type 0
AcceptFalls =
    (most room : ℕ) (xs : List Frame) (x : Frame) (t : Class) (b : Above) → length xs < room
    → wanted_supertype (with_accepted x t) ≡ Some b
    → left_loading most room (xs ++ with_accepted x t ∷ []) < left_ended most room (xs ++ x ∷ [])

-- the end of a frame leaves less
abbrev pub PopFalls : Type 0
PopFalls = (most room : ℕ) (xs : List Frame) (x : Frame) → length xs < room
    → left_ended most room xs < left_ended most room (xs ++ x ∷ [])

-- what frames rest on is what they keep
abbrev pub KeptIsMet : Type 0
KeptIsMet = (s : State) (xs : List Frame) → AllMet s (kept_of xs) ↔ AllKept s xs

-- a measure of turns: so many for each step of the frames' measure
abbrev pub TurnFalls : Type 0
TurnFalls = (k a b p q : ℕ) → a < b → p < k → k * a + p < k * b + q

-- a file has one superclass at most (4.1)
abbrev pub SupersBounded : Type 0
SupersBounded = (f : File) → length (supers f) ≤ 1 + length f.interfaces

-- where a frame wants nothing more, its class's loader records a class for each of its supertypes, under any source (5.3.5)
abbrev pub CompleteIsKept : Type 0
CompleteIsKept =
    (s : State) (x : Frame) → NamedAs x.accepted (supers x.file) → KeepsAccepted s x
    → wanted_supertype x ≡ None → AllByRecursion
    (λ a. IsSome (recorded_definer s.records x.class.loader a.name)) (supers x.file)

-- what fits is named so
abbrev pub AcceptedIsNamed : Type 0
AcceptedIsNamed = (w : World) (c : Class) (ts : List Class) (others : List Above)
    → AcceptsFirst w c ts others → NamedAs ts others

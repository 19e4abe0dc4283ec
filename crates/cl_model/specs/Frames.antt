-- Classes that wait for their direct supertypes, each at its own loader, from a request's class to what is loaded now (JVMS SE 8, 5.3, 5.3.5).
use Rattle.std.specs.Prelude.{◌≡◌, ◌⊎◌, ℕ, false, List, [], ◌∷◌, ◌++◌, length, map, Option, Some, None, slice_get}
use Rattle.std.specs.List.{AllByRecursion}
use Rattle.cl_classfile.specs.Files.{Name, File}
use Rattle.cl_model.specs.Homes.{World, home}
use Rattle.cl_model.specs.declared.class.Class.{Class}
use Rattle.cl_model.specs.Classes.{class, is_among, Error, ClassNotFound, NoClassDef, IsAtHome, Role, Above, supers, HasFile, Fitting}
use Rattle.cl_model.specs.States.{State, Need, entry_for, Verdict, recorded_definer, Keeps, AllMet}
use Rattle.cl_model.specs.Plans.{CitesClass, Request, Resolve, loaded_by, Plan, plan_needs}
use Rattle.cl_model.specs.Machine.{IsPlan}

-- a class that is being derived, its file, and the classes that were accepted as its first direct supertypes (5.3.5, steps 3 and 4)
pub record Frame : Type 0 where
  pub class : Class
  pub file : File
  pub accepted : List Class

-- the supertype that is loaded now, if one is left (5.3.5, steps 3 and 4)
abbrev pub wanted_supertype : Frame → Option Above
wanted_supertype x = slice_get (supers x.file) (length x.accepted)

-- what is wrong with t as a supertype of c, if t is a class at all (5.3.5, steps 3 and 4)
abbrev pub Judged : World → Class → Role → Option Error → Class → Type 0
Judged w c role wrong t = IsAtHome w t → Fitting w c role wrong t

-- these are the first direct supertypes of c, and fit (5.3.5, steps 3 and 4)
abbrev pub AcceptsFirst : World → Class → List Class → List Above → Type 0
AcceptsFirst w c [] others = Unit {0}
AcceptsFirst w c (t ∷ ts) [] = ⊥
AcceptsFirst w c (t ∷ ts) (a ∷ others) = (t.name ≡ a.name) × Judged w c a.role None t
    × AcceptsFirst w c ts others

-- these have the names of the first direct supertypes, whatever the source tells (5.3.5, steps 3 and 4)
abbrev pub NamedAs : List Class → List Above → Type 0
NamedAs [] others = Unit {0}
NamedAs (t ∷ ts) [] = ⊥
NamedAs (t ∷ ts) (a ∷ others) = (t.name ≡ a.name) × NamedAs ts others

-- what a frame has accepted is recorded by its class's loader (5.3, 5.3.5)
abbrev pub KeepsAccepted : State → Frame → Type 0
KeepsAccepted s x = AllByRecursion (Keeps s x.class.loader) x.accepted

-- and so for each of these
abbrev pub AllKept : State → List Frame → Type 0
AllKept s xs = AllByRecursion (KeepsAccepted s) xs

-- a frame is of the class that a loader is asked for, has its file, and its class is none of the path; what it accepted fits (5.3.2, 5.3.5)
pub record IsFrame (w : World) (path : List Class) (loader : ℕ) (name : Name)
    (x : Frame) : Type 0 where
  pub named : name ≡ x.class.name
  pub found : home w loader name ≡ Some x.class.loader
  pub has_file : HasFile w x.class x.file
  pub new : is_among path x.class ≡ false
  pub fits : AcceptsFirst w x.class x.accepted (supers x.file)

-- from a loader and a name each frame wants what the next is of, and the last what is looked for now;
-- no class stands twice on the path (5.3.5, steps 3 and 4)
abbrev pub IsFrames : World → List Class → ℕ → Name → List Frame → ℕ → Name → Type 0
IsFrames w path loader name [] at_loader at_name = (loader ≡ at_loader) × (name ≡ at_name)
IsFrames w path loader name (x ∷ xs) at_loader at_name =
    IsFrame w path loader name x × ((a : Above) × (wanted_supertype x ≡ Some a)
    × IsFrames w (x.class ∷ path) x.class.loader a.name xs at_loader at_name)

-- the classes of a path and of these frames, the last first
abbrev pub path_of : List Class → List Frame → List Class
path_of path [] = path
path_of path (x ∷ xs) = path_of (x.class ∷ path) xs

-- the loader that is asked now: that of the last frame's class, or the first one (5.3.5, steps 3 and 4)
abbrev pub asking_loader : ℕ → List Frame → ℕ
asking_loader loader [] = loader
asking_loader loader (x ∷ xs) = asking_loader x.class.loader xs

-- a request's own class is not found, one that it needs is not defined (5.3.1, 5.3.5)
abbrev pub absent_under : (Class → Error) → List Frame → Class → Error
absent_under absent [] = absent
absent_under absent (x ∷ xs) = absent_under NoClassDef xs

-- a request's plan ends so, and all its needs are met (5.3.5)
pub record EndsHere (w : World) (s : State) (r : Request) (v : Verdict) : Type 0 where
  pub plan : Plan
  pub planned : IsPlan w r plan
  pub met : AllMet s (plan_needs plan)
  pub ends : plan.ends ≡ v

-- a request resolves a reference that names a class, and the class of the reference is recorded where it asks (5.4.3.1)
pub record OfReference (w : World) (s : State) (r : Request) (loader : ℕ)
    (name : Name) : Type 0 where
  pub through : ℕ
  pub asked : Name
  pub index : ℕ
  pub request : r ≡ Resolve through asked index
  pub kept : recorded_definer s.records through asked ≡ Some loader
  pub file : File
  pub has_file : HasFile w (class asked loader) file
  pub cites : CitesClass file index name

-- a request loads this through this loader: its own class, or that of its reference; what is absent is this error (5.3.1, 5.3.5, 5.4.3.1)
abbrev pub Starts : World → State → Request → (Class → Error) → ℕ → Name → Type 0
Starts w s r absent loader name =
    ((absent ≡ ClassNotFound) × (loader ≡ (loaded_by r).loader) × (name ≡ (loaded_by r).name))
    ⊎ ((absent ≡ NoClassDef) × OfReference w s r loader name)

-- the frames of a request in a state (5.3.5, steps 3 and 4)
pub record Under (w : World) (s : State) (r : Request) (absent : Class → Error) (xs : List Frame)
    (at_loader : ℕ) (at_name : Name) : Type 0 where
  pub loader : ℕ
  pub name : Name
  pub starts : Starts w s r absent loader name
  pub frames : IsFrames w [] loader name xs at_loader at_name
  pub kept : AllKept s xs

-- the records that frames rest on, as needs (5.3, 5.3.5)
abbrev pub kept_of : List Frame → List Need
kept_of [] = []
kept_of (x ∷ xs) = map (entry_for x.class.loader) x.accepted ++ kept_of xs

-- one supertype more is accepted (5.3.5, steps 3 and 4)
abbrev pub with_accepted : Frame → Class → Frame
with_accepted x t = record x { accepted = x.accepted ++ t ∷ [] }

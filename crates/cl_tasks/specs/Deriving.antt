-- What a step leaves to be derived (JVMS SE 8, 5.3.5).
use Rattle.std.specs.Prelude.{◌≡◌, List, [], ◌∷◌, ◌++◌, Option, Some, None}
use Rattle.cl_model.specs.declared.class.Class.{Class}
use Rattle.cl_model.specs.Frames.{Frame}
use Rattle.cl_delegation.specs.Searches.{Located}
use Rattle.cl_hierarchy.specs.Drafts.{home_class}
use Rattle.cl_hierarchy.specs.Frames.{frame_of}
use Rattle.cl_hierarchy.specs.Paths.{Pathed, frames_of, sought_class}
use Rattle.cl_tasks.specs.declared.stage.Load.{Load}
use Rattle.cl_tasks.specs.declared.stage.Load.TheVariants as loads
use Rattle.cl_tasks.specs.declared.stage.Stage.{Stage}
use Rattle.cl_tasks.specs.declared.stage.Stage.TheVariants as stages
use Rattle.cl_tasks.specs.Turns.{AreDerived}

-- the same of what a load is at; what it reads for is one of these, too (5.3, 5.3.5)
abbrev pub LoadDerives : {A : Type 0} → (Class → Type 0) → List Frame → Load A → Type 0
LoadDerives absent before (loads.Fresh j) = AreDerived absent before (frames_of j.path)
LoadDerives absent before (loads.Looking j) = AreDerived absent before (frames_of j.path)
LoadDerives absent before (loads.Searching j s) = AreDerived absent before (frames_of j.path)
    × absent (sought_class j.path)
LoadDerives absent before (loads.Homing j h) = AreDerived absent before (frames_of j.path)
LoadDerives absent before (loads.Defining j x) = AreDerived absent before
    (frames_of j.path ++ frame_of x ∷ [])
LoadDerives absent before (loads.Initiating j h) = AreDerived absent before (frames_of j.path)

-- the same of each stage: past the loads nothing is derived (5.3 to 5.4.3)
abbrev pub Derives : {A : Type 0} → (Class → Type 0) → List Frame → Stage A → Type 0
Derives absent before (stages.Load l) = LoadDerives absent before l
Derives absent before other = Unit {0}

-- no load goes on (5.3 to 5.4.3)
abbrev pub IsPast : {A : Type 0} → Stage A → Type 0
IsPast (stages.Load l) = ⊥
IsPast other = Unit {0}

-- no class is
abbrev pub IsNone : Class → Type 0
IsNone c = ⊥

-- the class of the name that is looked for, by the loader that is asked (5.3.2)
abbrev pub IsSoughtHere : Pathed → Class → Type 0
IsSoughtHere p c = c ≡ sought_class p

-- the class of a home (5.3.2)
abbrev pub IsHomeClass : Located → Class → Type 0
IsHomeClass h c = c ≡ home_class h

-- the same where a look found nothing there (5.3)
abbrev pub IsUnfound : {B : Type 0} → Located → Option B → Class → Type 0
IsUnfound h None c = IsHomeClass h c
IsUnfound h (Some row) c = ⊥

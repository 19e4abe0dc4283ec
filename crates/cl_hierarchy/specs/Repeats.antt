-- Supertypes that a class file names again: a class accepts each as it did the first (JVMS SE 8, 5.3.5, step 4).
use Rattle.std.specs.Prelude.{◌≡◌, ℕ, List, [], ◌∷◌, ◌++◌, Option, Some, None, slice_get}
use Rattle.cl_classfile.specs.Files.{file_of}
use Rattle.cl_model.specs.Content.{Content}
use Rattle.cl_model.specs.Classes.{class, Above, supers}
use Rattle.cl_model.specs.Frames.{wanted_supertype, Judged}
use Rattle.cl_config.specs.Views.{Configured}
use Rattle.cl_delegation.specs.Worlds.{world_of}
use Rattle.cl_hierarchy.specs.Frames.{Framed, frame_of}
use Rattle.cl_hierarchy.specs.Paths.{Pathed, Accepts, Completes}
use Rattle.cl_hierarchy.specs.declared.path.Repeated.{Repeated}
use Rattle.cl_hierarchy.specs.declared.path.Repeated.TheVariants as outcomes

-- the supertype that a frame wants is of the name and the role of one that it accepted, of which this
-- loader defined the class (5.3.5, step 4)
pub record Repeats (x : Framed) (definer : ℕ) : Type 0 where
  pub first : ℕ
  pub accepted : slice_get x.definers first ≡ Some definer
  pub same : slice_get (supers (file_of x.draft.file)) first ≡ wanted_supertype (frame_of x)

-- the same of the last class of a path (5.3.5, step 4)
pub record RepeatsLast (p : Pathed) (definer : ℕ) : Type 0 where
  pub before : List Framed
  pub last : Framed
  pub split : p.frames ≡ before ++ last ∷ []
  pub repeats : Repeats last definer

-- the last class accepted such a supertype, and wants another (5.3.5, steps 3 and 4)
pub record AcceptsRepeated (old new : Pathed) : Type 0 where
  pub definer : ℕ
  pub step : Accepts old new definer
  pub repeats : Repeats step.last definer

-- the last class accepted such a supertype, which was its last, and is derived no longer: its whole
-- frame (5.3.5, step 5)
pub record CompletesRepeated (old new : Pathed) (whole : Framed) : Type 0 where
  pub definer : ℕ
  pub step : Completes old new definer whole
  pub repeats : Repeats step.last definer

-- what became of the supertype that is looked for: nothing, or the last class accepted it again
-- (5.3.5, steps 3 to 5)
abbrev pub Goes : {A : Type 0} → Pathed → Pathed → Repeated A → Type 0
Goes old new outcomes.Other = new ≡ old
Goes old new outcomes.Waits = AcceptsRepeated old new
Goes old new (outcomes.Whole x) = CompletesRepeated old new x

-- where a content is told, the class of this loader fits as the supertype that a frame wants
-- (5.3.5, steps 3 and 4)
abbrev pub FitsNext : Option Content → Configured → Framed → ℕ → Type 0
FitsNext None c x definer = Unit {0}
FitsNext (Some content) c x definer =
    (a : Above) → wanted_supertype (frame_of x) ≡ Some a
    → Judged (world_of c content) x.draft.class a.role None (class a.name definer)

-- the same of the supertype that the last class of a path wants (5.3.5, steps 3 and 4)
abbrev pub FitsLast : Option Content → Pathed → ℕ → Type 0
FitsLast told p definer =
    (before : List Framed) (x : Framed) → p.frames ≡ before ++ x ∷ []
    → FitsNext told p.config x definer

-- The classes that are being derived for one request, each for the sake of the one before it, each
-- at its own loader (JVMS SE 8, 5.3.5, steps 3 and 4).
use Rattle.std.specs.Prelude.{
  ◌≡◌,
  ◌<◌,
  ◌^◌,
  ℕ,
  Bool,
  List,
  [],
  ◌∷◌,
  ◌++◌,
  length,
  map,
  Option,
  Some,
  None,
  IsSome,
}
use Rattle.std.specs.List.{AllByRecursion, list_any}
use Rattle.cl_classfile.specs.Files.{File}
use Rattle.cl_model.specs.declared.class.Class.{Class}
use Rattle.cl_model.specs.Content.{Content}
use Rattle.cl_model.specs.Classes.{class, same_class, Above, Error, misfit}
use Rattle.cl_model.specs.Frames.{Frame, wanted_supertype, asking_loader, IsFrames}
use Rattle.cl_config.specs.Views.{Configured}
use Rattle.cl_delegation.specs.Worlds.{world_of}
use Rattle.cl_hierarchy.specs.Drafts.{Drafted, IsDraft}
use Rattle.cl_hierarchy.specs.Frames.{Framed, frame_of, with_definer}

-- under which configuration, what a request loads through which loader, and the classes that are
-- derived for it, the first of them first (5.3.5)
pub record Pathed : Type 0 where
  pub config : Configured
  pub loader : ℕ
  pub name : List ℕ
  pub frames : List Framed

-- the frames of the rules (5.3.5, steps 3 and 4)
abbrev pub frames_of : Pathed → List Frame
frames_of p = map frame_of p.frames

-- a draft that has accepted no supertype yet (5.3.5, steps 3 and 4)
abbrev pub fresh : Drafted → Framed
fresh d = record { draft = d; definers = [] }

-- the name of a supertype that is wanted; none is, where nothing is left to load
abbrev pub name_of : Option Above → List ℕ
name_of None = []
name_of (Some a) = a.name

-- the name that is looked for under these frames: the supertype that the last one wants
-- (5.3.5, steps 3 and 4)
abbrev pub sought_name : List ℕ → List Framed → List ℕ
sought_name name [] = name
sought_name name (x ∷ xs) = sought_name (name_of (wanted_supertype (frame_of x))) xs

-- the loader that is asked now: that of the last class, or the request's (5.3.5, steps 3 and 4)
abbrev pub at_loader : Pathed → ℕ
at_loader p = asking_loader p.loader (frames_of p)

-- the name that it is asked for (5.3.5, steps 3 and 4)
abbrev pub at_name : Pathed → List ℕ
at_name p = sought_name p.name p.frames

-- what is looked for, as a class of the loader that is asked (5.3.5, steps 3 and 4)
abbrev pub sought_class : Pathed → Class
sought_class p = class (at_name p) (at_loader p)

-- a class is being derived (5.3.5, step 3)
abbrev pub is_on : Pathed → Class → Bool
is_on p c = list_any (λ x. same_class c x.class) (frames_of p)

-- a frame is of what this loader is asked for under this configuration, and wants a supertype,
-- whatever the source tells (5.3.5, steps 3 and 4)
pub record FrameStands (c : Configured) (loader : ℕ) (name : List ℕ) (x : Framed) : Type 0 where
  pub config : x.draft.home.config ≡ c
  pub asked : x.draft.home.asked ≡ loader
  pub named : x.draft.class.name ≡ name
  pub waits : IsSome (wanted_supertype (frame_of x))

-- and each of these is of what the one before it wants (5.3.5, steps 3 and 4)
abbrev pub AllStand : Configured → ℕ → List ℕ → List Framed → Type 0
AllStand c loader name [] = Unit {0}
AllStand c loader name (x ∷ xs) =
    FrameStands c loader name x
    × AllStand c x.draft.class.loader (name_of (wanted_supertype (frame_of x))) xs

-- where a content is told, they are frames as the rules have them (5.3.5, steps 3 and 4)
abbrev pub KeepsRules : Option Content → Pathed → Type 0
KeepsRules None p = Unit {0}
KeepsRules (Some content) p =
    IsFrames (world_of p.config content) [] p.loader p.name (frames_of p) (at_loader p) (at_name p)

-- what a path keeps (5.3.5, steps 3 and 4)
pub record IsPath (told : Option Content) (p : Pathed) : Type 0 where
  pub stand : AllStand p.config p.loader p.name p.frames
  pub drafts : AllByRecursion (λ x. IsDraft told x.draft) p.frames
  pub rules : KeepsRules told p
  pub counted : length p.frames < 2 ^ 64

-- one class more is being derived (5.3.5, step 3)
abbrev pub with_frame : Pathed → Framed → Pathed
with_frame p x = record p { frames = p.frames ++ x ∷ [] }

-- these classes alone are being derived
abbrev pub with_frames : Pathed → List Framed → Pathed
with_frames p xs = record p { frames = xs }

-- what is wrong with a class of this file as the supertype that a frame wants, if it wants one
-- (5.3.5, steps 3 and 4)
abbrev pub misfit_in : Framed → Option Above → Class → File → Option Error
misfit_in x None t f = None
misfit_in x (Some a) t f = misfit x.draft.class a.role t f

-- what is wrong with it as the supertype that the last of these wants; a request's own class fits
-- always (5.3.5, steps 3 and 4)
abbrev pub misfit_under : List Framed → Class → File → Option Error
misfit_under [] t f = None
misfit_under (x ∷ []) t f = misfit_in x (wanted_supertype (frame_of x)) t f
misfit_under (x ∷ (y ∷ xs)) t f = misfit_under (y ∷ xs) t f

-- the last class accepted a supertype that this loader defined, and wants another
-- (5.3.5, steps 3 and 4)
pub record Accepts (old new : Pathed) (definer : ℕ) : Type 0 where
  pub before : List Framed
  pub last : Framed
  pub split : old.frames ≡ before ++ last ∷ []
  pub now : new ≡ with_frames old (before ++ with_definer last definer ∷ [])
  pub waits : IsSome (wanted_supertype (frame_of (with_definer last definer)))

-- the last class accepted the last of its supertypes, which this loader defined, and is derived no
-- longer: its whole frame (5.3.5, step 5)
pub record Completes (old new : Pathed) (definer : ℕ) (whole : Framed) : Type 0 where
  pub before : List Framed
  pub last : Framed
  pub split : old.frames ≡ before ++ last ∷ []
  pub now : new ≡ with_frames old before
  pub whole_is : whole ≡ with_definer last definer
  pub complete : wanted_supertype (frame_of whole) ≡ None

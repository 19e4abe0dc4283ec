-- What a task was told of the tables (JVMS SE 8, 5.3 to 5.4.3).
use Rattle.std.specs.Prelude.{◌≡◌, ℕ, List, [], ◌∷◌, Some, Contains}
use Rattle.std.specs.List.{AllByRecursion}
use Rattle.cl_model.specs.declared.class.Class.{Class}
use Rattle.cl_model.specs.Classes.{Above, supers}
use Rattle.cl_model.specs.States.{Met, Refused}
use Rattle.cl_model.specs.Frames.{Frame}
use Rattle.cl_model.specs.Tables.{Records}
use Rattle.cl_hierarchy.specs.Rows.{FitsAs, Rowed}
use Rattle.cl_registry.specs.Tables.{Shown, state_of, looked_row}
use Rattle.cl_registry.specs.Traced.{IsTraced}
use Rattle.cl_tasks.specs.Tasks.{Tasked, Fact, Stands, StandsRefused, HasLineage, IsPrepared}

-- a loader has recorded the name as this row's class, and this row is kept (5.3)
pub record IsRecordedAs (x : Shown) (loader : ℕ) (name : List ℕ) (row : Rowed) : Type 0 where
  pub records : Records (state_of x) loader name row.class
  pub kept : looked_row x loader name ≡ Some row

-- a class has accepted a recorded one as this supertype, which fits (5.3.5, steps 3 and 4)
pub record HasAccepted (x : Shown) (c t : Class) (a : Above) : Type 0 where
  pub row : Rowed
  pub recorded : IsRecordedAs x c.loader a.name row
  pub is : row.class ≡ t
  pub fits : FitsAs c a row

-- and so each of these as the first direct supertypes (5.3.5, steps 3 and 4)
abbrev pub HaveAccepted : Shown → Class → List Class → List Above → Type 0
HaveAccepted x c [] others = Unit {0}
HaveAccepted x c (t ∷ ts) [] = ⊥
HaveAccepted x c (t ∷ ts) (a ∷ others) = HasAccepted x c t a × HaveAccepted x c ts others

-- what these classes, which are being derived, have accepted is recorded, and fits (5.3.5, steps 3 and 4)
abbrev pub AllHave : Shown → List Frame → Type 0
AllHave x frames = AllByRecursion (λ f. HaveAccepted x f.class f.accepted (supers f.file)) frames

-- a fact holds of the tables (5.3 to 5.4.3)
abbrev pub IsSo : Shown → Fact → Type 0
IsSo x (Stands n) = Met (state_of x) n
IsSo x (StandsRefused n) = Refused (state_of x) n
IsSo x (HasLineage l) = IsTraced x l.own.class l
IsSo x (IsPrepared c) = Contains (state_of x).prepared c

-- and each of these
abbrev pub AreSo : Shown → List Fact → Type 0
AreSo x facts = AllByRecursion (IsSo x) facts

-- what a task was told so far (5.3 to 5.4.3)
pub record Holds (x : Shown) (t : Tasked) : Type 0 where
  pub frames : AllHave x t.frames
  pub facts : AreSo x t.facts

-- A class that is being derived, with the supertypes that it accepted so far
-- (JVMS SE 8, 5.3.5, steps 3 and 4).
use Rattle.std.specs.Prelude.{ℕ, List, [], ◌∷◌, ◌++◌}
use Rattle.cl_classfile.specs.Files.{file_of}
use Rattle.cl_model.specs.declared.class.Class.{Class}
use Rattle.cl_model.specs.Classes.{class, Above, supers}
use Rattle.cl_model.specs.Frames.{Frame}
use Rattle.cl_hierarchy.specs.Drafts.{Drafted}

-- a draft, and which loaders defined the first of its direct supertypes (5.3.5, steps 3 and 4)
pub record Framed : Type 0 where
  pub draft : Drafted
  pub definers : List ℕ

-- the classes of these supertypes' names that these loaders defined (5.3.5, steps 3 and 4)
abbrev pub accepted_of : List Above → List ℕ → List Class
accepted_of [] definers = []
accepted_of (a ∷ others) [] = []
accepted_of (a ∷ others) (definer ∷ definers) = class a.name definer ∷ accepted_of others definers

-- the frame of the rules: the class, its file, and the supertypes that it accepted
-- (5.3.5, steps 3 and 4)
abbrev pub frame_of : Framed → Frame
frame_of x =
    record {
      class = x.draft.class;
      file = file_of x.draft.file;
      accepted = accepted_of (supers (file_of x.draft.file)) x.definers;
    }

-- one supertype more, which this loader defined (5.3.5, steps 3 and 4)
abbrev pub with_definer : Framed → ℕ → Framed
with_definer x definer = record x { definers = x.definers ++ definer ∷ [] }

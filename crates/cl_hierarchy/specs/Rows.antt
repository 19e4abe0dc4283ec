-- What contracts see of a class that is recorded (JVMS SE 8, 5.3.5).
use Rattle.std.specs.Prelude.{◌≡◌, ℕ, Bool, List, None}
use Rattle.cl_classfile.specs.Structure.{Structure}
use Rattle.cl_classfile.specs.Files.{file_of}
use Rattle.cl_model.specs.declared.class.Class.{Class}
use Rattle.cl_model.specs.Classes.{Above, class_accessible, misfit}

-- a class, its file, and which loaders defined its direct supertypes, in the order in which they
-- are loaded (5.3.5, steps 3 to 5)
pub record Rowed : Type 0 where
  pub class : Class
  pub file : Structure
  pub definers : List ℕ

-- the class of a row is accessible to another (5.4.4)
abbrev pub row_accessible : Rowed → Class → Bool
row_accessible r from = class_accessible (file_of r.file).flags r.class from

-- the class of a row fits as this supertype of another: access and kind (5.3.5, steps 3 and 4)
abbrev pub FitsAs : Class → Above → Rowed → Type 0
FitsAs c a r = misfit c a.role r.class (file_of r.file) ≡ None

-- How the bytes of a home are read as its class (JVMS SE 8, 5.3.5).
use Rattle.std.specs.Prelude.{◌≡◌, ◌≢◌, ◌<◌, ℕ, List, length, Option, Some, Err}
use Rattle.cl_classfile.specs.declared.fault.Fault.{Fault}
use Rattle.cl_classfile.specs.declared.fault.Fault.TheVariants as faults
use Rattle.cl_classfile.specs.Structure.{Structure, Spells}
use Rattle.cl_classfile.specs.Files.{file_of}
use Rattle.cl_classfile.specs.Reading.{read_of}
use Rattle.cl_model.specs.declared.class.Class.{Class}
use Rattle.cl_model.specs.Content.{Content}
use Rattle.cl_hierarchy.specs.declared.draft.DraftFault.{DraftFault}
use Rattle.cl_hierarchy.specs.declared.draft.DraftFault.TheVariants as drafts
use Rattle.cl_source.specs.Told.{IsTold}
use Rattle.cl_model.specs.Classes.{class}
use Rattle.cl_delegation.specs.Searches.{Located, LeadsTo}

-- a class, its file, and the home that both were read of (5.3.5)
pub record Drafted : Type 0 where
  pub class : Class
  pub file : Structure
  pub home : Located

-- these bytes spell this file by the grammar: `Spells`, closed to searches, which have no use for
-- its tables (4.1)
unfoldable pub ByGrammar : List ℕ → Structure → Type 0
ByGrammar bytes f = Spells bytes f

-- the class's own loader has bytes for its name, which by the grammar spell this file, and it names
-- the class (4.1; 5.3.5, step 2)
pub record IsSpelt (told : Option Content) (c : Class) (f : Structure) : Type 0 where
  pub bytes : List ℕ
  pub told_so : IsTold told c.loader c.name (Some bytes)
  pub spells : ByGrammar bytes f
  pub named : (file_of f).name ≡ c.name

-- the class that a home is of: its name, and the loader whose own content has it (5.3.5)
abbrev pub home_class : Located → Class
home_class h = class h.name h.definer

-- a draft is of the class of its home, which that one's bytes spell (5.3.5)
pub record IsDraft (told : Option Content) (d : Drafted) : Type 0 where
  pub placed : d.class ≡ home_class d.home
  pub spelt : IsSpelt told d.class d.file
  pub leads : LeadsTo told d.home.config d.home.asked d.home.name (Some d.home.definer)
  pub within : d.home.definer < length d.home.config.loaders

-- the first thing that is wrong with the bytes of a home: the version, the rest of the form, the
-- name (5.3.5)
abbrev pub IsWrong : Located → DraftFault → Type 0
IsWrong home drafts.Version = read_of home.bytes ≡ Err faults.Version
IsWrong home (drafts.Format fault) = (read_of home.bytes ≡ Err fault) × (fault ≢ faults.Version)
IsWrong home drafts.OtherName =
    (f : Structure) × ByGrammar home.bytes f × ((file_of f).name ≢ home.name)

-- a home whose bytes are not its class (5.3.5)
pub record Misread : Type 0 where
  pub home : Located
  pub fault : DraftFault

-- a fault of the form, as it is told (5.3.5)
abbrev pub fault_as : Fault → DraftFault
fault_as faults.Version = drafts.Version
fault_as fault = drafts.Format fault

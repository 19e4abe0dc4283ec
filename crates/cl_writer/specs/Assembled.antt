-- What a text is assembled to.
use Rattle.std.specs.Prelude.{◌≡◌, List, Result, Ok, Err}
use Rattle.cl_lines.specs.Lines.{Numbered}
use Rattle.cl_classfile.specs.declared.fault.Fault.{Fault}
use Rattle.cl_classfile.specs.Structure.{Structure, Spells, spelling}
use Rattle.cl_classfile.specs.Checking.{parts_of}
use Rattle.cl_writer.specs.declared.fault.AssembleFault.{AssembleFault}
use Rattle.cl_writer.specs.declared.fault.AssembleFault.TheVariants.{Memory, BadLine, Invalid}
use Rattle.cl_writer.specs.Assemblies.{ListedClass, IsRead, IsBadAt}
use Rattle.cl_writer.specs.Described.{described_file}
use Rattle.cl_writer.specs.Listings.{listing_of, listed_lines}

-- the lines describe this file, which is a class file: the tests of its parts find no fault, and
-- bytes spell it; it is listed as these lines without those of `ref` (JVMS SE 8, 4.1 of the file)
pub record IsAssembled (lines : List Numbered) (file : Structure) : Type 0 where
  pub listed : ListedClass
  pub read : IsRead lines listed
  pub is : file ≡ described_file listed
  pub kept : parts_of (described_file listed) ≡ Ok file
  pub spelled : Spells (spelling file) file
  pub printed : listing_of file ≡ listed_lines listed

-- the lines describe what is no class file: this is the first fault of its parts (4.1)
pub record IsInvalid (lines : List Numbered) (fault : Fault) : Type 0 where
  pub listed : ListedClass
  pub read : IsRead lines listed
  pub first : parts_of (described_file listed) ≡ Err fault

-- what the lines of a text, without the skipped ones, are assembled to; where memory runs out,
-- nothing is said
abbrev pub AssembleOf : List Numbered → Result Structure AssembleFault → Type 0
AssembleOf lines (Ok file) = IsAssembled lines file
AssembleOf lines (Err (BadLine n)) = IsBadAt lines n
AssembleOf lines (Err (Invalid fault)) = IsInvalid lines fault
AssembleOf lines (Err Memory) = Unit {0}

-- The texts of the faults of class files.
use Rattle.std.specs.Prelude.{ℕ, List, ◌++◌, codes}
use Rattle.std.specs.Fmt.{decimal}
use Rattle.cl_classfile.specs.declared.fault.Fault.{Fault}
use Rattle.cl_classfile.specs.declared.fault.Fault.TheVariants.{
  BadMagic,
  Version,
  Truncated,
  Trailing,
  BadPool,
  BadFlags,
  BadMember,
  Duplicate,
  BadSupertype,
}
use Rattle.cl_classfile.specs.declared.fault.ReadError.{ReadError}
use Rattle.cl_classfile.specs.declared.fault.ReadError.TheVariants as errors

-- the text of what is wrong with a class file: a code and a name, and of the pool the entry's index
-- in decimal digits
abbrev pub fault_text : Fault → List ℕ
fault_text BadMagic = codes "F1 BadMagic"
fault_text Version = codes "F2 Version"
fault_text Truncated = codes "F3 Truncated"
fault_text Trailing = codes "F4 Trailing"
fault_text (BadPool index) = codes "F5 BadPool " ++ decimal index
fault_text BadFlags = codes "F6 BadFlags"
fault_text BadMember = codes "F7 BadMember"
fault_text Duplicate = codes "F8 Duplicate"
fault_text BadSupertype = codes "F9 BadSupertype"

-- the text of why bytes were not read
abbrev pub error_text : ReadError → List ℕ
error_text errors.Memory = codes "F0 Memory"
error_text (errors.Fault fault) = fault_text fault

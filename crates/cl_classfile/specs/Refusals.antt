-- What is answered to parts that no bytes were read for.
use Rattle.std.specs.Prelude.{◌≡◌, Result, Ok, Err}
use Rattle.cl_classfile.specs.declared.parts.Refused.{Refused}
use Rattle.cl_classfile.specs.declared.fault.Fault.{Fault}
use Rattle.cl_classfile.specs.Structure.{Structure}
use Rattle.cl_classfile.specs.Checking.{GivesFault}

-- the answer is this file, or parts refused with this fault, unless memory ran out
abbrev pub GivesFile : Result Structure Refused → Result Structure Fault → Type 0
GivesFile (Ok f) file = file ≡ Ok f
GivesFile (Err r) file = GivesFault r.error file

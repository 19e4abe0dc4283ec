-- The texts of the faults of configurations.
use Rattle.std.specs.Prelude.{ℕ, List, ◌++◌, codes}
use Rattle.std.specs.Fmt.{decimal}
use Rattle.cl_config.specs.declared.fault.ConfigFault.{ConfigFault}
use Rattle.cl_config.specs.declared.fault.ConfigFault.TheVariants.{
  NotToml,
  BadLoader,
  UnknownLoader,
  LaterLoader,
  TooMany,
}
use Rattle.cl_config.specs.declared.fault.ConfigError.{ConfigError}
use Rattle.cl_config.specs.declared.fault.ConfigError.TheVariants as errors

-- a code and a name, and of a loader its number in decimal digits
abbrev pub fault_text : ConfigFault → List ℕ
fault_text NotToml = codes "C1 NotToml"
fault_text (BadLoader i) = codes "C2 BadLoader " ++ decimal i
fault_text (UnknownLoader i) = codes "C3 UnknownLoader " ++ decimal i
fault_text (LaterLoader i) = codes "C4 LaterLoader " ++ decimal i
fault_text TooMany = codes "C5 TooMany"

-- the same of what reading answers
abbrev pub error_text : ConfigError → List ℕ
error_text errors.Memory = codes "C0 Memory"
error_text (errors.Fault fault) = fault_text fault

-- Steps of which the first fault decides.
use Rattle.std.specs.Prelude.{◌≡◌, Result, Ok, Err}
pub use Rattle.cl_names.specs.Steps.{◌>>=◌, Finds}
use Rattle.cl_config.specs.declared.fault.ConfigFault.{ConfigFault}
use Rattle.cl_config.specs.declared.fault.ConfigError.{ConfigError}
use Rattle.cl_config.specs.declared.fault.ConfigError.TheVariants as errors

-- a function that takes memory found this fault, unless memory ran out
abbrev pub AgreesOnFault : {Y : Type 0} → ConfigError → Result Y ConfigFault → Type 0
AgreesOnFault errors.Memory read = Unit {0}
AgreesOnFault (errors.Fault f) read = read ≡ Err f

-- what a function that takes memory returned is, seen by view, this value or fault, unless memory
-- ran out
abbrev pub Agrees : {X Y : Type 0} → (X → Y) → Result X ConfigError → Result Y ConfigFault → Type 0
Agrees view (Ok x) read = read ≡ Ok (view x)
Agrees view (Err e) read = AgreesOnFault e read

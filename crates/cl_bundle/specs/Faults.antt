-- What may be wrong with a text that is no bundle, and how it is told.
use Rattle.std.specs.Bool.{OnFalse}
use Rattle.std.specs.Prelude.{
  ◌≡◌,
  Bool,
  true,
  false,
  IsFalse,
  ℕ,
  List,
  ◌++◌,
  codes,
  string_bytes,
  Result,
  Ok,
  Err,
}
use Rattle.std.specs.Fmt.{decimal}
use Rattle.cl_writer.specs.Faults.{assemble_text}
use Rattle.cl_writer.specs.declared.fault.AssembleFault.TheVariants as assembler
use Rattle.cl_config.specs.ConfigTexts as configs
use Rattle.cl_config.specs.Texts.{script_text}
use Rattle.cl_config.specs.declared.script.ScriptFault.TheVariants as scripts
use Rattle.cl_bundle.specs.declared.fault.BundleFault.{BundleFault}
use Rattle.cl_bundle.specs.declared.fault.BundleFault.TheVariants.{
  BadLine,
  Class,
  Config,
  Script,
  Memory,
}

-- the fault is that memory is out, whoever tells of it
abbrev pub is_memory : BundleFault → Bool
is_memory Memory = true
is_memory (Script scripts.Memory) = true
is_memory (Class class assembler.Memory) = true
is_memory _ = false

-- that memory is out is taken at its word; of any other fault P holds
abbrev pub UnlessMemory : BundleFault → Type 0 → Type 0
UnlessMemory fault P = OnFalse (is_memory fault) P

-- the fault is not out of memory
abbrev pub IsReason : BundleFault → Type 0
IsReason fault = IsFalse (is_memory fault)

-- the text of a fault; of what assembler text, a configuration or a script is refused with, that
-- fault's own text
abbrev pub fault_text : BundleFault → List ℕ
fault_text (BadLine n) = codes "bundle line " ++ decimal n
fault_text (Class class fault) =
    codes "class " ++ string_bytes class ++ codes ": " ++ assemble_text fault
fault_text (Config fault) = codes "config: " ++ configs.fault_text fault
fault_text (Script fault) = codes "script: " ++ script_text fault
fault_text Memory = codes "out of memory"

-- the faults are the same; of a class's text its bytes count, and not where they lie
abbrev pub SameFault : BundleFault → BundleFault → Type 0
SameFault (Class class fault) (Class other said) =
    (string_bytes class ≡ string_bytes other) × (fault ≡ said)
SameFault fault other = fault ≡ other

-- so are the answers
abbrev pub SameAnswer : {A : Type 0} → Result A BundleFault → Result A BundleFault → Type 0
SameAnswer (Ok a) (Ok b) = a ≡ b
SameAnswer (Err fault) (Err other) = SameFault fault other
SameAnswer _ _ = ⊥

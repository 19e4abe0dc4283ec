-- The texts of the faults of scripts.
use Rattle.std.specs.Prelude.{ℕ, List, ◌++◌, codes}
use Rattle.std.specs.Fmt.{decimal}
use Rattle.cl_config.specs.declared.script.ScriptFault.{ScriptFault}
use Rattle.cl_config.specs.declared.script.ScriptFault.TheVariants.{
  Memory,
  BadLine,
  UnknownLoader,
  TooMany,
}

-- the text of why a text is no script: a code and a name, and of a line its number in decimal
-- digits
abbrev pub script_text : ScriptFault → List ℕ
script_text Memory = codes "L0 Memory"
script_text (BadLine n) = codes "L1 BadLine " ++ decimal n
script_text (UnknownLoader n) = codes "L2 UnknownLoader " ++ decimal n
script_text TooMany = codes "L3 TooMany"

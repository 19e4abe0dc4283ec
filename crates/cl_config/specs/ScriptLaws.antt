-- That a text is read as a script in one way: laws, each the contract of a function without a body.
use Rattle.std.specs.Prelude.{◌≡◌, ◌≢◌, ℕ, List, Ok, Err}
use Rattle.cl_config.specs.Views.{Scripted}
use Rattle.cl_config.specs.Scripts.{script_of}
use Rattle.cl_config.specs.declared.script.ScriptFault.{ScriptFault}
use Rattle.cl_config.specs.declared.script.ScriptFault.TheVariants.{Memory}

-- a text that is a script has no fault but out of memory
abbrev pub ScriptOrItsFault : Type 0
ScriptOrItsFault =
    (names : List (List ℕ)) (text : List ℕ) (s : Scripted) (f : ScriptFault)
    → script_of names text (Ok s) → script_of names text (Err f) → f ≢ Memory → ⊥

-- a text has one fault at most, out of memory apart
abbrev pub ScriptHasOneFault : Type 0
ScriptHasOneFault =
    (names : List (List ℕ)) (text : List ℕ) (f g : ScriptFault)
    → script_of names text (Err f) → script_of names text (Err g) → f ≢ Memory → g ≢ Memory → f ≡ g

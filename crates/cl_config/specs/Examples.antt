-- The words of the worked examples of scripts.
use Rattle.std.specs.Prelude.{ℕ, List, [], ◌∷◌, codes}
use Rattle.cl_model.specs.declared.request.Request.{Request}
use Rattle.cl_config.specs.Scripts.{ScriptSays}
use Rattle.cl_config.specs.declared.script.Said.TheVariants.{Ask}

-- two loaders
abbrev pub two : List (List ℕ)
two = codes "boot" ∷ codes "app" ∷ []

-- the line makes this request, where there are these two loaders
abbrev pub LineMakes : List ℕ → Request → Type 0
LineMakes line request = ScriptSays two line (Ask request)

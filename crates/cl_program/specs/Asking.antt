-- What the program is asked for.
use Rattle.std.specs.Prelude.{◌≡◌, ℕ, List}
use Rattle.cl_program.specs.declared.asked.Asked.{Asked}
use Rattle.cl_program.specs.declared.asked.Asked.TheVariants.{Bundle, Read, Run}
use Rattle.cl_program.specs.declared.asked.Options.{Options}
use Rattle.cl_program.specs.declared.asked.RunWords.{RunWords}

-- what `run` wants: the paths of a configuration and of a script, and how the script is served and printed
pub record Wanted : Type 0 where
  pub config : List ℕ
  pub script : List ℕ
  pub options : Options

-- the words of `run`, without where they lie
abbrev pub wanted_of : RunWords → Wanted
wanted_of w = record { config = w.config.now; script = w.script.now; options = w.options }

-- a bundle's report is asked for, served and printed so
abbrev pub AsksForBundle : Options → Asked → Type 0
AsksForBundle o (Bundle options) = options ≡ o
AsksForBundle o _ = ⊥

-- this run of a script is asked for
abbrev pub AsksForRun : Wanted → Asked → Type 0
AsksForRun w (Run words) = wanted_of words ≡ w
AsksForRun w _ = ⊥

-- the lines of the file at a path are asked for
abbrev pub AsksForFile : List ℕ → Asked → Type 0
AsksForFile at (Read path) = path.now ≡ at
AsksForFile at _ = ⊥

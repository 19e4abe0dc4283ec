use Rattle.std.proofs.Common.{map}
use Rattle.clap.specs.Words.{kind_of}
use Rattle.classlink.specs.CommandLine.{wrong_words}
use Rattle.classlink.specs.Endings.{Lacks}
use Rattle.classlink.proofs.Ending.{lacking, lacking_reading, lacking_run, lacking_script, taken}
use Rattle.classlink.proofs.Flags.{memory_alone}
use Rattle.classlink.proofs.run.run_over.Goals as goal

pub returns-in-Ok-clause-bundle : goal.returns-in-Ok-clause-bundle
returns-in-Ok-clause-bundle g c = λ o ask. c.run_asked.ensures.bundle o (c.in-Ok.ensures.asked o ask)

pub returns-in-Ok-clause-run : goal.returns-in-Ok-clause-run
returns-in-Ok-clause-run g c = λ w ask. c.run_asked.ensures.run w (c.in-Ok.ensures.run w ask)

pub returns-in-Ok-clause-read : goal.returns-in-Ok-clause-read
returns-in-Ok-clause-read g c = λ path ask. c.run_asked.ensures.read path (c.in-Ok.ensures.read path ask)

pub returns-in-Ok-clause-taken : goal.returns-in-Ok-clause-taken
returns-in-Ok-clause-taken g c = λ none. taken _ _ (g.F.ReadFile.gives c.args.files.now) _ _ c.in-Ok.asked c.in-Ok.ensures.exact c.run_asked.ensures.bundle c.run_asked.ensures.run c.run_asked.ensures.read

pub returns-in-Err-clause-bundle : goal.returns-in-Err-clause-bundle
returns-in-Err-clause-bundle g c = λ o ask. lacking_run _ _ _ _ (lacking _ _ _ (c.in-Err.ensures.asked o ask) c.turn_down.ensures)

pub returns-in-Err-clause-run : goal.returns-in-Err-clause-run
returns-in-Err-clause-run g c = λ w ask. lacking_script (g.F.ReadFile.gives c.args.files.now) w _ _ (lacking _ _ _ (c.in-Err.ensures.run w ask) c.turn_down.ensures)

pub returns-in-Err-clause-read : goal.returns-in-Err-clause-read
returns-in-Err-clause-read g c = λ path ask. lacking_reading _ _ _ _ (lacking _ _ _ (c.in-Err.ensures.read path ask) c.turn_down.ensures)

pub returns-in-Err-clause-taken : goal.returns-in-Err-clause-taken
returns-in-Err-clause-taken g c = λ none.
    let kind = memory_alone (wrong_words (map g.S.AsStr.text c.args.words.now)) c.in-Err.error none c.in-Err.ensures.refused in
    Lacks (lacking _ _ _ kind c.turn_down.ensures)

pub returns-in-Err-clause-other : goal.returns-in-Err-clause-other
returns-in-Err-clause-other g c = λ some. record { kind = kind_of c.in-Err.error; among = c.in-Err.ensures.refused; ends = c.turn_down.ensures }

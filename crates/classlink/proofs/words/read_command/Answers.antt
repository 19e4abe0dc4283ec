use Rattle.std.proofs.Common.{◌≡◌, ◌∙◌, codes, rules}
use Rattle.std.proofs.lemmas.Result.{IfOk-weaker}
use Rattle.clap.specs.Words.{app_of, new_app}
use Rattle.clap.specs.declared.builder.command.Command.TheViews.{out-Command}
use Rattle.classlink.specs.CommandLine.{IsCommand, file}
use Rattle.classlink.proofs.Commands.{adds}
use Rattle.classlink.proofs.words.read_command.Goals as goal

pub returns : goal.returns
returns c =
    let empty : app_of c.after_help.result ≡ app_of c.new.result = search rules in
    let globals : (out-Command c.after_help.result).has_globals ≡ (out-Command c.new.result).has_globals = search rules in
    let is : IsCommand (new_app (codes "read")) c.after_help.result = (empty ∙ c.new.ensures.app, globals ∙ c.new.ensures.local) in
    IfOk-weaker c.arg.result _ _ (λ m h. adds _ c.after_help.result m (file (codes "FILE")) c.file.result is c.file.ensures.rule c.file.ensures.local h) c.arg.ensures

use Rattle.std.proofs.Common.{◌≡◌, ◌∙◌, codes, rules}
use Rattle.std.proofs.lemmas.Result.{IfOk-weaker}
use Rattle.clap.specs.Words.{app_of, new_app}
use Rattle.clap.specs.declared.builder.command.Command.TheViews.{out-Command}
use Rattle.classlink.specs.CommandLine.{IsCommand, answers, workers}
use Rattle.classlink.proofs.Commands.{adds}
use Rattle.classlink.proofs.words.bundle_command.Goals as goal

pub returns : goal.returns
returns c =
    let empty : app_of c.after_help-bundle.result ≡ app_of c.new.result = search rules in
    let globals : (out-Command c.after_help-bundle.result).has_globals ≡ (out-Command c.new.result).has_globals = search rules in
    let is : IsCommand (new_app (codes "bundle")) c.after_help-bundle.result = (empty ∙ c.new.ensures.app, globals ∙ c.new.ensures.local) in
    let workers_in = adds _ c.after_help-bundle.result c.in_ok-arg.field-0 workers c.workers_option.result is c.workers_option.ensures.rule c.workers_option.ensures.local c.in_ok-arg.ensures in
    IfOk-weaker c.arg-2.result _ _ (λ m h. adds _ c.in_ok-arg.field-0 m answers c.answers_flag.result workers_in c.answers_flag.ensures.rule c.answers_flag.ensures.local h) c.arg-2.ensures

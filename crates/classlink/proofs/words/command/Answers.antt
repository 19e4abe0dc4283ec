use Rattle.std.proofs.Common.{◌≡◌, ◌∙◌, rules, ap, ap₂}
use Rattle.std.proofs.lemmas.Result.{IfOk-weaker}
use Rattle.clap.specs.Words.{App, app_of, with_subcommand}
use Rattle.clap.specs.Simple.{app_of_fields}
use Rattle.classlink.specs.CommandLine.{bundle, running, wanting, with_required, with_version}
use Rattle.classlink.proofs.words.command.Goals as goal

pub returns : goal.returns
returns c =
    let version : app_of c.version.result ≡ with_version (app_of c.new.result) = ap app_of_fields c.version.ensures in
    let texts : app_of c.after_help.result ≡ app_of c.version.result = search rules in
    let required : app_of c.subcommand_required.result ≡ with_required (app_of c.after_help.result) = ap app_of_fields c.subcommand_required.ensures in
    let wanting_is : app_of c.subcommand_required.result ≡ wanting = required ∙ ap with_required (texts ∙ version ∙ ap with_version c.new.ensures.app) in
    let first : app_of c.in_ok-program.program ≡ with_subcommand wanting bundle.top =
    c.in_ok-program.ensures.shape c.in_ok-bundle.ensures.1 ∙ ap₂ with_subcommand wanting_is (ap (λ (a : App). a.top) c.in_ok-bundle.ensures.0) in
    let second : app_of c.in_ok-subcommand.field-0 ≡ with_subcommand (with_subcommand wanting bundle.top) running.top =
    c.in_ok-subcommand.ensures.shape c.in_ok-run.ensures.1 ∙ ap₂ with_subcommand first (ap (λ (a : App). a.top) c.in_ok-run.ensures.0) in
    IfOk-weaker c.subcommand-3.result _ _ (λ m h. h.shape c.in_ok-read.ensures.1 ∙ ap₂ with_subcommand second (ap (λ (a : App). a.top) c.in_ok-read.ensures.0)) c.subcommand-3.ensures

use Rattle.std.proofs.Common.{◌≡◌, ◌∙◌, ℕ, All, ap, length, string_bytes, subst, sym}
use Rattle.std.proofs.lemmas.List.{length-map}
use Rattle.cl_config.specs.Views.{Configured, Loader}
use Rattle.cl_model.specs.Texts.{AnswerNames}
use Rattle.classlink_schedules.proofs.play.play.Goals as goal

pub print_report-requires-clause-answers : goal.print_report-requires-clause-answers
print_report-requires-clause-answers g c =
    let seen : c.deref.result.now ≡ c.in_ok-config-2.config.value = cc (c.deref.ensures, c.in_ok-loaders.ensures) in
    let count : length c.in_ok-config-2.config.value.loaders ≡ length c.names-names.result.now =
    sym (ap (λ (k : Configured). length k.loaders) seen) ∙ sym (length-map c.deref.result.now.loaders (λ (l : Loader). l.name)) ∙ sym (ap length c.names-names.ensures) ∙ length-map c.names-names.result.now string_bytes in
    subst (λ (n : ℕ). All (AnswerNames n) c.in_ok-report.report.answers) count c.in_ok-report.ensures.simulated.served.named.answers

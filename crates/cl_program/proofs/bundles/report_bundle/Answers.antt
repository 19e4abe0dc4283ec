use Rattle.std.proofs.Common.{◌≡◌, ℕ, All, string_bytes, subst}
use Rattle.cl_model.specs.Texts.{AnswerNames, EventNames}
use Rattle.cl_program.specs.Faults.{print_fault}
use Rattle.cl_program.specs.declared.fault.Fault.TheVariants.{Bundle, Memory}
use Rattle.cl_program.proofs.Running.{are_lines, by_bundle, by_memory, by_print, by_service, names_count, ran_wrong}
use Rattle.cl_program.proofs.bundles.report_bundle.Goals as goal

pub returns-in_err-config : goal.returns-in_err-config
returns-in_err-config g c =
    ran_wrong (g.I.Read.remaining c.args.input) c.args.options _ c.from_residual-in_err-config.result (Bundle c.in_err-config.field-0.0) c.from_residual-in_err-config.ensures.1
    (by_bundle _ c.args.options _ (string_bytes c.in_ok-text.text) c.in_err-config.field-0.0 c.in_ok-text.ensures.ok (rw c.as_str.ensures.value at c.in_err-config.ensures.bundle))

pub returns-in_err-config-2 : goal.returns-in_err-config-2
returns-in_err-config-2 g c = ran_wrong (g.I.Read.remaining c.args.input) c.args.options _ c.from_residual-in_err-config-2.result Memory c.from_residual-in_err-config-2.ensures.1 (by_memory (g.I.Read.remaining c.args.input) c.args.options _)

pub returns-in_err-loaders : goal.returns-in_err-loaders
returns-in_err-loaders g c = ran_wrong (g.I.Read.remaining c.args.input) c.args.options _ c.from_residual-in_err-loaders.result Memory c.from_residual-in_err-loaders.ensures.1 (by_memory (g.I.Read.remaining c.args.input) c.args.options _)

pub returns-in_err-report : goal.returns-in_err-report
returns-in_err-report g c =
    ran_wrong (g.I.Read.remaining c.args.input) c.args.options _ c.from_residual-in_err-report.result c.in_err-report.field-0.0 c.from_residual-in_err-report.ensures.1
    (by_service _ c.args.options _ (string_bytes c.in_ok-text.text) _ _ _ c.in_err-report.field-0.0 c.in_ok-text.ensures.ok (rw c.as_str.ensures.value at c.in_ok-config.ensures.bundle) c.in_err-report.ensures.unserved)

pub print_report-requires-clause-events : goal.print_report-requires-clause-events
print_report-requires-clause-events g c =
    let seen : c.deref.result.now ≡ c.in_ok-config-2.config.value = cc (c.deref.ensures, c.in_ok-loaders.ensures) in
    let count = names_count string_bytes c.names-names.result.now c.in_ok-config-2.config.value c.deref.result.now c.names-names.ensures seen in
    subst (λ (n : ℕ). All (EventNames n) c.in_ok-report.report.history) count c.in_ok-report.ensures.named.history

pub print_report-requires-clause-answers : goal.print_report-requires-clause-answers
print_report-requires-clause-answers g c =
    let seen : c.deref.result.now ≡ c.in_ok-config-2.config.value = cc (c.deref.ensures, c.in_ok-loaders.ensures) in
    let count = names_count string_bytes c.names-names.result.now c.in_ok-config-2.config.value c.deref.result.now c.names-names.ensures seen in
    subst (λ (n : ℕ). All (AnswerNames n) c.in_ok-report.report.answers) count c.in_ok-report.ensures.named.answers

pub returns-in_err-print_report : goal.returns-in_err-print_report
returns-in_err-print_report g c =
    let bundle = rw c.as_str.ensures.value at c.in_ok-config.ensures.bundle in
    let seen : c.deref.result.now ≡ c.in_ok-config.field-0.config = cc (c.deref.ensures, c.in_ok-loaders.ensures, c.in_ok-config-2.ensures.ok) in
    let lines = are_lines _ c.args.options _ _ _ _ _ _ _ c.in_ok-report.report _ c.in_ok-text.ensures.ok bundle c.in_ok-config-2.ensures.ok c.in_ok-script.ensures.ok c.in_ok-report.ensures.served c.names-names.ensures seen in
    ran_wrong (g.I.Read.remaining c.args.input) c.args.options _ c.from_residual-in_err-print_report.result (print_fault c.in_err-print_report.field-0.0) c.from_residual-in_err-print_report.ensures.1
    (by_print _ c.args.options _ _ c.in_err-print_report.field-0.0 lines c.in_err-print_report.ensures.part)

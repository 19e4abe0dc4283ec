use Rattle.std.proofs.Common.{◌≡◌, ◌∙◌, ℕ, All, string_bytes, subst}
use Rattle.cl_model.specs.Texts.{AnswerNames}
use Rattle.cl_program.specs.Asking.{wanted_of}
use Rattle.cl_program.specs.Faults.{print_fault}
use Rattle.cl_program.specs.declared.fault.Fault.TheVariants.{Memory}
use Rattle.cl_program.proofs.Running.{names_count}
use Rattle.cl_program.proofs.ScriptRunning.{by_memory, by_printing, by_script, by_service, lines_from, script_wrong}
use Rattle.cl_program.proofs.directories.report_with_seed.Goals as goal

pub returns-in_err-script : goal.returns-in_err-script
returns-in_err-script g c =
    script_wrong (g.F.ReadFile.gives c.args.files.now) (wanted_of c.args.words) _ c.from_residual-in_err-script.result c.in_err-script.field-0.0 c.from_residual-in_err-script.ensures.1
    (by_script (g.F.ReadFile.gives c.args.files.now) (wanted_of c.args.words) _ _ c.in_err-script.field-0.0 c.in_ok-config_at.ensures.ok (rw c.with_seed-config.ensures at c.in_err-script.ensures.err))

pub returns-in_err-script-2 : goal.returns-in_err-script-2
returns-in_err-script-2 g c = script_wrong (g.F.ReadFile.gives c.args.files.now) (wanted_of c.args.words) _ c.from_residual-in_err-script-2.result Memory c.from_residual-in_err-script-2.ensures.1 (by_memory (g.F.ReadFile.gives c.args.files.now) (wanted_of c.args.words) _)

pub returns-in_err-report : goal.returns-in_err-report
returns-in_err-report g c =
    script_wrong (g.F.ReadFile.gives c.args.files.now) (wanted_of c.args.words) _ c.from_residual-in_err-report.result c.in_err-report.field-0.0 c.from_residual-in_err-report.ensures.1
    (by_service (g.F.ReadFile.gives c.args.files.now) (wanted_of c.args.words) _ _ _ c.in_err-report.field-0.0 c.in_ok-config_at.ensures.ok (rw c.with_seed-config.ensures at c.in_ok-script.ensures.ok) c.in_err-report.ensures.unserved)

pub print_report-requires-clause-answers : goal.print_report-requires-clause-answers
print_report-requires-clause-answers g c =
    let seen : c.deref.result.now ≡ c.in_ok-config.config.value = cc (c.deref.ensures, c.in_ok-loaders.ensures) in
    let count = names_count string_bytes c.names-names.result.now c.in_ok-config.config.value c.deref.result.now c.names-names.ensures seen in
    subst (λ (n : ℕ). All (AnswerNames n) c.in_ok-report.report.answers) count c.in_ok-report.ensures.named.answers

pub returns-in_err-print_report : goal.returns-in_err-print_report
returns-in_err-print_report g c =
    let held : c.in_ok-config.config.value ≡ c.in_ok-config_at.field-0 = c.in_ok-config.ensures.ok ∙ c.with_seed-config.ensures in
    let seen : c.deref.result.now ≡ c.in_ok-config_at.field-0 = cc (c.deref.ensures, c.in_ok-loaders.ensures, held) in
    let scripted = rw c.with_seed-config.ensures at c.in_ok-script.ensures.ok in
    let lines = lines_from (g.F.ReadFile.gives c.args.files.now) (wanted_of c.args.words) _ _ _ _ _ c.in_ok-report.report _ c.in_ok-config_at.ensures.ok scripted held c.in_ok-script-2.ensures.ok c.in_ok-report.ensures.served c.names-names.ensures seen in
    script_wrong (g.F.ReadFile.gives c.args.files.now) (wanted_of c.args.words) _ c.from_residual-in_err-print_report.result (print_fault c.in_err-print_report.field-0.0) c.from_residual-in_err-print_report.ensures.1
    (by_printing (g.F.ReadFile.gives c.args.files.now) (wanted_of c.args.words) _ _ c.in_err-print_report.field-0.0 lines c.in_err-print_report.ensures.part)

pub returns : goal.returns
returns g c =
    let held : c.in_ok-config.config.value ≡ c.in_ok-config_at.field-0 = c.in_ok-config.ensures.ok ∙ c.with_seed-config.ensures in
    let seen : c.deref.result.now ≡ c.in_ok-config_at.field-0 = cc (c.deref.ensures, c.in_ok-loaders.ensures, held) in
    let scripted = rw c.with_seed-config.ensures at c.in_ok-script.ensures.ok in
    let lines = lines_from (g.F.ReadFile.gives c.args.files.now) (wanted_of c.args.words) _ _ _ _ _ c.in_ok-report.report _ c.in_ok-config_at.ensures.ok scripted held c.in_ok-script-2.ensures.ok c.in_ok-report.ensures.served c.names-names.ensures seen in
    record { lines = _; are = lines; whole = c.in_ok-print_report.ensures.lines }

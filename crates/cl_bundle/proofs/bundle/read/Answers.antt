use Rattle.cl_bundle.specs.Cuts.{sections_of}
use Rattle.cl_bundle.specs.declared.fault.BundleFault.TheVariants.{Script}
use Rattle.cl_bundle.proofs.Refusals.{by_class, by_config, by_line, by_script, no_bundle}
use Rattle.cl_bundle.proofs.bundle.read.Goals as goal

pub returns-in_err-sections-clause-bundle : goal.returns-in_err-sections-clause-bundle
returns-in_err-sections-clause-bundle c =
    no_bundle c.args.text.now c.from_residual.result c.in_err-sections.field-0.0 c.from_residual.ensures.1 (by_line c.args.text.now _ c.in_err-sections.ensures)

pub returns-in_err-config-clause-bundle : goal.returns-in_err-config-clause-bundle
returns-in_err-config-clause-bundle c =
    no_bundle c.args.text.now c.from_residual-in_err-config.result c.in_err-config.field-0.0 c.from_residual-in_err-config.ensures.1
    (by_config c.args.text.now (sections_of c.in_ok-sections.sections) _ c.in_ok-sections.ensures c.in_err-config.ensures)

pub returns-in_err-source-clause-bundle : goal.returns-in_err-source-clause-bundle
returns-in_err-source-clause-bundle c =
    no_bundle c.args.text.now c.from_residual-in_err-source.result c.in_err-source.field-0.0 c.from_residual-in_err-source.ensures.1
    (by_class c.args.text.now (sections_of c.in_ok-sections.sections) c.in_ok-config.config _ c.in_ok-sections.ensures c.in_ok-config.ensures c.in_err-source.ensures)

pub returns-in_err-script-clause-bundle : goal.returns-in_err-script-clause-bundle
returns-in_err-script-clause-bundle c =
    no_bundle c.args.text.now c.from_residual-in_err-script.result (Script c.in_err-script.field-0.0) c.from_residual-in_err-script.ensures.1
    (by_script c.args.text.now (sections_of c.in_ok-sections.sections) c.in_ok-config.config c.in_ok-source.source _ c.in_ok-sections.ensures c.in_ok-config.ensures c.in_ok-source.ensures c.in_err-script.ensures.read)

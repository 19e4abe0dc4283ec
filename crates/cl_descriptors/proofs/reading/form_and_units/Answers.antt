use Rattle.std.proofs.Common.{sym, ◌∙◌}
use Rattle.cl_descriptors.proofs.Forms.{method_first, field_else}
use Rattle.cl_descriptors.proofs.reading.form_and_units.Goals as goal

pub returns-in-Some-clause-form : goal.returns-in-Some-clause-form
returns-in-Some-clause-form c = c.in-Some.is ∙ sym (method_first c.args.bytes.now c.in-Some.field-0 (sym c.method_form_and_units-form.ensures.form ∙ c.in-Some.is))

pub returns-in-None-clause-form : goal.returns-in-None-clause-form
returns-in-None-clause-form c = c.field_form.ensures ∙ sym (field_else c.args.bytes.now (sym c.method_form_and_units-form.ensures.form ∙ c.in-None.is))

use Rattle.std.proofs.Common.{◌∙◌, sym}
use Rattle.cl_names.proofs.Walks.{single_text}
use Rattle.cl_names.proofs.marks.Marks.has_text.Goals as goal

pub returns-then-self : goal.returns-then-self
returns-then-self c = c.if-self.true ∙ sym (single_text c.args.bytes.now (sym c.requires ∙ c.if-self.true))

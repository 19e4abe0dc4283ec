use Rattle.std.proofs.Common.{◌∙◌, sym}
use Rattle.cl_classfile.proofs.mentions.Mentions.first.Goals as goal

pub returns-in-Some : goal.returns-in-Some
returns-in-Some c = λ pool interfaces are. are c.args.place c.in-Some.first (sym c.first_at.ensures ∙ c.in-Some.is)

use Rattle.std.proofs.Common.{rules, refl}
use Rattle.cl_hierarchy.specs.Drafts.{ByGrammar}
use Rattle.cl_hierarchy.proofs.draft.Draft.read.Goals as goal

pub returns-in-Ok : goal.returns-in-Ok
unfolding ByGrammar
returns-in-Ok g c = rw c.refuse-in-Ok.ensures (refl, (c.in-Ok.file, rw c.bytes.ensures.bytes at c.in-Ok.ensures.found, search rules))

use Rattle.cl_bundle.proofs.Alone.{one_content, one_stored}
use Rattle.cl_bundle.proofs.laws.section_has_one_content.Goals as goal

pub returns-clause-content : goal.returns-clause-content
returns-clause-content c = one_content

pub returns-clause-stored : goal.returns-clause-stored
returns-clause-stored c = one_stored

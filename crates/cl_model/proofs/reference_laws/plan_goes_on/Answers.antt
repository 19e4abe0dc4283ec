use Rattle.cl_model.proofs.Gone.{load_goes_on, resolve_goes_on, link_goes_on}
use Rattle.cl_model.proofs.reference_laws.plan_goes_on.Goals as goal

pub returns-clause-load : goal.returns-clause-load
returns-clause-load c = load_goes_on

pub returns-clause-resolve : goal.returns-clause-resolve
returns-clause-resolve c = resolve_goes_on

pub returns-clause-link : goal.returns-clause-link
returns-clause-link c = link_goes_on

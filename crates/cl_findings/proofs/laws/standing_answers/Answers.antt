use Rattle.cl_findings.proofs.Answered.{standing_answers, standing_settles, standing_comes}
use Rattle.cl_findings.proofs.laws.standing_answers.Goals as goal

pub returns-clause-request : goal.returns-clause-request
returns-clause-request c = standing_answers

pub returns-clause-reference : goal.returns-clause-reference
returns-clause-reference c = standing_settles

pub returns-clause-link : goal.returns-clause-link
returns-clause-link c = standing_comes

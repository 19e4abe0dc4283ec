use Rattle.cl_findings.proofs.Carried.{refusal_is_borne}
use Rattle.cl_findings.proofs.laws.refusal_is_borne.Goals as goal

pub returns : goal.returns
returns c = refusal_is_borne

use Rattle.cl_findings.proofs.References.{fault_rests}
use Rattle.cl_findings.proofs.finding.Finding.member_fault.Goals as goal

pub with_verdict-requires : goal.with_verdict-requires
with_verdict-requires g c =
    fault_rests g.T.Told.told c.args.request c.args.d c.args.c c.args.verdict c.requires.reference c.class.ensures.kept.lineage c.class-2.ensures.kept.lineage c.requires.lookup

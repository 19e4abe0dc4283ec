use Rattle.cl_findings.proofs.References.{entry_rests}
use Rattle.cl_findings.proofs.finding.Finding.entry.Goals as goal

pub with_verdict-requires : goal.with_verdict-requires
with_verdict-requires g c =
    let spelt = rw c.deref.ensures at c.class.ensures.spelt in
    entry_rests g.T.Told.told c.args.config.value c.args.request c.args.d.value c.args.verdict c.requires.ends spelt

use Rattle.cl_findings.proofs.References.{class_entry_rests}
use Rattle.cl_findings.proofs.finding.Finding.class_entry.Goals as goal

pub with_verdict-requires : goal.with_verdict-requires
with_verdict-requires g c =
    let spelt = rw c.deref.ensures at c.class.ensures.spelt in
    let other = rw c.deref-2.ensures at c.class-2.ensures.spelt in
    class_entry_rests g.T.Told.told c.args.config.value c.args.request c.args.d.value c.args.c.value c.args.verdict c.requires.ends spelt other

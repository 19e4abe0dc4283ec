use Rattle.cl_findings.proofs.Links.{link_rests_kept}
use Rattle.cl_findings.proofs.finding.Finding.refused_link.Goals as goal

pub with_verdict-requires : goal.with_verdict-requires
with_verdict-requires g c =
    let listed = rw c.deref.ensures at c.needs.ensures.kept in
    link_rests_kept g.T.Told.told c.args.request c.args.lineage c.args.place c.args.equalities.value c.args.index c.args.need c.requires.link c.class.ensures.kept.order c.class.ensures.kept.lineage listed c.requires.need

use Rattle.std.proofs.Common.{ℕ, map, subst, sym}
use Rattle.std.proofs.lemmas.List.{length-map}
use Rattle.cl_findings.specs.References.{AreLinked}
use Rattle.cl_findings.proofs.Links.{imposed_rests_kept}
use Rattle.cl_findings.proofs.finding.Finding.refused_link_after.Goals as goal

pub with_verdict-requires : goal.with_verdict-requires
with_verdict-requires g c =
    let es = map (λ e. e.value) c.args.earlier.items in
    let e = c.args.equalities.value in
    let listed = rw c.deref.ensures at c.needs.ensures.kept in
    let all = rw c.as_slice.ensures.value at c.bring_lists.ensures in
    let link = subst (λ (n : ℕ). AreLinked c.args.request c.args.lineage n e.origin) (sym (length-map c.args.earlier.items (λ x. x.value))) c.requires.link in
    imposed_rests_kept g.T.Told.told c.args.request c.args.lineage es e c.args.index c.args.need link c.requires.earlier c.class.ensures.kept.order c.class.ensures.kept.lineage all listed c.requires.need

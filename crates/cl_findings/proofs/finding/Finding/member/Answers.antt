use Rattle.std.proofs.Common.{List, ap, length, ◌∙◌}
use Rattle.cl_model.specs.declared.need.Equality.{Equality}
use Rattle.cl_findings.specs.Findings.{Based, grounded_answer}
use Rattle.cl_findings.proofs.References.{member_kept, member_rests_kept}
use Rattle.cl_findings.proofs.finding.Finding.member.Goals as goal

pub with_verdict-requires : goal.with_verdict-requires
with_verdict-requires g c =
    let one = rw c.d.ensures.d at c.class.ensures.kept in
    let other = rw c.c.ensures.c at c.class-2.ensures.kept in
    let of = rw c.deref.ensures at c.needs-met.ensures.kept.are in
    let many = rw c.deref.ensures at c.needs-met.ensures.needs in
    member_rests_kept g.T.Told.told c.args.request c.args.found.now c.args.equalities.value c.args.verdict (length c.needs-met.result.now) c.requires.reference one.lineage other.lineage c.index.ensures.kept c.requires.origin of c.requires.verdict
    (ap (λ (es : List Equality). length es) many)

pub returns : goal.returns
returns g c =
    let many = rw c.deref.ensures at c.needs-met.ensures.needs in
    c.with_verdict.ensures
    ∙ ap (λ (b : Based). grounded_answer c.args.request c.args.verdict b) (member_kept c.args.request c.args.found.now c.args.equalities.value (length c.needs-met.result.now) c.requires.origin (ap (λ (es : List Equality). length es) many))

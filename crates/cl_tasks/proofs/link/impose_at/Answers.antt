use Rattle.std.proofs.Common.{◌≡◌, length, refl, arith}
use Rattle.cl_tasks.proofs.PreparationLeads.{IsKnown, impose_leads, mark_leads}
use Rattle.cl_tasks.proofs.link.impose_at.Goals as goal

pub returns-then-place-count_needs-clause-leads : goal.returns-then-place-count_needs-clause-leads
returns-then-place-count_needs-clause-leads g c =
    let kept = c.class.ensures.kept in
    let listed = rw c.deref.ensures at c.count_needs.ensures.kept in
    let known : IsKnown g.T.Told.told c.args.chain c.args.list.value = record { place = c.requires.list; order = kept.order; whole = kept.lineage; listed = listed } in
    let lt = rw (c.count_needs.ensures.count, c.deref.ensures) at c.if-place-count_needs.true in
    impose_leads g.T.Told.told c.args.config.now.value c.args.chain c.args.list.value c.requires.chain known c.args.place c.args.list c.in-Ok.shared refl c.in-Ok.ensures lt

pub returns-else-place-count_needs-clause-leads : goal.returns-else-place-count_needs-clause-leads
returns-else-place-count_needs-clause-leads g c =
    let kept = c.class.ensures.kept in
    let listed = rw c.deref.ensures at c.count_needs.ensures.kept in
    let known : IsKnown g.T.Told.told c.args.chain c.args.list.value = record { place = c.requires.list; order = kept.order; whole = kept.lineage; listed = listed } in
    let lt = rw (c.count_needs.ensures.count, c.deref.ensures) at c.if-place-count_needs.false in
    let le = c.requires.within in
    let all : c.args.place ≡ length c.args.list.value.needs = omega (arith, lt, le) in
    mark_leads g.T.Told.told c.args.config.now.value c.args.chain c.args.list.value c.requires.chain known c.args.place c.args.list c.in-Ok.shared refl c.in-Ok.ensures all

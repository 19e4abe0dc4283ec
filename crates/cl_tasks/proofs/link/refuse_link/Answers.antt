use Rattle.std.proofs.Common.{◌∙◌}
use Rattle.std.proofs.lemmas.Option.{slice_get-map}
use Rattle.cl_hierarchy.specs.Imposed.{equal_need}
use Rattle.cl_tasks.proofs.PreparationLeads.{IsKnown, refused_leads}
use Rattle.cl_tasks.proofs.link.refuse_link.Goals as goal

pub refused_link-finding-requires-clause-need : goal.refused_link-finding-requires-clause-need
refused_link-finding-requires-clause-need g c = slice_get-map equal_need c.args.list.value.needs c.args.place ∙ c.requires.need

pub returns-clause-leads : goal.returns-clause-leads
returns-clause-leads g c =
    let kept = c.class.ensures.kept in
    let listed = rw c.deref.ensures at c.needs.ensures.kept in
    let known : IsKnown g.T.Told.told c.args.chain c.args.list.value = record { place = c.requires.list; order = kept.order; whole = kept.lineage; listed = listed } in
    let is = slice_get-map equal_need c.args.list.value.needs c.args.place ∙ c.requires.need in
    rw c.post.ensures
    (refused_leads g.T.Told.told c.args.config.now.value c.args.chain c.args.list.value c.requires.chain known c.args.place c.refused_link-finding.result c.args.need is c.refused_link-finding.ensures)

use Rattle.std.proofs.Common.{◌∙◌}
use Rattle.std.proofs.lemmas.Option.{slice_get-map}
use Rattle.cl_hierarchy.specs.Imposed.{equal_need}
use Rattle.cl_tasks.proofs.MemberLeads.{refused_leads}
use Rattle.cl_tasks.proofs.member.refuse_member.Goals as goal

pub returns-clause-leads : goal.returns-clause-leads
returns-clause-leads g c =
    rw c.settle.ensures
    (refused_leads g.T.Told.told c.args.config.now.value c.args.member c.requires.member c.args.place c.in-Ok.kept c.refused_member-finding.result c.args.need c.in-Ok.ensures
    c.refused_member-finding.ensures c.answer.ensures.rests)

pub refused_member-finding-requires-clause-need : goal.refused_member-finding-requires-clause-need
refused_member-finding-requires-clause-need g c = slice_get-map equal_need c.args.member.equalities.value.needs c.args.place ∙ c.requires.need

use Rattle.std.proofs.Common.{length}
use Rattle.cl_hierarchy.specs.Imposed.{IsListed}
use Rattle.cl_tasks.specs.Resolving.{TracedTold}
use Rattle.cl_tasks.specs.Rooms.{tracing_named_room}
use Rattle.cl_tasks.specs.Stages.{IsMember}
use Rattle.cl_tasks.specs.declared.stage.Member.{Member}
use Rattle.cl_tasks.proofs.Lead.{leads_by}
use Rattle.cl_tasks.proofs.MemberFacts.{found_member, member_told}
use Rattle.cl_tasks.proofs.MemberLeads.{member_room, member_within}
use Rattle.cl_tasks.proofs.Fall.{needs_few}
use Rattle.cl_tasks.proofs.member.find.Goals as goal

pub returns-in-Ok-equalities_of-clause-leads : goal.returns-in-Ok-equalities_of-clause-leads
returns-in-Ok-equalities_of-clause-leads g c =
    let m : Member g.row.T.Denot = record { entry = c.args.entry; found = c.in-Ok.found; equalities = c.in-Ok-equalities_of.equalities } in
    let counted = rw c.deref.ensures at c.count_needs.ensures.count in
    let few = needs_few (length m.equalities.value.needs) c.count_needs.result c.count_needs.type_inv counted in
    let of = c.in-Ok.ensures.of in
    let known : IsListed g.T.Told.told m.equalities.value = rw c.deref.ensures at c.count_needs.ensures.kept in
    let member : IsMember c.args.config.now.value m = found_member c.args.config.now.value m c.args.own c.args.named c.requires.entry c.requires.own c.requires.goes of c.in-Ok-equalities_of.ensures in
    leads_by tracing_named_room (TracedTold c.args.entry c.args.own c.args.named) c.impose.ensures.leads (member_room (length m.equalities.value.needs) few)
    (member_within g.T.Told.told c.args.config.now.value m c.args.own c.args.named member c.requires.own of.from of.through known)
    (λ x h. member_told c.args.config.now.value x m c.args.own c.args.named c.requires.own of.from of.through h)

use Rattle.std.proofs.Common.{length}
use Rattle.cl_tasks.specs.Linking.{LineageTold}
use Rattle.cl_tasks.specs.Rooms.{listed_room}
use Rattle.cl_tasks.proofs.Lead.{leads_out}
use Rattle.cl_tasks.proofs.LinkLeads.{chain_some_turns, listed_post}
use Rattle.cl_tasks.proofs.PreparationLeads.{IsKnown, at_place, listed_leads}
use Rattle.cl_tasks.proofs.Fall.{needs_few}
use Rattle.cl_tasks.proofs.link.take_traced.Goals as goal

pub returns-in-Err-clause-leads : goal.returns-in-Err-clause-leads
returns-in-Err-clause-leads g c =
    let k = c.args.chain in
    leads_out g.T.Told.told c.args.config.now.value k.goal.q k.goal.request (listed_room k) (LineageTold k c.args.lineage.now) (LineageTold k c.args.lineage.now) c.give_up.ensures c.requires.chain.goal.asked
    (chain_some_turns c.args.config.now.value k c.requires.chain) (listed_post c.args.config.now.value k c.requires.chain c.class.ensures.kept.order)

pub impose-requires-clause-list : goal.impose-requires-clause-list
impose-requires-clause-list g c = at_place c.args.config.now.value c.args.chain c.args.lineage.now c.in-Ok.list.value c.requires.chain c.requires.lineage c.in-Ok.ensures

pub returns-in-Ok-clause-leads : goal.returns-in-Ok-clause-leads
returns-in-Ok-clause-leads g c =
    let k = c.args.chain in
    let conf = c.args.config.now.value in
    let counted = rw c.deref.ensures at c.count_needs.ensures.count in
    let few = needs_few (length c.in-Ok.list.value.needs) c.count_needs.result c.count_needs.type_inv counted in
    let kept = c.class.ensures.kept in
    let listed = rw c.deref.ensures at c.count_needs.ensures.kept in
    let place = at_place conf k c.args.lineage.now c.in-Ok.list.value c.requires.chain c.requires.lineage c.in-Ok.ensures in
    let known : IsKnown g.T.Told.told k c.in-Ok.list.value = record { place = place; order = kept.order; whole = kept.lineage; listed = listed } in
    listed_leads g.T.Told.told conf k c.in-Ok.list.value c.requires.chain known c.args.lineage.now c.in-Ok.ensures few c.impose.ensures.leads

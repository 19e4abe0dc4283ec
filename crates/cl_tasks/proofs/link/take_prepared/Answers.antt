use Rattle.cl_tasks.specs.Linking.{PreparedTold}
use Rattle.cl_tasks.specs.Rooms.{prepared_room}
use Rattle.cl_tasks.proofs.Lead.{leads_by}
use Rattle.cl_tasks.proofs.LinkLeads.{one_call, one_prepared, post_calls}
use Rattle.cl_tasks.proofs.link.take_prepared.Goals as goal

pub returns-then-prepared-clause-leads : goal.returns-then-prepared-clause-leads
returns-then-prepared-clause-leads g c =
    leads_by prepared_room (PreparedTold c.args.goal c.args.prepared) c.post_linked.ensures.leads one_prepared
    (post_calls g.T.Told.told c.args.config.now.value (PreparedTold c.args.goal c.args.prepared) c.args.goal.request 0 2 1 3 (one_call 2)) (λ x h. record { before = h.before; now = h.now c.if-prepared.true })

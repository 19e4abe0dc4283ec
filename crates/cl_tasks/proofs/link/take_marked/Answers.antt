use Rattle.std.proofs.Common.{◌-◌, ◌+◌, length}
use Rattle.cl_hierarchy.specs.Lineages.{rows_in}
use Rattle.cl_tasks.specs.Calls.{past_loads}
use Rattle.cl_tasks.specs.Linking.{MarkedTold}
use Rattle.cl_tasks.specs.Measures.{chain_left}
use Rattle.cl_tasks.specs.Rooms.{marked_room}
use Rattle.cl_tasks.specs.Stages.{behind, chain_calls}
use Rattle.cl_tasks.proofs.Lead.{leads_by}
use Rattle.cl_tasks.proofs.LinkLeads.{last_told, marked_told, next_turns, one_call, one_turn, post_calls, stay}
use Rattle.cl_tasks.proofs.link.take_marked.Goals as goal

pub returns-then-place-count_above-clause-leads : goal.returns-then-place-count_above-clause-leads
returns-then-place-count_above-clause-leads g c =
    let k = c.args.chain in
    let le = rw c.count_above.ensures at c.if-place-count_above.true in
    leads_by (marked_room k) (MarkedTold k) c.post_linked.ensures.leads (one_turn (chain_left (behind k - 1)) 0)
    (post_calls g.T.Told.told c.args.config.now.value (MarkedTold k) k.goal.request 0 0 0 (chain_calls k.whole (k.place + 1) + 1) (one_call (chain_calls k.whole (k.place + 1))))
    (λ x h. last_told c.args.config.now.value x k c.requires.chain le h)

pub returns-clause-leads : goal.returns-clause-leads
returns-clause-leads g c =
    let k = c.args.chain in
    leads_by (marked_room k) (MarkedTold k) c.trace.ensures.leads (next_turns (length (rows_in k.whole)) k.place)
    (stay g.T.Told.told c.args.config.now.value (MarkedTold k) k.goal.request (past_loads 0 0 (chain_calls k.whole (k.place + 1) + 1)))
    (λ x h. marked_told c.args.config.now.value x k c.requires.chain h)

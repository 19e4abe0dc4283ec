use Rattle.std.proofs.Common.{length}
use Rattle.cl_hierarchy.specs.Lineages.{rows_in}
use Rattle.cl_tasks.specs.Linking.{CountedTold}
use Rattle.cl_tasks.specs.Rooms.{counted_room}
use Rattle.cl_tasks.proofs.Lead.{leads_by}
use Rattle.cl_tasks.proofs.LinkLeads.{counted_calls, counted_chain, counted_told, counted_turns}
use Rattle.cl_tasks.proofs.link.take_counted.Goals as goal

pub trace-requires : goal.trace-requires
trace-requires g c = record { chain = counted_chain c.args.config.now.value c.args.goal c.args.whole c.args.count c.requires.goal c.requires.whole c.requires.within }

pub returns-clause-leads : goal.returns-clause-leads
returns-clause-leads g c =
    let l = c.args.whole in
    let n = c.args.count in
    leads_by (counted_room l) (CountedTold c.args.goal l n) c.trace.ensures.leads (counted_turns (length (rows_in l)) n)
    (counted_calls g.T.Told.told c.args.config.now.value c.args.goal l n)
    (λ x h. counted_told x c.args.goal l n c.requires.within h)

use Rattle.std.proofs.Common.{◌+◌, length, refl}
use Rattle.cl_hierarchy.specs.Lineages.{rows_in}
use Rattle.cl_tasks.specs.Measures.{chain_left}
use Rattle.cl_tasks.specs.Stages.{linking_at}
use Rattle.cl_tasks.specs.declared.stage.Link.TheVariants as links
use Rattle.cl_tasks.proofs.Lead.{steps_memory}
use Rattle.cl_tasks.proofs.LinkSteps.{counted_post, counted_steps, some_left}
use Rattle.cl_tasks.proofs.link_replies.after_prepared_count.Goals as goal

pub take_counted-requires-clause-within : goal.take_counted-requires-clause-within
take_counted-requires-clause-within g c = rw c.in-CountedPrepared.is at c.requires.expects

pub returns-in-CountedPrepared : goal.returns-in-CountedPrepared
returns-in-CountedPrepared g c =
    rw c.in-CountedPrepared.is
    (counted_steps g.T.Told.told c.args.config.now.value c.args.goal c.args.whole c.in-CountedPrepared.count c.take_counted.result c.take_counted.ensures.leads c.take_counted.ensures.plain c.take_counted.ensures.past)

pub returns-in-Memory : goal.returns-in-Memory
returns-in-Memory g c =
    rw (c.in-Memory.is, c.out_of_memory.ensures)
    (steps_memory g.T.Told.told (linking_at c.args.config.now.value (links.Counting c.args.goal c.args.whole)) c.args.goal.request refl c.requires.goal.asked (some_left (chain_left (length (rows_in c.args.whole))) 0)
    (counted_post c.args.config.now.value c.args.goal c.args.whole))

use Rattle.std.proofs.Common.{refl}
use Rattle.cl_tasks.specs.Measures.{chain_left, most, whole_left}
use Rattle.cl_tasks.specs.Stages.{linking_at}
use Rattle.cl_tasks.specs.declared.stage.Link.TheVariants as links
use Rattle.cl_tasks.proofs.Lead.{steps_memory}
use Rattle.cl_tasks.proofs.LinkSteps.{past_post, some_left, whole_steps}
use Rattle.cl_tasks.proofs.link_replies.after_whole_lineage.Goals as goal

pub returns-in-Lineage : goal.returns-in-Lineage
returns-in-Lineage g c =
    rw c.in-Lineage.is (whole_steps g.T.Told.told c.args.config.now.value c.args.goal c.in-Lineage.whole c.take_whole.result c.take_whole.ensures.leads c.take_whole.ensures.plain c.take_whole.ensures.past)

pub returns-in-Memory : goal.returns-in-Memory
returns-in-Memory g c =
    rw (c.in-Memory.is, c.out_of_memory.ensures)
    (steps_memory g.T.Told.told (linking_at c.args.config.now.value (links.TracingWhole c.args.goal)) c.args.goal.request refl c.requires.goal.asked (some_left (chain_left most) 1) (past_post whole_left 1))

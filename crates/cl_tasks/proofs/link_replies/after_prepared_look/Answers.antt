use Rattle.std.proofs.Common.{refl}
use Rattle.cl_tasks.specs.Measures.{chain_left, most, prepared_left}
use Rattle.cl_tasks.specs.Stages.{linking_at}
use Rattle.cl_tasks.specs.declared.stage.Link.TheVariants as links
use Rattle.cl_tasks.proofs.Lead.{steps_memory}
use Rattle.cl_tasks.proofs.LinkSteps.{past_post, prepared_steps, some_left}
use Rattle.cl_tasks.proofs.link_replies.after_prepared_look.Goals as goal

pub returns-in-LookedPrepared : goal.returns-in-LookedPrepared
returns-in-LookedPrepared g c =
    rw c.in-LookedPrepared.is
    (prepared_steps g.T.Told.told c.args.config.now.value c.args.goal c.in-LookedPrepared.prepared c.take_prepared.result c.take_prepared.ensures.leads c.take_prepared.ensures.own c.take_prepared.ensures.plain c.take_prepared.ensures.past)

pub returns-in-Memory : goal.returns-in-Memory
returns-in-Memory g c =
    rw (c.in-Memory.is, c.out_of_memory.ensures)
    (steps_memory g.T.Told.told (linking_at c.args.config.now.value (links.LookingPrepared c.args.goal)) c.args.goal.request refl c.requires.goal.asked (some_left (chain_left most) 2) (past_post prepared_left 2))

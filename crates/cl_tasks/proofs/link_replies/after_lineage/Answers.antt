use Rattle.std.proofs.Common.{refl}
use Rattle.cl_tasks.specs.Stages.{linking_at}
use Rattle.cl_tasks.specs.declared.stage.Link.TheVariants as links
use Rattle.cl_tasks.proofs.Lead.{steps_memory}
use Rattle.cl_tasks.proofs.LinkLeads.{chain_some_turns}
use Rattle.cl_tasks.proofs.LinkSteps.{traced_post, traced_steps}
use Rattle.cl_tasks.proofs.link_replies.after_lineage.Goals as goal

pub returns-in-Lineage : goal.returns-in-Lineage
returns-in-Lineage g c =
    rw c.in-Lineage.is (traced_steps g.T.Told.told c.args.config.now.value c.args.chain c.in-Lineage.lineage c.take_traced.result c.take_traced.ensures.leads c.take_traced.ensures.plain c.take_traced.ensures.past)

pub returns-in-Memory : goal.returns-in-Memory
returns-in-Memory g c =
    rw (c.in-Memory.is, c.give_up.ensures)
    (steps_memory g.T.Told.told (linking_at c.args.config.now.value (links.Tracing c.args.chain)) c.args.chain.goal.request refl c.requires.chain.goal.asked (chain_some_turns c.args.config.now.value c.args.chain c.requires.chain)
    (traced_post c.args.config.now.value c.args.chain c.requires.chain c.class.ensures.kept.order))

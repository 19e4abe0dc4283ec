use Rattle.std.proofs.Common.{◌-◌, ◌+◌, refl}
use Rattle.cl_tasks.specs.Measures.{chain_left, linking_left}
use Rattle.cl_tasks.specs.Stages.{behind, chain_calls, linking_at}
use Rattle.cl_tasks.specs.declared.stage.Link.TheVariants as links
use Rattle.cl_tasks.proofs.Lead.{steps_memory}
use Rattle.cl_tasks.proofs.LinkSteps.{list_post, marked_steps, some_left}
use Rattle.cl_tasks.proofs.link_replies.after_mark.Goals as goal

pub returns-in-Marked : goal.returns-in-Marked
returns-in-Marked g c =
    rw c.in-Marked.is (marked_steps g.T.Told.told c.args.config.now.value c.args.chain c.args.list c.take_marked.result c.requires.chain c.requires.list c.take_marked.ensures.leads c.take_marked.ensures.plain c.take_marked.ensures.past)

pub returns-in-Memory : goal.returns-in-Memory
returns-in-Memory g c =
    rw (c.in-Memory.is, c.give_up.ensures)
    (steps_memory g.T.Told.told (linking_at c.args.config.now.value (links.Marking c.args.chain c.args.list)) c.args.chain.goal.request refl c.requires.chain.goal.asked (some_left (chain_left (behind c.args.chain - 1)) 0)
    (list_post (linking_left (behind c.args.chain - 1) 0) (chain_calls c.args.chain.whole (c.args.chain.place + 1)) 0))

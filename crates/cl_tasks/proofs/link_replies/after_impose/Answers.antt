use Rattle.std.proofs.Common.{◌-◌, ◌+◌, length, refl}
use Rattle.cl_tasks.specs.Measures.{chain_left, linking_left}
use Rattle.cl_tasks.specs.Stages.{behind, chain_calls, linking_at}
use Rattle.cl_tasks.specs.declared.stage.Link.TheVariants as links
use Rattle.cl_tasks.proofs.Lead.{steps_memory}
use Rattle.cl_tasks.proofs.LinkSteps.{imposed_steps, list_post, refused_steps, some_left}
use Rattle.cl_tasks.proofs.link_replies.after_impose.Goals as goal

pub returns-in-Imposed : goal.returns-in-Imposed
returns-in-Imposed g c =
    rw c.in-Imposed.is
    (imposed_steps g.T.Told.told c.args.config.now.value c.args.chain c.args.list c.args.place c.impose.result c.requires.list c.requires.within c.impose.ensures.leads c.impose.ensures.plain c.impose.ensures.past)

pub returns-in-Refused : goal.returns-in-Refused
returns-in-Refused g c =
    rw c.in-Refused.is
    (refused_steps g.T.Told.told c.args.config.now.value c.args.chain c.args.list c.args.place c.in-Refused.need c.refuse_link.result c.refuse_link.ensures.leads c.refuse_link.ensures.plain c.refuse_link.ensures.past c.refuse_link.ensures.ends c.refuse_link.ensures.lacks)

pub returns-in-Memory : goal.returns-in-Memory
returns-in-Memory g c =
    rw (c.in-Memory.is, c.give_up.ensures)
    (steps_memory g.T.Told.told (linking_at c.args.config.now.value (links.Imposing c.args.chain c.args.list c.args.place)) c.args.chain.goal.request refl c.requires.chain.goal.asked
    (some_left (chain_left (behind c.args.chain - 1)) (length c.args.list.value.needs - c.args.place))
    (list_post (linking_left (behind c.args.chain - 1) (length c.args.list.value.needs - c.args.place)) (chain_calls c.args.chain.whole (c.args.chain.place + 1)) (length c.args.list.value.needs - c.args.place)))

use Rattle.cl_tasks.proofs.EntrySteps.{reference_steps}
use Rattle.cl_tasks.proofs.resolution_replies.after_reference_look.Goals as goal

pub returns-in-LookedReference : goal.returns-in-LookedReference
returns-in-LookedReference g c =
    rw c.in-LookedReference.is
    (reference_steps g.T.Told.told c.args.config.now.value c.args.entry c.in-LookedReference.settled c.take_reference.result c.take_reference.ensures.leads c.take_reference.ensures.own c.take_reference.ensures.plain c.take_reference.ensures.derives)

use Rattle.std.proofs.Common.{length}
use Rattle.cl_tasks.proofs.LinkFacts.{met_of_same, own_met, until_end}
use Rattle.cl_tasks.proofs.link.next_of_two.Goals as goal

pub returns-then-ne-clause-met : goal.returns-then-ne-clause-met
returns-then-ne-clause-met g c = λ s h. met_of_same s c.args.place c.loop-at.at c.needs-needs.result.now c.args.list.now.needs c.needs-needs.ensures.needs (c.loop-at.invariant s) h

pub loop-at-preserved : goal.loop-at-preserved
loop-at-preserved g c = λ s h. own_met s c.needs-needs.result.now c.loop-at.at c.index-needs-at.result c.index-needs-at-in-loop-at.result c.ne.result c.loop-at-test.true c.ne.ensures c.if-ne.false (c.loop-at.invariant s h)

pub returns-clause-met : goal.returns-clause-met
returns-clause-met g c =
    λ s h.
    met_of_same s c.args.place (length c.needs-needs.result.now) c.needs-needs.result.now c.args.list.now.needs c.needs-needs.ensures.needs
    (λ met. until_end s c.needs-needs.result.now c.loop-at.at c.loop-at-test.false (c.loop-at.invariant s met)) h

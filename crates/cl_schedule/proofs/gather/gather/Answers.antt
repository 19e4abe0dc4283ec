use Rattle.std.proofs.Common.{◌∙◌, ◌<◌, ℕ, length, Some, ap, subst, sym}
use Rattle.cl_schedule.proofs.Gathering.{gathering_push}
use Rattle.cl_schedule.proofs.gather.gather.Goals as goal

pub loop-next-preserved : goal.loop-next-preserved
loop-next-preserved c =
    let below : c.loop-next.next < length c.args.script.now.requests = subst (λ (n : ℕ). c.loop-next.next < n) (ap length c.requests-count.ensures.requests) c.loop-next-test.true in
    gathering_push c.args.script.now c.args.first c.loop-next.waiting.items c.push_back.new.self.items c.loop-next.next c.loop-next.invariant c.in_ok-push_back.ensures.items below
    (c.round_of.ensures ∙ ap (λ (n : ℕ). Some n) c.if-round_of.true ∙ sym c.round_of-in-loop-next.ensures)

use Rattle.std.proofs.Common.{rules, ◌≡◌, true, false, ◌∙◌}
use Rattle.cl_writer.proofs.Indexed.{with_stayed, with_entered}
use Rattle.cl_writer.proofs.items.Items.with.Goals as goal

pub invariant_of-self : goal.invariant_of-self
invariant_of-self c =
    let absent : c.holds.result ≡ false = search rules in
    with_entered c.self.inside.indices c.insert_new.new.indices c.self.inside.items.items c.push.new.self.items c.args.item c.in_ok-copy.copy c.len-index.result c.holds.result
    c.self.invariant c.in_ok-push.ensures.items c.in_ok-copy.ensures c.holds.ensures absent (c.len-index.ensures ∙ c.push.new.self.ok.0) c.in_ok-insert_new.ensures

pub invariant_of-self-else-not-holds : goal.invariant_of-self-else-not-holds
invariant_of-self-else-not-holds c =
    let present : c.holds.result ≡ true = search rules in
    with_stayed c.self.inside.indices c.self.inside.indices c.self.inside.items.items c.push.new.self.items c.args.item c.in_ok-copy.copy 0 c.holds.result
    c.self.invariant c.in_ok-push.ensures.items c.in_ok-copy.ensures c.holds.ensures present

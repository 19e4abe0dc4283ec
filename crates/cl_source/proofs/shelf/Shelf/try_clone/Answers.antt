use Rattle.std.proofs.Common.{◌∙◌}
use Rattle.cl_source.proofs.Contents.{copied_more, none_copied, all_copied}
use Rattle.cl_source.proofs.shelf.Shelf.try_clone.Goals as goal

pub loop-name-preserved : goal.loop-name-preserved
loop-name-preserved c =
    copied_more (λ b. b.value) c.loop-name.entries c.store.new.entries.entries c.loop-name.name-iterator c.next.new.self c.self.inside.entries.entries c.args.self.now c.in-Some.name.now c.in_ok-try_clone.field-0 c.in-Some.bytes.now c.in_ok-try_clone-2.field-0
    c.self.view_is c.len.ensures.unique c.loop-name.invariant c.in-Some.ensures.steps c.in_ok-try_clone.ensures c.in_ok-try_clone-2.ensures c.in_ok-store.ensures

pub loop-name-init : goal.loop-name-init
loop-name-init c = none_copied (λ b. b.value) c.in_ok-entries.entries.entries c.into_iter-name-iterator.result c.self.inside.entries.entries c.args.self.now c.in_ok-entries.ensures.empty (c.into_iter-name-iterator.ensures.into_iter_gives ∙ c.iter-name-items.ensures.rest) c.self.view_is

pub returns : goal.returns
returns c = all_copied (λ b. b.value) c.loop-name.entries.entries c.loop-name.name-iterator c.args.self.now c.in-None.ensures.steps.0 c.loop-name.invariant

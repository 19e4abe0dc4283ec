use Rattle.std.proofs.Common.{refl, sym, ◌∙◌}
use Rattle.cl_writer.specs.Assemblies.{lists_of}
use Rattle.cl_writer.proofs.Gathered.{starts, more_read}
use Rattle.cl_writer.proofs.assembly.read_rest.Goals as goal

pub loop-line-init : goal.loop-line-init
loop-line-init c =
    starts c.args.class c.args.lines c.into_iter-line-iterator.result _ _ _ _ _ c.into_iter-line-iterator.ensures.into_iter_gives refl c.new.ensures.items c.new-2.ensures.items c.new-3.ensures.items c.new-4.ensures.items

pub loop-line-preserved : goal.loop-line-preserved
loop-line-preserved c =
    more_read c.args.class _ _ _ (lists_of c.loop-line.assembly) (lists_of c.add.new.assembly) _ c.in-Some-2.said
    c.loop-line.invariant c.in-Some.ensures.steps (rw c.in-Some-2.is at c.in_ok-said.ensures) (sym c.is_second_version.ensures ∙ c.if-is_second_version.false) c.in_ok-add.ensures

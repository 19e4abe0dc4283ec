use Rattle.std.proofs.Common.{refl, ◌∙◌}
use Rattle.cl_classfile.proofs.Entries.{goes_on, ends, is_done, its_own}
use Rattle.cl_classfile.proofs.rows.check_entries.Goals as goal

pub loop-i-init : goal.loop-i-init
loop-i-init c = refl

pub loop-i-preserved : goal.loop-i-preserved
loop-i-preserved c = goes_on c.args.major c.args.traits.now c.args.pool.now c.loop-i.i _ c.keeps_entry.result c.loop-i-test.true c.requires.traits c.keeps_entry.ensures c.if-not-keeps_entry.false c.loop-i.invariant

pub returns-then-not-keeps_entry : goal.returns-then-not-keeps_entry
returns-then-not-keeps_entry c = ends c.args.major c.args.traits.now c.args.pool.now c.loop-i.i _ c.keeps_entry.result c.loop-i-test.true c.requires.traits c.keeps_entry.ensures c.if-not-keeps_entry.true c.loop-i.invariant

pub returns : goal.returns
returns c = is_done c.args.major c.args.pool.now c.loop-i.i c.loop-i-test.false c.loop-i.invariant

pub keeps_entry-requires : goal.keeps_entry-requires
keeps_entry-requires c = c.traits_at-own.ensures ∙ its_own c.args.traits.now c.args.pool.now c.loop-i.i _ c.loop-i-test.true c.requires.traits

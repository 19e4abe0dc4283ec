use Rattle.cl_classfile.proofs.Slots.{goes_on, ends, is_done, is_cut}
use Rattle.cl_classfile.proofs.widths.check_slots.Goals as goal

pub loop-i-preserved : goal.loop-i-preserved
loop-i-preserved c = goes_on c.args.pool.now c.loop-i.i c.loop-i.taken c.fits_slot.result c.is_wide-taken.result _ c.loop-i-test.true c.fits_slot.ensures c.if-not-fits_slot.false c.is_wide-taken.ensures c.loop-i.invariant

pub returns-then-not-fits_slot : goal.returns-then-not-fits_slot
returns-then-not-fits_slot c = ends c.args.pool.now c.loop-i.i c.loop-i.taken c.fits_slot.result _ c.loop-i-test.true c.fits_slot.ensures c.if-not-fits_slot.true c.loop-i.invariant

pub returns-then-taken : goal.returns-then-taken
returns-then-taken c = is_cut c.args.pool.now c.loop-i.i c.loop-i.taken c.loop-i-test.false c.loop-i.auto.i-end c.if-taken.true c.loop-i.invariant

pub returns : goal.returns
returns c = is_done c.args.pool.now c.loop-i.i c.loop-i.taken c.loop-i-test.false c.if-taken.false c.loop-i.invariant

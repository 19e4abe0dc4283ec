use Rattle.cl_tasks.specs.Repeating.{Here}
use Rattle.cl_tasks.proofs.Repeating.{repeated_less, goes_more}
use Rattle.cl_tasks.proofs.accept.accept_repeated.Goals as goal

pub loop-whole-init : goal.loop-whole-init
loop-whole-init g c = Here

pub loop-whole-smaller : goal.loop-whole-smaller
loop-whole-smaller g c = repeated_less g.T.Told.told c.loop-whole.path c.accept_if_repeated.new.self c.in_ok-accept_if_repeated.field-0 c.in-Waits.is c.accept_if_repeated.ensures.path c.in_ok-accept_if_repeated.ensures.goes

pub loop-whole-preserved : goal.loop-whole-preserved
loop-whole-preserved g c = goes_more g.T.Told.told c.args.path.now c.loop-whole.path c.accept_if_repeated.new.self c.in_ok-accept_if_repeated.field-0 c.in-Waits.is c.loop-whole.invariant c.accept_if_repeated.ensures.path c.in_ok-accept_if_repeated.ensures.goes

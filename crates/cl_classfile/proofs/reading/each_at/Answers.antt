use Rattle.std.proofs.lemmas.Result.{err_from_is_err_and}
use Rattle.cl_classfile.specs.Reading.{each_at}
use Rattle.cl_classfile.proofs.Loop.{all_start, all_go_on, all_fail, all_done}
use Rattle.cl_classfile.proofs.reading.each_at.Goals as goal

pub loop-i-init : goal.loop-i-init
loop-i-init g c = rw c.in_ok-all.ensures.items (all_start g.T.Listed.reader c.args.count c.args.bytes.now)

pub returns-in_err-one : goal.returns-in_err-one
returns-in_err-one g c =
    let p = err_from_is_err_and c.from_residual-in_err-one.result c.from_residual-in_err-one.ensures.1 in
    rw (p.1, p.2) (all_fail g.T.Listed.reader c.in_err-one.field-0.0 c.loop-i.all.items c.args.count c.loop-i.i c.loop-i.rest.now (each_at g.T.Listed.reader c.args.count c.args.bytes.now) c.loop-i-test.true c.in_err-one.ensures c.loop-i.invariant)

pub loop-i-preserved : goal.loop-i-preserved
loop-i-preserved g c =
    rw c.in_ok-push.ensures.items (all_go_on g.T.Listed.reader c.loop-i.all.items c.args.count c.loop-i.i c.loop-i.rest.now c.in_ok-one.one c.in_ok-one.after.now (each_at g.T.Listed.reader c.args.count c.args.bytes.now) c.loop-i-test.true c.in_ok-one.ensures c.loop-i.invariant)

pub returns : goal.returns
returns g c = all_done g.T.Listed.reader c.loop-i.all.items c.args.count c.loop-i.i c.loop-i.rest.now (each_at g.T.Listed.reader c.args.count c.args.bytes.now) c.loop-i-test.false c.loop-i.invariant

use Rattle.std.proofs.Common.{◌<◌, length, arith}
use Rattle.cl_constraints.specs.Pairs.{moved_record}
use Rattle.cl_constraints.proofs.Recording.{changed_more}
use Rattle.cl_constraints.proofs.plain.move_on.Goals as goal

pub loop-record-preserved : goal.loop-record-preserved
loop-record-preserved c =
    let within : c.loop-record.record-index < length c.args.records.now.items = grind arith in
    changed_more (moved_record c.args.pair.now) c.args.records.now.items c.loop-record.record-items c.loop-record.record-index c.record-item.result c.go_on.new.self within c.loop-record.invariant c.record-item.is c.go_on.ensures

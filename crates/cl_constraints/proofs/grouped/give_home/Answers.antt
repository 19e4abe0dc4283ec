use Rattle.std.proofs.Common.{◌<◌, length, arith}
use Rattle.cl_constraints.specs.Groups.{with_home}
use Rattle.cl_constraints.proofs.Recording.{changed_more}
use Rattle.cl_constraints.proofs.grouped.give_home.Goals as goal

pub loop-group-preserved : goal.loop-group-preserved
loop-group-preserved c =
    let within : c.loop-group.group-index < length c.args.groups.now.items = grind arith in
    changed_more (with_home c.args.loader c.args.home) c.args.groups.now.items c.loop-group.group-items c.loop-group.group-index c.group-item.result c.note.new.self within c.loop-group.invariant c.group-item.is c.note.ensures

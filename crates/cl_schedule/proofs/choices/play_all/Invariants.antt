use Rattle.std.proofs.Common.{take}
use Rattle.cl_schedule.specs.Rooms.{room_left}
use Rattle.cl_schedule.proofs.Playing.{IsBetween, RoomPast, RoomPlayed}
use Rattle.cl_schedule.proofs.choices.play_all.Given as goal

abbrev pub invariant-loop-choice : goal.invariant-loop-choice
invariant-loop-choice g l =
    IsBetween g.T.Told.told l.fn.config.value l.fn.script l.fn.registry l.registry l.fn.room l.room (g.S.Source.refused l.fn.source) (g.S.Source.refused l.source)
    (RoomPlayed g.T.Told.told l.registry l.room (take l.choice-index l.fn.schedule))

abbrev pub invariant-loop-alloc : goal.invariant-loop-alloc
invariant-loop-alloc g l =
    IsBetween g.T.Told.told l.fn.config.value l.fn.script l.fn.registry l.registry l.fn.room l.room (g.S.Source.refused l.fn.source) (g.S.Source.refused l.source)
    (RoomPast g.T.Told.told l.registry l.room l.fn.schedule)

abbrev pub decreases-loop-alloc : goal.decreases-loop-alloc
decreases-loop-alloc g l = room_left l.room

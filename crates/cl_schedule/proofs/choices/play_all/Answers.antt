use Rattle.std.proofs.Common.{arith, subst, sym, take}
use Rattle.std.specs.Prelude.{slice_index}
use Rattle.cl_schedule.proofs.Owing.{count_none}
use Rattle.cl_schedule.proofs.Playing.{RoomPlayed, between_on, past_on, played_on, room_none, room_past, take_more}
use Rattle.cl_schedule.proofs.choices.play_all.Goals as goal

pub loop-choice-init : goal.loop-choice-init
loop-choice-init g c = record {
  on = record { serves = c.requires.serves; faults = count_none _ _ };
  over = c.requires.opened.over;
  played = room_none g.T.Told.told c.args.registry.now c.args.room.now c.requires.opened;
}

pub loop-choice-preserved : goal.loop-choice-preserved
loop-choice-preserved g c =
    let told = g.T.Told.told in
    let e = c.in_ok-choose.ensures in
    let i = c.loop-choice.choice-index in
    let more = take_more c.args.schedule.now i (let less = c.loop-choice-test.true in let end = c.loop-choice.auto.choice-index-end in omega arith) in
    between_on told c.args.config.now.value c.args.script.now c.args.registry.now c.loop-choice.registry c.choose.new.registry c.args.room.now c.loop-choice.room c.choose.new.room _ _ _ _ _ c.loop-choice.invariant e.serves e.over
    (λ config script played. subst (RoomPlayed told c.choose.new.registry c.choose.new.room) (sym more)
    (played_on told c.loop-choice.registry c.choose.new.registry c.loop-choice.room c.choose.new.room (take i c.args.schedule.now) (slice_index c.args.schedule.now i) config script played e.played e.keeps))

pub loop-alloc-preserved : goal.loop-alloc-preserved
loop-alloc-preserved g c =
    let told = g.T.Told.told in
    let e = c.in_ok-choose-2.ensures in
    between_on told c.args.config.now.value c.args.script.now c.args.registry.now c.loop-alloc.registry c.choose-in-loop-alloc.new.registry c.args.room.now c.loop-alloc.room c.choose-in-loop-alloc.new.room _ _ _ _ _ c.loop-alloc.invariant e.serves e.over
    (λ config script played. past_on told c.loop-alloc.registry c.choose-in-loop-alloc.new.registry c.loop-alloc.room c.choose-in-loop-alloc.new.room c.args.schedule.now config script played e.played e.keeps)

pub returns-clause-played : goal.returns-clause-played
returns-clause-played g c = room_past g.T.Told.told c.loop-alloc.registry c.loop-alloc.room c.args.schedule.now c.loop-alloc.invariant.played

use Rattle.std.proofs.Common.{◌∙◌, ap, length, refl, sym}
use Rattle.cl_config.specs.Views.{Scripted}
use Rattle.cl_schedule.specs.declared.choices.Room.{Room}
use Rattle.cl_schedule.proofs.Owing.{debt_rounds}
use Rattle.cl_schedule.proofs.Paying.{takings_rounds}
use Rattle.cl_schedule.proofs.Rooming.{falls, falls_gathered, none_waits, plays_in, serves_gathered, serves_waiting, some_wait}
use Rattle.cl_schedule.proofs.Rounds.{none_goes_on}
use Rattle.cl_schedule.proofs.choices.choose.Goals as goal

-- ---- those of the next round are gathered

pub returns-in_ok-room : goal.returns-in_ok-room
returns-in_ok-room g c =
    let told = g.T.Told.told in
    let config = c.args.config.now.value in
    let script = c.args.script.now in
    let e = c.in_ok-play.ensures in
    let serves = e.serves.serves in
    let passed = c.pass_rounds.ensures.passed in
    let x = c.args.registry.now in
    let mid = c.play.new.registry in
    let y = c.pass_rounds.new.registry in
    let room = c.play.new.room in
    let done : Room g.row.T.Denot = record { tasks = room.tasks; calls = room.calls; waiting = c.gather.new.waiting; next = c.in_ok-room.field-0 } in
    let over = none_goes_on mid y passed in
    let none = none_waits room.waiting.items c.count.result c.count.ensures c.if-count-eq0.true in
    let now = serves_gathered told config script mid y room done c.in_ok-room.field-0 serves c.pass_rounds.ensures.kept none passed over c.in_ok-room.ensures.gathered refl refl refl in
    record {
      played = plays_in told x mid y c.args.choice (serves.configured ∙ sym c.requires.serves.configured) (serves.scripted ∙ sym c.requires.serves.scripted) e.chosen passed;
      over = over;
      serves = record { serves = now; faults = debt_rounds x mid y c.args.room.now room done _ _ e.serves.faults passed refl refl };
      keeps = takings_rounds told x mid y c.args.room.now room done c.args.choice serves.places.seated passed refl refl e.keeps;
      less = falls_gathered told y c.args.choice c.args.room.now room done script c.in_ok-room.field-0 now.places e.less none c.in_ok-room.ensures.gathered refl refl
          (ap (λ (s : Scripted). length s.requests) (sym serves.scripted) ∙ sym serves.places.tasks_whole);
      refused = tt;
    }

-- ---- somebody waits

pub returns-else-count-eq0 : goal.returns-else-count-eq0
returns-else-count-eq0 g c =
    let told = g.T.Told.told in
    let e = c.in_ok-play.ensures in
    let serves = e.serves.serves in
    let passed = c.pass_rounds.ensures.passed in
    let x = c.args.registry.now in
    let mid = c.play.new.registry in
    let y = c.pass_rounds.new.registry in
    let room = c.play.new.room in
    let some = some_wait room.waiting.items c.count.result c.count.ensures c.if-count-eq0.false in
    let now = serves_waiting told c.args.config.now.value c.args.script.now mid y room serves c.pass_rounds.ensures.kept passed some in
    record {
      played = plays_in told x mid y c.args.choice (serves.configured ∙ sym c.requires.serves.configured) (serves.scripted ∙ sym c.requires.serves.scripted) e.chosen passed;
      over = none_goes_on mid y passed;
      serves = record { serves = now; faults = debt_rounds x mid y c.args.room.now room room _ _ e.serves.faults passed refl refl };
      keeps = takings_rounds told x mid y c.args.room.now room room c.args.choice serves.places.seated passed refl refl e.keeps;
      less = falls told y c.args.choice c.args.room.now room now.places e.less;
      refused = tt;
    }

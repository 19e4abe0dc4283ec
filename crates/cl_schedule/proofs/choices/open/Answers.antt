use Rattle.std.proofs.Common.{◌≡◌, ◌∙◌, ap, length, refl, subst}
use Rattle.cl_config.specs.Views.{Configured, Scripted}
use Rattle.cl_registry.specs.Tables.{empty_of, steps}
use Rattle.cl_schedule.specs.declared.choices.Room.{Room}
use Rattle.cl_schedule.specs.Seats.{AreOfRound}
use Rattle.cl_schedule.proofs.Owing.{debt_first}
use Rattle.cl_schedule.proofs.Places.{none_seated}
use Rattle.cl_schedule.proofs.Playing.{played_none}
use Rattle.cl_schedule.proofs.Rooming.{serves_first}
use Rattle.cl_schedule.proofs.Rounds.{none_goes_on}
use Rattle.cl_schedule.proofs.choices.open.Goals as goal

pub returns-in-Ok : goal.returns-in-Ok
returns-in-Ok g c =
    let told = g.T.Told.told in
    let config = c.args.config.now.value in
    let script = c.args.script.now.value in
    let x = c.in-Ok.registry in
    let y = c.pass_rounds.new.registry in
    let passed = c.pass_rounds.ensures.passed in
    let made = c.in_ok-room.ensures in
    let done : Room g.row.T.Denot = record { tasks = c.in_ok-room.room.tasks; calls = c.in_ok-room.room.calls; waiting = c.gather.new.waiting; next = c.in_ok-room-2.field-0 } in
    let empty : x ≡ empty_of config script = c.in-Ok.ensures.empty ∙ ap (λ (k : Configured). empty_of k c.in_ok-asked.asked.value) c.in_ok-held.ensures ∙ ap (λ (s : Scripted). empty_of config s) c.in_ok-asked.ensures in
    let over = none_goes_on x y passed in
    let fresh = none_seated done _ made.calls in
    record {
      serves = serves_first told config script x y done c.in_ok-room-2.field-0 _ empty c.requires.loaders c.pass_rounds.ensures.kept passed over
          (subst (λ (s : Scripted). AreOfRound s 0 c.gather.new.waiting.items c.in_ok-room-2.field-0) c.deref-2.ensures c.in_ok-room-2.ensures.gathered)
          (ap length c.requests.ensures.requests ∙ ap (λ (s : Scripted). length s.requests) c.deref.ensures) made.tasks made.calls refl;
      opened = record {
        begun = played_none told x y (ap steps empty) passed;
        over = over;
        fresh = fresh;
        none_owed = debt_first config script x y done empty passed fresh;
      };
      memory = tt;
    }

use Rattle.std.proofs.Common.{◌≡◌, ◌%◌, ◌<◌, inl, inr, ℕ, None, Some, length, refl, subst, sym}
use Rattle.std.specs.Prelude.{slice_get}
use Rattle.std.proofs.lemmas.Option.{slice_get_within}
use Rattle.cl_schedule.specs.declared.choices.Room.{Room}
use Rattle.cl_schedule.specs.Places.{seat_at}
use Rattle.cl_schedule.specs.Rooms.{HasTurned, left_of_request}
use Rattle.cl_schedule.proofs.Owing.{count_none, debt_advanced, debt_posted}
use Rattle.cl_schedule.proofs.Paying.{takings_none, takings_turned}
use Rattle.cl_schedule.proofs.Places.{moved_back, moved_out}
use Rattle.cl_schedule.proofs.Rooming.{chosen_advanced, chosen_none, chosen_posted, first_advanced, first_answered, first_place, gathered_advanced, gathered_posted, none_waits, serves_turned, waits_at}
use Rattle.cl_schedule.proofs.Waiting.{taken_is, taken_none, waiting_is}
use Rattle.cl_schedule.proofs.choices.play.Goals as goal

pub turn_of-requires-clause-waits : goal.turn_of-requires-clause-waits
turn_of-requires-clause-waits g c =
    let serves = c.requires.serves in
    let ws = c.args.room.now.waiting.items in
    waiting_is g.T.Told.told c.args.registry.now ws c.args.room.now.next (c.args.choice % length ws) c.number_at-q.result serves.kept serves.places.gathered
    (waits_at ws c.count-len.result c.args.choice c.number_at-q.result c.count-len.ensures c.if-len-eq0.false c.number_at-q.ensures)

-- ---- nobody waits

pub returns-then-len-eq0 : goal.returns-then-len-eq0
returns-then-len-eq0 g c =
    let serves = c.requires.serves in
    let x = c.args.registry.now in
    let room = c.args.room.now in
    let none = none_waits room.waiting.items c.count-len.result c.count-len.ensures c.if-len-eq0.true in
    record {
      chosen = chosen_none g.T.Told.told x c.args.choice;
      serves = record { serves = serves; faults = count_none _ _ };
      keeps = takings_none g.T.Told.told x room c.args.choice serves.places.seated (taken_none x room.waiting.items room.next c.args.choice serves.places.gathered none);
      less = λ zero_is some. absurd (some none);
      refused = tt;
    }

-- ---- it went on

pub returns-in-Some : goal.returns-in-Some
returns-in-Some g c =
    let told = g.T.Told.told in
    let serves = c.requires.serves in
    let x = c.args.registry.now in
    let y = c.turn_of.new.registry in
    let room = c.args.room.now in
    let mid = c.turn_of.new.room in
    let done = c.put.new.self in
    let ws = room.waiting.items in
    let q = c.number_at-q.result in
    let seat = c.in-Some.seat in
    let e = c.in_ok-seat.ensures in
    let at = waits_at ws c.count-len.result c.args.choice q c.count-len.ensures c.if-len-eq0.false c.number_at-q.ensures in
    let waits = waiting_is told x ws room.next (c.args.choice % length ws) q serves.kept serves.places.gathered at in
    let below = slice_get_within x.script.requests q waits.0 waits.1.asked in
    let in_tasks = subst (λ (n : ℕ). q < n) (sym serves.places.tasks_whole) below in
    let in_calls = subst (λ (n : ℕ). q < n) (sym serves.places.calls_whole) below in
    let turned : HasTurned told x y q (seat_at room q) (Some seat) = subst (HasTurned told x y q (seat_at room q)) c.in-Some.is e.turned in
    let moved = moved_back room mid done q seat e.taken in_tasks in_calls c.put.ensures.tasks c.put.ensures.calls in
    record {
      chosen = chosen_advanced told x y ws room.next c.args.choice q serves.kept serves.places.gathered at turned.did.advanced;
      serves = record {
        serves = serves_turned told c.args.config.now.value c.args.script.now x y room done q (left_of_request room q) (Some seat) serves e.kept turned.did moved
            (gathered_advanced told x y room mid done q serves.places.gathered e.taken turned.did.advanced c.put.ensures.waiting c.put.ensures.next);
        faults = debt_advanced x y room mid done c.in_ok-seat.field-0 seat q _ _ c.in-Some.is e.taken in_tasks in_calls e.faults c.put.ensures.tasks c.put.ensures.calls;
      };
      keeps = takings_turned told c.args.config.now.value c.args.script.now x y room done c.args.choice q (Some seat) serves waits.1.unanswered (taken_is x ws room.next c.args.choice q serves.places.gathered at) turned moved;
      less = λ zero_is some. inr (first_advanced room mid done q (c.args.choice % length ws) seat e.taken moved (first_place (length ws) c.args.choice zero_is) at turned.did.less c.put.ensures.waiting c.put.ensures.next);
      refused = tt;
    }

-- ---- it was answered

pub returns-in-None : goal.returns-in-None
returns-in-None g c =
    let told = g.T.Told.told in
    let serves = c.requires.serves in
    let x = c.args.registry.now in
    let y = c.turn_of.new.registry in
    let room = c.args.room.now in
    let mid = c.turn_of.new.room in
    let done : Room g.row.T.Denot = record { tasks = mid.tasks; calls = mid.calls; waiting = c.take_out.new.waiting; next = mid.next } in
    let ws = room.waiting.items in
    let q = c.number_at-q.result in
    let place = c.args.choice % c.count-len.result in
    let e = c.in_ok-seat.ensures in
    let at = waits_at ws c.count-len.result c.args.choice q c.count-len.ensures c.if-len-eq0.false c.number_at-q.ensures in
    let there = subst (λ (n : ℕ). slice_get ws (c.args.choice % n) ≡ Some q) (sym c.count-len.ensures) at in
    let waits = waiting_is told x ws room.next place q serves.kept serves.places.gathered there in
    let turned : HasTurned told x y q (seat_at room q) None = subst (HasTurned told x y q (seat_at room q)) c.in-None.is e.turned in
    let moved = moved_out room mid done q e.taken refl refl in
    record {
      chosen = chosen_posted told x y ws room.next c.args.choice q serves.kept serves.places.gathered at turned.did;
      serves = record {
        serves = serves_turned told c.args.config.now.value c.args.script.now x y room done q (left_of_request room q) None serves e.kept turned.did moved
            (gathered_posted told x y room mid done q place serves.kept serves.places.gathered e.taken turned.did there c.take_out.ensures refl);
        faults = debt_posted x y room mid done c.in_ok-seat.field-0 q _ _ c.in-None.is e.taken e.faults refl refl;
      };
      keeps = takings_turned told c.args.config.now.value c.args.script.now x y room done c.args.choice q None serves waits.1.unanswered (taken_is x ws room.next c.args.choice q serves.places.gathered at) turned moved;
      less = λ zero_is some. inl (first_answered room mid done q place e.taken moved (slice_get_within ws place q there) c.take_out.ensures refl);
      refused = tt;
    }

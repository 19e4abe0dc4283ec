use Rattle.std.proofs.Common.{◌∙◌, ◌+◌, Option, Some, ap, subst, sym}
use Rattle.std.specs.Prelude.{slice_get}
use Rattle.cl_config.specs.Views.{Scripted}
use Rattle.cl_schedule.specs.declared.seats.Seat.{Seat}
use Rattle.cl_schedule.specs.Counting.{CountGrows, fault, faults, owed_fault, owed_at, owed_of}
use Rattle.cl_schedule.specs.Places.{seat_at}
use Rattle.cl_schedule.specs.Rooms.{HasTurned}
use Rattle.cl_schedule.specs.Seats.{IsSeatedAt}
use Rattle.cl_schedule.proofs.Owing.{count_begun, count_first, count_refused, count_seated}
use Rattle.cl_schedule.proofs.Paying.{turned_begun, turned_memory}
use Rattle.cl_schedule.proofs.Rooming.{map_ok}
use Rattle.cl_schedule.proofs.choices.turn_of.Goals as goal
use Rattle.cl_schedule.proofs.choices.turn_of.Goals.{in-Some, in-None+in_ok-held-in-None+in_ok-request-in-None+in-Ok}

pub advance-requires-clause-seated : goal.advance-requires-clause-seated
advance-requires-clause-seated g c =
    let x = c.args.registry.now in
    let told = g.T.Told.told in
    let serves = c.requires.serves in
    let waits = c.requires.waits in
    let P : Seat g.row.T.Denot → Type 0 = λ s. IsSeatedAt {A = g.row.T.Denot} told x s.task s.call c.args.q in
    elim c.match-take.branch [
      | in-Some w ↦ (
          subst P (sym w.seat-is) (waits.0, waits.1, serves.places.seated c.args.q w.in-Some.seat waits.0 (sym w.in-Some.ensures.seat) waits.1.asked)
          )
      | in-None+in_ok-held-in-None+in_ok-request-in-None+in-Ok w ↦ (
          let asked = ap (λ (s : Scripted). slice_get s.requests c.args.q) serves.scripted ∙ w.in_ok-request-in-None.ensures in
          subst P (sym w.seat-is) (
            w.in_ok-request-in-None.request,
            record { asked = asked; begun = waits.1.begun; unanswered = waits.1.unanswered },
            w.in-Ok.ensures.seated x serves.kept (serves.configured ∙ sym w.in_ok-held-in-None.ensures),
          )
          )
    ]

-- ---- the count of the source

pub returns-in-Err-clause-faults : goal.returns-in-Err-clause-faults
returns-in-Err-clause-faults g c =
    count_refused c.args.registry.now c.post.new.registry (owed_at c.args.room.now c.args.q) c.args.q _ _ c.in-Err.finding.answer (sym (ap owed_of c.take.ensures.seat) ∙ ap owed_of c.in-None.is) (ap fault c.in-Err.ensures.memory)
    (ap (λ (s : g.row.S.Denot). g.S.Source.refused s) c.in-Err.ensures.unread) c.requires.waits.1.unanswered c.post.ensures.posted

pub returns-clause-faults : goal.returns-clause-faults
returns-clause-faults g c =
    let given = faults c.args.registry.now.answers in
    let at = owed_at c.args.room.now c.args.q in
    let here = owed_fault c.match-take.seat.call in
    let first : CountGrows (given + at) (given + here) (g.S.Source.refused c.args.source.now) (g.S.Source.refused c.match-take.source) =
    elim c.match-take.branch [
      | in-Some w ↦
          count_seated given at here _ _
          (ap (λ (s : Seat g.row.T.Denot). owed_fault s.call) w.seat-is ∙ ap owed_of w.in-Some.ensures.seat)
          (ap (λ (s : g.row.S.Denot). g.S.Source.refused s) w.source-is)
      | in-None+in_ok-held-in-None+in_ok-request-in-None+in-Ok w ↦
          count_begun given at here (owed_fault w.in-Ok.seat.call) _ _ _ (sym (ap owed_of w.in-None.ensures.seat)) (ap (λ (s : Seat g.row.T.Denot). owed_fault s.call) w.seat-is)
          (ap (λ (s : g.row.S.Denot). g.S.Source.refused s) w.source-is) w.in-Ok.ensures.faults
    ] in
    count_first c.advance.result (given + at) (given + here) (λ o. faults c.advance.new.registry.answers + owed_of o) _ _ _ first c.advance.ensures.faults

-- ---- what was done

pub returns-in-Err-clause-turned : goal.returns-in-Err-clause-turned
returns-in-Err-clause-turned g c = turned_memory g.T.Told.told c.args.registry.now c.post.new.registry c.args.q _ c.in-Err.finding.answer c.requires.serves.kept c.requires.waits c.in-Err.ensures.memory c.post.ensures.posted

pub returns-clause-turned : goal.returns-clause-turned
returns-clause-turned g c =
    let x = c.args.registry.now in
    let y = c.advance.new.registry in
    let told = g.T.Told.told in
    let serves = c.requires.serves in
    let room = c.args.room.now in
    let q = c.args.q in
    map_ok c.advance.result (HasTurned told x y q (Some c.match-take.seat)) (HasTurned told x y q (seat_at room q))
    (λ o turned. elim c.match-take.branch [
      | in-Some w ↦ subst (λ (b : Option (Seat g.row.T.Denot)). HasTurned told x y q b o) (ap (λ (s : Seat g.row.T.Denot). Some s) w.seat-is ∙ w.in-Some.ensures.seat) turned
      | in-None+in_ok-held-in-None+in_ok-request-in-None+in-Ok w ↦ (
          let k = w.in_ok-request-in-None.request in
          let asked = ap (λ (s : Scripted). slice_get s.requests q) serves.scripted ∙ w.in_ok-request-in-None.ensures in
          let same = serves.configured ∙ sym w.in_ok-held-in-None.ensures in
          let e = w.in-Ok.ensures in
          subst (λ (b : Option (Seat g.row.T.Denot)). HasTurned told x y q b o) w.in-None.ensures.seat
          (turned_begun told x y q k w.in-Ok.seat o asked (e.seated x serves.kept same) (e.known x) (e.paid x serves.kept same)
          (subst (λ (s : Seat g.row.T.Denot). HasTurned told x y q (Some s) o) w.seat-is turned))
          )
    ]) c.advance.ensures.turned

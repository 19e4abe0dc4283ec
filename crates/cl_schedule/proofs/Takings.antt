-- By any measure: how often a request is taken at most, one choice after another (JVMS SE 8, 5.3 to 5.4.3).
use Rattle.std.proofs.Common.{◌≡◌, inl, inr, ◌∙◌, ◌+◌, ◌≤◌, ℕ, suc, true, false, List, [], ◌∷◌, ◌++◌, Option, Some, None, refl, sym, ap, subst, arith, append_assoc}
use Rattle.std.specs.Prelude.{MatchOption, slice_get, unwrap_or}
use Rattle.cl_config.specs.Loaders.{schedule_of}
use Rattle.cl_config.specs.Views.{Scripted}
use Rattle.cl_model.specs.declared.answer.Answer as rust
use Rattle.cl_model.specs.declared.request.Request.{Request}
use Rattle.cl_model.specs.Content.{Content}
use Rattle.cl_model.specs.States.{State}
use Rattle.cl_model.specs.Machine.{Scheduled, Step, Post}
use Rattle.cl_model.specs.Plans as plans
use Rattle.cl_model.specs.Views.{request_of}
use Rattle.cl_registry.specs.Tables.{Shown, IsKept, IsOpen, state_of, steps}
use Rattle.cl_schedule.specs.declared.choices.Room.{Room}
use Rattle.cl_schedule.specs.declared.seats.Seat.{Seat}
use Rattle.cl_schedule.specs.Choices.{Piece, first_taken, is_of, piece, taken_by, takings}
use Rattle.cl_schedule.specs.Places.{seat_at}
use Rattle.cl_schedule.specs.Rooms.{AllSeated, NoneSeated, WaitsAgain}
use Rattle.cl_schedule.specs.Rounds.{RoundsPassed}
use Rattle.cl_schedule.specs.Seats.{GoesOn, HasPosted, IsSeated}
use Rattle.cl_schedule.specs.Takings.{AreWithin, ComesNearer, IsTakenWithin, ChoiceKeeps, Measure, PostsAnswerOf}
use Rattle.cl_schedule.proofs.Later.{goes_on_none, goes_on_rounds}
use Rattle.cl_schedule.proofs.Places.{HasMoved, bool_cases, some_none}
use Rattle.cl_schedule.proofs.Prompt.{first_since, of_other, takings_other, takings_this, this_of, untaken_before, untaken_none}
use Rattle.cl_schedule.proofs.Rooming.{asked_turned, goes_turned, not_open, opens_turned}
use Rattle.cl_schedule.proofs.Rounds.{scheduled_at}
use Rattle.cl_model.proofs.Bind.{some_same}
use Rattle.std.proofs.lemmas.Option.{none-some}

-- what a measure keeps to: more takings are as good, what is known holds later on, a seat is taken no more often then, and once at least
pub record IsMeasure {A : Type 0} (told : Option Content) (m : Measure A) : Type 0 where
  pub more : (s : State) (r : Request) (k : m.Known) (few many : ℕ) (seat : Seat A) → few ≤ many → m.Within s r k few seat → m.Within s r k many seat
  pub fits : (old new : Shown) (r : plans.Request) (k : m.Known) → GoesOn old new → m.Fits (state_of old) r k → m.Fits (state_of new) r k
  pub later : (old new : Shown) (q : ℕ) (r : Request) (k : m.Known) (n : ℕ) (seat : Seat A) → GoesOn old new → IsSeated told old seat.task seat.call q r → m.Within (state_of old) r k n seat → m.Within (state_of new) r k n seat
  pub once : (x : Shown) (q : ℕ) (r j : Request) (k : m.Known) (seat : Seat A) → IsSeated told x seat.task seat.call q r → m.Within (state_of x) j k 0 seat → ⊥

-- ---- one request

-- a request that was begun by this choice is taken as often at most as one that was not
pub begun_nearer : {A : Type 0} (told : Option Content) (m : Measure A) (old new : Shown) (q : ℕ) (seat : Seat A) (after : Option (Seat A)) → IsMeasure told m
    → ((r : Request) (k : m.Known) → slice_get old.script.requests q ≡ Some r → m.Fits (state_of old) (request_of r) k → m.Within (state_of old) r k (m.all k) seat)
    → ComesNearer m old new q (Some seat) after → ComesNearer m old new q None after
begun_nearer told m old new q seat after law starts nearer = λ r k n asked fits all. nearer r k n asked fits (law.more (state_of old) r k (m.all k) (suc n) seat all (starts r k asked fits))

within_later : {A : Type 0} (told : Option Content) (m : Measure A) (old new : Shown) (q : ℕ) (r : Request) (k : m.Known) (n : ℕ) (seat : Option (Seat A)) → IsMeasure told m → GoesOn old new
    → ((s : Seat A) → seat ≡ Some s → IsSeated told old s.task s.call q r) → IsTakenWithin m (state_of old) r k n seat → IsTakenWithin m (state_of new) r k n seat
within_later told m old new q r k n None law goes seated within = within
within_later told m old new q r k n (Some s) law goes seated within = law.later old new q r k n s goes (seated s refl) within

-- a request that was taken, and has no answer
within_now : {A : Type 0} (told : Option Content) (m : Measure A) (old new : Shown) (q left : ℕ) (r : Request) (k : m.Known) (n : ℕ) (after : Option (Seat A)) → MatchOption after (HasPosted told old new q) (WaitsAgain told old new q left) → IsOpen new q
    → MatchOption after (PostsAnswerOf m old new q k) (m.Within (state_of new) r k n) → IsTakenWithin m (state_of new) r k n after
within_now told m old new q left r k n None posted is_open nearer = absurd (not_open old new q posted.answer posted.unanswered posted.posted is_open)
within_now told m old new q left r k n (Some s) waits is_open nearer = nearer

-- a request that was taken for the last time
posts_now : {A : Type 0} (told : Option Content) (m : Measure A) (old new : Shown) (q left : ℕ) (r : Request) (k : m.Known) (after : Option (Seat A)) → IsMeasure told m → MatchOption after (HasPosted told old new q) (WaitsAgain told old new q left)
    → MatchOption after (PostsAnswerOf m old new q k) (m.Within (state_of new) r k 0) → PostsAnswerOf m old new q k
posts_now told m old new q left r k None law posted nearer = nearer
posts_now told m old new q left r k (Some s) law waits nearer = absurd (law.once new q waits.seated.0 r k s waits.seated.2 nearer)

-- ---- behind the pieces so far

fits_now : {A : Type 0} (m : Measure A) (x : Shown) (room : Room A) (ps : List Piece) (q : ℕ) (r : plans.Request) (k : m.Known) → AreWithin m x room ps → m.Fits (unwrap_or (first_taken q ps) (state_of x)) r k → m.Fits (state_of x) r k
fits_now m x room ps q r k are fits = by_first (first_taken q ps) refl fits
  where
    by_first : (o : Option State) → first_taken q ps ≡ o → m.Fits (unwrap_or o (state_of x)) r k → m.Fits (state_of x) r k
    by_first None is f = f
    by_first (Some s) is f = are.fits q r k s is f

within_before : {A : Type 0} (m : Measure A) (x : Shown) (room : Room A) (ps : List Piece) (q : ℕ) (r : Request) (k : m.Known) (n : ℕ) → AreWithin m x room ps → slice_get x.script.requests q ≡ Some r → IsOpen x q
    → m.Fits (unwrap_or (first_taken q ps) (state_of x)) (request_of r) k → m.all k ≤ takings q ps + n → IsTakenWithin m (state_of x) r k n (seat_at room q)
within_before {A = A} m x room ps q r k n are asked is_open fits all = by_first (first_taken q ps) refl fits
  where
    by_first : (o : Option State) → first_taken q ps ≡ o → m.Fits (unwrap_or o (state_of x)) (request_of r) k → IsTakenWithin m (state_of x) r k n (seat_at room q)
    by_first None is f = subst (λ (seat : Option (Seat A)). IsTakenWithin m (state_of x) r k n seat) (sym (are.untaken q is)) (let none = untaken_none q ps is in omega arith)
    by_first (Some s) is f = are.within q r k s n asked is_open is f all

-- before the first choice
pub none_within : {A : Type 0} (m : Measure A) (x : Shown) (room : Room A) → NoneSeated room → AreWithin m x room []
none_within m x room none = record { untaken = λ q e. none q; fits = λ q r k s first fits. absurd (none-some _ first); within = λ q r k s n asked is_open first fits all. absurd (none-some _ first) }

-- one piece more
are_within : {A : Type 0} (told : Option Content) (m : Measure A) (old new : Shown) (was now : Room A) (ps : List Piece) (choice : ℕ) (made rounds : List Step) → IsMeasure told m → GoesOn old new → AllSeated told old was → AreWithin m old was ps
    → ((q : ℕ) → IsOpen new q → IsOpen old q)
    → ((q : ℕ) → is_of q (taken_by (schedule_of old.script) (state_of old) choice) ≡ false → seat_at now q ≡ seat_at was q)
    → ((q : ℕ) (r : Request) (k : m.Known) (n : ℕ) → is_of q (taken_by (schedule_of old.script) (state_of old) choice) ≡ true
    → slice_get old.script.requests q ≡ Some r → IsOpen new q → m.Fits (state_of old) (request_of r) k → IsTakenWithin m (state_of old) r k (suc n) (seat_at was q) → IsTakenWithin m (state_of new) r k n (seat_at now q))
    → AreWithin m new now (ps ++ piece (schedule_of old.script) (state_of old) choice made rounds ∷ [])
are_within {A = A} told m old new was now ps choice made rounds law goes seated are opens others this = record {
  untaken = λ q none. let before = untaken_before q ps p none in others q before.1 ∙ are.untaken q before.0;
  fits = λ q r k s first fits. law.fits old new r k goes (fits_now m old was ps q r k are (since q r k s first fits));
  within = λ q r k s n asked is_open first fits all.
      let of : slice_get old.script.requests q ≡ Some r = ap (λ (y : Scripted). slice_get y.requests q) (sym goes.script) ∙ asked in
      let before = since q (request_of r) k s first fits in
      elim (bool_cases (is_of q p.taken)) [
        | inl is ↦ this q r k n is of is_open (fits_now m old was ps q (request_of r) k are before)
            (within_before m old was ps q r k (suc n) are of (opens q is_open) before (let more = takings_this q ps p is in omega arith))
        | inr apart ↦ subst (λ (seat : Option (Seat A)). IsTakenWithin m (state_of new) r k n seat) (sym (others q apart))
            (within_later told m old new q r k n (seat_at was q) law goes (λ s at. seated q s r at of)
            (within_before m old was ps q r k n are of (opens q is_open) before (let same = takings_other q ps p apart in omega arith)))
      ];
}
  where
    p : Piece
    p = piece (schedule_of old.script) (state_of old) choice made rounds

    since : (q : ℕ) (r : plans.Request) (k : m.Known) (s : State) → first_taken q (ps ++ p ∷ []) ≡ Some s → m.Fits s r k → m.Fits (unwrap_or (first_taken q ps) (state_of old)) r k
    since q r k s first fits = subst (λ (t : State). m.Fits t r k) (first_since q ps p s first) fits

-- ---- a choice

-- where nobody waits
pub keeps_none : {A : Type 0} (told : Option Content) (m : Measure A) (x : Shown) (room : Room A) (choice : ℕ) → IsMeasure told m → AllSeated told x room → taken_by (schedule_of x.script) (state_of x) choice ≡ None → ChoiceKeeps m x x room room choice
keeps_none told m x room choice law seated nobody = λ ps are. (
  λ q r k taken asked fits all. absurd (some_none (taken_by (schedule_of x.script) (state_of x) choice) q taken nobody),
  λ made rounds. are_within told m x x room room ps choice made rounds law (goes_on_none x) seated are (λ q is_open. is_open) (λ q apart. refl)
      (λ q r k n is asked is_open fits at. absurd (some_none (taken_by (schedule_of x.script) (state_of x) choice) q (this_of q (taken_by (schedule_of x.script) (state_of x) choice) is) nobody)),
)

-- a request was taken: it went on, or was answered
pub keeps_turned : {A : Type 0} (told : Option Content) (m : Measure A) (old new : Shown) (room done : Room A) (choice q left : ℕ) (after : Option (Seat A)) → IsMeasure told m → IsKept told old → AllSeated told old room → IsOpen old q → taken_by (schedule_of old.script) (state_of old) choice ≡ Some q
    → MatchOption after (HasPosted told old new q) (WaitsAgain told old new q left) → HasMoved room done q after → ComesNearer m old new q (seat_at room q) after → ChoiceKeeps m old new room done choice
keeps_turned {A = A} told m old new room done choice q left after law kept seated here whom did moved nearer = λ ps are. (
  λ p r k taken. subst (λ (i : ℕ). slice_get (schedule_of old.script) i ≡ Some r → m.Fits (unwrap_or (first_taken i ps) (state_of old)) r.request k → m.all k ≤ takings i ps + 1 → PostsAnswerOf m old new i k)
      (sym (some_same p q (sym taken ∙ whom))) (in_time ps r k are),
  λ made rounds. are_within told m old new room done ps choice made rounds law (goes_turned told old new q left after kept did) seated are (opens_turned told old new q left after did)
      (λ p apart. moved.others p (of_other p q (taken_by (schedule_of old.script) (state_of old) choice) whom apart))
      (λ p r k n is. subst (λ (i : ℕ). slice_get old.script.requests i ≡ Some r → IsOpen new i → m.Fits (state_of old) (request_of r) k → IsTakenWithin m (state_of old) r k (suc n) (seat_at room i) → IsTakenWithin m (state_of new) r k n (seat_at done i))
      (sym (some_same p q (sym (this_of p (taken_by (schedule_of old.script) (state_of old) choice) is) ∙ whom)))
      (λ asked is_open fits at. subst (λ (seat : Option (Seat A)). IsTakenWithin m (state_of new) r k n seat) (sym moved.here)
      (within_now told m old new q left r k n after did is_open (nearer r k n asked fits at)))),
)
  where
    in_time : (ps : List Piece) (r : Scheduled) (k : m.Known) → AreWithin m old room ps
        → slice_get (schedule_of old.script) q ≡ Some r → m.Fits (unwrap_or (first_taken q ps) (state_of old)) r.request k → m.all k ≤ takings q ps + 1 → PostsAnswerOf m old new q k
    in_time ps r k are of fits all =
        let j = asked_turned told old new q left after did in
        let e = scheduled_at old.script.requests old.script.rounds_of q j.0 kept.trusted.script.each j.1 in
        let is : r ≡ record { request = request_of j.0; round = e.0 } = some_same r (record { request = request_of j.0; round = e.0 }) (sym of ∙ e.1) in
        let fit = subst (λ (i : Scheduled). m.Fits (unwrap_or (first_taken q ps) (state_of old)) i.request k) is fits in
        posts_now told m old new q left j.0 k after law did
        (nearer j.0 k 0 j.1 (fits_now m old room ps q (request_of j.0) k are fit) (within_before m old room ps q j.0 k 1 are j.1 here fit all))

-- the rounds behind it
pub keeps_rounds : {A : Type 0} (told : Option Content) (m : Measure A) (old mid new : Shown) (was room done : Room A) (choice : ℕ) → IsMeasure told m → AllSeated told mid room → RoundsPassed mid new → ((q : ℕ) → seat_at done q ≡ seat_at room q) → ChoiceKeeps m old mid was room choice → ChoiceKeeps m old new was done choice
keeps_rounds {A = A} told m old mid new was room done choice law seated passed same keeps = λ ps are. (
  λ q r k taken asked fits all. let post = (keeps ps are).0 q r k taken asked fits all in (
    post.0,
    post.1 ++ passed.passed,
    post.2,
    passed.steps_more ∙ ap (λ (es : List Step). es ++ passed.passed) post.3 ∙ append_assoc (steps old) (Post q post.0 ∷ post.1) passed.passed,
  ),
  λ made rounds. behind (ps ++ piece (schedule_of old.script) (state_of old) choice made rounds ∷ []) ((keeps ps are).1 made rounds),
)
  where
    goes : GoesOn mid new
    goes = goes_on_rounds mid new passed

    behind : (ps : List Piece) → AreWithin m mid room ps → AreWithin m new done ps
    behind ps are = record {
      untaken = λ q none. same q ∙ are.untaken q none;
      fits = λ q r k s first fits. law.fits mid new r k goes (are.fits q r k s first fits);
      within = λ q r k s n asked is_open first fits all.
          let of : slice_get mid.script.requests q ≡ Some r = ap (λ (y : Scripted). slice_get y.requests q) (sym passed.script) ∙ asked in
          subst (λ (seat : Option (Seat A)). IsTakenWithin m (state_of new) r k n seat) (sym (same q))
          (within_later told m mid new q r k n (seat_at room q) law goes (λ t at. seated q t r at of)
          (are.within q r k s n of (ap (λ (xs : List (Option rust.Answer)). slice_get xs q) (sym passed.answers) ∙ is_open) first fits all));
    }

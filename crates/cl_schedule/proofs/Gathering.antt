-- The requests of the next round, one number after another, and that those are who waits once the round began.
use Rattle.std.proofs.Common.{◌≡◌, inl, inr, ◌∙◌, ◌+◌, ◌<◌, ◌≤◌, ℕ, zero, suc, Bool, true, false, List, [], ◌∷◌, ◌++◌, length, Option, Some, None, refl, sym, ap, subst, arith, is_some, add-one}
use Rattle.std.specs.Prelude.{◌&&◌, nat_eq, is_none, slice_get, IsSome}
use Rattle.std.specs.List.{range_with_len}
use Rattle.std.proofs.lemmas.List.{length_push}
use Rattle.std.proofs.lemmas.Bool.{cases_lt}
use Rattle.std.proofs.lemmas.Bool.Decides.{nat_tests}
use Rattle.std.proofs.lemmas.Cmp.{nat_eq_equiv}
use Rattle.std.proofs.lemmas.Option.{slice_get_within}
use Rattle.cl_model.specs.declared.answer.Answer as rust
use Rattle.cl_model.specs.Content.{Content}
use Rattle.cl_model.specs.States.{State, answer_to}
use Rattle.cl_model.specs.Machine.{Scheduled}
use Rattle.cl_model.specs.Views.{answers_of, answer_at}
use Rattle.cl_config.specs.Loaders.{schedule_of}
use Rattle.cl_config.specs.Scripts.{IsScript}
use Rattle.cl_config.specs.Views.{Scripted}
use Rattle.cl_registry.specs.Tables.{Shown, IsKept, IsLater, IsOpen, IsTrusted, round_of, state_of}
use Rattle.cl_registry.specs.Tables as tables
use Rattle.cl_registry.proofs.Histories.{open_answer}
use Rattle.cl_registry.proofs.Running.{answered}
use Rattle.cl_registry.proofs.Schedules.{some_at, schedule_round}
use Rattle.cl_schedule.specs.Choices.{is_waiting, waiting_from}
use Rattle.cl_schedule.specs.Seats.{AreOfRound, HasGathered, MayGather}
use Rattle.cl_schedule.proofs.Rounds.{schedule_length, within}
use Rattle.cl_schedule.proofs.Waiting.{none_some, none_there, put}
use Rattle.cl_model.proofs.Bind.{some_same}
use Rattle.cl_schedule.proofs.Serving.{numbers_push}

-- ---- while they are put down

-- those that were put down so far
pub record Gathering (s : Scripted) (first : ℕ) (ws : List ℕ) (next : ℕ) : Type 0 where
  pub numbers : ws ≡ range_with_len first (length ws)
  pub until : next ≡ first + length ws
  pub within : next ≤ length s.requests
  pub alike : (p : ℕ) → first ≤ p → p < next → slice_get s.rounds_of p ≡ slice_get s.rounds_of first

pub gathering_none : (s : Scripted) (first : ℕ) (ws : List ℕ) → ws ≡ [] → first ≤ length s.requests → Gathering s first ws first
gathering_none s first ws none within = record {
  numbers = none ∙ ap (λ (xs : List ℕ). range_with_len first (length xs)) (sym none);
  until = let size : length ws ≡ 0 = ap length none in omega arith;
  within = within;
  alike = λ p least below. absurd (omega arith);
}

pub gathering_push : (s : Scripted) (first : ℕ) (ws new : List ℕ) (next : ℕ) → Gathering s first ws next → new ≡ ws ++ next ∷ [] → next < length s.requests → slice_get s.rounds_of next ≡ slice_get s.rounds_of first → Gathering s first new (next + 1)
gathering_push s first ws new next g is within same =
    let size : length new ≡ suc (length ws) = ap length is ∙ length_push ws next ∙ add-one (length ws) in
    record {
      numbers =
          is ∙ ap (λ (xs : List ℕ). xs ++ next ∷ []) g.numbers ∙ numbers_push first (length ws) next (sym g.until)
          ∙ ap (range_with_len first) (sym size);
      until = let until = g.until in omega arith;
      within = omega arith;
      alike = λ p least below. elim (cases_lt p next) [
        | inl before ↦ g.alike p least before
        | inr last ↦ (let here : next ≡ p = omega arith in subst (λ (k : ℕ). slice_get s.rounds_of k ≡ slice_get s.rounds_of first) here same)
      ];
    }

-- ---- the numbers of those that wait

-- where nobody of a list waits
waiting_none : (s : State) (k : ℕ) (rs : List Scheduled) → ((p q : ℕ) (r : Scheduled) → q ≡ k + p → slice_get rs p ≡ Some r → is_waiting s q r ≡ false) → waiting_from s k rs ≡ []
waiting_none s k [] none = refl
waiting_none s k (r ∷ rs) none =
    ap (λ (b : Bool). put b k (waiting_from s (suc k) rs)) (none 0 k r (omega arith) refl)
    ∙ waiting_none s (suc k) rs (λ p q e is at. none (suc p) q e (omega arith) at)

-- where so many wait at the head of a list, and nobody behind them
waiting_first : (s : State) (k n : ℕ) (rs : List Scheduled) → n ≤ length rs → ((p q : ℕ) (r : Scheduled) → q ≡ k + p → slice_get rs p ≡ Some r → q < k + n → is_waiting s q r ≡ true)
    → ((p q : ℕ) (r : Scheduled) → q ≡ k + p → slice_get rs p ≡ Some r → k + n ≤ q → is_waiting s q r ≡ false) → waiting_from s k rs ≡ range_with_len k n
waiting_first s k zero rs few those others = waiting_none s k rs (λ p q r is at. others p q r is at (omega arith))
waiting_first s k (suc n) [] few those others = absurd (omega arith)
waiting_first s k (suc n) (r ∷ rs) few those others =
    ap (λ (b : Bool). put b k (waiting_from s (suc k) rs)) (those 0 k r (omega arith) refl (omega arith))
    ∙ ap (λ (ws : List ℕ). k ∷ ws)
    (waiting_first s (suc k) n rs (omega arith) (λ p q e is at less. those (suc p) q e (omega arith) at (omega arith)) (λ p q e is at least. others (suc p) q e (omega arith) at (omega arith))
    ∙ ap (λ (a : ℕ). range_with_len a n) (sym (add-one k)))

-- where so many wait from a number on, and nobody before or behind them
waiting_there : (s : State) (skip k first n : ℕ) (rs : List Scheduled) → first ≡ k + skip → skip + n ≤ length rs → ((p q : ℕ) (r : Scheduled) → q ≡ k + p → slice_get rs p ≡ Some r → q < first → is_waiting s q r ≡ false)
    → ((p q : ℕ) (r : Scheduled) → q ≡ k + p → slice_get rs p ≡ Some r → first ≤ q → q < first + n → is_waiting s q r ≡ true)
    → ((p q : ℕ) (r : Scheduled) → q ≡ k + p → slice_get rs p ≡ Some r → first + n ≤ q → is_waiting s q r ≡ false) → waiting_from s k rs ≡ range_with_len first n
waiting_there s zero k first n rs here few before those behind =
    let same : k ≡ first = omega arith in
    waiting_first s k n rs (omega arith) (λ p q r is at less. those p q r is at (omega arith) (omega arith)) (λ p q r is at least. behind p q r is at (omega arith))
    ∙ ap (λ (f : ℕ). range_with_len f n) same
waiting_there s (suc skip) k first n [] here few before those behind = absurd (omega arith)
waiting_there s (suc skip) k first n (r ∷ rs) here few before those behind =
    ap (λ (b : Bool). put b k (waiting_from s (suc k) rs)) (before 0 k r (omega arith) refl (omega arith))
    ∙ waiting_there s skip (suc k) first n rs (omega arith) (omega arith) (λ p q e is at less. before (suc p) q e (omega arith) at less) (λ p q e is at least less. those (suc p) q e (omega arith) at least less)
    (λ p q e is at least. behind (suc p) q e (omega arith) at least)

-- ---- the round

-- a later number is of no earlier round
in_order : (s : Scripted) (p q m n : ℕ) → IsScript s → p ≤ q → slice_get s.rounds_of p ≡ Some m → slice_get s.rounds_of q ≡ Some n → m ≤ n
in_order s p q m n is least at there = elim (cases_lt p q) [
  | inl less ↦ is.in_order p q m n less at there
  | inr most ↦ (let same : p ≡ q = omega arith in let one : m ≡ n = some_same m n (sym at ∙ ap (slice_get s.rounds_of) same ∙ there) in omega arith)
]

-- each request has a round
round_at : (s : Scripted) (q : ℕ) → IsScript s → q < length s.requests → (n : ℕ) × (slice_get s.rounds_of q ≡ Some n)
round_at s q is below = some_at s.rounds_of q (subst (λ (n : ℕ). q < n) (sym is.each) below)

in_script : (s : Scripted) (q : ℕ) (e : Scheduled) → IsScript s → slice_get (schedule_of s) q ≡ Some e → q < length s.requests
in_script s q e is at = subst (λ (n : ℕ). q < n) (schedule_length s.requests s.rounds_of is.each) (slice_get_within (schedule_of s) q e at)

-- a request of the script that is not open has an answer in the state
has_answer : (x : Shown) (q : ℕ) → IsTrusted x → q < length x.script.requests → (IsOpen x q → ⊥) → is_some (answer_to (state_of x).answers q) ≡ true
has_answer x q t below closed = answered x q t ∙ some_given x.answers q (subst (λ (n : ℕ). q < n) (sym t.whole) below) closed
  where
    some_given : (xs : List (Option rust.Answer)) (p : ℕ) → p < length xs → (slice_get xs p ≡ Some None → ⊥) → is_some (answer_at (answers_of xs) p) ≡ true
    some_given [] p below closed = absurd (omega arith)
    some_given (None ∷ xs) zero below closed = absurd (closed refl)
    some_given (Some a ∷ xs) zero below closed = refl
    some_given (x ∷ xs) (suc p) below closed = some_given xs p (omega arith) closed

-- where all requests below a number have their answers, and no further round may begin, that number is of the round
first_round : (x : Shown) (first m : ℕ) → IsTrusted x → MayGather x first → (tables.RoundMayBegin x → ⊥) → first < length x.script.requests → slice_get x.script.rounds_of first ≡ Some m → m ≡ round_of x
first_round x first m t g over below at = elim (cases_lt m (round_of x)) [
  | inl less ↦ absurd (none_some (answer_at (answers_of x.answers) first) (open_answer x.answers first (g.front.open_later first (omega arith) below)) (t.earlier first m at less))
  | inr least ↦
      (elim (cases_lt (round_of x) m) [
        | inl after ↦ absurd (over (record { answered = λ p e there same. given p e there same after; later = let most = within x.script.rounds x.script.rounds_of first m t.script.within at in omega arith }))
        | inr most ↦ omega arith
      ])
]
  where
    given : (p : ℕ) (e : Scheduled) → slice_get (schedule_of x.script) p ≡ Some e → e.round ≡ round_of x → round_of x < m → IsSome (answer_to (state_of x).answers p)
    given p e there same after = elim (cases_lt p first) [
      | inl before ↦ has_answer x p t (in_script x.script p e t.script there) (g.answered p before)
      | inr least ↦ absurd (let order = in_order x.script first p m e.round t.script least at (schedule_round x.script.requests x.script.rounds_of p e there) in omega arith)
    ]

-- ---- what was put down is who waits

-- the requests of the next round were put down: they are of the round, and wait
of_round : (x : Shown) (first : ℕ) (ws : List ℕ) (next p : ℕ) → IsTrusted x → MayGather x first → (tables.RoundMayBegin x → ⊥) → AreOfRound x.script first ws next → first ≤ p → p < next → slice_get x.script.rounds_of p ≡ Some (round_of x)
of_round x first ws next p t g over a least less =
    let below : first < length x.script.requests = let most = a.within in omega arith in
    let m = round_at x.script first t.script below in
    a.alike p least less ∙ m.1 ∙ ap (λ (n : ℕ). Some n) (first_round x first m.0 t g over below m.1)

-- those behind them are of later rounds
behind_round : (x : Shown) (first : ℕ) (ws : List ℕ) (next q : ℕ) → IsTrusted x → MayGather x first → (tables.RoundMayBegin x → ⊥) → AreOfRound x.script first ws next → next ≤ q → q < length x.script.requests → IsLater x q
behind_round x first ws next q t g over a least below =
    let from : first ≤ next = let until = a.until in omega arith in
    let m = round_at x.script first t.script (omega arith) in
    let o = round_at x.script next t.script (omega arith) in
    let n = round_at x.script q t.script below in
    let now : m.0 ≡ round_of x = first_round x first m.0 t g over (omega arith) m.1 in
    let after : m.0 < o.0 = more m.0 o.0 (in_order x.script first next m.0 o.0 t.script from m.1 o.1) (λ same. a.apart (omega arith) (o.1 ∙ ap (λ (k : ℕ). Some k) (sym same) ∙ sym m.1)) in
    let order : o.0 ≤ n.0 = in_order x.script next q o.0 n.0 t.script least o.1 n.1 in
    record { round = n.0; of = n.1; later = omega arith }
  where
    more : (a b : ℕ) → a ≤ b → (a ≡ b → ⊥) → a < b
    more a b least ne = elim (cases_lt a b) [
      | inl less ↦ less
      | inr most ↦ absurd (ne (omega arith))
    ]

-- what was put down of the next round is who waits in it
pub gathered : (told : Option Content) (x : Shown) (first : ℕ) (ws : List ℕ) (next : ℕ) → IsKept told x → MayGather x first → (tables.RoundMayBegin x → ⊥) → AreOfRound x.script first ws next → HasGathered x ws next
gathered told x first ws next k g over a =
    let t = k.trusted in
    let until = a.until in
    let size : length (schedule_of x.script) ≡ length x.script.requests = schedule_length x.script.requests x.script.rounds_of t.script.each in
    record {
      waits =
          a.numbers
          ∙ sym (waiting_there (state_of x) first 0 first (length ws) (schedule_of x.script) (omega arith) (let most = a.within in omega arith) (λ p q e is at less. before q e (there p q e is at) less)
          (λ p q e is at least less. those q e (there p q e is at) least (omega arith)) (λ p q e is at least. behind q e (there p q e is at) (omega arith)));
      front = record {
        within = a.within;
        begun = λ p below late. elim (cases_lt p first) [
          | inl less ↦ g.front.begun p less late
          | inr least ↦ not_later late (of_round x first ws next p t g over a least below)
        ];
        open_later = λ p least below. g.front.open_later p (omega arith) below;
      };
      later = λ p least below. behind_round x first ws next p t g over a least below;
    }
  where
    there : (p q : ℕ) (e : Scheduled) → q ≡ 0 + p → slice_get (schedule_of x.script) p ≡ Some e → slice_get (schedule_of x.script) q ≡ Some e
    there p q e is at = let same : p ≡ q = omega arith in subst (λ (n : ℕ). slice_get (schedule_of x.script) n ≡ Some e) same at

    not_later : {p : ℕ} → (late : IsLater x p) → slice_get x.script.rounds_of p ≡ Some (round_of x) → ⊥
    not_later late at = let one = some_same late.round (round_of x) (sym late.of ∙ at) in let after = late.later in omega arith

    no_wait : {A : Type 0} (b : Bool) (o : Option A) → is_some o ≡ true → (b && is_none o) ≡ false
    no_wait true (Some y) e = refl
    no_wait false (Some y) e = refl
    no_wait b None e = absurd cc

    before : (q : ℕ) (e : Scheduled) → slice_get (schedule_of x.script) q ≡ Some e → q < first → is_waiting (state_of x) q e ≡ false
    before q e at less = no_wait (nat_eq e.round (round_of x)) (answer_to (state_of x).answers q) (has_answer x q k.trusted (in_script x.script q e k.trusted.script at) (g.answered q less))

    two_true : (b d : Bool) → b ≡ true → d ≡ true → (b && d) ≡ true
    two_true b d e f = rw (e, f) refl

    those : (q : ℕ) (e : Scheduled) → slice_get (schedule_of x.script) q ≡ Some e → first ≤ q → q < next → is_waiting (state_of x) q e ≡ true
    those q e at least less =
        let now : e.round ≡ round_of x = some_same e.round (round_of x) (sym (schedule_round x.script.requests x.script.rounds_of q e at) ∙ of_round x first ws next q k.trusted g over a least less) in
        two_true (nat_eq e.round (round_of x)) (is_none (answer_to (state_of x).answers q)) (subst (λ (n : ℕ). nat_eq e.round n ≡ true) now (nat_eq_equiv.refl e.round))
        (ap is_none (none_there x q k.trusted (g.front.open_later q least (in_script x.script q e k.trusted.script at))))

    other_round : (m n : ℕ) (b : Bool) → n < m → (nat_eq m n && b) ≡ false
    other_round m n b less = ap (λ (d : Bool). d && b) (apart m n less)
      where
        apart : (m n : ℕ) → n < m → nat_eq m n ≡ false
        apart m n less = grind (arith, nat_tests)

    behind : (q : ℕ) (e : Scheduled) → slice_get (schedule_of x.script) q ≡ Some e → next ≤ q → is_waiting (state_of x) q e ≡ false
    behind q e at least =
        let late = behind_round x first ws next q k.trusted g over a least (in_script x.script q e k.trusted.script at) in
        let one : late.round ≡ e.round = some_same late.round e.round (sym late.of ∙ schedule_round x.script.requests x.script.rounds_of q e at) in
        let after = late.later in
        other_round e.round (round_of x) (is_none (answer_to (state_of x).answers q)) (omega arith)

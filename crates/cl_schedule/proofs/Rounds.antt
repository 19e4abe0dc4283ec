-- Rounds between requests, and one request after another.
use Rattle.std.proofs.Common.{◌≡◌, inl, inr, ◌∙◌, ◌+◌, ◌-◌, ◌<◌, ◌≤◌, ℕ, zero, suc, Bool, true, false, List, [], ◌∷◌, ◌++◌, length, take, Option, Some, None, refl, sym, ap, subst, arith, append_assoc, add-one, is_some}
use Rattle.std.specs.Prelude.{◌||◌, ◌⊎◌, nat_eq, option_map, slice_get, slice_index_or, slice_set, IsSome, All}
use Rattle.std.specs.List.{list_any, range_with_len}
use Rattle.std.proofs.lemmas.List.{append-nil}
use Rattle.std.proofs.lemmas.Option.{slice_get_within}
use Rattle.std.proofs.lemmas.Bool.{cases_lt}
use Rattle.cl_model.specs.declared.event.Event.{Event}
use Rattle.cl_model.specs.declared.event.Event.TheVariants as events
use Rattle.cl_model.specs.declared.answer.Answer as rust
use Rattle.cl_model.specs.declared.request.Request.{Request}
use Rattle.cl_model.specs.Content.{Content}
use Rattle.cl_model.specs.States.{State, Answer, answer_to, start}
use Rattle.cl_model.specs.Machine.{Setting, Scheduled, Step, Define, Initiate, NextRound, Post, EndsRound, MayGoOn, after, state_after}
use Rattle.cl_model.specs.Service.{PassesRounds, AllServed}
use Rattle.cl_model.specs.Views.{answer_of, answers_of, answer_at, request_of, post_of, step_of, steps_of}
use Rattle.cl_model.proofs.Sound.{posted_stay}
use Rattle.cl_model.proofs.Service.{all_served_push}
use Rattle.cl_model.proofs.Views.{state_then}
use Rattle.cl_model.proofs.Tables.{answer_found}
use Rattle.cl_model.proofs.Pieces.{passes_none}
use Rattle.cl_model.proofs.Bind.{some_same}
use Rattle.cl_config.specs.Loaders.{schedule, schedule_of}
use Rattle.cl_config.specs.Scripts.{IsScript}
use Rattle.cl_config.specs.Views.{Scripted}
use Rattle.cl_registry.specs.Tables.{Shown, IsTrusted, IsOpen, IsLater, posts, round_of, state_of, steps, with_round, machine as machine_of}
use Rattle.cl_registry.specs.Tables as tables
use Rattle.cl_registry.specs.declared.registry.RegistryFault.{RegistryFault}
use Rattle.cl_registry.specs.declared.registry.RegistryFault.TheVariants.{NotYet}
use Rattle.cl_registry.specs.Refusals.{RoundRefusedFor}
use Rattle.cl_registry.specs.Reports.{IsUnfinished}
use Rattle.cl_registry.proofs.Histories.{eq_nat, swap_nat}
use Rattle.cl_registry.proofs.Schedules.{schedule_round}
use Rattle.cl_registry.proofs.Calm.{post_other}
use Rattle.cl_tasks.proofs.LinkPlan.{taken_long}
use Rattle.cl_schedule.specs.Known.{HasVerdict, KnownStays, SaysOrLacks, TellsKnown}
use Rattle.cl_schedule.specs.Serving.{GoesBy, InOrder, IsDone, IsPost, NoPosts}
use Rattle.cl_schedule.specs.Rounds.{RoundsPassed}
use Rattle.cl_schedule.proofs.Histories.{goes_event}
use Rattle.cl_schedule.proofs.Known.{KeepsKnown, SaysKnown, known_at, known_piece, known_quiet}
use Rattle.cl_schedule.proofs.Serving.{bare, in_numbers, none_is_open}
use Rattle.cl_schedule.proofs.States.{same_machine, state_goes}

-- ---- while rounds begin

-- rounds began, and what passes from here on passes from there
pub record Passing (old now : Shown) : Type 0 where
  pub config : now.config ≡ old.config
  pub script : now.script ≡ old.script
  pub rows : now.rows ≡ old.rows
  pub answers : now.answers ≡ old.answers
  pub posts_same : posts now.history ≡ posts old.history
  pub events : List Event
  pub history : now.history ≡ old.history ++ events
  pub begun : List Step
  pub steps_more : steps now ≡ steps old ++ begun
  pub later : (content : Content) (es : List Step) → PassesRounds (machine_of old content) (state_of now) es → PassesRounds (machine_of old content) (state_of old) (begun ++ es)

pub passing_none : (x : Shown) → Passing x x
passing_none x = record {
  config = refl;
  script = refl;
  rows = refl;
  answers = refl;
  posts_same = refl;
  events = [];
  history = sym (append-nil x.history);
  begun = [];
  steps_more = sym (append-nil (steps x));
  later = λ content es h. h;
}

-- where the next round may begin, in the machine's words
pub goes_on_there : (old x : Shown) (content : Content) → x.script ≡ old.script → tables.RoundMayBegin x → MayGoOn (machine_of old content) (state_of x)
goes_on_there old x content s h = subst (λ k. EndsRound (schedule_of k) k.rounds (state_of x)) s h

pub passing_on : (old x new : Shown) → Passing old x → tables.RoundMayBegin x → GoesBy x new NextRound → new.rows ≡ x.rows → Passing old new
passing_on old x new p may h rows = record {
  config = h.config ∙ p.config;
  script = h.script ∙ p.script;
  rows = rows ∙ p.rows;
  answers = h.answers ∙ p.answers;
  posts_same = h.posts_same ∙ p.posts_same;
  events = p.events ++ h.event ∷ [];
  history = h.history ∙ ap (λ (es : List Event). es ++ h.event ∷ []) p.history ∙ append_assoc old.history p.events (h.event ∷ []);
  begun = p.begun ++ NextRound ∷ [];
  steps_more = h.step ∙ ap (λ (es : List Step). es ++ NextRound ∷ []) p.steps_more ∙ append_assoc (steps old) p.begun (NextRound ∷ []);
  later = λ content es more.
      subst (λ (xs : List Step). PassesRounds (machine_of old content) (state_of old) xs) (sym (append_assoc p.begun (NextRound ∷ []) es))
      (p.later content (NextRound ∷ es) (refl, goes_on_there old x content p.script may, subst (λ (s : State). PassesRounds (machine_of old content) s es) (state_goes x new NextRound h) more));
}

all_passed : (old now : Shown) → Passing old now → (tables.RoundMayBegin now → ⊥) → RoundsPassed old now
all_passed old now p over = record {
  config = p.config;
  script = p.script;
  rows = p.rows;
  answers = p.answers;
  posts_same = p.posts_same;
  events = p.events;
  history = p.history;
  passed = p.begun;
  steps_more = p.steps_more;
  rounds = λ content.
      subst (λ (xs : List Step). PassesRounds (machine_of old content) (state_of old) xs) (append-nil p.begun)
      (p.later content [] (λ (m : MayGoOn (machine_of old content) (state_of now)). over (subst (λ k. EndsRound (schedule_of k) k.rounds (state_of now)) (sym p.script) m)));
}

pub round_goes : (x new : Shown) → new ≡ with_round x → GoesBy x new NextRound
round_goes x new e = goes_event x new events.NextRound e refl

-- the number of rounds to come falls
pub next_number : (x new : Shown) → tables.RoundMayBegin x → new ≡ with_round x → new.script.rounds - round_of new < x.script.rounds - round_of x
next_number x new may e =
    let same : new.script ≡ x.script = ap (λ (y : Shown). y.script) e in
    let rounds : new.script.rounds ≡ x.script.rounds = ap (λ s. s.rounds) same in
    let more : round_of new ≡ round_of x + 1 = ap (λ (s : State). s.round) (state_goes x new NextRound (round_goes x new e)) in
    let later = may.later in
    omega arith

-- a refusal ends them
pub end_of_rounds : (old x new : Shown) (fault : RegistryFault) → Passing old x → new ≡ x → RoundRefusedFor x fault → RoundsPassed old new
end_of_rounds old x new NotYet p same refused = subst (RoundsPassed old) (sym same) (all_passed old x p refused)
end_of_rounds old x new other p same refused = absurd refused

-- ---- after rounds have passed

-- no further round may begin
pub none_goes_on : (old new : Shown) → RoundsPassed old new → tables.RoundMayBegin new → ⊥
none_goes_on old new p may =
    passes_none (machine_of old []) (state_of old) p.passed (p.rounds [])
    (subst (λ (s : State). MayGoOn (machine_of old []) s) (ap (state_after start) p.steps_more ∙ state_then start (steps old) p.passed)
    (goes_on_there old new [] p.script may))

-- ---- what is posted is answered

posted_answer : (now : List (Option Answer)) (h : List Event) (s : State) (q : ℕ) (a : Answer) → answer_at now q ≡ Some a → answer_to s.answers q ≡ None → list_any (nat_eq q) (posts h) ≡ true → answer_to (state_after s (steps_of now h)).answers q ≡ Some a
posted_answer now [] s q a at none is = absurd cc
posted_answer now (events.Define c ∷ h) s q a at none is = posted_answer now h (after s (Define c)) q a at none is
posted_answer now (events.Initiate c loader ∷ h) s q a at none is = posted_answer now h (after s (Initiate c.name c.loader loader)) q a at none is
posted_answer now (events.Constrain e ∷ h) s q a at none is = posted_answer now h (after s (step_of now (events.Constrain e))) q a at none is
posted_answer now (events.Settle r ∷ h) s q a at none is = posted_answer now h (after s (step_of now (events.Settle r))) q a at none is
posted_answer now (events.Prepare c ∷ h) s q a at none is = posted_answer now h (after s (step_of now (events.Prepare c))) q a at none is
posted_answer now (events.NextRound ∷ h) s q a at none is = posted_answer now h (after s NextRound) q a at none is
posted_answer now (events.Post p ∷ h) s q a at none is = by_test (nat_eq q p) refl is (posted_answer now h (after s (post_of p (answer_at now p))) q a at)
  where
    here : q ≡ p → answer_to (after s (post_of p (answer_at now p))).answers q ≡ Some a
    here same =
        subst (λ (k : ℕ). answer_to (after s (post_of k (answer_at now k))).answers q ≡ Some a) same
        (ap (λ (o : Option Answer). answer_to (after s (post_of q o)).answers q) at ∙ answer_found s.answers q a none)

    by_test : (b : Bool) → nat_eq q p ≡ b → (b || list_any (nat_eq q) (posts h)) ≡ true
        → (answer_to (after s (post_of p (answer_at now p))).answers q ≡ None → list_any (nat_eq q) (posts h) ≡ true → answer_to (state_after s (steps_of now (events.Post p ∷ h))).answers q ≡ Some a)
        → answer_to (state_after s (steps_of now (events.Post p ∷ h))).answers q ≡ Some a
    by_test true e t rest = posted_stay (after s (post_of p (answer_at now p))) (steps_of now h) q a (here (eq_nat q p e))
    by_test false e t rest = rest (post_other s q p (answer_at now p) (swap_nat p q ∙ e) ∙ none) t

-- the answer of a request is in the state that the history leads to
pub answer_there : (x : Shown) (q : ℕ) (a : Answer) → IsTrusted x → answer_at (answers_of x.answers) q ≡ Some a → answer_to (state_of x).answers q ≡ Some a
answer_there x q a t at = posted_answer (answers_of x.answers) x.history start q a at refl (t.posted q ∙ ap is_some at)

pub some_of : {A : Type 0} (o : Option A) → is_some o ≡ true → (a : A) × (o ≡ Some a)
some_of None e = absurd cc
some_of (Some a) e = (a, refl)

-- a request below a number has its answer where all below it are posted
answered_below : (x : Shown) (n p : ℕ) → IsTrusted x → posts x.history ≡ range_with_len 0 n → p < n → IsSome (answer_to (state_of x).answers p)
answered_below x n p t order below =
    let there = some_of (answer_at (answers_of x.answers) p) (sym (t.posted p) ∙ ap (list_any (nat_eq p)) order ∙ in_numbers 0 n p (omega arith) (omega arith)) in
    ap is_some (answer_there x p there.0 t there.1)

-- ---- the round of a request

pub scheduled_at : (rs : List Request) (ns : List ℕ) (q : ℕ) (r : Request) → length ns ≡ length rs → slice_get rs q ≡ Some r → (n : ℕ) × (slice_get (schedule rs ns) q ≡ Some (record { request = request_of r; round = n }))
scheduled_at [] ns q r whole h = absurd cc
scheduled_at (k ∷ rs) [] q r whole h = absurd (omega arith)
scheduled_at (k ∷ rs) (n ∷ ns) zero r whole h = (n, ap (option_map (λ (d : Request). the_scheduled d n)) h)
  where
    the_scheduled : Request → ℕ → Scheduled
    the_scheduled d n = record { request = request_of d; round = n }
scheduled_at (k ∷ rs) (n ∷ ns) (suc q) r whole h = scheduled_at rs ns q r (omega arith) h

pub schedule_length : (rs : List Request) (ns : List ℕ) → length ns ≡ length rs → length (schedule rs ns) ≡ length rs
schedule_length [] ns whole = refl
schedule_length (r ∷ rs) [] whole = absurd (omega arith)
schedule_length (r ∷ rs) (n ∷ ns) whole = ap (λ (k : ℕ). suc k) (schedule_length rs ns (omega arith))

pub within : (rounds : ℕ) (ns : List ℕ) (q n : ℕ) → All (λ k. k < rounds) ns → slice_get ns q ≡ Some n → n < rounds
within rounds ns q n all at = subst (λ (k : ℕ). k < rounds) (index_is ns q n at) (all q n (slice_get_within ns q n at))
  where
    index_is : (ns : List ℕ) (q n : ℕ) → slice_get ns q ≡ Some n → slice_index_or ns q n ≡ n
    index_is [] q n at = absurd cc
    index_is (k ∷ ns) zero n at = let same : k ≡ n = cc in same
    index_is (k ∷ ns) (suc q) n at = index_is ns q n at

-- once all before it are posted, and no further round may begin, the next request is of no later round
pub next_is_now : (x : Shown) (q : ℕ) → IsTrusted x → posts x.history ≡ range_with_len 0 q → (tables.RoundMayBegin x → ⊥) → IsLater x q → ⊥
next_is_now x q t order over late = over (record { answered = answered; later = later })
  where
    later : round_of x + 1 < x.script.rounds
    later = let below = within x.script.rounds x.script.rounds_of q late.round t.script.within late.of in let after = late.later in omega arith

    is_before : (p : ℕ) (e : Scheduled) → slice_get x.script.rounds_of p ≡ Some e.round → e.round ≡ round_of x → (p < q) ⊎ (q ≤ p) → p < q
    is_before p e at same (inl less) = less
    is_before p e at same (inr least) = absurd (by_order (t.script.in_order q p late.round e.round) (some_round at))
      where
        some_round : slice_get x.script.rounds_of p ≡ Some e.round → q ≡ p → late.round ≡ e.round
        some_round at same = let two = sym late.of ∙ ap (slice_get x.script.rounds_of) same ∙ at in cc

        by_order : (q < p → slice_get x.script.rounds_of q ≡ Some late.round → slice_get x.script.rounds_of p ≡ Some e.round → late.round ≤ e.round) → (q ≡ p → late.round ≡ e.round) → ⊥
        by_order f g = let after = late.later in elim (cases_lt q p) [
          | inl before ↦ (let order = f before late.of at in omega arith)
          | inr most ↦ (let one : q ≡ p = omega arith in let two = g one in omega arith)
        ]

    answered : (p : ℕ) (e : Scheduled) → slice_get (schedule_of x.script) p ≡ Some e → e.round ≡ round_of x → IsSome (answer_to (state_of x).answers p)
    answered p e at same =
        answered_below x q p t order
        (is_before p e (schedule_round x.script.requests x.script.rounds_of p e at) same (cases_lt p q))

-- where all requests are posted, and no further round may begin, nothing is left
pub nothing_left : (x : Shown) (n : ℕ) → IsTrusted x → posts x.history ≡ range_with_len 0 n → length x.script.requests ≡ n → (tables.RoundMayBegin x → ⊥) → IsUnfinished x → ⊥
nothing_left x n t order whole over (inl open_one) = none_is_open x n t order whole open_one
nothing_left x n t order whole over (inr later) = over (record { answered = answered; later = later })
  where
    answered : (p : ℕ) (e : Scheduled) → slice_get (schedule_of x.script) p ≡ Some e → e.round ≡ round_of x → IsSome (answer_to (state_of x).answers p)
    answered p e at same =
        let below : p < length (schedule_of x.script) = slice_get_within (schedule_of x.script) p e at in
        let size : length (schedule_of x.script) ≡ length x.script.requests = schedule_length x.script.requests x.script.rounds_of t.script.each in
        answered_below x n p t order (omega arith)

-- ---- one request after another

-- the requests before this number are served, and the rounds that might begin then
abbrev pub ServedBelow : Option Content → Shown → ℕ → Type 0
ServedBelow None x q = Unit {0}
ServedBelow (Some content) x q = AllServed (machine_of x content) 0 start (take q (machine_of x content).script) (steps x)

pub served_none : (told : Option Content) (empty x : Shown) → steps empty ≡ [] → RoundsPassed empty x → ServedBelow told x 0
served_none None empty x e p = tt
served_none (Some content) empty x e p =
    let same = same_machine empty x content p.config p.script in
    subst (λ (g : Setting). PassesRounds g start (steps x)) (sym same)
    (subst (λ (es : List Step). PassesRounds (machine_of empty content) start es) (sym (p.steps_more ∙ ap (λ (es : List Step). es ++ p.passed) e))
    (subst (λ (es : List Step). PassesRounds (machine_of empty content) (state_after start es) p.passed) e (p.rounds content)))

take_next : {A : Type 0} (xs : List A) (q : ℕ) (a : A) → slice_get xs q ≡ Some a → take (suc q) xs ≡ take q xs ++ a ∷ []
take_next [] q a e = absurd cc
take_next (x ∷ xs) zero a e = let same : x ≡ a = cc in rw same refl
take_next {A = A} (x ∷ xs) (suc q) a e = ap (λ (l : List A). x ∷ l) (take_next xs q a e)

take_all : {A : Type 0} (xs : List A) → take (length xs) xs ≡ xs
take_all [] = refl
take_all {A = A} (x ∷ xs) = ap (λ (l : List A). x ∷ l) (take_all xs)

pub served_next : (told : Option Content) (old x new : Shown) (q : ℕ) (r : Request) → ServedBelow told old q → IsScript old.script → slice_get old.script.requests q ≡ Some r → IsDone told old x q r → RoundsPassed x new → ServedBelow told new (q + 1)
served_next None old x new q r below is asked d p = tt
served_next (Some content) old x new q r below is asked d p =
    let one : List Step = d.made ++ Post q (answer_of d.answer) ∷ [] in
    let g : Setting = machine_of old content in
    let at = scheduled_at old.script.requests old.script.rounds_of q r is.each asked in
    let e : Scheduled = record { request = request_of r; round = at.0 } in
    let rounds : PassesRounds g (state_after (state_of old) one) p.passed =
    subst (λ (k : State). PassesRounds g k p.passed) (ap (state_after start) d.whole ∙ state_then start (steps old) one)
    (subst (λ (h : Setting). PassesRounds h (state_of x) p.passed) (same_machine old x content d.config d.script) (p.rounds content)) in
    let all : AllServed g 0 start (take q g.script ++ e ∷ []) (steps old ++ (one ++ p.passed)) =
    all_served_push g 0 q start (take q g.script) e (steps old) one p.passed below d.serves rounds
    (let n = taken_long g.script q e at.1 in omega arith) in
    subst (λ (k : ℕ). ServedBelow (Some content) new k) (sym (add-one q))
    (subst (λ (h : Setting). AllServed h 0 start (take (suc q) h.script) (steps new)) (sym (same_machine old new content (p.config ∙ d.config) (p.script ∙ d.script)))
    (subst (λ (rs : List Scheduled). AllServed g 0 start rs (steps new)) (sym (take_next g.script q e at.1))
    (subst (λ (es : List Step). AllServed g 0 start (take q g.script ++ e ∷ []) es) (sym (append_assoc (steps old) one p.passed) ∙ ap (λ (es : List Step). es ++ p.passed) (sym d.whole) ∙ sym p.steps_more) all)))

pub served_whole : (told : Option Content) (x : Shown) (q : ℕ) → IsScript x.script → ServedBelow told x q → q ≡ length x.script.requests → InOrder told x
served_whole None x q is below e = tt
served_whole (Some content) x q is below e =
    let g : Setting = machine_of x content in
    let n : q ≡ length g.script = e ∙ sym (schedule_length x.script.requests x.script.rounds_of is.each) in
    subst (λ (rs : List Scheduled). AllServed g 0 start rs (steps x)) (ap (λ (k : ℕ). take k g.script) n ∙ take_all g.script) below

pub served_bare : (told : Option Content) (x : Shown) → InOrder told x → InOrder told (bare x)
served_bare None x h = tt
served_bare (Some content) x h = h

-- ---- what is known of a request

-- rounds that begin are no posts
rounds_quiet : (g : Setting) (s : State) (es : List Step) → PassesRounds g s es → NoPosts es
rounds_quiet g s [] p = tt
rounds_quiet g s (e ∷ es) p = (subst (λ (k : Step). IsPost k → ⊥) (sym p.0) (λ post. post), rounds_quiet g (after s NextRound) es p.2)

-- each post so far says what was known of its request
abbrev pub KnownBelow : Shown → Type 0
KnownBelow x = KeepsKnown (schedule_of x.script) start (steps x)

quiet_from : (script : List Scheduled) (es : List Step) → NoPosts es → KeepsKnown script start es
quiet_from script es none = known_quiet script start [] es tt none

pub known_none : (empty x : Shown) → steps empty ≡ [] → RoundsPassed empty x → KnownBelow x
known_none empty x e p =
    subst (λ (es : List Step). KeepsKnown (schedule_of x.script) start es) (sym (p.steps_more ∙ ap (λ (es : List Step). es ++ p.passed) e))
    (quiet_from (schedule_of x.script) p.passed (rounds_quiet (machine_of empty []) (state_of empty) p.passed (p.rounds [])))

one_answer : {A : Type 0} (xs : List A) (q : ℕ) (x a b : A) → slice_get xs q ≡ Some x → slice_set xs q a ≡ slice_set xs q b → a ≡ b
one_answer [] q x a b at e = absurd cc
one_answer (y ∷ xs) zero x a b at e = cc
one_answer (y ∷ xs) (suc q) x a b at e = one_answer xs q x a b at (ap tail_of e)
  where
    tail_of : {A : Type 0} → List A → List A
    tail_of [] = []
    tail_of (x ∷ xs) = xs

-- the post of a request says what was known of it before
says_known : (told : Option Content) {S : Type 0} (old x : Shown) (q : ℕ) (r : Request) (source later : S) → IsScript old.script → slice_get old.script.requests q ≡ Some r → IsOpen old q → (d : IsDone told old x q r) → TellsKnown old x q r source later
    → SaysKnown (schedule_of old.script) (state_of old) (Post q (answer_of d.answer))
says_known told old x q r source later is asked opened d tells = λ k v at has.
    let e = scheduled_at old.script.requests old.script.rounds_of q r is.each asked in
    let same : k ≡ record { request = request_of r; round = e.0 } = some_same k (record { request = request_of r; round = e.0 }) (sym at ∙ e.1) in
    let t = tells v (subst (λ (h : Scheduled). HasVerdict (state_of old) h.request v) same has) in
    let one : Some t.answer ≡ Some d.answer = one_answer old.answers q None (Some t.answer) (Some d.answer) opened (sym (ap (λ (y : Shown). y.answers) t.posted) ∙ d.answers) in
    subst (λ (a : rust.Answer). SaysOrLacks v (answer_of a)) (some_same t.answer d.answer one) t.is

pub known_next : (told : Option Content) {S : Type 0} (old x new : Shown) (q : ℕ) (r : Request) (source later : S) → KnownBelow old → IsScript old.script → slice_get old.script.requests q ≡ Some r → IsOpen old q → IsDone told old x q r
    → TellsKnown old x q r source later → RoundsPassed x new → KnownBelow new
known_next told old x new q r source later k is asked opened d tells p =
    let script = schedule_of old.script in
    let piece = known_piece script start (steps old) d.made q (answer_of d.answer) k d.quiet (says_known told old x q r source later is asked opened d tells) in
    let whole : KeepsKnown script start (steps x) = subst (λ (es : List Step). KeepsKnown script start es) (sym d.whole) piece in
    subst (λ (y : Scripted). KeepsKnown (schedule_of y) start (steps new)) (sym (p.script ∙ d.script))
    (subst (λ (es : List Step). KeepsKnown script start es) (sym p.steps_more)
    (known_quiet script start (steps x) p.passed whole (rounds_quiet (machine_of x []) (state_of x) p.passed (p.rounds []))))

pub known_bare : (x : Shown) → KnownBelow x → KnownStays (bare x)
known_bare x k = λ before between behind p q b a r v e asked has.
    known_at (schedule_of x.script) start before between behind p q b a r v (subst (λ (es : List Step). KeepsKnown (schedule_of x.script) start es) e k) asked has

-- What a report says of each request once every one has its answer: one post each, and the headline (JVMS SE 8, 5.3 to 5.4.3).
use Rattle.std.proofs.Common.{◌≡◌, ◌∙◌, ℕ, zero, suc, ◌+◌, ◌≤◌, Bool, true, false, List, [], ◌∷◌, length, Option, Some, None, refl, sym, ap, subst, cond, is_some, arith}
use Rattle.std.specs.Prelude.{◌||◌, ◌&&◌, ◌==◌, nat_eq, nat_lt, find, option_map, map, if◌then◌else◌}
use Rattle.std.specs.List.{list_any}
use Rattle.std.proofs.lemmas.Bool.Decides.{nat_tests}
use Rattle.std.proofs.lemmas.List.{length-map}
use Rattle.std.proofs.lemmas.List.Folds.{find-append}
use Rattle.std.proofs.lemmas.List.Sums.{sum_by-cons}
use Rattle.cl_model.specs.declared.answer.Answer as rust
use Rattle.cl_model.specs.declared.event.Event.{Event}
use Rattle.cl_model.specs.declared.event.Event.TheVariants as events
use Rattle.cl_model.specs.Content.{Content}
use Rattle.cl_model.specs.States.{State, start, Answer, Posted, answer_to}
use Rattle.cl_model.specs.Machine.{Scheduled, NextRound, after}
use Rattle.cl_model.specs.Tables.{IsConsistent, Orderly}
use Rattle.cl_model.specs.Views.{answers_of, answer_at, post_of, step_of, steps_of}
use Rattle.cl_config.specs.Loaders.{schedule_of}
use Rattle.cl_config.specs.Views.{Configured, Scripted}
use Rattle.cl_registry.specs.declared.report.Report.{Report}
use Rattle.cl_registry.specs.Reports.{IsNamed, IsReport, IsReported}
use Rattle.cl_registry.specs.Tables.{Shown, IsTrusted, RunsAs, posts, round_of, state_of}
use Rattle.cl_registry.proofs.Histories.{eq_nat, swap_nat}
use Rattle.cl_registry.proofs.Running.{is_or}
use Rattle.cl_schedule.specs.Headline.{EachSpelt, Alike, ReferencesAlike, CirclesExact, IsServed}
use Rattle.cl_schedule.specs.Serving.{once_below, reported_registry, times}
use Rattle.cl_schedule.proofs.Serving.{bare, bare_runs, bare_trusted, report_tells}
use Rattle.cl_schedule.proofs.Headline.{each_spelt, alike, references_alike, circles_exact, consistent}

-- ---- each request is posted once at most

-- who has an answer after a post
post_adds : (s : State) (q p : ℕ) (a : Answer) → is_some (answer_to (after s (post_of p (Some a))).answers q) ≡ (is_some (answer_to s.answers q) || (nat_eq p q && true))
post_adds s q p a =
    ap (λ (o : Option Posted). is_some (option_map (λ (r : Posted). r.answer) o)) (find-append (λ (r : Posted). r.request == q) s.answers (record { request = p; answer = a } ∷ []))
    ∙ is_or (find (λ (r : Posted). r.request == q) s.answers) (record { request = p; answer = a }) (nat_eq p q)

times_cons : (q p : ℕ) (ps : List ℕ) → times q (p ∷ ps) ≡ cond (p == q) 1 0 + times q ps
times_cons q p ps = sum_by-cons (λ y. cond (y == q) 1 0) p ps

one_at_most : (b : Bool) → 0 + cond {A = ℕ} b 1 0 ≤ 1
one_at_most true = omega arith
one_at_most false = omega arith

one_more : (t : ℕ) (had same now : Bool) → now ≡ (had || (same && true)) → (same ≡ true → had ≡ false) → t + cond now 1 0 ≤ 1 → (cond same 1 0 + t) + cond had 1 0 ≤ 1
one_more t true true now e new h = absurd (apart (new refl))
  where
    apart : true ≡ false → ⊥
    apart e = cc
one_more t false true now e new h = let one : cond {A = ℕ} now 1 0 ≡ 1 = ap (λ (b : Bool). cond b 1 0) e in omega arith
one_more t true false now e new h = let one : cond {A = ℕ} now 1 0 ≡ 1 = ap (λ (b : Bool). cond b 1 0) e in omega arith
one_more t false false now e new h = let none : cond {A = ℕ} now 1 0 ≡ 0 = ap (λ (b : Bool). cond b 1 0) e in omega arith

posted_at_most : (script : List Scheduled) (rounds : ℕ) (now : List (Option Answer)) (h : List Event) (s : State) (q : ℕ) → Orderly script rounds s (steps_of now h)
    → times q (posts h) + cond (is_some (answer_to s.answers q)) 1 0 ≤ 1
posted_at_most script rounds now [] s q run = one_at_most (is_some (answer_to s.answers q))
posted_at_most script rounds now (events.Define c ∷ h) s q run = posted_at_most script rounds now h (after s (step_of now (events.Define c))) q run.1
posted_at_most script rounds now (events.Initiate c l ∷ h) s q run = posted_at_most script rounds now h (after s (step_of now (events.Initiate c l))) q run.1
posted_at_most script rounds now (events.Constrain e ∷ h) s q run = posted_at_most script rounds now h (after s (step_of now (events.Constrain e))) q run.1
posted_at_most script rounds now (events.Settle r ∷ h) s q run = posted_at_most script rounds now h (after s (step_of now (events.Settle r))) q run.1
posted_at_most script rounds now (events.Prepare c ∷ h) s q run = posted_at_most script rounds now h (after s (step_of now (events.Prepare c))) q run.1
posted_at_most script rounds now (events.NextRound ∷ h) s q run = posted_at_most script rounds now h (after s NextRound) q run.1
posted_at_most script rounds now (events.Post p ∷ h) s q run = a_post (answer_at now p) run (λ a more. posted_at_most script rounds now h (after s (post_of p (Some a))) q more)
  where
    a_post : (o : Option Answer) → Orderly script rounds s (post_of p o ∷ steps_of now h)
        → ((a : Answer) → Orderly script rounds (after s (post_of p (Some a))) (steps_of now h) → times q (posts h) + cond (is_some (answer_to (after s (post_of p (Some a))).answers q)) 1 0 ≤ 1)
        → times q (p ∷ posts h) + cond (is_some (answer_to s.answers q)) 1 0 ≤ 1
    a_post None run rest = absurd run.0
    a_post (Some a) run rest =
        let had = is_some (answer_to s.answers q) in
        let more : is_some (answer_to (after s (post_of p (Some a))).answers q) ≡ (had || (nat_eq p q && true)) = post_adds s q p a in
        let new : nat_eq p q ≡ true → had ≡ false = λ same. ap is_some (ap (answer_to s.answers) (sym (eq_nat p q same)) ∙ run.0.unposted) in
        subst (λ (k : ℕ). k + cond had 1 0 ≤ 1) (sym (times_cons q p (posts h)))
        (one_more (times q (posts h)) had (nat_eq p q) _ more new (rest a run.1))

-- ---- and once just where it has an answer

none_there : (q : ℕ) (ps : List ℕ) → list_any (nat_eq q) ps ≡ false → times q ps ≡ 0
none_there q [] e = refl
none_there q (p ∷ ps) e =
    let here = left_of (nat_eq q p) (list_any (nat_eq q) ps) e in
    let there = right_of (nat_eq q p) (list_any (nat_eq q) ps) e in
    times_cons q p ps ∙ both_none (nat_eq p q) (times q ps) (swap_nat p q ∙ here) (none_there q ps there)
  where
    left_of : (b c : Bool) → (b || c) ≡ false → b ≡ false
    left_of true c e = absurd cc
    left_of false c e = refl

    right_of : (b c : Bool) → (b || c) ≡ false → c ≡ false
    right_of true c e = absurd cc
    right_of false c e = e

    both_none : (b : Bool) (t : ℕ) → b ≡ false → t ≡ 0 → cond b 1 0 + t ≡ 0
    both_none true t e z = absurd cc
    both_none false t e z = omega arith

some_there : (q : ℕ) (ps : List ℕ) → list_any (nat_eq q) ps ≡ true → 1 ≤ times q ps
some_there q [] e = absurd cc
some_there q (p ∷ ps) e = subst (λ (k : ℕ). 1 ≤ k) (sym (times_cons q p ps)) (by_case (nat_eq q p) refl e (some_there q ps))
  where
    by_case : (b : Bool) → nat_eq q p ≡ b → (b || list_any (nat_eq q) ps) ≡ true → (list_any (nat_eq q) ps ≡ true → 1 ≤ times q ps) → 1 ≤ cond (nat_eq p q) 1 0 + times q ps
    by_case true same e rest = let one : cond {A = ℕ} (nat_eq p q) 1 0 ≡ 1 = ap (λ (b : Bool). cond b 1 0) (swap_nat p q ∙ same) in omega arith
    by_case false other e rest = let more = rest e in omega arith

none_below : (q : ℕ) → false ≡ nat_lt q 0
none_below q = grind (arith, nat_tests)

first_below : (n : ℕ) → true ≡ nat_lt 0 (suc n)
first_below n = grind (arith, nat_tests)

one_up : (q n : ℕ) → nat_lt q n ≡ nat_lt (suc q) (suc n)
one_up q n = by_tests (nat_lt q n) (nat_lt (suc q) (suc n)) refl refl
  where
    by_tests : (a b : Bool) → nat_lt q n ≡ a → nat_lt (suc q) (suc n) ≡ b → a ≡ b
    by_tests true true s t = refl
    by_tests true false s t = grind (arith, nat_tests)
    by_tests false true s t = grind (arith, nat_tests)
    by_tests false false s t = refl

-- a list of answers has one for each number below its length
given_all : (xs : List rust.Answer) (q : ℕ) → is_some (answer_at (answers_of (map (λ a. Some a) xs)) q) ≡ nat_lt q (length xs)
given_all [] zero = refl
given_all [] (suc q) = none_below (suc q)
given_all (a ∷ xs) zero = first_below (length xs)
given_all (a ∷ xs) (suc q) = given_all xs q ∙ one_up q (length xs)

once_where : (t : ℕ) (i : Bool) → t ≤ 1 → (i ≡ true → 1 ≤ t) → (i ≡ false → t ≡ 0) → t ≡ (if i then 1 else 0)
once_where t true most least none = let l = least refl in omega arith
once_where t false most least none = none refl

pub posted_once : (x : Shown) (r : Report) (q : ℕ) → IsTrusted x → IsReport x r → times q (posts x.history) ≡ once_below q (length x.script.requests)
posted_once x r q t is =
    let most = posted_at_most (schedule_of x.script) x.script.rounds (answers_of x.answers) x.history start q t.tables in
    let count : length r.answers ≡ length x.script.requests = sym (length-map r.answers (λ a. Some a)) ∙ ap length is.answers ∙ t.whole in
    let there : list_any (nat_eq q) (posts x.history) ≡ nat_lt q (length x.script.requests) =
    t.posted q ∙ ap (λ (xs : List (Option rust.Answer)). is_some (answer_at (answers_of xs) q)) (sym is.answers) ∙ given_all r.answers q ∙ ap (λ (n : ℕ). nat_lt q n) count in
    once_where (times q (posts x.history)) (list_any (nat_eq q) (posts x.history)) (at_most most) (some_there q (posts x.history)) (none_there q (posts x.history))
    ∙ ap (λ (b : Bool). if b then 1 else 0) there
  where
    at_most : {n : ℕ} → n + 0 ≤ 1 → n ≤ 1
    at_most h = omega arith

-- ---- the report

pub is_served : (told : Option Content) (x : Shown) (c : Configured) (s : Scripted) (r : Report) → IsReported told x r → c ≡ x.config → s ≡ x.script → IsServed told c s r
is_served told x c s r made config script =
    let kept = made.kept in
    let is = made.whole in
    let y = bare x in
    let trusted : IsTrusted y = bare_trusted x kept.trusted in
    let run : RunsAs told y = bare_runs told x kept.run in
    let same : y ≡ reported_registry c r = report_tells x r c is (sym config) in
    record {
      of_script = is.script ∙ sym script;
      each_once = λ q. ap (λ (h : List Event). times q (posts h)) is.history ∙ posted_once x r q kept.trusted is ∙ ap (λ (k : Scripted). once_below q (length k.requests)) (sym script);
      named = subst (λ (k : Configured). IsNamed (length k.loaders) r) (sym config) made.loaders;
      last = subst (λ (z : Shown). s.rounds ≤ round_of z + 1) same (subst (λ (k : Scripted). k.rounds ≤ round_of y + 1) (sym script) made.last);
      trusted = subst IsTrusted same trusted;
      consistent = subst (λ (z : Shown). IsConsistent (state_of z)) same (consistent y trusted);
      run = subst (RunsAs told) same run;
      spelt = subst (EachSpelt told) same (each_spelt told x kept);
      alike = subst (Alike told) same (alike told y trusted run);
      references = subst (ReferencesAlike told) same (references_alike told y trusted run);
      circles = subst (CirclesExact told) same (circles_exact told y trusted run);
    }

-- How a history grows by one event, and which steps it tells.
use Rattle.std.proofs.Common.{◌≡◌, ◌∙◌, ◌+◌, ℕ, zero, suc, Bool, true, false, List, [], ◌∷◌, ◌++◌, Option, Some, None, refl, sym, ap, subst, arith, is_some, if◌then◌else◌}
use Rattle.std.specs.Prelude.{◌||◌, nat_eq, slice_get, slice_set}
use Rattle.std.specs.List.{list_any}
use Rattle.std.proofs.lemmas.List.{map_push}
use Rattle.std.proofs.lemmas.Bool.Decides.{nat_tests}
use Rattle.cl_model.specs.declared.event.Event.{Event}
use Rattle.cl_model.specs.declared.event.Event.TheVariants as events
use Rattle.cl_model.specs.declared.answer.Answer as rust
use Rattle.cl_model.specs.Content.{Content}
use Rattle.cl_model.specs.States.{Answer, start}
use Rattle.cl_model.specs.Machine.{Step, Post, after, state_after, May}
use Rattle.cl_model.specs.Tables as tables
use Rattle.cl_model.specs.Tables.{Allows}
use Rattle.cl_model.specs.Views.{answer_of, answers_of, answer_at, post_of, step_of, steps_of}
use Rattle.cl_model.proofs.Runs.{run_goes_on}
use Rattle.cl_model.proofs.Tables.{trusted_goes_on}
use Rattle.cl_model.proofs.Views.{state_then}
use Rattle.cl_config.specs.Loaders.{schedule_of}
use Rattle.cl_delegation.specs.Worlds.{setting_of}
use Rattle.cl_registry.specs.Kept.{left_in, open_in}
use Rattle.cl_registry.specs.Tables.{Shown, steps, state_of, posts, defined_classes, settlements, IsTrusted, RunsAs, with_post, IsOpen}
use Rattle.std.proofs.lemmas.Bool.{or_parts}

pub eq_nat : (a b : ℕ) → nat_eq a b ≡ true → a ≡ b
eq_nat a b e = grind (arith, nat_tests)

pub swap_nat : (a b : ℕ) → nat_eq a b ≡ nat_eq b a
swap_nat a b = grind (arith, nat_tests)

pub or_right : (b : Bool) → (b || false) ≡ b
or_right true = refl
or_right false = refl

-- ---- one step more

-- the step of an event more, where the answers are the same
pub steps_more : (given : List (Option Answer)) (h : List Event) (e : Event) → steps_of given (h ++ e ∷ []) ≡ steps_of given h ++ step_of given e ∷ []
steps_more given h e = map_push (step_of given) h e

-- the state of a registry whose history has one step more
pub state_more : (x y : Shown) (e : Step) → steps y ≡ steps x ++ e ∷ [] → state_of y ≡ after (state_of x) e
state_more x y e is = ap (state_after start) is ∙ state_then start (steps x) (e ∷ [])

-- tables stay trusted by a step that they allow
pub trusted_more : (x y : Shown) (e : Step) → y.script ≡ x.script → steps y ≡ steps x ++ e ∷ [] → tables.AreTrusted (schedule_of x.script) x.script.rounds (steps x)
    → Allows (schedule_of x.script) x.script.rounds (state_of x) e → tables.AreTrusted (schedule_of y.script) y.script.rounds (steps y)
trusted_more x y e same is trusted allows =
    rw (same, is) (trusted_goes_on (schedule_of x.script) x.script.rounds (steps x) e trusted allows)

-- a run goes on by a step that may happen
pub run_more : (told : Option Content) (x y : Shown) (e : Step) → y.config ≡ x.config → y.script ≡ x.script → steps y ≡ steps x ++ e ∷ [] → RunsAs told x
    → ((content : Content) → told ≡ Some content → May (setting_of x.config x.script content) (state_of x) e) → RunsAs told y
run_more None x y e config script is run may = tt
run_more (Some content) x y e config script is run may =
    rw (config, script, is) (run_goes_on (setting_of x.config x.script content) start (steps x) e run (may content refl))

-- ---- posts and definitions

pub posts_then : (h k : List Event) → posts (h ++ k) ≡ posts h ++ posts k
posts_then [] k = refl
posts_then (events.Define d ∷ h) k = posts_then h k
posts_then (events.Initiate d l ∷ h) k = posts_then h k
posts_then (events.Constrain e ∷ h) k = posts_then h k
posts_then (events.Settle r ∷ h) k = posts_then h k
posts_then (events.Prepare c ∷ h) k = posts_then h k
posts_then (events.NextRound ∷ h) k = posts_then h k
posts_then (events.Post p ∷ h) k = ap (◌∷◌ p) (posts_then h k)

pub defined_then : (h k : List Event) → defined_classes (h ++ k) ≡ defined_classes h ++ defined_classes k
defined_then [] k = refl
defined_then (events.Define d ∷ h) k = ap (◌∷◌ d) (defined_then h k)
defined_then (events.Initiate d l ∷ h) k = defined_then h k
defined_then (events.Constrain e ∷ h) k = defined_then h k
defined_then (events.Settle r ∷ h) k = defined_then h k
defined_then (events.Prepare c ∷ h) k = defined_then h k
defined_then (events.NextRound ∷ h) k = defined_then h k
defined_then (events.Post p ∷ h) k = defined_then h k

pub settlements_then : (h k : List Event) → settlements (h ++ k) ≡ settlements h ++ settlements k
settlements_then [] k = refl
settlements_then (events.Define d ∷ h) k = settlements_then h k
settlements_then (events.Initiate d l ∷ h) k = settlements_then h k
settlements_then (events.Constrain e ∷ h) k = settlements_then h k
settlements_then (events.Settle r ∷ h) k = ap (◌∷◌ r.value) (settlements_then h k)
settlements_then (events.Prepare c ∷ h) k = settlements_then h k
settlements_then (events.NextRound ∷ h) k = settlements_then h k
settlements_then (events.Post p ∷ h) k = settlements_then h k

pub is_in_push : (xs : List ℕ) (p q : ℕ) → list_any (nat_eq p) (xs ++ q ∷ []) ≡ (list_any (nat_eq p) xs || nat_eq p q)
is_in_push [] p q = or_right (nat_eq p q)
is_in_push (x ∷ xs) p q = ap (λ b. nat_eq p x || b) (is_in_push xs p q) ∙ regroup (nat_eq p x) (list_any (nat_eq p) xs) (nat_eq p q)
  where
    regroup : (a b d : Bool) → (a || (b || d)) ≡ ((a || b) || d)
    regroup true b d = refl
    regroup false b d = refl

-- ---- answers

abbrev pub given : List (Option rust.Answer) → ℕ → Option Answer
given xs p = answer_at (answers_of xs) p

pub less : (q p : ℕ) → nat_eq (suc q) (suc p) ≡ false → nat_eq q p ≡ false
less q p e = grind (arith, nat_tests)

pub other_answer : (xs : List (Option rust.Answer)) (q p : ℕ) (a : rust.Answer) → nat_eq q p ≡ false → given (slice_set xs q (Some a)) p ≡ given xs p
other_answer [] q p a e = refl
other_answer (x ∷ xs) zero zero a e = absurd cc
other_answer (x ∷ xs) zero (suc p) a e = refl
other_answer (x ∷ xs) (suc q) zero a e = refl
other_answer (x ∷ xs) (suc q) (suc p) a e = other_answer xs q p a (less q p e)

pub this_answer : (xs : List (Option rust.Answer)) (q : ℕ) (a : rust.Answer) → slice_get xs q ≡ Some None → given (slice_set xs q (Some a)) q ≡ Some (answer_of a)
this_answer [] q a e = absurd cc
this_answer (x ∷ xs) zero a e = refl
this_answer (x ∷ xs) (suc q) a e = this_answer xs q a e

pub open_answer : (xs : List (Option rust.Answer)) (q : ℕ) → slice_get xs q ≡ Some None → given xs q ≡ None
open_answer [] q e = absurd cc
open_answer (x ∷ xs) zero e = let n : x ≡ None = cc in rw n refl
open_answer (x ∷ xs) (suc q) e = open_answer xs q e

pub left_set : (xs : List (Option rust.Answer)) (q : ℕ) (a : rust.Answer) → slice_get xs q ≡ Some None → left_in xs ≡ left_in (slice_set xs q (Some a)) + 1
left_set [] q a e = absurd cc
left_set (None ∷ xs) zero a e = refl
left_set (Some b ∷ xs) zero a e = absurd cc
left_set (None ∷ xs) (suc q) a e = ap (λ n. n + 1) (left_set xs q a e)
left_set (Some b ∷ xs) (suc q) a e = left_set xs q a e

-- one answer more of a round: one open request less of that round, and as many of others
pub open_set : (round : ℕ) (ns : List ℕ) (xs : List (Option rust.Answer)) (q r : ℕ) (a : rust.Answer) → slice_get ns q ≡ Some r → slice_get xs q ≡ Some None
    → open_in round ns xs ≡ open_in round ns (slice_set xs q (Some a)) + (if nat_eq r round then 1 else 0)
open_set round [] xs q r a n e = absurd cc
open_set round (m ∷ ns) [] q r a n e = absurd cc
open_set round (m ∷ ns) (None ∷ xs) zero r a n e =
    let same : m ≡ r = cc in
    let k : ℕ = if nat_eq r round then 1 else 0 in
    ap (λ (i : ℕ). (if nat_eq i round then 1 else 0) + open_in round ns xs) same ∙ turn (if nat_eq r round then 1 else 0) (open_in round ns xs)
  where
    turn : (i j : ℕ) → i + j ≡ j + i
    turn i j = omega arith
open_set round (m ∷ ns) (Some b ∷ xs) zero r a n e = absurd cc
open_set round (m ∷ ns) (None ∷ xs) (suc q) r a n e = add_on (if nat_eq m round then 1 else 0) _ _ _ (open_set round ns xs q r a n e)
  where
    add_on : (i j k l : ℕ) → j ≡ k + l → i + j ≡ i + k + l
    add_on i j k l h = omega arith
open_set round (m ∷ ns) (Some b ∷ xs) (suc q) r a n e = open_set round ns xs q r a n e

pub first_open : (xs : List (Option rust.Answer)) → (left_in xs ≡ 0 → ⊥) → (q : ℕ) × (slice_get xs q ≡ Some None)
first_open [] some = absurd (some refl)
first_open (None ∷ xs) some = (0, refl)
first_open (Some a ∷ xs) some = let r = first_open xs some in (suc r.0, r.1)

-- ---- a post

steps_set : (old new : List (Option Answer)) (h : List Event) (q : ℕ) → ((p : ℕ) → nat_eq q p ≡ false → answer_at new p ≡ answer_at old p) → list_any (nat_eq q) (posts h) ≡ false → steps_of new h ≡ steps_of old h
steps_set old new [] q same out = refl
steps_set old new (events.Define c ∷ h) q same out = ap (λ (es : List Step). step_of old (events.Define c) ∷ es) (steps_set old new h q same out)
steps_set old new (events.Initiate c l ∷ h) q same out = ap (λ (es : List Step). step_of old (events.Initiate c l) ∷ es) (steps_set old new h q same out)
steps_set old new (events.Constrain e ∷ h) q same out = ap (λ (es : List Step). step_of old (events.Constrain e) ∷ es) (steps_set old new h q same out)
steps_set old new (events.Settle r ∷ h) q same out = ap (λ (es : List Step). step_of old (events.Settle r) ∷ es) (steps_set old new h q same out)
steps_set old new (events.Prepare c ∷ h) q same out = ap (λ (es : List Step). step_of old (events.Prepare c) ∷ es) (steps_set old new h q same out)
steps_set old new (events.NextRound ∷ h) q same out = ap (λ (es : List Step). step_of old events.NextRound ∷ es) (steps_set old new h q same out)
steps_set old new (events.Post p ∷ h) q same out =
    let o = or_parts (nat_eq q p) (list_any (nat_eq q) (posts h)) out in
    rw (same p o.0, steps_set old new h q same o.1) refl

pub steps_posts : (x : Shown) (q : ℕ) (a : rust.Answer) → list_any (nat_eq q) (posts x.history) ≡ false → IsOpen x q → steps (with_post x q a) ≡ steps x ++ Post q (answer_of a) ∷ []
steps_posts x q a out is =
    let now = answers_of (slice_set x.answers q (Some a)) in
    map_push (step_of now) x.history (events.Post q)
    ∙ ap (λ (o : Option Answer). steps_of now x.history ++ post_of q o ∷ []) (this_answer x.answers q a is)
    ∙ ap (λ (es : List Step). es ++ Post q (answer_of a) ∷ []) (steps_set (answers_of x.answers) now x.history q (λ p ne. other_answer x.answers q p a ne) out)

pub state_posts : (x : Shown) (q : ℕ) (a : rust.Answer) → list_any (nat_eq q) (posts x.history) ≡ false → IsOpen x q → state_of (with_post x q a) ≡ after (state_of x) (Post q (answer_of a))
state_posts x q a out is = state_more x (with_post x q a) (Post q (answer_of a)) (steps_posts x q a out is)

pub posted_by : (xs : List (Option rust.Answer)) (h : List ℕ) (p q : ℕ) (a : rust.Answer) (b : Bool) → nat_eq q p ≡ b → slice_get xs q ≡ Some None → list_any (nat_eq p) h ≡ is_some (given xs p) → (list_any (nat_eq p) h || b) ≡ is_some (given (slice_set xs q (Some a)) p)
posted_by xs h p q a true e is at =
    let same : q ≡ p = eq_nat q p e in
    let here : given (slice_set xs q (Some a)) p ≡ Some (answer_of a) = subst (λ (k : ℕ). given (slice_set xs q (Some a)) k ≡ Some (answer_of a)) same (this_answer xs q a is) in
    or_last (list_any (nat_eq p) h) ∙ sym (ap is_some here)
  where
    or_last : (b : Bool) → (b || true) ≡ true
    or_last true = refl
    or_last false = refl
posted_by xs h p q a false e is at = or_right (list_any (nat_eq p) h) ∙ at ∙ ap is_some (sym (other_answer xs q p a e))

pub unposted : (x : Shown) (q : ℕ) → IsTrusted x → IsOpen x q → list_any (nat_eq q) (posts x.history) ≡ false
unposted x q t is = t.posted q ∙ ap is_some (open_answer x.answers q is)

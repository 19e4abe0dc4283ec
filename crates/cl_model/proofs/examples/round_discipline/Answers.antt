use Rattle.std.proofs.Common.{◌≡◌, ℕ, zero, suc, ◌<◌, ◌+◌, Some, None, true, false, [], ◌∷◌, refl, arith, slice_get}
use Rattle.std.specs.Option.{IsSome}
use Rattle.cl_model.specs.States.{Answer, OutOfMemory, start, answer_to}
use Rattle.cl_model.specs.Machine.{Scheduled, Post, NextRound, after, state_after}
use Rattle.cl_model.specs.ExampleRuns.{in_rounds}
use Rattle.cl_model.proofs.examples.round_discipline.Goals as goal
use Rattle.cl_model.proofs.Served.{round_is}

no_entry : {a : Scheduled} → None ≡ Some a → ⊥
no_entry e = cc

there : {a : Answer} → Some a ≡ None → ⊥
there e = cc

-- all requests of the first round are answered
first_round : (q : ℕ) (e : Scheduled) → slice_get in_rounds.script q ≡ Some e → e.round ≡ 0 → IsSome (answer_to (after start (Post 0 OutOfMemory)).answers q)
first_round zero e h r = refl
first_round (suc zero) e h r = absurd (let one : 1 ≡ e.round = round_is h in omega arith)
first_round (suc (suc zero)) e h r = absurd (let one : 1 ≡ e.round = round_is h in omega arith)
first_round (suc (suc (suc q))) e h r = absurd (no_entry h)

-- all requests of the second
second_round : (q : ℕ) (e : Scheduled) → slice_get in_rounds.script q ≡ Some e → e.round ≡ 1 → IsSome (answer_to (state_after start (Post 0 OutOfMemory ∷ NextRound ∷ Post 1 OutOfMemory ∷ Post 2 OutOfMemory ∷ [])).answers q)
second_round zero e h r = absurd (let none : 0 ≡ e.round = round_is h in omega arith)
second_round (suc zero) e h r = refl
second_round (suc (suc zero)) e h r = refl
second_round (suc (suc (suc q))) e h r = absurd (no_entry h)

pub returns-clause-early : goal.returns-clause-early
returns-clause-early c h = absurd (let one : 1 ≡ h.scheduled.round = round_is h.asked in let zero_is : h.scheduled.round ≡ 0 = h.in_round in omega arith)

pub returns-clause-no_request : goal.returns-clause-no_request
returns-clause-no_request c h = no_entry h.asked

pub returns-clause-unanswered : goal.returns-clause-unanswered
returns-clause-unanswered c h = absurd (let e : false ≡ true = h.answered 0 _ refl refl in cc)

pub returns-clause-posted : goal.returns-clause-posted
returns-clause-posted c = record { scheduled = _; asked = refl; in_round = refl; unposted = refl; fits = tt }

pub returns-clause-again : goal.returns-clause-again
returns-clause-again c h = there h.unposted

pub returns-clause-next : goal.returns-clause-next
returns-clause-next c = record { answered = first_round; later = omega arith }

pub returns-clause-empty_next : goal.returns-clause-empty_next
returns-clause-empty_next c = record { answered = second_round; later = omega arith }

pub returns-clause-no_next : goal.returns-clause-no_next
returns-clause-no_next c h = absurd (let l : 2 + 1 < 3 = h.later in omega arith)

use Rattle.std.proofs.Common.{◌≡◌, ℕ, zero, suc, ◌<◌, ◌+◌, List, Some, None, true, false, [], ◌∷◌, ◌++◌, refl, sym, ap, subst, ◌∙◌, arith, slice_get}
use Rattle.std.specs.Option.{IsSome}
use Rattle.cl_model.specs.States.{State, Answer, OutOfMemory, start, answer_to}
use Rattle.cl_model.specs.Plans.{Request}
use Rattle.cl_model.specs.Machine.{Setting, Scheduled, Step, Post, NextRound, MayGoOn, after, state_after}
use Rattle.cl_model.specs.Service.{IsBegun, Serves, PassesRounds, AllServed}
use Rattle.cl_model.specs.ExampleServices.{of_second, of_fourth, sparse, failed_post}
use Rattle.cl_model.specs.Steps.{IsOfService}
use Rattle.cl_model.proofs.Serving.{of_service, post_number}
use Rattle.cl_model.proofs.service_examples.rounds_between_services.Goals as goal
use Rattle.cl_model.proofs.Served.{round_is}

-- ---- the first step of what is served

head : {x y : Step} {xs ys : List Step} → x ∷ xs ≡ y ∷ ys → x ≡ y
head e = cc

rest : {x y : Step} {xs ys : List Step} → x ∷ xs ≡ y ∷ ys → xs ≡ ys
rest e = cc

-- a round that comes first has begun, and what comes behind it serves the same
abbrev RoundFirst : Setting → ℕ → State → List Scheduled → List Step → Type 0
RoundFirst g q s rs es = MayGoOn g s × AllServed g q (after s NextRound) rs es

-- a post that comes first is that of the first request, where no round may begin
abbrev PostFirst : Setting → ℕ → ℕ → Answer → State → List Scheduled → List Step → Type 0
PostFirst g q p a s rs es = (MayGoOn g s → ⊥) × (p ≡ q) × AllServed g (suc q) (after s (Post p a)) rs es

round_first : (g : Setting) (q : ℕ) (s : State) (rs : List Scheduled) (es : List Step) → AllServed g q s rs (NextRound ∷ es) → RoundFirst g q s rs es
round_first g q s [] es h = (h.1, h.2)
round_first g q s (r ∷ rs) es h = begun h.0 h.1 h.2 h.3 h.4 h.5 h.6
  where
    -- its service does not begin with a round
    no_piece : (t : State) (one others : List Step) → NextRound ∷ es ≡ one ++ others → Serves g q r.request t one → ⊥
    no_piece t one others split serves = first serves.steps serves.begun (subst (λ (l : List Step). NextRound ∷ es ≡ l ++ others) serves.posted split)
      where
        first : (steps : List Step) → IsBegun g r.request t steps → NextRound ∷ es ≡ (steps ++ Post q serves.answer ∷ []) ++ others → ⊥
        first [] b e = absurd (let same : NextRound ≡ Post q serves.answer = head e in cc)
        first (d ∷ ds) b e = subst (λ (x : Step). IsOfService x) (sym (head e)) (of_service g t r.request d b.0)

    begun : (rounds one others : List Step) → NextRound ∷ es ≡ rounds ++ (one ++ others) → PassesRounds g s rounds → Serves g q r.request (state_after s rounds) one → AllServed g (suc q) (state_after (state_after s rounds) one) rs others → RoundFirst g q s (r ∷ rs) es
    begun [] one others split passes serves more = absurd (no_piece s one others split serves)
    begun (e ∷ rounds) one others split passes serves more = (passes.1, behind)
      where
        behind : AllServed g q (after s NextRound) (r ∷ rs) es
        behind = (
          rounds,
          one,
          others,
          rest split,
          passes.2,
          subst (λ (d : Step). Serves g q r.request (state_after (after s d) rounds) one) passes.0 serves,
          subst (λ (d : Step). AllServed g (suc q) (state_after (state_after (after s d) rounds) one) rs others) passes.0 more,
        )

post_first : (g : Setting) (q p : ℕ) (a : Answer) (s : State) (r : Scheduled) (rs : List Scheduled) (es : List Step) → AllServed g q s (r ∷ rs) (Post p a ∷ es) → PostFirst g q p a s rs es
post_first g q p a s r rs es h = begun h.0 h.1 h.2 h.3 h.4 h.5 h.6
  where
    begun : (rounds one others : List Step) → Post p a ∷ es ≡ rounds ++ (one ++ others) → PassesRounds g s rounds → Serves g q r.request (state_after s rounds) one → AllServed g (suc q) (state_after (state_after s rounds) one) rs others → PostFirst g q p a s rs es
    begun (e ∷ rounds) one others split passes serves more = absurd (let same : Post p a ≡ NextRound = head split ∙ passes.0 in cc)
    begun [] one others split passes serves more = let e = ends serves.steps one serves.begun serves.posted split more in (passes, e.0, e.1)
      where
        ends : (steps one : List Step) → IsBegun g r.request s steps → one ≡ steps ++ Post q serves.answer ∷ [] → Post p a ∷ es ≡ one ++ others → AllServed g (suc q) (state_after s one) rs others
            → (p ≡ q) × AllServed g (suc q) (after s (Post p a)) rs es
        ends [] one b posted split more =
            let e : Post p a ∷ es ≡ Post q serves.answer ∷ others = split ∙ ap (λ (l : List Step). l ++ others) posted in
            let here : AllServed g (suc q) (after s (Post q serves.answer)) rs others = subst (λ (l : List Step). AllServed g (suc q) (state_after s l) rs others) posted more in (
              post_number (head e),
              subst (λ (d : Step). AllServed g (suc q) (after s d) rs es) (sym (head e)) (subst (λ (l : List Step). AllServed g (suc q) (after s (Post q serves.answer)) rs l) (sym (rest e)) here),
            )
        ends (d ∷ ds) one b posted split more =
            let e : Post p a ∷ es ≡ d ∷ ((ds ++ Post q serves.answer ∷ []) ++ others) = split ∙ ap (λ (l : List Step). l ++ others) posted in
            absurd (subst (λ (x : Step). IsOfService x) (sym (head e)) (of_service g s r.request d b.0))

-- ---- where the next round of the example may begin

no_entry : {a : Scheduled} → None ≡ Some a → ⊥
no_entry e = cc

-- where a request that the round has is answered, and a later round is
goes_on : (s : State) → s.round + 1 < 5 → (1 ≡ s.round → IsSome (answer_to s.answers 0)) → (3 ≡ s.round → IsSome (answer_to s.answers 1)) → MayGoOn sparse s
goes_on s later first second = record { answered = answered; later = later }
  where
    answered : (q : ℕ) (e : Scheduled) → slice_get sparse.script q ≡ Some e → e.round ≡ s.round → IsSome (answer_to s.answers q)
    answered zero e h r = first (round_is h ∙ r)
    answered (suc zero) e h r = second (round_is h ∙ r)
    answered (suc (suc q)) e h r = absurd (no_entry h)

-- the first round has no request, the second its own before and after it is answered, and so on
first_ends : MayGoOn sparse start
first_ends = goes_on start (omega arith) (λ e. absurd cc) (λ e. absurd cc)

second_waits : MayGoOn sparse (state_after start (NextRound ∷ [])) → ⊥
second_waits h = absurd (let e : false ≡ true = h.answered 0 _ refl refl in cc)

second_ends : MayGoOn sparse (state_after start (NextRound ∷ failed_post 0 ∷ []))
second_ends = goes_on (state_after start (NextRound ∷ failed_post 0 ∷ [])) (omega arith) (λ e. refl) (λ e. absurd cc)

third_ends : MayGoOn sparse (state_after start (NextRound ∷ failed_post 0 ∷ NextRound ∷ []))
third_ends = goes_on (state_after start (NextRound ∷ failed_post 0 ∷ NextRound ∷ [])) (omega arith) (λ e. absurd cc) (λ e. absurd cc)

fourth_waits : MayGoOn sparse (state_after start (NextRound ∷ failed_post 0 ∷ NextRound ∷ NextRound ∷ [])) → ⊥
fourth_waits h = absurd (let e : false ≡ true = h.answered 1 _ refl refl in cc)

fourth_ends : MayGoOn sparse (state_after start (NextRound ∷ failed_post 0 ∷ NextRound ∷ NextRound ∷ failed_post 1 ∷ []))
fourth_ends = goes_on (state_after start (NextRound ∷ failed_post 0 ∷ NextRound ∷ NextRound ∷ failed_post 1 ∷ [])) (omega arith) (λ e. absurd cc) (λ e. refl)

fifth_is_last : MayGoOn sparse (state_after start (NextRound ∷ failed_post 0 ∷ NextRound ∷ NextRound ∷ failed_post 1 ∷ NextRound ∷ [])) → ⊥
fifth_is_last h = absurd (let l : 4 + 1 < 5 = h.later in omega arith)

-- ---- the clauses

-- memory ran out at once
at_once : (q : ℕ) (r : Request) (s : State) → Serves sparse q r s (failed_post q ∷ [])
at_once q r s = record { steps = []; begun = tt; answer = OutOfMemory; ends = tt; posted = refl }

pub returns-clause-served : goal.returns-clause-served
returns-clause-served c = (
  NextRound ∷ [],
  failed_post 0 ∷ [],
  NextRound ∷ NextRound ∷ failed_post 1 ∷ NextRound ∷ [],
  refl,
  (refl, first_ends, second_waits),
  at_once 0 of_second.request (after start NextRound),
  (NextRound ∷ NextRound ∷ [], failed_post 1 ∷ [], NextRound ∷ [], refl, (refl, second_ends, (refl, third_ends, fourth_waits)), at_once 1 of_fourth.request (state_after start (NextRound ∷ failed_post 0 ∷ NextRound ∷ NextRound ∷ [])), (refl, fourth_ends, fifth_is_last)),
)

pub returns-clause-first : goal.returns-clause-first
returns-clause-first c h = (post_first sparse 0 0 OutOfMemory start of_second (of_fourth ∷ []) (NextRound ∷ NextRound ∷ NextRound ∷ failed_post 1 ∷ NextRound ∷ []) h).0 first_ends

-- what follows the first round
first_behind : (es : List Step) → AllServed sparse 0 start sparse.script (NextRound ∷ es) → AllServed sparse 0 (after start NextRound) (of_second ∷ of_fourth ∷ []) es
first_behind es h = (round_first sparse 0 start (of_second ∷ of_fourth ∷ []) es h).1

-- the first request is served
abbrev one_served : State
one_served = state_after start (NextRound ∷ failed_post 0 ∷ [])

one_behind : (es : List Step) → AllServed sparse 0 start sparse.script (NextRound ∷ failed_post 0 ∷ es) → AllServed sparse 1 one_served (of_fourth ∷ []) es
one_behind es h = (post_first sparse 0 0 OutOfMemory (after start NextRound) of_second (of_fourth ∷ []) es (first_behind (failed_post 0 ∷ es) h)).2

third_behind : (es : List Step) → AllServed sparse 0 start sparse.script (NextRound ∷ failed_post 0 ∷ NextRound ∷ es) → AllServed sparse 1 (after one_served NextRound) (of_fourth ∷ []) es
third_behind es h = (round_first sparse 1 one_served (of_fourth ∷ []) es (one_behind (NextRound ∷ es) h)).1

-- and both are
abbrev both_served : State
both_served = state_after one_served (NextRound ∷ NextRound ∷ failed_post 1 ∷ [])

both_behind : (es : List Step) → AllServed sparse 0 start sparse.script (NextRound ∷ failed_post 0 ∷ NextRound ∷ NextRound ∷ failed_post 1 ∷ es) → PassesRounds sparse both_served es
both_behind es h = (post_first sparse 1 1 OutOfMemory (state_after one_served (NextRound ∷ NextRound ∷ [])) of_fourth [] es (round_first sparse 1 (after one_served NextRound) (of_fourth ∷ []) (failed_post 1 ∷ es) (third_behind (NextRound ∷ failed_post 1 ∷ es) h)).1).2

pub returns-clause-between : goal.returns-clause-between
returns-clause-between c h = (post_first sparse 1 1 OutOfMemory (after one_served NextRound) of_fourth [] (NextRound ∷ NextRound ∷ []) (third_behind (failed_post 1 ∷ NextRound ∷ NextRound ∷ []) h)).0 third_ends

pub returns-clause-last : goal.returns-clause-last
returns-clause-last c h = both_behind [] h fourth_ends

pub returns-clause-past_last : goal.returns-clause-past_last
returns-clause-past_last c h = fifth_is_last (both_behind (NextRound ∷ NextRound ∷ []) h).2.1

pub returns-clause-out_of_turn : goal.returns-clause-out_of_turn
returns-clause-out_of_turn c h = absurd (let e : 1 ≡ 0 = (post_first sparse 0 1 OutOfMemory (after start NextRound) of_second (of_fourth ∷ []) (failed_post 0 ∷ NextRound ∷ NextRound ∷ failed_post 1 ∷ NextRound ∷ []) (first_behind (failed_post 1 ∷ failed_post 0 ∷ NextRound ∷ NextRound ∷ failed_post 1 ∷ NextRound ∷ []) h)).1 in cc)

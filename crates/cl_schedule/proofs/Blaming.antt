-- Whom answers blame that are faults of the source: from a turn to the report.
use Rattle.std.proofs.Common.{◌≡◌, inl, inr, ◌∙◌, ℕ, zero, suc, List, Option, Some, None, refl, sym, ap, subst}
use Rattle.std.specs.Prelude.{IfSome, replicate, slice_get, slice_set}
use Rattle.std.proofs.lemmas.Option.{slice_get_within}
use Rattle.cl_model.specs.declared.answer.Answer.{Answer}
use Rattle.cl_model.specs.declared.answer.Answer.TheVariants as answers
use Rattle.cl_model.specs.declared.request.Request.{Request}
use Rattle.cl_model.specs.Content.{Content}
use Rattle.cl_model.specs.Machine.{IsPlan, Setting}
use Rattle.cl_model.specs.Views.{request_of}
use Rattle.cl_model.specs.Works.{Ask}
use Rattle.cl_model.proofs.Planned.{plan_exists}
use Rattle.cl_model.proofs.Bind.{some_same}
use Rattle.cl_config.specs.Views.{Configured, Scripted}
use Rattle.cl_delegation.specs.Worlds.{world_of}
use Rattle.cl_registry.specs.Tables.{Shown, IsKept, machine}
use Rattle.cl_tasks.specs.Blames.{AnswerBlames, AsksWhere, BlamesWhere, TurnBlames}
use Rattle.cl_tasks.specs.Follows.{Tells}
use Rattle.cl_tasks.specs.Tasks.{Tasked}
use Rattle.cl_tasks.specs.declared.turn.Reply.{Reply}
use Rattle.cl_tasks.specs.declared.turn.Turn.{Turn}
use Rattle.cl_tasks.specs.declared.turn.Turn.TheVariants as turn
use Rattle.cl_schedule.specs.Blames.{EachBlames, IsAskedFor}
use Rattle.cl_schedule.specs.Rounds.{RoundsPassed}
use Rattle.cl_schedule.proofs.Places.{other_set, same_or_apart, same_set}
use Rattle.cl_schedule.proofs.Steps.{Turning, TurnSays, of_request, served_in}

-- ---- a turn

answer_blames : (c : Configured) (P Q : Ask → Type 0) (a : Answer) → ((k : Ask) → P k → Q k) → AnswerBlames c P a → AnswerBlames c Q a
answer_blames c P Q (answers.Said v) so b = tt
answer_blames c P Q (answers.Shared s) so b = tt
answer_blames c P Q answers.Memory so b = tt
answer_blames c P Q (answers.SourceFault name loader) so b = record { from = b.from; asked = so _ b.asked; on_way = b.on_way }

-- where a request is served its plan asks for it
asks_here : (told : Option Content) (x : Shown) (c : Configured) (holds : Shown → Type 0) (r : Request) → IsKept told x → x.config ≡ c → holds x → (a : Ask) → AsksWhere told c holds r a → IsAskedFor told c r a
asks_here None x c holds r kept config h a asks = tt
asks_here (Some content) x c holds r kept config h a asks =
    let g : Setting = machine x content in
    let p = plan_exists g.world (request_of r) in (
      p.0,
      subst (λ (k : Configured). IsPlan (world_of k content) (request_of r) p.0) config p.1,
      asks g x p.0 (served_in (Some content) x c content refl kept config) p.1 h,
    )

turn_blames : {A : Type 0} (told : Option Content) (x : Shown) (c : Configured) (holds : Shown → Type 0) (r : Request) (u : Turn A) → IsKept told x → x.config ≡ c → holds x → BlamesWhere told c holds r u → TurnBlames c (IsAskedFor told c r) u
turn_blames told x c holds r (turn.Post f) kept config h b =
    answer_blames c (AsksWhere told c holds r) (IsAskedFor told c r) f.answer (asks_here told x c holds r kept config h) b
turn_blames told x c holds r other kept config h b = tt

-- a turn blames so in a registry of its task's configuration
pub blames_here : {A : Type 0} (told : Option Content) (x : Shown) (r : Request) (t : Tasked) (given : Reply A) (u : Turn A) → IsKept told x → x.config ≡ t.config → t.request ≡ Some r → Tells x t given
    → IfSome t.request (λ k. BlamesWhere told t.config (λ y. Tells y t given) k u) → TurnBlames x.config (IsAskedFor told x.config r) u
blames_here told x r t given u kept config is tells blames =
    subst (λ (c : Configured). TurnBlames c (IsAskedFor told c r) u) (sym config)
    (turn_blames told x t.config (λ y. Tells y t given) r u kept config tells
    (of_request t.request r (λ k. BlamesWhere told t.config (λ y. Tells y t given) k u) is blames))

-- and since the first turn of its request
pub blames_since : {A S : Type 0} (told : Option Content) (old x : Shown) (c : Configured) (r : Request) (t new : Tasked) (given : Reply A) (u : Turn A) (count since : ℕ) (source later : S) → Turning told old x c r t given count since source later → TurnSays told t new given u
    → TurnBlames old.config (IsAskedFor told old.config r) u
blames_since told old x c r t new given u count since source later k says =
    subst (λ (d : Configured). TurnBlames d (IsAskedFor told d r) u) k.going.config
    (blames_here told x r t given u k.going.kept (k.going.config ∙ k.base ∙ sym k.config) k.request k.tells.told says.blames)

-- ---- all answers

-- the answers of a script's requests under a configuration
abbrev AllBlame : Option Content → Configured → List Request → List (Option Answer) → Type 0
AllBlame told c rs given = (q : ℕ) (r : Request) (a : Answer) → slice_get rs q ≡ Some r → slice_get given q ≡ Some (Some a) → AnswerBlames c (IsAskedFor told c r) a

moved : (told : Option Content) (c d : Configured) (rs qs : List Request) (given more : List (Option Answer)) → d ≡ c → qs ≡ rs → more ≡ given → AllBlame told c rs given → AllBlame told d qs more
moved told c d rs qs given more one two three all =
    subst (λ (k : Configured). AllBlame told k qs more) (sym one)
    (subst (λ (ks : List Request). AllBlame told c ks more) (sym two) (subst (λ (ks : List (Option Answer)). AllBlame told c rs ks) (sym three) all))

-- nobody is answered
pub each_blames_none : (told : Option Content) (x : Shown) (n : ℕ) → x.answers ≡ replicate n None → EachBlames told x
each_blames_none told x n is = λ q r a asked answered. absurd (none_at n q a (subst (λ (xs : List (Option Answer)). slice_get xs q ≡ Some (Some a)) is answered))
  where
    none_at : (n q : ℕ) (a : Answer) → slice_get (replicate n None) q ≡ Some (Some a) → ⊥
    none_at zero q a e = absurd cc
    none_at (suc n) zero a e = absurd cc
    none_at (suc n) (suc q) a e = none_at n q a e

-- nobody more is
pub each_blames_still : (told : Option Content) (old new : Shown) → new.config ≡ old.config → new.script ≡ old.script → new.answers ≡ old.answers → EachBlames told old → EachBlames told new
each_blames_still told old new config script same all =
    moved told old.config new.config old.script.requests new.script.requests old.answers new.answers config (ap (λ (s : Scripted). s.requests) script) same all

pub each_blames_passed : (told : Option Content) (old new : Shown) → RoundsPassed old new → EachBlames told old → EachBlames told new
each_blames_passed told old new passed all = each_blames_still told old new passed.config passed.script passed.answers all

set_blames : (told : Option Content) (c : Configured) (rs : List Request) (given : List (Option Answer)) (q : ℕ) (r : Request) (a : Answer) → slice_get given q ≡ Some None → slice_get rs q ≡ Some r → AnswerBlames c (IsAskedFor told c r) a → AllBlame told c rs given
    → AllBlame told c rs (slice_set given q (Some a))
set_blames told c rs given q r a opened asked blames all = λ p s b asked_p answered. elim (same_or_apart p q) [
  | inl same ↦ (
      let request : r ≡ s = some_same r s (sym asked ∙ ap (slice_get rs) (sym same) ∙ asked_p) in
      let answer : Some a ≡ Some b =
      some_same (Some a) (Some b) (sym (same_set given q (Some a) (slice_get_within given q None opened)) ∙ ap (slice_get (slice_set given q (Some a))) (sym same) ∙ answered) in
      subst (λ (k : Request). AnswerBlames c (IsAskedFor told c k) b) request (subst (λ (k : Answer). AnswerBlames c (IsAskedFor told c r) k) (some_same a b answer) blames)
      )
  | inr apart ↦ all p s b asked_p (sym (other_set given q p (Some a) apart) ∙ answered)
]

-- one request more is
pub each_blames_more : (told : Option Content) (old new : Shown) (q : ℕ) (r : Request) (a : Answer) → new.config ≡ old.config → new.script ≡ old.script → new.answers ≡ slice_set old.answers q (Some a) → slice_get old.answers q ≡ Some None
    → slice_get old.script.requests q ≡ Some r → AnswerBlames old.config (IsAskedFor told old.config r) a → EachBlames told old → EachBlames told new
each_blames_more told old new q r a config script set opened asked blames all =
    moved told old.config new.config old.script.requests new.script.requests (slice_set old.answers q (Some a)) new.answers config (ap (λ (s : Scripted). s.requests) script) set
    (set_blames told old.config old.script.requests old.answers q r a opened asked blames all)

-- What a turn is: a post, a read, or another call.
use Rattle.std.proofs.Common.{◌≡◌, ℕ, List, Option, refl}
use Rattle.cl_model.specs.declared.answer.Answer.{Answer}
use Rattle.cl_model.specs.declared.request.Request.{Request}
use Rattle.cl_model.specs.Content.{Content}
use Rattle.cl_config.specs.Views.{Configured}
use Rattle.cl_findings.specs.Findings.{Answered}
use Rattle.cl_hierarchy.specs.Paths.{Pathed}
use Rattle.cl_registry.specs.Tables.{Shown}
use Rattle.cl_tasks.specs.Blames.{AnswerBlames, AsksWhere, BlamesWhere}
use Rattle.cl_tasks.specs.Follows.{NoFault, Posts, PostsNoFault}
use Rattle.cl_tasks.specs.Steps.{ReadsAt}
use Rattle.cl_tasks.specs.Tasks.{Tasked}
use Rattle.cl_tasks.specs.Turns.{ReadsUnrecorded}
use Rattle.cl_tasks.specs.declared.turn.Reply.{Reply}
use Rattle.cl_tasks.specs.declared.turn.Turn.{Turn}
use Rattle.cl_tasks.specs.declared.turn.Turn.TheVariants as turn

-- a turn that posts an answer is that post
pub posted : {A : Type 0} (a : Answer) (u : Turn A) → Posts a u → (f : Answered) × (u ≡ turn.Post f) × (f.answer ≡ a)
posted a (turn.Post f) h = (f, refl, h)
posted a other h = absurd h

-- of posts alone it is said that they are no fault, and whom a fault blames: what a turn owes of that is shown where it is one
pub of_posts : {A : Type 0} (u : Turn A)
    → (((f : Answered) → u ≡ turn.Post f → NoFault f.answer) → PostsNoFault u)
    × ((told : Option Content) (c : Configured) (holds : Shown → Type 0) (r : Request) → ((f : Answered) → u ≡ turn.Post f → AnswerBlames c (AsksWhere told c holds r) f.answer) → BlamesWhere told c holds r u)
of_posts (turn.Post f) = (λ h. h f refl, λ told c holds r h. h f refl)
of_posts other = (λ h. tt, λ told c holds r h. tt)

-- and so of reads, what is read and for which class
pub of_reads : {A : Type 0} (u : Turn A)
    → ((t : Tasked) (r : Reply A) → ((l : ℕ) (n : List ℕ) → u ≡ turn.Read l n → ReadsUnrecorded {A = A} t r (turn.Read l n)) → ReadsUnrecorded t r u)
    × ((p : Pathed) (is : ℕ → Type 0) → ((l : ℕ) (n : List ℕ) → u ≡ turn.Read l n → ReadsAt {A = A} p is (turn.Read l n)) → ReadsAt p is u)
of_reads (turn.Read l n) = (λ t r h. h l n refl, λ p is h. h l n refl)
of_reads other = (λ t r h. tt, λ p is h. tt)

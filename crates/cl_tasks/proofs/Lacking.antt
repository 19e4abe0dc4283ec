-- Where a turn does not run out of memory.
use Rattle.std.proofs.Common.{◌≡◌, ◌∙◌, ℕ, List, inl, refl, sym, subst}
use Rattle.std.specs.declared.alloc.Global.{Global}
use Rattle.std.specs.declared.sync.Arc.{Arc}
use Rattle.cl_model.specs.declared.answer.Answer.{Answer}
use Rattle.cl_model.specs.declared.answer.Answer.TheVariants as answers
use Rattle.cl_model.specs.declared.request.Request.{Request}
use Rattle.cl_model.specs.declared.request.Request.TheVariants as requests
use Rattle.cl_model.specs.declared.settled.Settled.{Settled}
use Rattle.cl_model.specs.declared.verdict.Verdict as verdict
use Rattle.cl_source.specs.declared.source.SourceFault.{SourceFault}
use Rattle.cl_source.specs.declared.source.SourceFault.TheVariants as faults
use Rattle.cl_findings.specs.Findings.{Answered}
use Rattle.cl_tasks.specs.Ends.{ConcludesBy}
use Rattle.cl_tasks.specs.Follows.{ResolvesReference, Posts, fault_answer}
use Rattle.cl_tasks.specs.Turns.{PostsOr}
use Rattle.cl_tasks.specs.Waits.{Reading}
use Rattle.cl_tasks.specs.declared.ends.Aftermath.{Aftermath}
use Rattle.cl_tasks.specs.declared.ends.Aftermath.TheVariants as aftermaths
use Rattle.cl_tasks.specs.declared.stage.Next.{Next}
use Rattle.cl_tasks.specs.declared.turn.Turn.{Turn}
use Rattle.cl_tasks.specs.declared.turn.Turn.TheVariants as turn
use Rattle.cl_tasks.proofs.TurnCases.{posted}

said_memory : (v : verdict.Verdict) → answers.Said v ≡ answers.Memory → ⊥
said_memory v e = absurd cc

pub shared_memory : (s : Arc Settled Global) → answers.Shared s ≡ answers.Memory → ⊥
shared_memory s e = absurd cc

blamed_memory : (n : List ℕ) (l : ℕ) → answers.SourceFault n l ≡ answers.Memory → ⊥
blamed_memory n l e = absurd cc

-- one answer is posted
pub posts_one : {A : Type 0} (a b : Answer) (u : Turn A) → Posts a u → Posts b u → a ≡ b
posts_one a b u h k = let p = posted a u h in sym p.2 ∙ subst (λ (v : Turn _). Posts b v) p.1 k

pub posts_or : {A : Type 0} (a : Answer) (u : Turn A) → Posts a u → PostsOr a u
posts_or a u h = let p = posted a u h in subst (λ (v : Turn _). PostsOr a v) (sym p.1) (inl p.2)

-- a fault of the source is answered as out of memory where it is one
pub fault_lacks : (l : ℕ) (n : List ℕ) (f : SourceFault) → fault_answer (Reading l n) f ≡ answers.Memory → f ≡ faults.Memory
fault_lacks l n faults.Memory e = refl
fault_lacks l n faults.Device e = absurd (blamed_memory n l e)
fault_lacks l n faults.TooLarge e = absurd (blamed_memory n l e)
fault_lacks l n faults.Twice e = absurd (blamed_memory n l e)

-- a verdict is posted as such
pub said_lacks : {A : Type 0} (f : Answered) (v : verdict.Verdict) (t : Turn A) → f.answer ≡ answers.Said v → t ≡ turn.Post f → Posts answers.Memory t → ⊥
said_lacks f v t said is h = said_memory v (sym said ∙ subst (λ (u : Turn _). Posts answers.Memory u) is h)

-- what a load ends in, too
pub concludes_lacks : {A : Type 0} (q : ℕ) (f : Answered) (v : verdict.Verdict) (a : Aftermath A) (n : Next A) → f.answer ≡ answers.Said v → ConcludesBy q a f n → Posts answers.Memory n.turn → ⊥
concludes_lacks q f v aftermaths.Answer n said by h = said_memory v (sym said ∙ subst (λ (m : Next _). Posts answers.Memory m.turn) by h)
concludes_lacks q f v (aftermaths.Check r loader name) n said by h = subst (λ (m : Next _). Posts answers.Memory m.turn) by h
concludes_lacks q f v (aftermaths.Settle e) n said by h = subst (λ (m : Next _). Posts answers.Memory m.turn) by h

pub resolution_is : (r : Request) (l : ℕ) (n : List ℕ) (i : ℕ) → r ≡ requests.Resolve l n i → ResolvesReference r
resolution_is r l n i is = subst ResolvesReference (sym is) tt

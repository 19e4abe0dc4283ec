-- A load that ended with a finding.
use Rattle.std.proofs.Common.{◌≡◌, ℕ, inl, List, Option, refl, sym, subst}
use Rattle.cl_model.specs.declared.answer.Answer.TheVariants as answers
use Rattle.cl_model.specs.declared.need.Need as rust
use Rattle.cl_model.specs.declared.request.Request.{Request}
use Rattle.cl_model.specs.declared.request.Request.TheVariants as requests
use Rattle.cl_model.specs.declared.verdict.Verdict as verdict
use Rattle.cl_model.specs.declared.verdict.Verdict.TheVariants as verdicts
use Rattle.cl_model.specs.Content.{Content}
use Rattle.cl_findings.specs.Findings.{Answered, Based, grounded_answer}
use Rattle.cl_registry.specs.Tables.{Shown}
use Rattle.cl_tasks.specs.Ends.{ConcludesBy, IsAftermath}
use Rattle.cl_tasks.specs.Follows.{EndsAsRefused, LooksAgain, NoFault}
use Rattle.cl_tasks.specs.Rooms.{past_room}
use Rattle.cl_tasks.specs.Stages.{IsJob}
use Rattle.cl_tasks.specs.Steps.{IsPlain, Leads}
use Rattle.cl_tasks.specs.declared.ends.Aftermath.{Aftermath}
use Rattle.cl_tasks.specs.declared.ends.Aftermath.TheVariants as aftermaths
use Rattle.cl_tasks.specs.declared.stage.Job.{Job}
use Rattle.cl_tasks.specs.declared.stage.Next.{Next}
use Rattle.cl_tasks.proofs.Ending.{Ended, concludes}

-- of this finding
pub concludes_found : {A : Type 0} (told : Option Content) (j : Job A) (f : Answered) (v : verdict.Verdict) (b : Based) (holds : Shown → Type 0) (a : Aftermath A) (n : Next A) → IsJob told j.path.config j → Ended told j v b holds → IsAftermath j a
    → f ≡ grounded_answer j.request v b → ConcludesBy j.q a f n → Leads told j (past_room j) holds n
concludes_found told j f v b holds a n job ended is same by = concludes told j v b holds a n job ended is (subst (λ (u : Answered). ConcludesBy j.q a u n) same by)

-- it reads nothing, and posts no fault
pub concludes_plain : {A : Type 0} (q : ℕ) (f : Answered) (v : verdict.Verdict) (a : Aftermath A) (n : Next A) → f.answer ≡ answers.Said v → ConcludesBy q a f n → IsPlain n.turn
concludes_plain q f v aftermaths.Answer n said by = subst (λ (m : Next _). IsPlain m.turn) (sym by) (subst NoFault (sym said) tt)
concludes_plain q f v (aftermaths.Check r loader name) n said by = subst (λ (m : Next _). IsPlain m.turn) (sym by) tt
concludes_plain q f v (aftermaths.Settle e) n said by = subst (λ (m : Next _). IsPlain m.turn) (sym by) tt

looks_again : (r q : Request) (loader index : ℕ) (name : List ℕ) → q ≡ r → q ≡ requests.Resolve loader name index → LooksAgain loader name r
looks_again r q loader index name same is = subst (λ (k : Request). LooksAgain loader name k) same (subst (λ (k : Request). LooksAgain loader name k) (sym is) (refl, refl))

-- and ends as was refused
pub concludes_refused : {A : Type 0} (j : Job A) (f : Answered) (need : rust.Need) (a : Aftermath A) (n : Next A) → IsAftermath j a → f.answer ≡ answers.Said (verdicts.Linkage need) → ConcludesBy j.q a f n → EndsAsRefused j.request need n.turn
concludes_refused j f need aftermaths.Answer n is said by = subst (λ (m : Next _). EndsAsRefused j.request need m.turn) (sym by) (inl said)
concludes_refused j f need (aftermaths.Check r loader name) n is said by = subst (λ (m : Next _). EndsAsRefused j.request need m.turn) (sym by) (looks_again j.request r loader is.index name is.same is.resolves)
concludes_refused j f need (aftermaths.Settle e) n is said by = subst (λ (m : Next _). EndsAsRefused j.request need m.turn) (sym by) said

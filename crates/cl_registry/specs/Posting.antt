-- Which answers may be posted, by the tables of a registry (JVMS SE 8, 5.3 to 5.4.3).
use Rattle.std.specs.Prelude.{◌≡◌, ◌⊎◌, ℕ, length, Some, slice_get}
use Rattle.cl_model.specs.declared.answer.Answer.{Answer}
use Rattle.cl_model.specs.declared.answer.Answer.TheVariants as answers
use Rattle.cl_model.specs.declared.request.Request.{Request}
use Rattle.cl_model.specs.declared.verdict.Verdict.{Verdict}
use Rattle.cl_model.specs.Tables.{Bears}
use Rattle.cl_model.specs.Views.{request_of, verdict_of}
use Rattle.cl_findings.specs.Findings.{Answered, IsLookedUp, IsWithin, Stands}
use Rattle.cl_registry.specs.Tables.{Shown, state_of, IsLater, IsOpen}
use Rattle.cl_registry.specs.References.{settled_by}

-- a verdict is one that is looked up, or what it rests on stands; and the tables bear it: what is loaded is recorded, a reference
-- of a recorded class is settled so unless its entry is none that is settled, what is linked is recorded and prepared
-- (5.3 to 5.4.3)
pub record VerdictBacked (x : Shown) (f : Answered) (v : Verdict) : Type 0 where
  pub grounded : IsLookedUp f.request v ⊎ Stands x.config (state_of x) f
  pub borne : Bears (state_of x) (request_of f.request) (verdict_of v)

-- the same of an answer; what is shared is what the entry that the request resolves is settled to (5.3 to 5.4.3)
abbrev pub AnswerBacked : Shown → Answered → Answer → Type 0
AnswerBacked x f (answers.Said v) = VerdictBacked x f v
AnswerBacked x f (answers.Shared s) = settled_by x f.request ≡ Some s.value
AnswerBacked x f answers.Memory = Unit {0}
AnswerBacked x f (answers.SourceFault n l) = Unit {0}

-- the loader of the request, and those that the text of the answer names, are of the configuration, too (5.3)
pub record IsBacked (x : Shown) (f : Answered) : Type 0 where
  pub within : IsWithin (length x.config.loaders) f
  pub answer : AnswerBacked x f f.answer

-- an answer to this request may be posted under this number: the request is the script's, is of no later round, and has no answer yet
pub record MayPostUnder (x : Shown) (q : ℕ) (r : Request) : Type 0 where
  pub asked : slice_get x.script.requests q ≡ Some r
  pub begun : IsLater x q → ⊥
  pub unanswered : IsOpen x q

-- the request that was answered may be, under this number, and the tables bear the answer (5.3 to 5.4.3)
pub record AnswerFits (x : Shown) (q : ℕ) (f : Answered) : Type 0 where
  pub may : MayPostUnder x q f.request
  pub backed : IsBacked x f

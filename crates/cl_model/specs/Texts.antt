-- Which loaders needs, verdicts, answers and events name: all of them are below a count.
use Rattle.std.specs.Prelude.{ℕ, ◌<◌, ⊤, List}
use Rattle.cl_model.specs.declared.need.Equality.{Equality}
use Rattle.cl_model.specs.declared.need.Need.{Need}
use Rattle.cl_model.specs.declared.need.Need.TheVariants as needs
use Rattle.cl_model.specs.declared.verdict.Verdict.{Verdict}
use Rattle.cl_model.specs.declared.verdict.Verdict.TheVariants as verdicts
use Rattle.cl_model.specs.declared.answer.Answer.{Answer}
use Rattle.cl_model.specs.declared.answer.Answer.TheVariants as answers
use Rattle.cl_model.specs.declared.event.Event.{Event}
use Rattle.cl_model.specs.declared.event.Event.TheVariants as events
use Rattle.cl_model.specs.Lines.{Text, equality_texts, words}

-- the name of an equality and its two loaders, as a line has them
abbrev pub equality_text : List Text → Equality → Text
equality_text names e = words (equality_texts names e.name e.one e.other)

-- each loader of an equality is below a count
abbrev pub EqualityNames : ℕ → Equality → Type 0
EqualityNames count e = (e.one < count) × (e.other < count)

-- each loader of a need that is printed: of a record, the one that was asked
abbrev pub NeedNames : ℕ → Need → Type 0
NeedNames count (needs.Entry loader name home) = loader < count
NeedNames count (needs.Equal e) = EqualityNames count e

-- each loader of a verdict is below a count
abbrev pub VerdictNames : ℕ → Verdict → Type 0
VerdictNames count (verdicts.Class c) = c.loader < count
VerdictNames count (verdicts.Array dimensions c) = c.loader < count
VerdictNames count (verdicts.PrimitiveArray dimensions base) = ⊤
VerdictNames count (verdicts.Field c key) = c.loader < count
VerdictNames count (verdicts.Method c key) = c.loader < count
VerdictNames count (verdicts.Linked c) = c.loader < count
VerdictNames count verdicts.BadEntry = ⊤
VerdictNames count verdicts.ArrayMember = ⊤
VerdictNames count (verdicts.Error kind subject) = subject.loader < count
VerdictNames count (verdicts.Linkage n) = NeedNames count n

-- each loader of an answer is below a count
abbrev pub AnswerNames : ℕ → Answer → Type 0
AnswerNames count (answers.Said verdict) = VerdictNames count verdict
AnswerNames count (answers.Shared s) = VerdictNames count s.value.verdict
AnswerNames count answers.Memory = ⊤
AnswerNames count (answers.SourceFault name loader) = loader < count

-- each loader of an event that is printed is below a count
abbrev pub EventNames : ℕ → Event → Type 0
EventNames count (events.Define c) = c.loader < count
EventNames count (events.Initiate c loader) = (c.loader < count) × (loader < count)
EventNames count (events.Constrain e) = EqualityNames count e
EventNames count (events.Settle s) = ⊤
EventNames count (events.Prepare c) = c.loader < count
EventNames count events.NextRound = ⊤
EventNames count (events.Post q) = ⊤

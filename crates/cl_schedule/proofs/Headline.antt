-- What follows of a report from its being a run: spelling, equal answers, circles.
use Rattle.std.proofs.Common.{◌≡◌, ◌∙◌, ℕ, List, Option, Some, None, refl, sym, ap, subst}
use Rattle.std.specs.Prelude.{slice_get, option_map, option_and_then}
use Rattle.std.proofs.lemmas.Option.{slice_get-map}
use Rattle.cl_model.specs.declared.class.Class.{Class}
use Rattle.cl_model.specs.declared.answer.Answer as answers
use Rattle.cl_model.specs.declared.request.Request as requests
use Rattle.cl_model.specs.Content.{Content}
use Rattle.cl_model.specs.Classes.{class}
use Rattle.cl_model.specs.States.{State, Answer, Said, Verdict, answer_to}
use Rattle.cl_model.specs.Plans.{Load, Resolve}
use Rattle.cl_model.specs.Machine.{Setting, Scheduled, AnswersPlan, AnswersReference, IsSound}
use Rattle.cl_model.specs.Tables.{IsConsistent, Records}
use Rattle.cl_model.specs.Views.{answer_of, answers_of, answer_at, request_of}
use Rattle.cl_model.proofs.Sound.{runs_are_sound, one_reference_answer}
use Rattle.cl_model.proofs.Planned.{plan_exists}
use Rattle.cl_model.proofs.Reached.{said_alike, said_reference}
use Rattle.cl_model.proofs.Tables.{recorded_reached, trusted_is_consistent}
use Rattle.cl_model.proofs.Answered.{circle_is_answered, circular_is_answered}
use Rattle.cl_model.proofs.Bind.{some_same}
use Rattle.cl_registry.specs.Tables.{Shown, IsTrusted, IsKept, RunsAs, state_of, steps, machine}
use Rattle.cl_registry.proofs.Placed.{recorded_row}
use Rattle.cl_config.specs.Loaders.{schedule_of}
use Rattle.cl_schedule.specs.Headline.{EachSpelt, Alike, SaysOf, ReferencesAlike, CirclesExact}
use Rattle.cl_schedule.proofs.Rounds.{answer_there, scheduled_at}

-- ---- an answer of the report is one of the state

pub given_at : (xs : List (Option answers.Answer)) (q : ℕ) (a : answers.Answer) → slice_get xs q ≡ Some (Some a) → answer_at (answers_of xs) q ≡ Some (answer_of a)
given_at xs q a e =
    ap (option_and_then (λ (o : Option Answer). o)) (slice_get-map (option_map answer_of) xs q ∙ ap (option_map (option_map answer_of)) e)

said_there : (x : Shown) (q : ℕ) (v : Verdict) → IsTrusted x → answer_at (answers_of x.answers) q ≡ Some (Said v) → answer_to (state_of x).answers q ≡ Some (Said v)
said_there x q v t e = answer_there x q (Said v) t e

-- ---- the clauses

pub each_spelt : (told : Option Content) (x : Shown) → IsKept told x → EachSpelt told x
each_spelt told x kept = λ c is.
    let r = recorded_row told x c.loader c.loader c.name kept is in
    (r.row.file, record { bytes = r.spelt.bytes; told_so = r.spelt.told_so; spells = r.spelt.spells; named = r.spelt.named })

-- a request of the script is scheduled
asked_at : (x : Shown) (content : Content) (q : ℕ) (r : requests.Request) → IsTrusted x → slice_get x.script.requests q ≡ Some r → (n : ℕ) × (slice_get (machine x content).script q ≡ Some (record { request = request_of r; round = n }))
asked_at x content q r t e = scheduled_at x.script.requests x.script.rounds_of q r t.script.each e

pub alike : (told : Option Content) (x : Shown) → IsTrusted x → RunsAs told x → Alike told x
alike None x t run = tt
alike (Some content) x t run =
    λ p q r v u one two.
    let g = machine x content in
    let first = asked_at x content p r t one.asked in
    let second = asked_at x content q r t two.asked in
    said_alike g (state_of x) p q (record { request = request_of r; round = first.0 }) (record { request = request_of r; round = second.0 }) v u (runs_are_sound g (steps x) run) first.1 second.1 refl
    (said_there x p v t one.answered) (said_there x q u t two.answered)

-- what was said of a reference of a class that the loader records is the answer of the reference
reference_said : (g : Setting) (s : State) (q loader n i : ℕ) (name : List ℕ) (d : Class) (v : Verdict) → IsSound g s → slice_get g.script q ≡ Some (record { request = Resolve loader name i; round = n })
    → Records s loader name d → answer_to s.answers q ≡ Some (Said v) → AnswersReference g s d i v
reference_said g s q loader n i name d v sound asked kept said =
    let p = plan_exists g.world (Resolve loader name i) in
    let at = recorded_reached g.world s (Resolve loader name i) p.0 d.loader sound.closed p.1 kept.1 in
    let same : class name d.loader ≡ d = ap (λ (k : List ℕ). class k d.loader) (sym kept.0) in
    said_reference g s q (record { request = Resolve loader name i; round = n }) loader name i p.0 d v sound asked refl p.1
    (at.0 ∙ ap (λ (c : Class). Some c) same) at.1 said

pub references_alike : (told : Option Content) (x : Shown) → IsTrusted x → RunsAs told x → ReferencesAlike told x
references_alike None x t run = tt
references_alike (Some content) x t run =
    λ p q d i v u one two.
    let g = machine x content in
    one_reference_answer g (state_of x) d i v u (answer_of_reference p d i v one) (answer_of_reference q d i u two)
  where
    answer_of_reference : (q : ℕ) (d : Class) (i : ℕ) (v : Verdict) → SaysOf x q d i v → AnswersReference (machine x content) (state_of x) d i v
    answer_of_reference q d i v one =
        let at = asked_at x content q (requests.TheVariants.Resolve one.loader one.name i) t one.says.asked in
        reference_said (machine x content) (state_of x) q one.loader at.0 i one.name d v (runs_are_sound (machine x content) (steps x) run) at.1 one.kept (said_there x q v t one.says.answered)

-- trusted tables are consistent
pub consistent : (x : Shown) → IsTrusted x → IsConsistent (state_of x)
consistent x t = trusted_is_consistent (schedule_of x.script) x.script.rounds (steps x) t.tables

answered_plan : (g : Setting) (s : State) (q l n : ℕ) (name : List ℕ) (v : Verdict) → IsSound g s → slice_get g.script q ≡ Some (record { request = Load l name; round = n }) → answer_to s.answers q ≡ Some (Said v) → AnswersPlan g s (Load l name) v
answered_plan g s q l n name v sound asked is =
    let a = sound.answered q (Said v) is in
    let same : a.scheduled ≡ record { request = Load l name; round = n } = some_same a.scheduled (record { request = Load l name; round = n }) (sym a.asked ∙ asked) in
    subst (λ (e : Scheduled). AnswersPlan g s e.request v) same a.may_answer.answers

pub circles_exact : (told : Option Content) (x : Shown) → IsTrusted x → RunsAs told x → CirclesExact told x
circles_exact None x t run = tt
circles_exact (Some content) x t run =
    λ q loader name v says.
    let g = machine x content in
    let at = asked_at x content q (requests.TheVariants.Load loader name) t says.asked in
    let plan = answered_plan g (state_of x) q loader at.0 name v (runs_are_sound g (steps x) run) at.1 (said_there x q v t says.answered) in
    record {
      only = λ c e. circle_is_answered g (state_of x) loader name c (subst (λ (k : Verdict). AnswersPlan g (state_of x) (Load loader name) k) e plan);
      there = λ c ends. circular_is_answered g (state_of x) loader name c v ends plan;
    }

-- One request from its first turn to its post (JVMS SE 8, 5.3 to 5.4.3).
use Rattle.std.proofs.Common.{◌≡◌, inl, inr, ◌∙◌, ◌<◌, ℕ, List, [], ◌∷◌, ◌++◌, Option, Some, None, refl, sym, ap, subst, append_assoc}
use Rattle.std.specs.Prelude.{slice_get, slice_set}
use Rattle.std.proofs.lemmas.List.{append-nil}
use Rattle.cl_model.specs.declared.answer.Answer as rust
use Rattle.cl_model.specs.declared.request.Request.{Request}
use Rattle.cl_model.specs.Content.{Content}
use Rattle.cl_model.specs.States.{State, start}
use Rattle.cl_model.specs.Machine.{Setting, Step, Post, May, Run, state_after}
use Rattle.cl_model.specs.Service.{IsNextStep, MayEnd, IsBegun}
use Rattle.cl_model.specs.Views.{answer_of, request_of}
use Rattle.cl_model.proofs.Service.{begun_push, begun_ends, run_last}
use Rattle.cl_registry.specs.Tables.{Shown, IsKept, IsOpen, RunsAs, posts, round_of, steps, state_of, with_post, machine}
use Rattle.cl_registry.proofs.Histories.{posts_then, steps_posts, unposted}
use Rattle.cl_registry.specs.Posting.{MayPostUnder}
use Rattle.cl_tasks.specs.declared.turn.Turn.{Turn}
use Rattle.cl_tasks.specs.Blames.{AnswerBlames}
use Rattle.cl_tasks.specs.Follows.{AnswerFollows}
use Rattle.cl_schedule.specs.Blames.{IsAskedFor}
use Rattle.cl_schedule.specs.Serving.{GoesBy, IsDone, IsPost, NoPosts, ServesAs}
use Rattle.cl_schedule.specs.Replies.{Did, IsStepOf}
use Rattle.cl_schedule.proofs.States.{same_machine, state_goes}
use Rattle.cl_schedule.proofs.Next.{step_quiet, step_within}
use Rattle.cl_model.specs.declared.event.Event.TheVariants as events
use Rattle.cl_model.specs.Steps.{IsOfService}
use Rattle.cl_model.proofs.Views.{state_then}

-- ---- what was done so far

-- the request's service was begun by these steps
abbrev pub BegunAs : Option Content → Shown → Request → List Step → Type 0
BegunAs None old r es = Unit {0}
BegunAs (Some content) old r es = IsBegun (machine old content) (request_of r) (state_of old) es

-- what a registry keeps from the first turn of a request on
pub record Going (told : Option Content) (old now : Shown) (r : Request) : Type 0 where
  pub config : now.config ≡ old.config
  pub script : now.script ≡ old.script
  pub posts_same : posts now.history ≡ posts old.history
  pub answers : now.answers ≡ old.answers
  pub round : round_of now ≡ round_of old
  pub kept : IsKept told now
  pub made : List Step
  pub quiet : NoPosts made
  pub more : steps now ≡ steps old ++ made
  pub begun : BegunAs told old r made

state_since : (old now : Shown) (made : List Step) → steps now ≡ steps old ++ made → state_of now ≡ state_after (state_of old) made
state_since old now made e = ap (state_after start) e ∙ state_then start (steps old) made

begun_none : (told : Option Content) (x : Shown) (r : Request) → BegunAs told x r []
begun_none None x r = tt
begun_none (Some content) x r = tt

pub going_start : (told : Option Content) (x : Shown) (r : Request) → IsKept told x → Going told x x r
going_start told x r kept =
    record {
      config = refl;
      script = refl;
      posts_same = refl;
      answers = refl;
      round = refl;
      kept = kept;
      made = [];
      quiet = tt;
      more = sym (append-nil (steps x));
      begun = begun_none told x r;
    }

going_same : (told : Option Content) (old x new : Shown) (r : Request) → Going told old x r → new ≡ x → Going told old new r
going_same told old x new r g same = subst (λ (y : Shown). Going told old y r) (sym same) g

-- ---- one step more

-- the last step of a registry's run
pub last_may : (content : Content) (x new : Shown) (g : Setting) (e : Step) → RunsAs (Some content) new → machine new content ≡ g → steps new ≡ steps x ++ e ∷ [] → May g (state_of x) e
last_may content x new g e run same h =
    run_last g start (steps x) e (subst (λ (es : List Step). Run g start es) h (subst (λ (k : Setting). Run k start (steps new)) same run))

-- wherever the step may happen it comes next in the request's service
abbrev pub ComesNext : Option Content → Shown → Request → Step → Type 0
ComesNext told x r e =
    (content : Content) → told ≡ Some content → May (machine x content) (state_of x) e → IsNextStep (machine x content) (state_of x) (request_of r) e

begun_more : (told : Option Content) (old x new : Shown) (r : Request) (e : Step) → Going told old x r → GoesBy x new e → RunsAs told new → ComesNext told x r e → (made : List Step) → steps x ≡ steps old ++ made → BegunAs told old r made → BegunAs told old r (made ++ e ∷ [])
begun_more None old x new r e g h run next made more begun = tt
begun_more (Some content) old x new r e g h run next made more begun =
    let m : Setting = machine old content in
    let here : state_of x ≡ state_after (state_of old) made = state_since old x made more in
    let at : machine x content ≡ m = same_machine old x content g.config g.script in
    let may : May (machine x content) (state_of x) e = last_may content x new (machine x content) e run (same_machine x new content h.config h.script) h.step in
    let comes : IsNextStep m (state_of x) (request_of r) e = subst (λ (k : Setting). IsNextStep k (state_of x) (request_of r) e) at (next content refl may) in
    begun_push m (request_of r) (state_of old) made e begun (subst (λ (s : State). IsNextStep m s (request_of r) e) here comes)

quiet_push : (es : List Step) (e : Step) → NoPosts es → (IsPost e → ⊥) → NoPosts (es ++ e ∷ [])
quiet_push [] e none last = (last, tt)
quiet_push (d ∷ es) e none last = (none.0, quiet_push es e none.1 last)

going_on : (told : Option Content) (old x new : Shown) (r : Request) (e : Step) → Going told old x r → GoesBy x new e → IsOfService e → ComesNext told x r e → IsKept told new → Going told old new r
going_on told old x new r e g h call next kept =
    record {
      config = h.config ∙ g.config;
      script = h.script ∙ g.script;
      posts_same = h.posts_same ∙ g.posts_same;
      answers = h.answers ∙ g.answers;
      round = ap (λ (s : State). s.round) (state_goes x new e h) ∙ (step_within (state_of x) e call).0 ∙ g.round;
      kept = kept;
      made = g.made ++ e ∷ [];
      quiet = quiet_push g.made e g.quiet (step_quiet e call);
      more = h.step ∙ ap (λ (es : List Step). es ++ e ∷ []) g.more ∙ append_assoc (steps old) g.made (e ∷ []);
      begun = begun_more told old x new r e g h kept.run next g.made g.more g.begun;
    }

-- a call that did nothing, or what comes next
pub going_did : {A : Type 0} (told : Option Content) (old x new : Shown) (r : Request) (u : Turn A) → Going told old x r → Did x new (IsStepOf x u) → ((e : Step) → IsStepOf x u e → IsOfService e × ComesNext told x r e) → IsKept told new → Going told old new r
going_did told old x new r u g (inl same) next kept = going_same told old x new r g same
going_did told old x new r u g (inr did) next kept = let n = next did.0 did.1 in going_on told old x new r did.0 g did.2 n.0 n.1 kept

-- ---- the post

-- what might be posted may be still
pub may_still : (told : Option Content) (old x : Shown) (r : Request) (q : ℕ) → Going told old x r → MayPostUnder old q r → MayPostUnder x q r
may_still told old x r q g may = record {
  asked = ap (λ s. slice_get s.requests q) g.script ∙ may.asked;
  begun = λ later. may.begun (record {
    round = later.round;
    of = ap (λ s. slice_get s.rounds_of q) (sym g.script) ∙ later.of;
    later = subst (λ (k : ℕ). k < later.round) g.round later.later;
  });
  unanswered = ap (λ xs. slice_get xs q) g.answers ∙ may.unanswered;
}

pub may_end : (g : Setting) (s : State) (r : Request) (a : rust.Answer) → AnswerFollows g s r a → MayEnd g s (request_of r) (answer_of a)
may_end g s r (rust.TheVariants.Said v) f = f
may_end g s r (rust.TheVariants.Shared v) f = f
may_end g s r rust.TheVariants.Memory f = tt
may_end g s r (rust.TheVariants.SourceFault n l) f = tt

-- the answer follows, where a content is told
abbrev pub AnswersNext : Option Content → Shown → Request → rust.Answer → Type 0
AnswersNext told x r a = (content : Content) → told ≡ Some content → AnswerFollows (machine x content) (state_of x) r a

serves_as : (told : Option Content) (old x : Shown) (q : ℕ) (r : Request) (a : rust.Answer) (made : List Step) → ((content : Content) → machine x content ≡ machine old content) → steps x ≡ steps old ++ made → BegunAs told old r made → AnswersNext told x r a
    → ServesAs told old q r (made ++ Post q (answer_of a) ∷ [])
serves_as None old x q r a made same more begun next = tt
serves_as (Some content) old x q r a made same more begun next =
    let m : Setting = machine old content in
    let ends : MayEnd m (state_of x) (request_of r) (answer_of a) =
    subst (λ (k : Setting). MayEnd k (state_of x) (request_of r) (answer_of a)) (same content) (may_end (machine x content) (state_of x) r a (next content refl)) in
    begun_ends m q (request_of r) (state_of old) made (answer_of a) begun (subst (λ (s : State). MayEnd m s (request_of r) (answer_of a)) (state_since old x made more) ends)

pub going_done : (told : Option Content) (old x new : Shown) (q : ℕ) (r : Request) (a : rust.Answer) → Going told old x r → IsOpen old q → AnswersNext told x r a → AnswerBlames old.config (IsAskedFor told old.config r) a → new ≡ with_post x q a → IsDone told old new q r
going_done told old x new q r a g open_before next blames e =
    let opened : IsOpen x q = subst (λ (xs : List (Option rust.Answer)). slice_get xs q ≡ Some None) (sym g.answers) open_before in
    record {
      config = ap (λ (y : Shown). y.config) e ∙ g.config;
      script = ap (λ (y : Shown). y.script) e ∙ g.script;
      answer = a;
      blames = blames;
      answers = ap (λ (y : Shown). y.answers) e ∙ ap (λ (xs : List (Option rust.Answer)). slice_set xs q (Some a)) g.answers;
      posted = ap (λ (y : Shown). posts y.history) e ∙ posts_then x.history (events.Post q ∷ []) ∙ ap (λ (ps : List ℕ). ps ++ q ∷ []) g.posts_same;
      made = g.made;
      quiet = g.quiet;
      whole =
          ap steps e ∙ steps_posts x q a (unposted x q g.kept.trusted opened) opened
          ∙ ap (λ (es : List Step). es ++ Post q (answer_of a) ∷ []) g.more ∙ append_assoc (steps old) g.made (Post q (answer_of a) ∷ []);
      serves = serves_as told old x q r a g.made (λ content. same_machine old x content g.config g.script) g.more g.begun next;
    }

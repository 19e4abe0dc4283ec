-- Whom a fault of the source blames: who is read next on the way of what is looked for.
use Rattle.std.proofs.Common.{◌≡◌, ℕ, zero, suc, List, [], ◌∷◌, Option, Some, inl, inr, refl, sym, subst, slice_get, arith}
use Rattle.std.specs.Prelude.{IfSome, Contains}
use Rattle.std.proofs.lemmas.List.Elements.{Contains-append_left, Contains-append_right}
use Rattle.cl_model.specs.declared.answer.Answer.{Answer}
use Rattle.cl_model.specs.declared.answer.Answer.TheVariants as answers
use Rattle.cl_model.specs.declared.request.Request.{Request}
use Rattle.cl_model.specs.Content.{Content}
use Rattle.cl_model.specs.Works.{Ask}
use Rattle.cl_model.proofs.Bind.{some_same}
use Rattle.cl_model.proofs.Marks.{In}
use Rattle.cl_source.specs.declared.source.SourceFault.{SourceFault}
use Rattle.cl_source.specs.declared.source.SourceFault.TheVariants as faults
use Rattle.cl_config.specs.Views.{Configured}
use Rattle.cl_delegation.specs.Searches.{Searched, route_of}
use Rattle.cl_hierarchy.specs.Paths.{IsPath, at_loader, at_name}
use Rattle.cl_registry.specs.Tables.{Shown}
use Rattle.cl_tasks.specs.Blames.{AnswerBlames, AsksWhere, BlamesWhere, FaultBlames, IsBlamed}
use Rattle.cl_tasks.specs.Follows.{NoFault, Posts, PostsNoFault, Refuses, Tells, fault_answer, refusal}
use Rattle.cl_tasks.specs.Stages.{IsJob, IsSearch, loading_at, next_loader, sought_ask}
use Rattle.cl_tasks.specs.Tasks.{Tasked}
use Rattle.cl_tasks.specs.Waits as waits
use Rattle.cl_tasks.specs.declared.stage.Job.{Job}
use Rattle.cl_tasks.specs.declared.stage.Load.TheVariants as loads
use Rattle.cl_tasks.specs.declared.turn.Reply.{Reply}
use Rattle.cl_tasks.specs.declared.turn.Reply.TheVariants as reply
use Rattle.cl_tasks.specs.declared.turn.Turn.{Turn}
use Rattle.cl_tasks.proofs.Moves.{asks}
use Rattle.cl_tasks.proofs.Probes.{reads_place, way_is}
use Rattle.cl_tasks.proofs.TurnCases.{of_posts}

-- ---- lists

contains_first : {A : Type 0} (x : A) (xs : List A) → Contains (x ∷ xs) x
contains_first x xs = Contains-append_left (x ∷ []) xs x (0, omega arith, refl)

in_contains : {A : Type 0} (x : A) (xs : List A) → In x xs → Contains xs x
in_contains x [] h = absurd h
in_contains x (y ∷ ys) (inl e) = subst (λ z. Contains (y ∷ ys) z) e (contains_first y ys)
in_contains x (y ∷ ys) (inr h) = Contains-append_right (y ∷ []) ys x (in_contains x ys h)

get_contains : (xs : List ℕ) (i x : ℕ) → slice_get xs i ≡ Some x → Contains xs x
get_contains [] i x e = absurd cc
get_contains (y ∷ ys) zero x e = subst (λ (z : ℕ). Contains (y ∷ ys) z) (some_same y x e) (contains_first y ys)
get_contains (y ∷ ys) (suc i) x e = Contains-append_right (y ∷ []) ys x (get_contains ys i x e)

-- ---- a turn that posts no fault

no_fault_blames : (c : Configured) (asks : Ask → Type 0) (a : Answer) → NoFault a → AnswerBlames c asks a
no_fault_blames c asks (answers.Said v) h = tt
no_fault_blames c asks (answers.Shared s) h = tt
no_fault_blames c asks answers.Memory h = tt
no_fault_blames c asks (answers.SourceFault name loader) h = absurd h

plain_blames : {A : Type 0} (told : Option Content) (c : Configured) (holds : Shown → Type 0) (r : Request) (u : Turn A) → PostsNoFault u → BlamesWhere told c holds r u
plain_blames told c holds r u h = (of_posts u).1 told c holds r (λ f e. no_fault_blames c (AsksWhere told c holds r) f.answer (subst (λ (v : Turn _). PostsNoFault v) e h))

-- a turn that posts an answer which blames so
posts_blames : {A : Type 0} (told : Option Content) (c : Configured) (holds : Shown → Type 0) (r : Request) (a : Answer) (u : Turn A) → AnswerBlames c (AsksWhere told c holds r) a → Posts a u → BlamesWhere told c holds r u
posts_blames told c holds r a u b h = (of_posts u).1 told c holds r (λ f e. subst (λ (k : Answer). AnswerBlames c (AsksWhere told c holds r) k) (sym (subst (λ (v : Turn _). Posts a v) e h)) b)

-- ---- a read that is refused

pub fault_blames : {A : Type 0} (told : Option Content) (j : Job A) (s : Searched) (f : SourceFault) (u : Turn A) → IsJob told j.path.config j → IsSearch j s → IsPath told j.path → Posts (fault_answer (waits.Reading (next_loader s) (at_name j.path)) f) u
    → BlamesWhere told j.path.config (λ x. Tells {A = A} x (loading_at j.path.config (loads.Searching j s)) (reply.SourceFault f)) j.request u
fault_blames {A} told j s f u job search path posts =
    posts_blames told j.path.config holds j.request (fault_answer (waits.Reading (next_loader s) (at_name j.path)) f) u (by_fault f) posts
  where
    holds : Shown → Type 0
    holds x = Tells {A = A} x (loading_at j.path.config (loads.Searching j s)) (reply.SourceFault f)

    blamed : IsBlamed j.path.config (AsksWhere told j.path.config holds j.request) (at_name j.path) (next_loader s)
    blamed = record {
      from = at_loader j.path;
      asked = λ g x p served plan tells. in_contains (sought_ask j.path) p.asked (asks told j job path g x served p plan (record { frames = tells.before.frames; facts = tells.before.facts }));
      on_way =
          subst (λ (way : List ℕ). Contains way (next_loader s)) (way_is j.path s search.seeks.config search.seeks.asked search.seeks.name)
          (let at = reads_place s search.next in get_contains (route_of s) at.0 (next_loader s) at.1);
    }

    by_fault : (k : SourceFault) → AnswerBlames j.path.config (AsksWhere told j.path.config holds j.request) (fault_answer (waits.Reading (next_loader s) (at_name j.path)) k)
    by_fault faults.Memory = tt
    by_fault faults.Device = blamed
    by_fault faults.TooLarge = blamed
    by_fault faults.Twice = blamed

-- ---- any reply

some_blames : {A : Type 0} (told : Option Content) (t : Tasked) (r : Request) (given : Reply A) (u : Turn A) → t.request ≡ Some r → BlamesWhere told t.config (λ x. Tells x t given) r u → IfSome t.request (λ k. BlamesWhere told t.config (λ x. Tells x t given) k u)
some_blames told t r given u has b = subst (λ (o : Option Request). IfSome o (λ k. BlamesWhere told t.config (λ x. Tells x t given) k u)) (sym has) b

pub reply_blames : {A : Type 0} (told : Option Content) (t : Tasked) (r : Request) (given : Reply A) (u : Turn A) → t.request ≡ Some r → Refuses (refusal t given) u → FaultBlames told t given u
    → IfSome t.request (λ k. BlamesWhere told t.config (λ x. Tells x t given) k u)
reply_blames told t r reply.Memory u has h b = some_blames told t r reply.Memory u has (posts_blames told t.config _ r answers.Memory u tt h)
reply_blames told t r (reply.SourceFault f) u has h b = b
reply_blames told t r other u has h b = some_blames told t r other u has (plain_blames told t.config _ r u h)

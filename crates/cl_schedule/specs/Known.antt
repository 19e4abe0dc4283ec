-- What the tables have of a request before it is served, and how it is answered then (JVMS SE 8, 5.3 to 5.4.3).
use Rattle.std.specs.Prelude.{◌≡◌, ◌⊎◌, ℕ, List, ◌∷◌, ◌++◌, Some, Contains, slice_get}
use Rattle.cl_model.specs.declared.answer.Answer as rust
use Rattle.cl_model.specs.declared.class.Class.{Class}
use Rattle.cl_model.specs.declared.request.Request as requests
use Rattle.cl_model.specs.States.{State, start, Verdict, IsClass, IsLinked, Answer, Said, OutOfMemory, settled_to}
use Rattle.cl_model.specs.Plans.{Request, Load, Resolve, Link, loaded_by}
use Rattle.cl_model.specs.Machine.{Scheduled, Step, Post, state_after}
use Rattle.cl_model.specs.Tables.{Records}
use Rattle.cl_model.specs.Views.{answer_of, request_of}
use Rattle.cl_config.specs.Loaders.{schedule_of}
use Rattle.cl_registry.specs.Tables.{Shown, state_of, steps, with_post}

-- the tables have the verdict of a request whose class is this one: it is recorded, the reference is settled, the class is
-- prepared (5.3, 5.4.2, 5.4.3)
abbrev pub HasOf : State → Request → Class → Verdict → Type 0
HasOf s (Load loader name) c v = v ≡ IsClass c
HasOf s (Resolve loader name i) c v = settled_to s.settled c i ≡ Some v
HasOf s (Link loader name) c v = Contains s.prepared c × (v ≡ IsLinked c)

-- the tables have a request's verdict, its class with it (5.3, 5.4.2, 5.4.3)
abbrev pub HasVerdict : State → Request → Verdict → Type 0
HasVerdict s r v = (c : Class) × Records s (loaded_by r).loader (loaded_by r).name c × HasOf s r c v

-- this verdict, or out of memory
abbrev pub SaysOrLacks : Verdict → Answer → Type 0
SaysOrLacks v a = (a ≡ Said v) ⊎ (a ≡ OutOfMemory)

-- a request was answered this verdict, or out of memory, by its post alone, and the source was left alone
pub record IsToldAtOnce {S : Type 0} (old new : Shown) (q : ℕ) (v : Verdict)
    (source later : S) : Type 0 where
  pub answer : rust.Answer
  pub is : SaysOrLacks v (answer_of answer)
  pub posted : new ≡ with_post old q answer
  pub unread : later ≡ source

-- where the tables have a request's verdict it is answered so at once (5.3, 5.4.2, 5.4.3)
abbrev pub TellsKnown : {S : Type 0} → Shown → Shown → ℕ → requests.Request → S → S → Type 0
TellsKnown old new q r source later =
    (v : Verdict) → HasVerdict (state_of old) (request_of r) v
    → IsToldAtOnce old new q v source later

-- where the tables have a request's verdict when another one is posted, the request is answered so after that, or that memory
-- ran out, under any source (5.3, 5.4.2, 5.4.3)
abbrev pub KnownStays : Shown → Type 0
KnownStays x =
    (before between behind : List Step) (p q : ℕ) (b a : Answer) (r : Scheduled) (v : Verdict)
    → steps x ≡ before ++ Post p b ∷ (between ++ Post q a ∷ behind)
    → slice_get (schedule_of x.script) q ≡ Some r
    → HasVerdict (state_after start before) r.request v → SaysOrLacks v a

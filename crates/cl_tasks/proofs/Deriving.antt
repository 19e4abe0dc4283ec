-- What a step leaves to be derived (JVMS SE 8, 5.3.5).
use Rattle.std.proofs.Common.{◌≡◌, ◌∙◌, ◌⊎◌, ℕ, List, [], ◌∷◌, ◌++◌, map, Option, Some, None, inl, inr, refl, sym, ap, subst}
use Rattle.cl_model.specs.declared.class.Class.{Class}
use Rattle.cl_model.specs.Classes.{class}
use Rattle.cl_model.specs.Frames.{Frame}
use Rattle.cl_config.specs.Views.{Configured}
use Rattle.cl_delegation.specs.Searches.{Located}
use Rattle.cl_hierarchy.specs.Drafts.{Drafted}
use Rattle.cl_hierarchy.specs.Frames.{Framed, frame_of, with_definer}
use Rattle.cl_hierarchy.specs.Paths.{Accepts, Completes, Pathed, at_loader, at_name, fresh, frames_of, sought_class, with_frame}
use Rattle.cl_findings.specs.Findings.{Answered}
use Rattle.cl_findings.specs.Loads.{IsSought}
use Rattle.cl_tasks.specs.Deriving.{Derives, IsHomeClass, IsNone, IsPast, IsSoughtHere, IsUnfound}
use Rattle.cl_tasks.specs.Ends.{ConcludesBy}
use Rattle.cl_tasks.specs.Stages.{task_at}
use Rattle.cl_tasks.specs.Steps.{DefinesBy}
use Rattle.cl_tasks.specs.Tasks.{Tasked}
use Rattle.cl_tasks.specs.Turns.{AsksDerived, Asks, DerivesUnrecorded, IsDerived, WasAbsent, AreDerived}
use Rattle.cl_tasks.specs.Waits.{Waits}
use Rattle.cl_tasks.specs.Waits as waits
use Rattle.cl_tasks.specs.declared.ends.Aftermath.{Aftermath}
use Rattle.cl_tasks.specs.declared.ends.Aftermath.TheVariants as aftermaths
use Rattle.cl_tasks.specs.declared.stage.Job.{Job}
use Rattle.cl_tasks.specs.declared.stage.Link.TheVariants as links
use Rattle.cl_tasks.specs.declared.stage.Load.TheVariants as loads
use Rattle.cl_tasks.specs.declared.stage.Next.{Next}
use Rattle.cl_tasks.specs.declared.stage.Resolution.TheVariants as resolutions
use Rattle.cl_tasks.specs.declared.stage.Stage.{Stage}
use Rattle.cl_tasks.specs.declared.stage.Stage.TheVariants as stages
use Rattle.cl_tasks.specs.declared.turn.Turn.{Turn}
use Rattle.cl_tasks.specs.declared.turn.Turn.TheVariants as turn
use Rattle.cl_tasks.proofs.Keep.{map_last}
use Rattle.cl_model.proofs.Bind.{some_same}
use Rattle.std.proofs.lemmas.Option.{none-some}

-- ---- frames

-- the last of these frames is of this class
derived_last : (xs : List Frame) (x : Frame) → IsDerived (xs ++ x ∷ []) x.class
derived_last [] x = inl refl
derived_last (y ∷ ys) x = inr (derived_last ys x)

-- what stands before it stays
pub derived_first : (xs : List Frame) (x : Frame) (c : Class) → IsDerived xs c → IsDerived (xs ++ x ∷ []) c
derived_first [] x c h = absurd h
derived_first (y ∷ ys) x c (inl h) = inl h
derived_first (y ∷ ys) x c (inr h) = inr (derived_first ys x c h)

-- another last frame of the same class changes nothing
derived_as : (xs : List Framed) (a b : Framed) (c : Class) → a.draft.class ≡ b.draft.class → IsDerived (map frame_of (xs ++ a ∷ [])) c → IsDerived (map frame_of (xs ++ b ∷ [])) c
derived_as [] a b c same (inl h) = inl (sym same ∙ h)
derived_as [] a b c same (inr h) = absurd h
derived_as (y ∷ ys) a b c same (inl h) = inl h
derived_as (y ∷ ys) a b c same (inr h) = inr (derived_as ys a b c same h)

-- a frame behind them adds its class alone
derived_more : (xs : List Framed) (a : Framed) (c : Class) → IsDerived (map frame_of (xs ++ a ∷ [])) c → IsDerived (map frame_of xs) c ⊎ (c ≡ a.draft.class)
derived_more [] a c (inl h) = inr (sym h)
derived_more [] a c (inr h) = absurd h
derived_more (y ∷ ys) a c (inl h) = inl (inl h)
derived_more (y ∷ ys) a c (inr h) = onward (derived_more ys a c h)
  where
    onward : IsDerived (map frame_of ys) c ⊎ (c ≡ a.draft.class) → IsDerived (map frame_of (y ∷ ys)) c ⊎ (c ≡ a.draft.class)
    onward (inl k) = inl (inr k)
    onward (inr k) = inr k

-- ---- stages

pub past_derives : {A : Type 0} (absent : Class → Type 0) (before : List Frame) (s : Stage A) → IsPast s → Derives absent before s
past_derives absent before (stages.Load l) h = absurd h
past_derives absent before (stages.Resolve r) h = tt
past_derives absent before (stages.Link l) h = tt
past_derives absent before (stages.Done q) h = tt

more_derived : (p q : Class → Type 0) (before mid now : List Frame) → AreDerived q before mid → ((c : Class) → p c → q c) → AreDerived p mid now → AreDerived q before now
more_derived p q before mid now first weaker h = λ c d. joined c (h c d)
  where
    joined : (c : Class) → IsDerived mid c ⊎ p c → IsDerived before c ⊎ q c
    joined c (inl k) = first c k
    joined c (inr k) = inr (weaker c k)

-- what is derived behind what was derived
pub derives_by : {A : Type 0} (p q : Class → Type 0) (before mid : List Frame) (s : Stage A) → AreDerived q before mid → ((c : Class) → p c → q c) → Derives p mid s → Derives q before s
derives_by p q before mid (stages.Load (loads.Fresh j)) first weaker h = more_derived p q before mid (frames_of j.path) first weaker h
derives_by p q before mid (stages.Load (loads.Looking j)) first weaker h = more_derived p q before mid (frames_of j.path) first weaker h
derives_by p q before mid (stages.Load (loads.Searching j s)) first weaker h = (more_derived p q before mid (frames_of j.path) first weaker h.0, weaker (sought_class j.path) h.1)
derives_by p q before mid (stages.Load (loads.Homing j h)) first weaker k = more_derived p q before mid (frames_of j.path) first weaker k
derives_by p q before mid (stages.Load (loads.Defining j x)) first weaker h = more_derived p q before mid (frames_of j.path ++ frame_of x ∷ []) first weaker h
derives_by p q before mid (stages.Load (loads.Initiating j h)) first weaker k = more_derived p q before mid (frames_of j.path) first weaker k
derives_by p q before mid (stages.Resolve r) first weaker h = tt
derives_by p q before mid (stages.Link l) first weaker h = tt
derives_by p q before mid (stages.Done n) first weaker h = tt

-- where more may be derived
pub derives_more : {A : Type 0} (p q : Class → Type 0) (before : List Frame) (s : Stage A) → ((c : Class) → p c → q c) → Derives p before s → Derives q before s
derives_more p q before s weaker h = derives_by p q before before s (λ c d. inl d) weaker h

-- ---- what each step does

-- a class is to be defined, or memory ran out
pub defines_derives : {A : Type 0} (j : Job A) (x : Framed) (n : Next A) → DefinesBy j x n → Derives (λ c. c ≡ x.draft.class) (frames_of j.path) n.stage
defines_derives j x n (inl is) = subst (λ (m : Next _). Derives (λ c. c ≡ x.draft.class) (frames_of j.path) m.stage) (sym is) tt
defines_derives j x n (inr is) =
    subst (λ (m : Next _). Derives (λ c. c ≡ x.draft.class) (frames_of j.path) m.stage) (sym is)
    (λ c d. derived_more j.path.frames x c (subst (λ (fs : List Frame). IsDerived fs c) (sym (map_last j.path.frames x)) d))

-- a class waits for its first supertype
pub descends_derives : {A : Type 0} (p new : Pathed) (d : Drafted) (s : Stage A) → new ≡ with_frame p (fresh d) → Derives IsNone (frames_of new) s → Derives (λ c. c ≡ d.class) (frames_of p) s
descends_derives p new d s is h =
    derives_by IsNone (λ c. c ≡ d.class) (frames_of p) (frames_of new) s
    (λ c k. derived_more p.frames (fresh d) c (subst (λ (q : Pathed). IsDerived (frames_of q) c) is k)) (λ c k. absurd k) h

-- it accepted a supertype, and wants another
pub accepts_derives : {A : Type 0} (old new : Pathed) (definer : ℕ) (s : Stage A) → Accepts old new definer → Derives IsNone (frames_of new) s → Derives IsNone (frames_of old) s
accepts_derives old new definer s step h =
    derives_by IsNone IsNone (frames_of old) (frames_of new) s
    (λ c k. inl (subst (λ (fs : List Framed). IsDerived (map frame_of fs) c) (sym step.split)
    (derived_as step.before (with_definer step.last definer) step.last c refl (subst (λ (q : Pathed). IsDerived (frames_of q) c) step.now k)))) (λ c k. k) h

-- it accepted its last one, and is to be defined
pub completes_derives : {A : Type 0} (j : Job A) (old : Pathed) (definer : ℕ) (x : Framed) (n : Next A) → Completes old j.path definer x → DefinesBy j x n → Derives IsNone (frames_of old) n.stage
completes_derives j old definer x n step (inl is) = subst (λ (m : Next _). Derives IsNone (frames_of old) m.stage) (sym is) tt
completes_derives j old definer x n step (inr is) =
    subst (λ (m : Next _). Derives IsNone (frames_of old) m.stage) (sym is)
    (λ c k. inl (subst (λ (fs : List Framed). IsDerived (map frame_of fs) c) (sym step.split)
    (derived_as step.before x step.last c (ap (λ (f : Framed). f.draft.class) step.whole_is)
    (subst (λ (fs : List Frame). IsDerived fs c) (sym (map_last step.before x)) (subst (λ (q : Pathed). IsDerived (frames_of q ++ frame_of x ∷ []) c) step.now k)))))

-- the class of a home is derived
pub home_derives : {A : Type 0} (p : Pathed) (h : Located) (c : Class) (s : Stage A) → c ≡ class h.name h.definer → Derives (λ k. k ≡ c) (frames_of p) s → Derives (IsHomeClass h) (frames_of p) s
home_derives p h c s is k = derives_more (λ k. k ≡ c) (IsHomeClass h) (frames_of p) s (λ d e. e ∙ is) k

-- and the loader that is asked is its home
pub sought_derives : {A : Type 0} (p : Pathed) (h : Located) (s : Stage A) → IsSought p h → h.definer ≡ at_loader p → Derives (IsHomeClass h) (frames_of p) s → Derives (IsSoughtHere p) (frames_of p) s
sought_derives p h s sought same k =
    derives_more (IsHomeClass h) (IsSoughtHere p) (frames_of p) s (λ d e. e ∙ ap (λ (n : List ℕ). class n h.definer) sought.name ∙ ap (λ (l : ℕ). class (at_name p) l) same) k

-- nothing was found there
pub unfound_derives : {A B : Type 0} (p : Pathed) (h : Located) (o : Option B) (s : Stage A) → o ≡ None → Derives (IsHomeClass h) (frames_of p) s → Derives (IsUnfound h o) (frames_of p) s
unfound_derives p h o s is k = subst (λ (o : Option _). Derives (IsUnfound h o) (frames_of p) s) (sym is) k

-- or something was
pub found_derives : {A B : Type 0} (p : Pathed) (h : Located) (o : Option B) (s : Stage A) → Derives IsNone (frames_of p) s → Derives (IsUnfound h o) (frames_of p) s
found_derives p h o s k = derives_more IsNone (IsUnfound h o) (frames_of p) s (λ c e. absurd e) k

-- ---- the loads are over

pub concludes_past : {A : Type 0} (q : ℕ) (f : Answered) (a : Aftermath A) (n : Next A) → ConcludesBy q a f n → IsPast n.stage
concludes_past q f aftermaths.Answer n by = subst (λ (m : Next _). IsPast m.stage) (sym by) tt
concludes_past q f (aftermaths.Check r loader name) n by = subst (λ (m : Next _). IsPast m.stage) (sym by) tt
concludes_past q f (aftermaths.Settle e) n by = subst (λ (m : Next _). IsPast m.stage) (sym by) tt

-- ---- what contracts see

-- what is read for
absent_at : {A : Type 0} (c : Configured) (absent : Class → Type 0) (before : List Frame) (s : Stage A) → Derives absent before s → (k : Class) → (task_at c s).absent ≡ Some k → absent k
absent_at c absent before (stages.Load (loads.Fresh j)) h k e = absurd (none-some k e)
absent_at c absent before (stages.Load (loads.Looking j)) h k e = absurd (none-some k e)
absent_at c absent before (stages.Load (loads.Searching j s)) h k e = subst absent (some_same _ _ e) h.1
absent_at c absent before (stages.Load (loads.Homing j i)) h k e = absurd (none-some k e)
absent_at c absent before (stages.Load (loads.Defining j x)) h k e = absurd (none-some k e)
absent_at c absent before (stages.Load (loads.Initiating j i)) h k e = absurd (none-some k e)
absent_at c absent before (stages.Resolve (resolutions.Checking f)) h k e = absurd (none-some k e)
absent_at c absent before (stages.Resolve (resolutions.LookingReference f)) h k e = absurd (none-some k e)
absent_at c absent before (stages.Resolve (resolutions.TracingOwn f i)) h k e = absurd (none-some k e)
absent_at c absent before (stages.Resolve (resolutions.TracingNamed f l i)) h k e = absurd (none-some k e)
absent_at c absent before (stages.Resolve (resolutions.Imposing m i)) h k e = absurd (none-some k e)
absent_at c absent before (stages.Resolve (resolutions.Settling f)) h k e = absurd (none-some k e)
absent_at c absent before (stages.Link (links.LookingPrepared g)) h k e = absurd (none-some k e)
absent_at c absent before (stages.Link (links.TracingWhole g)) h k e = absurd (none-some k e)
absent_at c absent before (stages.Link (links.Counting g l)) h k e = absurd (none-some k e)
absent_at c absent before (stages.Link (links.Tracing i)) h k e = absurd (none-some k e)
absent_at c absent before (stages.Link (links.Imposing i l m)) h k e = absurd (none-some k e)
absent_at c absent before (stages.Link (links.Marking i l)) h k e = absurd (none-some k e)
absent_at c absent before (stages.Done q) h k e = absurd (none-some k e)

-- what is derived
derived_at : {A : Type 0} (c : Configured) (absent : Class → Type 0) (before : List Frame) (s : Stage A) → Derives absent before s → AreDerived absent before (task_at c s).frames
derived_at c absent before (stages.Load (loads.Fresh j)) h = h
derived_at c absent before (stages.Load (loads.Looking j)) h = h
derived_at c absent before (stages.Load (loads.Searching j s)) h = h.0
derived_at c absent before (stages.Load (loads.Homing j i)) h = h
derived_at c absent before (stages.Load (loads.Defining j x)) h = h
derived_at c absent before (stages.Load (loads.Initiating j i)) h = h
derived_at c absent before (stages.Resolve (resolutions.Checking f)) h = λ k e. absurd e
derived_at c absent before (stages.Resolve (resolutions.LookingReference f)) h = λ k e. absurd e
derived_at c absent before (stages.Resolve (resolutions.TracingOwn f i)) h = λ k e. absurd e
derived_at c absent before (stages.Resolve (resolutions.TracingNamed f l i)) h = λ k e. absurd e
derived_at c absent before (stages.Resolve (resolutions.Imposing m i)) h = λ k e. absurd e
derived_at c absent before (stages.Resolve (resolutions.Settling f)) h = λ k e. absurd e
derived_at c absent before (stages.Link (links.LookingPrepared g)) h = λ k e. absurd e
derived_at c absent before (stages.Link (links.TracingWhole g)) h = λ k e. absurd e
derived_at c absent before (stages.Link (links.Counting g l)) h = λ k e. absurd e
derived_at c absent before (stages.Link (links.Tracing i)) h = λ k e. absurd e
derived_at c absent before (stages.Link (links.Imposing i l m)) h = λ k e. absurd e
derived_at c absent before (stages.Link (links.Marking i l)) h = λ k e. absurd e
derived_at c absent before (stages.Done q) h = λ k e. absurd e

-- what is waited for by a task that defines
abbrev IsAsked : Tasked → Waits → Type 0
IsAsked t (waits.Defining d) = IsDerived t.frames d.class
IsAsked t other = Unit {0}

asked_at : {A : Type 0} (c : Configured) (s : Stage A) → IsAsked (task_at c s) (task_at c s).waits
asked_at c (stages.Load (loads.Fresh j)) = tt
asked_at c (stages.Load (loads.Looking j)) = tt
asked_at c (stages.Load (loads.Searching j s)) = tt
asked_at c (stages.Load (loads.Homing j i)) = tt
asked_at c (stages.Load (loads.Defining j x)) = derived_last (frames_of j.path) (frame_of x)
asked_at c (stages.Load (loads.Initiating j i)) = tt
asked_at c (stages.Resolve (resolutions.Checking f)) = tt
asked_at c (stages.Resolve (resolutions.LookingReference f)) = tt
asked_at c (stages.Resolve (resolutions.TracingOwn f i)) = tt
asked_at c (stages.Resolve (resolutions.TracingNamed f l i)) = tt
asked_at c (stages.Resolve (resolutions.Imposing m i)) = tt
asked_at c (stages.Resolve (resolutions.Settling f)) = tt
asked_at c (stages.Link (links.LookingPrepared g)) = tt
asked_at c (stages.Link (links.TracingWhole g)) = tt
asked_at c (stages.Link (links.Counting g l)) = tt
asked_at c (stages.Link (links.Tracing i)) = tt
asked_at c (stages.Link (links.Imposing i l m)) = tt
asked_at c (stages.Link (links.Marking i l)) = tt
asked_at c (stages.Done q) = tt

asks_derived : {A : Type 0} (t : Tasked) (u : Turn A) → Asks t u → IsAsked t t.waits → AsksDerived t u
asks_derived t (turn.Define d) asks h = subst (λ (w : Waits). IsAsked t w) asks h
asks_derived t other asks h = tt

pub derives_so : {A : Type 0} (c : Configured) (t : Tasked) (r : _) (s : Stage A) (u : Turn A) → Asks (task_at c s) u → Derives (WasAbsent {A = A} t r) t.frames s → DerivesUnrecorded {A = A} t (task_at c s) r u
derives_so {A} c t r s u asks h = record {
  absent = absent_at c (WasAbsent {A = A} t r) t.frames s h;
  derived = derived_at c (WasAbsent {A = A} t r) t.frames s h;
  asked = asks_derived (task_at c s) u asks (asked_at c s);
}

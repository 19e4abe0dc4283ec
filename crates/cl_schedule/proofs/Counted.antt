-- The count of a source beside the answers that are its faults.
use Rattle.std.proofs.Common.{◌≡◌, inl, inr, ◌∙◌, ◌+◌, ◌≤◌, ℕ, zero, suc, List, [], ◌∷◌, Option, Some, None, refl, sym, ap, subst, arith, replicate}
use Rattle.std.specs.Prelude.{slice_get, slice_set}
use Rattle.cl_model.specs.declared.answer.Answer.{Answer}
use Rattle.cl_model.specs.declared.answer.Answer.TheVariants as answers
use Rattle.cl_source.specs.Counts.{Rises, CountsFault}
use Rattle.cl_source.specs.declared.source.SourceFault.{SourceFault}
use Rattle.cl_source.specs.declared.source.SourceFault.TheVariants as sources
use Rattle.cl_config.specs.Views.{Configured}
use Rattle.cl_findings.specs.Findings.{Answered}
use Rattle.cl_tasks.specs.Tasks.{Tasked}
use Rattle.cl_tasks.specs.declared.turn.Reply.{Reply}
use Rattle.cl_tasks.specs.declared.turn.Reply.TheVariants as reply
use Rattle.cl_tasks.specs.declared.turn.Turn.TheVariants as turn
use Rattle.cl_tasks.specs.declared.turn.Turn.{Turn}
use Rattle.cl_tasks.specs.Follows.{NoFault, Refuses, fault_answer, refusal}
use Rattle.cl_tasks.specs.Turns.{Expects, IsReplyTo}
use Rattle.cl_tasks.specs.Waits.{Waits, Reading}
use Rattle.cl_schedule.proofs.Stations.{no_posts}
use Rattle.cl_schedule.specs.Replies.{IsCall}
use Rattle.cl_schedule.specs.Counting.{fault, faults, told_faults, RoseBy, Grows, CountGrows}

pub grows_none : (old : ℕ) → Grows 0 old old
grows_none old = record { stays = λ e. e; rose = inl (omega arith) }

pub grows_same : (a b : ℕ) → b ≡ a → Grows 0 a b
grows_same a b e = record { stays = λ h. ap (λ (k : ℕ). k + 1) e ∙ h; rose = inl (omega arith) }

-- a reply that tells of no fault
pub grows_told : (n a : ℕ) → n ≡ 0 → Grows n a a
grows_told n a none = subst (λ (k : ℕ). Grows k a a) (sym none) (grows_none a)

pub grows_then : (n m a b c : ℕ) → Grows n a b → Grows m b c → Grows (n + m) a c
grows_then n m a b c g h = record { stays = λ e. h.stays (g.stays e); rose = by_case g.rose h.rose }
  where
    at_most : (n a b : ℕ) → RoseBy n a b → b ≤ a + n
    at_most n a b (inl e) = omega arith
    at_most n a b (inr e) = e.1

    by_case : RoseBy n a b → RoseBy m b c → RoseBy (n + m) a c
    by_case x (inr end) = inr (end.0, let one = at_most n a b x in let two = end.1 in omega arith)
    by_case (inr end) (inl more) = inr (h.stays end.0, let one = end.1 in omega arith)
    by_case (inl less) (inl more) = inl (omega arith)

pub rises_grows : (a b : ℕ) → Rises a b → Grows 1 a b
rises_grows a b (inl r) = record { stays = λ e. absurd (let below = r.0 in omega arith); rose = inl r.1 }
rises_grows a b (inr r) = record { stays = λ e. ap (λ (k : ℕ). k + 1) r.1 ∙ e; rose = inr (ap (λ (k : ℕ). k + 1) r.1 ∙ r.0, let e = r.1 in omega arith) }

pub faults_set : (xs : List (Option Answer)) (q : ℕ) (a : Answer) → slice_get xs q ≡ Some None → faults (slice_set xs q (Some a)) ≡ faults xs + fault a
faults_set [] q a e = absurd cc
faults_set (None ∷ xs) zero a e = omega arith
faults_set (Some b ∷ xs) zero a e = absurd cc
faults_set (None ∷ xs) (suc q) a e = faults_set xs q a e
faults_set (Some b ∷ xs) (suc q) a e = let h = faults_set xs q a e in omega arith

pub faults_none : (n : ℕ) → faults (replicate n None) ≡ 0
faults_none zero = refl
faults_none (suc n) = faults_none n

-- after nothing was told of
pub grows_on : (n m a b c : ℕ) → Grows n a b → n ≡ 0 → Grows m b c → Grows m a c
grows_on n m a b c g none h = subst (λ (k : ℕ). Grows k a c) (omega arith) (grows_then n m a b c g h)

pub grows_quiet : (n m a b : ℕ) → Grows n a b → n ≡ 0 → m ≡ 0 → Grows m a b
grows_quiet n m a b g none still = subst (λ (k : ℕ). Grows k a b) (none ∙ sym still) g

pub faults_then : (xs ys : List (Option Answer)) (a b c : ℕ) → Grows (faults xs) a b → CountGrows (faults xs) (faults ys) b c → Grows (faults ys) a c
faults_then xs ys a b c g h = subst (λ (k : ℕ). Grows k a c) (sym h.counted) (grows_then (faults xs) h.number a b c g h.grows)

-- ---- an answer and the reply before it

no_fault : (a : Answer) → NoFault a → fault a ≡ 0
no_fault (answers.Said v) n = refl
no_fault (answers.Shared s) n = refl
no_fault answers.Memory n = refl
no_fault (answers.SourceFault name loader) n = absurd n

-- a refused read is answered as a fault of the source, unless memory ran out
reading_fault : (A : Type 0) (c : Configured) (w : Waits) (f : SourceFault) → IsReplyTo {A = A} c w (reply.SourceFault f) → fault (fault_answer w f) ≡ told_faults {A = A} (reply.SourceFault f)
reading_fault A c (Reading l n) sources.Memory is = refl
reading_fault A c (Reading l n) sources.Device is = refl
reading_fault A c (Reading l n) sources.TooLarge is = refl
reading_fault A c (Reading l n) sources.Twice is = refl
reading_fault A c other f is = absurd is

-- an answer is a fault of the source where the reply before it told of one, and nowhere else
pub told_fault : {A : Type 0} (t : Tasked) (r : Reply A) (f : Answered) → Expects t r → Refuses {A = A} (refusal t r) (turn.Post f) → fault f.answer ≡ told_faults r
told_fault t reply.Memory f e h = ap fault h
told_fault {A = A} t (reply.SourceFault s) f e h = ap fault h ∙ reading_fault A t.config t.waits s e
told_fault t other f e h = no_fault f.answer h

-- a task that asks on was told of no fault
pub told_none : (A : Type 0) (t : Tasked) (r : Reply A) (u : Turn A) → Refuses (refusal t r) u → IsCall u → told_faults r ≡ 0
told_none A t (reply.SourceFault s) u h call = absurd (no_posts (fault_answer t.waits s) u h call)
told_none A t other u h call = refl

-- a reply to a read, and the count
pub read_grows : (A : Type 0) (old new : ℕ) (f : SourceFault) → CountsFault old new f → Grows (told_faults {A = A} (reply.SourceFault f)) old new
read_grows A old new sources.Memory c = grows_same old new c
read_grows A old new sources.Device c = rises_grows old new c
read_grows A old new sources.TooLarge c = rises_grows old new c
read_grows A old new sources.Twice c = absurd c

pub post_grows : (xs ys : List (Option Answer)) (q : ℕ) (a : Answer) (n old new : ℕ) → slice_get xs q ≡ Some None → ys ≡ slice_set xs q (Some a) → fault a ≡ n → Grows n old new → CountGrows (faults xs) (faults ys) old new
post_grows xs ys q a n old new opened e one g = record { number = fault a; counted = ap faults e ∙ faults_set xs q a opened; grows = subst (λ (k : ℕ). Grows k old new) (sym one) g }

-- Serving: one step more, an answer, and one request after another.
use Rattle.std.proofs.Common.{◌≡◌, inl, inr, ℕ, suc, ◌+◌, List, [], ◌∷◌, ◌++◌, length, Option, Some, None, refl, sym, ap, subst, ◌∙◌, arith, append_assoc}
use Rattle.std.proofs.lemmas.Cmp.{nat_eq_equiv}
use Rattle.cl_classfile.specs.Files.{Name}
use Rattle.cl_model.specs.Homes.{World}
use Rattle.cl_model.specs.Classes.{class}
use Rattle.cl_model.specs.States.{State, Need, Entry, Equal, Verdict, Answer, recorded_definer, Met, MayAdd, IsNext, with_need}
use Rattle.cl_model.specs.Plans.{Request, Load, Resolve, Plan, plan_needs}
use Rattle.cl_model.specs.Machine.{Setting, Scheduled, Step, Define, Post, IsPlan, Answers, AnswersPlan, MaySay, after, state_after, step_for, Run, May}
use Rattle.cl_model.specs.Service.{Want, ToStand, to_stand, IsFirst, HasWants, IsNextNeed, IsNextStep, IsOver, ComesTo, MayEnd, Serves, IsBegun, PassesRounds, AllServed}
use Rattle.cl_model.proofs.Runs.{joined_self, joined_link, last_linked, record_found}
use Rattle.cl_model.proofs.Progress.{step_adds}
use Rattle.cl_model.proofs.Views.{state_then}

-- ---- a need that may be added is met once its step was made

pub no_record : (s : State) (loader place : ℕ) (name : Name) → MayAdd s (Entry loader name place) → (o : Option ℕ) → recorded_definer s.records loader name ≡ o → o ≡ None
no_record s loader place name may None h = refl
no_record s loader place name may (Some p) h =
    absurd (may.fits (record {
      other = loader;
      other_place = p;
      joined = joined_self s.equalities name loader;
      recorded_there = h;
      differ = λ e. may.unmet (h ∙ ap (λ (x : ℕ). Some x) (sym e));
    }))

added_met : (s : State) (n : Need) → MayAdd s n → Met (with_need s n) n
added_met s (Entry loader name place) may =
    record_found s.records (record { loader = loader; name = name; place = place }) (no_record s loader place name may (recorded_definer s.records loader name) refl)
added_met s (Equal name a b) may = joined_link (with_need s (Equal name a b)).equalities name a b (last_linked s.equalities name a b)

pub made_met : (s : State) (n : Need) → MayAdd s n → Met (after s (step_for n)) n
made_met s n may = subst (λ (t : State). Met t n) (sym (step_adds s n)) (added_met s n may)

-- ---- needs as wants

pub to_stand_both : (xs ys : List Need) → to_stand (xs ++ ys) ≡ to_stand xs ++ to_stand ys
to_stand_both [] ys = refl
to_stand_both (x ∷ xs) ys = ap (λ (l : List Want). ToStand x ∷ l) (to_stand_both xs ys)

pub next_is_first : (s : State) (ns : List Need) (n : Need) → IsNext s ns n → IsFirst s (to_stand ns) (ToStand n)
next_is_first s [] n h = absurd h
next_is_first s (x ∷ ns) n (inl e) = inl (ap (λ (y : Need). ToStand y) e)
next_is_first s (x ∷ ns) n (inr h) = inr (h.0, next_is_first s ns n h.1)

-- where the needs have an answer, nothing more is wanted of them
pub answers_over : (s : State) (ns : List Need) (ends v : Verdict) → Answers s ns ends v → IsOver s (to_stand ns)
answers_over s [] ends v h = inl tt
answers_over s (n ∷ ns) ends v (inr h) = inr (n, inl refl, h.0)
answers_over s (n ∷ ns) ends v (inl h) = elim (answers_over s ns ends v h.1) [
  | inl all ↦ inl (h.0, all)
  | inr k ↦ inr (k.0, inr (h.0, k.1), k.2)
]

-- a request that wants needs alone: a load, or the resolution of a reference
abbrev pub WantsNeeds : Request → Type 0
WantsNeeds r = (w : World) (p : Plan) → IsPlan w r p → HasWants w r p (to_stand (plan_needs p))

pub load_wants : (loader : ℕ) (name : Name) → WantsNeeds (Load loader name)
load_wants loader name w p h = record { planned = h; past = to_stand p.more; follows = refl; whole = to_stand_both p.own p.more }

pub resolve_wants : (loader : ℕ) (name : Name) (i : ℕ) → WantsNeeds (Resolve loader name i)
resolve_wants loader name i w p h = record { planned = h; past = to_stand p.more; follows = refl; whole = to_stand_both p.own p.more }

-- the need that comes next is what its service does next
pub need_next : (g : Setting) (s : State) (r : Request) (n : Need) → WantsNeeds r → IsNextNeed g.world s r n → MayAdd s n → IsNextStep g s r (step_for n)
need_next g s r n needs next may = record {
  plan = next.plan;
  wants = to_stand (plan_needs next.plan);
  wanted = needs g.world next.plan next.planned;
  next = inl (ToStand n, next_is_first s (plan_needs next.plan) n next.next, may, refl);
}

-- what may be said is what the service comes to
pub said_comes : (g : Setting) (s : State) (r : Request) (v : Verdict) → WantsNeeds r → MaySay g s r v → ComesTo g s r v
said_comes g s r v needs may = record {
  plan = may.answers.plan;
  wants = to_stand (plan_needs may.answers.plan);
  wanted = needs g.world may.answers.plan may.answers.planned;
  over = answers_over s (plan_needs may.answers.plan) may.answers.plan.ends v may.answers.answered;
  may_say = may;
}

-- the answer of a load may be said
pub load_comes : (g : Setting) (s : State) (loader : ℕ) (name : Name) (v : Verdict) → AnswersPlan g s (Load loader name) v → ComesTo g s (Load loader name) v
load_comes g s loader name v a = said_comes g s (Load loader name) v (load_wants loader name) (record { answers = a; rests = tt })

-- ---- a service

pub begun_push : (g : Setting) (r : Request) (s : State) (es : List Step) (e : Step) → IsBegun g r s es → IsNextStep g (state_after s es) r e → IsBegun g r s (es ++ e ∷ [])
begun_push g r s [] e b next = (next, tt)
begun_push g r s (d ∷ es) e b next = (b.0, begun_push g r (after s d) es e b.1 next)

pub begun_part : (g : Setting) (r : Request) (s : State) (xs ys : List Step) → IsBegun g r s (xs ++ ys) → IsBegun g r s xs
begun_part g r s [] ys b = tt
begun_part g r s (x ∷ xs) ys b = (b.0, begun_part g r (after s x) xs ys b.1)

-- the last step of a run may happen where it does
pub run_last : (g : Setting) (s : State) (es : List Step) (e : Step) → Run g s (es ++ e ∷ []) → May g (state_after s es) e
run_last g s [] e run = run.0
run_last g s (d ∷ es) e run = run_last g (after s d) es e run.1

-- of a run that goes on what comes after its first part is a run
pub run_later_part : (g : Setting) (s : State) (xs ys : List Step) → Run g s (xs ++ ys) → Run g (state_after s xs) ys
run_later_part g s [] ys run = run
run_later_part g s (d ∷ xs) ys run = run_later_part g (after s d) xs ys run.1

define_for : (l : ℕ) (name : Name) → step_for (Entry l name l) ≡ Define (class name l)
define_for l name = rw (nat_eq_equiv.refl l) refl

-- the same of a class's own record
pub begun_define : (g : Setting) (r : Request) (s : State) (es : List Step) (l : ℕ) (name : Name) → WantsNeeds r → IsBegun g r s es → IsNextNeed g.world (state_after s es) r (Entry l name l) → May g (state_after s es) (Define (class name l))
    → IsBegun g r s (es ++ Define (class name l) ∷ [])
begun_define g r s es l name needs b next may =
    subst (λ (e : Step). IsBegun g r s (es ++ e ∷ [])) (define_for l name)
    (begun_push g r s es (step_for (Entry l name l)) b (need_next g (state_after s es) r (Entry l name l) needs next may.may_add))

pub begun_ends : (g : Setting) (q : ℕ) (r : Request) (s : State) (es : List Step) (a : Answer) → IsBegun g r s es → MayEnd g (state_after s es) r a → Serves g q r s (es ++ Post q a ∷ [])
begun_ends g q r s es a b ends = record { steps = es; begun = b; answer = a; ends = ends; posted = refl }

-- ---- one request after another

serves_at : (g : Setting) (q p : ℕ) (r : Request) (s : State) (es : List Step) → p ≡ q → Serves g p r s es → Serves g q r s es
serves_at g q p r s es e h = subst (λ (k : ℕ). Serves g k r s es) e h

-- steps that go on behind three parts
behind : (es xs ys zs more : List Step) → es ≡ xs ++ (ys ++ zs) → es ++ more ≡ xs ++ (ys ++ (zs ++ more))
behind es xs ys zs more e = ap (λ (l : List Step). l ++ more) e ∙ append_assoc xs (ys ++ zs) more ∙ ap (λ (l : List Step). xs ++ l) (append_assoc ys zs more)

pub all_served_push : (g : Setting) (q p : ℕ) (s : State) (rs : List Scheduled) (r : Scheduled) (es one rounds : List Step) → AllServed g q s rs es → Serves g p r.request (state_after s es) one → PassesRounds g (state_after (state_after s es) one) rounds
    → p ≡ q + length rs → AllServed g q s (rs ++ r ∷ []) (es ++ (one ++ rounds))
all_served_push g q p s [] r es one rounds all serves pass e = (es, one, rounds, refl, all, serves_at g q p r.request (state_after s es) one (omega arith) serves, pass)
all_served_push g q p s (k ∷ rs) r es one rounds all serves pass e =
    let t = state_after (state_after s all.0) all.1 in
    let here : state_after s es ≡ state_after t all.2 = ap (state_after s) all.3 ∙ state_then s all.0 (all.1 ++ all.2) ∙ state_then (state_after s all.0) all.1 all.2 in (
      all.0,
      all.1,
      all.2 ++ (one ++ rounds),
      behind es all.0 all.1 all.2 (one ++ rounds) all.3,
      all.4,
      all.5,
      all_served_push g (suc q) p t rs r all.2 one rounds all.6
          (subst (λ (u : State). Serves g p r.request u one) here serves)
          (subst (λ (u : State). PassesRounds g (state_after u one) rounds) here pass) (omega arith),
    )

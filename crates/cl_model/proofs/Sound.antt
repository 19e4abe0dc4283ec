-- What every state of a run holds is as it should be, and stays.
use Rattle.std.proofs.Common.{◌≡◌, ◌⊎◌, inl, inr, ℕ, ◌<◌, Bool, true, false, ◌==◌, ◌&&◌, if◌then◌else◌, List, [], ◌∷◌, ◌++◌, Option, Some, None, refl, subst, arith}
use Rattle.std.specs.Prelude.{find, option_map, Contains}
use Rattle.std.specs.Option.{option_or}
use Rattle.std.proofs.lemmas.List.Folds.{find-append}
use Rattle.std.proofs.lemmas.List.Elements.{Contains-append_left, Contains-append_cases}
use Rattle.std.proofs.lemmas.Bool.{eqb-true, and_parts}
use Rattle.cl_model.specs.Homes.{World}
use Rattle.cl_model.specs.declared.class.Class.{Class}
use Rattle.cl_model.specs.Classes.{same_class, Above, AllAtHome, supers}
use Rattle.cl_model.specs.Preparation.{constraints_of}
use Rattle.cl_model.specs.States.{State, start, Need, Verdict, Answer, Said, OutOfMemory, SourceFault, Settled, Posted, settled_to, answer_to, Violated, AllMet}
use Rattle.cl_model.specs.Plans.{Request, Load, Resolve, Link, Plan, plan_needs, ending_verdict}
use Rattle.cl_model.specs.Works.{Made}
use Rattle.cl_model.specs.Machine.{Setting, Step, Define, Initiate, Constrain, Settle, Prepare, Post, NextRound, Stray, May, after, state_after, Run, Answers, AnswersPlan, AnswersReference, MayAnswer, RestsOn, IsClosed, IsPreparable, IsSettled, IsAnswered, IsSound}
use Rattle.cl_model.proofs.Runs.{IsLater, after_later, run_later, met_later, refused_later, answers_later, keeps, start_unviolated, stays_unviolated, one_answer, or_map, contains_one}
use Rattle.cl_model.proofs.Complete.{is_class}
use Rattle.cl_model.proofs.Closed.{closed_after, start_closed}
use Rattle.cl_model.proofs.Planned.{one_plan, one_resolution}

-- ---- verdicts, prepared classes and answers stay

settled_more : (rs more : List Settled) (d : Class) (i : ℕ) (v : Verdict) → settled_to rs d i ≡ Some v → settled_to (rs ++ more) d i ≡ Some v
settled_more rs more d i v h =
    let p = λ (r : Settled). same_class r.class d && (r.index == i) in
    rw (find-append p rs more) (or_map (λ (r : Settled). r.verdict) (find p rs) (find p more) v h)

answer_more : (ps more : List Posted) (q : ℕ) (a : Answer) → answer_to ps q ≡ Some a → answer_to (ps ++ more) q ≡ Some a
answer_more ps more q a h =
    let p = λ (r : Posted). r.request == q in
    rw (find-append p ps more) (or_map (λ (r : Posted). r.answer) (find p ps) (find p more) a h)

-- a later state has all of an earlier one
pub record Keeps (s t : State) : Type 0 where
  pub later : IsLater s t
  pub settled : (d : Class) (i : ℕ) (v : Verdict) → settled_to s.settled d i ≡ Some v → settled_to t.settled d i ≡ Some v
  pub prepared : (c : Class) → Contains s.prepared c → Contains t.prepared c
  pub answers : (q : ℕ) (a : Answer) → answer_to s.answers q ≡ Some a → answer_to t.answers q ≡ Some a

keeps_same : (s t : State) → IsLater s t → s.settled ≡ t.settled → s.prepared ≡ t.prepared → s.answers ≡ t.answers → Keeps s t
keeps_same s t l p q r = record {
  later = l;
  settled = λ d i v h. subst (λ (x : List Settled). settled_to x d i ≡ Some v) p h;
  prepared = λ c h. subst (λ (x : List Class). Contains x c) q h;
  answers = λ n a h. subst (λ (x : List Posted). answer_to x n ≡ Some a) r h;
}

pub after_keeps : (s : State) (e : Step) → Keeps s (after s e)
after_keeps s (Define c) = keeps_same s (after s (Define c)) (after_later s (Define c)) refl refl refl
after_keeps s (Initiate name place loader) = keeps_same s (after s (Initiate name place loader)) (after_later s (Initiate name place loader)) refl refl refl
after_keeps s (Constrain name a b) = keeps_same s (after s (Constrain name a b)) (after_later s (Constrain name a b)) refl refl refl
after_keeps s (Settle d i v) = record { later = after_later s (Settle d i v); settled = λ c j u h. settled_more s.settled (record { class = d; index = i; verdict = v } ∷ []) c j u h; prepared = λ c h. h; answers = λ q a h. h }
after_keeps s (Prepare c) = record { later = after_later s (Prepare c); settled = λ d i v h. h; prepared = λ d h. Contains-append_left s.prepared (c ∷ []) d h; answers = λ q a h. h }
after_keeps s (Post q a) = record { later = after_later s (Post q a); settled = λ d i v h. h; prepared = λ c h. h; answers = λ p b h. answer_more s.answers (record { request = q; answer = a } ∷ []) p b h }
after_keeps s NextRound = keeps_same s (after s NextRound) (after_later s NextRound) refl refl refl
after_keeps s Stray = keeps_same s s (after_later s Stray) refl refl refl

keeps_keeps : (s t u : State) → Keeps s t → Keeps t u → Keeps s u
keeps_keeps s t u a b = record {
  later = record { records = λ l p n h. b.later.records l p n (a.later.records l p n h); equalities = λ e h. b.later.equalities e (a.later.equalities e h) };
  settled = λ d i v h. b.settled d i v (a.settled d i v h);
  prepared = λ c h. b.prepared c (a.prepared c h);
  answers = λ q v h. b.answers q v (a.answers q v h);
}

pub run_keeps : (s : State) (es : List Step) → Keeps s (state_after s es)
run_keeps s [] = keeps_same s s (run_later s []) refl refl refl
run_keeps s (e ∷ es) = keeps_keeps s (after s e) (state_after s (e ∷ es)) (after_keeps s e) (run_keeps (after s e) es)

pub settled_stay : (s : State) (es : List Step) (d : Class) (i : ℕ) (v : Verdict) → settled_to s.settled d i ≡ Some v → settled_to (state_after s es).settled d i ≡ Some v
settled_stay s es d i v h = (run_keeps s es).settled d i v h

pub prepared_stay : (s : State) (es : List Step) (c : Class) → Contains s.prepared c → Contains (state_after s es).prepared c
prepared_stay s es c h = (run_keeps s es).prepared c h

pub posted_stay : (s : State) (es : List Step) (q : ℕ) (a : Answer) → answer_to s.answers q ≡ Some a → answer_to (state_after s es).answers q ≡ Some a
posted_stay s es q a h = (run_keeps s es).answers q a h

-- ---- answers of requests and references

pub plan_answer_later : (g : Setting) (s t : State) → IsLater s t → (Violated t → ⊥) → (q : Request) (v : Verdict) → AnswersPlan g s q v → AnswersPlan g t q v
plan_answer_later g s t l u q v h = record { plan = h.plan; planned = h.planned; answered = answers_later s t l u (plan_needs h.plan) h.plan.ends v h.answered }

pub reference_answer_later : (g : Setting) (s t : State) → IsLater s t → (Violated t → ⊥) → (d : Class) (i : ℕ) (v : Verdict) → AnswersReference g s d i v → AnswersReference g t d i v
reference_answer_later g s t l u d i v h = record { made = h.made; resolved = h.resolved; answered = answers_later s t l u h.made.needs _ v h.answered }

pub plan_answer_stays : (g : Setting) (s : State) (es : List Step) (q : Request) (v : Verdict) → (Violated s → ⊥) → Run g s es → AnswersPlan g s q v → AnswersPlan g (state_after s es) q v
plan_answer_stays g s es q v u run h = plan_answer_later g s (state_after s es) (run_later s es) (stays_unviolated g s es u run) q v h

pub reference_answer_stays : (g : Setting) (s : State) (es : List Step) (d : Class) (i : ℕ) (v : Verdict) → (Violated s → ⊥) → Run g s es → AnswersReference g s d i v → AnswersReference g (state_after s es) d i v
reference_answer_stays g s es d i v u run h = reference_answer_later g s (state_after s es) (run_later s es) (stays_unviolated g s es u run) d i v h

pub one_plan_answer : (g : Setting) (s : State) (q : Request) (v u : Verdict) → AnswersPlan g s q v → AnswersPlan g s q u → v ≡ u
one_plan_answer g s q v u a b =
    let same : a.plan ≡ b.plan = one_plan g.world q a.plan b.plan a.planned b.planned in
    one_answer s (plan_needs b.plan) b.plan.ends v u (subst (λ (p : Plan). Answers s (plan_needs p) p.ends v) same a.answered) b.answered

pub one_reference_answer : (g : Setting) (s : State) (d : Class) (i : ℕ) (v u : Verdict) → AnswersReference g s d i v → AnswersReference g s d i u → v ≡ u
one_reference_answer g s d i v u a b =
    let same : a.made ≡ b.made = one_resolution g.world d i a.made b.made a.resolved b.resolved in
    one_answer s b.made.needs (ending_verdict b.made.ends) v u (subst (λ (m : Made Verdict). Answers s m.needs (ending_verdict m.ends) v) same a.answered) b.answered

-- ---- what a posted verdict rests on stays

-- where the first part of the needs is met later on, it was met when there was an answer
met_before : (s t : State) → IsLater s t → (Violated t → ⊥) → (own more : List Need) (ends v : Verdict) → Answers s (own ++ more) ends v → AllMet t own → AllMet s own
met_before s t l u [] more ends v h k = tt
met_before s t l u (n ∷ own) more ends v (inl h) k = (h.0, met_before s t l u own more ends v h.1 k.1)
met_before s t l u (n ∷ own) more ends v (inr h) k = absurd ((refused_later s t l u n h.0).unmet k.0)

rests_later : (s t : State) → Keeps s t → (Violated t → ⊥) → (q : Request) (p : Plan) (v : Verdict) → Answers s (plan_needs p) p.ends v → RestsOn s q p v → RestsOn t q p v
rests_later s t k u (Load loader name) p v a h = tt
rests_later s t k u (Resolve loader name i) p v a h = λ d past x. k.settled d i v (h d (past.0, met_before s t k.later u p.own p.more p.ends v a past.1) x)
rests_later s t k u (Link loader name) p v a h = λ c e. k.prepared c (h c e)

may_answer_later : (g : Setting) (s t : State) → Keeps s t → (Violated t → ⊥) → (q : Request) (a : Answer) → MayAnswer g s q a → MayAnswer g t q a
unfolding plan_answer_later
may_answer_later g s t k u q (Said v) h = record {
  answers = plan_answer_later g s t k.later u q v h.answers;
  rests = rests_later s t k u q h.answers.plan v h.answers.answered h.rests;
}
may_answer_later g s t k u q OutOfMemory h = tt
may_answer_later g s t k u q (SourceFault name loader) h = tt

-- ---- lists of needs and of prepared classes

all_met_later : (s t : State) → IsLater s t → (ns : List Need) → AllMet s ns → AllMet t ns
all_met_later s t l [] h = tt
all_met_later s t l (n ∷ ns) h = (met_later s t l n h.0, all_met_later s t l ns h.1)

all_prepared_later : (w : World) (s t : State) → Keeps s t → (c : Class) (others : List Above) → AllAtHome w c (Contains s.prepared) others → AllAtHome w c (Contains t.prepared) others
all_prepared_later w s t k c [] h = tt
all_prepared_later w s t k c (a ∷ others) h = (record { place = h.0.place; found = h.0.found; holds = k.prepared _ h.0.holds }, all_prepared_later w s t k c others h.1)

prepared_later : (g : Setting) (s t : State) → Keeps s t → (c : Class) → IsPreparable g s c → IsPreparable g t c
prepared_later g s t k c h = record {
  recorded = k.later.records c.loader c.loader c.name h.recorded;
  kin = h.kin;
  lineage = h.lineage;
  above = all_prepared_later g.world s t k c (supers h.kin.file) h.above;
  imposed = all_met_later s t k.later (constraints_of h.kin) h.imposed;
}

settled_later : (g : Setting) (s t : State) → Keeps s t → (Violated t → ⊥) → (d : Class) (i : ℕ) (v : Verdict) → IsSettled g s d i v → IsSettled g t d i v
settled_later g s t k u d i v h = record { recorded = k.later.records d.loader d.loader d.name h.recorded; answered = reference_answer_later g s t k.later u d i v h.answered }

answered_later : (g : Setting) (s t : State) → Keeps s t → (Violated t → ⊥) → (q : ℕ) (a : Answer) → IsAnswered g s q a → IsAnswered g t q a
answered_later g s t k u q a h = record { scheduled = h.scheduled; asked = h.asked; may_answer = may_answer_later g s t k u h.scheduled.request a h.may_answer }

-- ---- what is new

settled_new : (rs : List Settled) (r : Settled) (d : Class) (i : ℕ) (v : Verdict) → settled_to (rs ++ r ∷ []) d i ≡ Some v → (settled_to rs d i ≡ Some v) ⊎ ((r.class ≡ d) × (r.index ≡ i) × (r.verdict ≡ v))
settled_new rs r d i v h =
    let p = λ (x : Settled). same_class x.class d && (x.index == i) in
    or_new (find p rs) (rw (find-append p rs (r ∷ [])) at h)
  where
    found_new : (b : Bool) → (same_class r.class d && (r.index == i)) ≡ b → option_map (λ (x : Settled). x.verdict) (if b then Some r else None) ≡ Some v → (r.class ≡ d) × (r.index ≡ i) × (r.verdict ≡ v)
    found_new true e k =
        let both : (same_class r.class d ≡ true) × ((r.index == i) ≡ true) = and_parts (same_class r.class d) (r.index == i) e in
        (is_class r.class d both.0, eqb-true r.index i both.1, cc)
    found_new false e k = absurd cc

    or_new : (a : Option Settled) → option_map (λ (x : Settled). x.verdict) (option_or a (if same_class r.class d && (r.index == i) then Some r else None)) ≡ Some v → (option_map (λ (x : Settled). x.verdict) a ≡ Some v) ⊎ ((r.class ≡ d) × (r.index ≡ i) × (r.verdict ≡ v))
    or_new None k = inr (found_new (same_class r.class d && (r.index == i)) refl k)
    or_new (Some x) k = inl k

answer_new : (ps : List Posted) (r : Posted) (q : ℕ) (a : Answer) → answer_to (ps ++ r ∷ []) q ≡ Some a → (answer_to ps q ≡ Some a) ⊎ ((r.request ≡ q) × (r.answer ≡ a))
answer_new ps r q a h =
    let p = λ (x : Posted). x.request == q in
    or_new (find p ps) (rw (find-append p ps (r ∷ [])) at h)
  where
    found_new : (b : Bool) → (r.request == q) ≡ b → option_map (λ (x : Posted). x.answer) (if b then Some r else None) ≡ Some a → (r.request ≡ q) × (r.answer ≡ a)
    found_new true e k = (eqb-true r.request q e, cc)
    found_new false e k = absurd cc

    or_new : (o : Option Posted) → option_map (λ (x : Posted). x.answer) (option_or o (if r.request == q then Some r else None)) ≡ Some a → (option_map (λ (x : Posted). x.answer) o ≡ Some a) ⊎ ((r.request ≡ q) × (r.answer ≡ a))
    or_new None k = inr (found_new (r.request == q) refl k)
    or_new (Some x) k = inl k

-- ---- every state is sound

-- what stood stays sound
abbrev SoundBefore : Setting → State → State → Type 0
SoundBefore g s t = IsSound g s → Keeps s t → IsClosed g.world t → (Violated t → ⊥) → IsSound g t

sound_same : (g : Setting) (s t : State) → t.settled ≡ s.settled → t.prepared ≡ s.prepared → t.answers ≡ s.answers → SoundBefore g s t
sound_same g s t p q r sound k closed u = record {
  closed = closed;
  unviolated = u;
  settled = λ d i v h. settled_later g s t k u d i v (sound.settled d i v (subst (λ (x : List Settled). settled_to x d i ≡ Some v) p h));
  prepared = λ c h. prepared_later g s t k c (sound.prepared c (subst (λ (x : List Class). Contains x c) q h));
  answered = λ n a h. answered_later g s t k u n a (sound.answered n a (subst (λ (x : List Posted). answer_to x n ≡ Some a) r h));
}

sound_step : (g : Setting) (s : State) (e : Step) → May g s e → SoundBefore g s (after s e)
sound_step g s (Define c) may sound k closed u = sound_same g s (after s (Define c)) refl refl refl sound k closed u
sound_step g s (Initiate name place loader) may sound k closed u = sound_same g s (after s (Initiate name place loader)) refl refl refl sound k closed u
sound_step g s (Constrain name a b) may sound k closed u = sound_same g s (after s (Constrain name a b)) refl refl refl sound k closed u
sound_step g s (Settle d i v) may sound k closed u = record {
  closed = closed;
  unviolated = u;
  settled = λ c j x h. settled_later g s (after s (Settle d i v)) k u c j x (elim (settled_new s.settled (record { class = d; index = i; verdict = v }) c j x h) [
    | inl old ↦ sound.settled c j x old
    | inr new ↦ subst (λ (y : Class). IsSettled g s y j x) new.0 (subst (λ (y : ℕ). IsSettled g s d y x) new.1 (subst (λ (y : Verdict). IsSettled g s d i y) new.2 (record { recorded = may.may_keep.recorded; answered = may.answered })))
  ]);
  prepared = λ c h. prepared_later g s (after s (Settle d i v)) k c (sound.prepared c h);
  answered = λ n a h. answered_later g s (after s (Settle d i v)) k u n a (sound.answered n a h);
}
sound_step g s (Prepare c) may sound k closed u = record {
  closed = closed;
  unviolated = u;
  settled = λ d i v h. settled_later g s (after s (Prepare c)) k u d i v (sound.settled d i v h);
  prepared = λ d h. prepared_later g s (after s (Prepare c)) k d (elim (Contains-append_cases s.prepared (c ∷ []) d h) [
    | inl old ↦ sound.prepared d old
    | inr new ↦ subst (λ (y : Class). IsPreparable g s y) (contains_one c d new) may.preparable
  ]);
  answered = λ n a h. answered_later g s (after s (Prepare c)) k u n a (sound.answered n a h);
}
sound_step g s (Post q a) may sound k closed u = record {
  closed = closed;
  unviolated = u;
  settled = λ d i v h. settled_later g s (after s (Post q a)) k u d i v (sound.settled d i v h);
  prepared = λ c h. prepared_later g s (after s (Post q a)) k c (sound.prepared c h);
  answered = λ n b h. answered_later g s (after s (Post q a)) k u n b (elim (answer_new s.answers (record { request = q; answer = a }) n b h) [
    | inl old ↦ sound.answered n b old
    | inr new ↦ subst (λ (y : ℕ). IsAnswered g s y b) new.0 (subst (λ (y : Answer). IsAnswered g s q y) new.1 (record { scheduled = may.scheduled; asked = may.asked; may_answer = may.fits }))
  ]);
}
sound_step g s NextRound may sound k closed u = sound_same g s (after s NextRound) refl refl refl sound k closed u
sound_step g s Stray may sound k closed u = absurd may

pub sound_after : (g : Setting) (s : State) (e : Step) → May g s e → IsSound g s → IsSound g (after s e)
sound_after g s e may sound = sound_step g s e may sound (after_keeps s e) (closed_after g s e may sound.closed) (keeps g s e may sound.unviolated)

nothing_settled : {v : Verdict} → None ≡ Some v → ⊥
nothing_settled h = cc

nothing_answered : {a : Answer} → None ≡ Some a → ⊥
nothing_answered h = cc

nothing_prepared : (c : Class) → Contains [] c → ⊥
nothing_prepared c h = absurd (let l : h.0 < 0 = h.1 in omega arith)

pub start_sound : (g : Setting) → IsSound g start
start_sound g = record {
  closed = start_closed g.world;
  unviolated = start_unviolated;
  settled = λ d i v h. absurd (nothing_settled h);
  prepared = λ c h. absurd (nothing_prepared c h);
  answered = λ q a h. absurd (nothing_answered h);
}

pub sound_run : (g : Setting) (s : State) (es : List Step) → IsSound g s → Run g s es → IsSound g (state_after s es)
sound_run g s [] sound run = sound
sound_run g s (e ∷ es) sound run = sound_run g (after s e) es (sound_after g s e run.0 sound) run.1

pub runs_are_sound : (g : Setting) (es : List Step) → Run g start es → IsSound g (state_after start es)
runs_are_sound g es run = sound_run g start es (start_sound g) run

-- Tables that can be trusted are consistent, and those of a run can be trusted.
use Rattle.std.proofs.Common.{◌≡◌, ◌⊎◌, inl, inr, ℕ, Bool, true, false, ◌==◌, if◌then◌else◌, List, [], ◌∷◌, ◌++◌, Option, Some, None, Result, Ok, Err, refl, sym, ap, subst, ◌∙◌, append_assoc}
use Rattle.std.specs.Prelude.{option_map, find, slice_get, Contains}
use Rattle.std.proofs.lemmas.Cmp.{nat_eq_equiv}
use Rattle.std.proofs.lemmas.List.{append-nil}
use Rattle.cl_descriptors.proofs.Codec.{map_some, then_some}
use Rattle.cl_classfile.specs.Files.{Name}
use Rattle.cl_model.specs.Homes.{World}
use Rattle.cl_model.specs.declared.class.Class.{Class}
use Rattle.cl_model.specs.Classes.{class, Error, ClassNotFound}
use Rattle.cl_model.specs.Lineages.{Kin}
use Rattle.cl_model.specs.States.{State, start, Record, Posted, Need, Entry, Equal, Verdict, IsClass, IsArrayOf, IsArrayOfBase, IsField, IsMethod, IsLinked, BadEntry, ArrayMember, Wrong, Linkage, IsSettling, Answer, Said, OutOfMemory, SourceFault, recorded_definer, settled_to, answer_to, AllMet, Clashes, with_need}
use Rattle.cl_model.specs.Works.{Made}
use Rattle.cl_model.specs.Plans.{derive, load, Request, Load, Resolve, Link, loaded_by, go_on_with, Plan, ending_verdict, plan_after, plan_from, plan_needs}
use Rattle.cl_model.specs.Machine.{Setting, Scheduled, Step, Define, Initiate, Constrain, Settle, Prepare, Post, NextRound, Stray, IsPlan, Answers, MaySay, MayAnswer, May, after, state_after, Run, IsClosed}
use Rattle.cl_model.specs.Tables.{Records, Bears, BearsAnswer, Allows, Orderly, AreTrusted, EachNew, NoneRecordedTwice, NoneAnsweredTwice, IsConsistent, StepsHave}
use Rattle.cl_model.proofs.Bind.{some_same, ok_same, ok_not_err, step_is}
use Rattle.cl_model.proofs.Derived.{load_ok}
use Rattle.cl_model.proofs.Runs.{IsLater, after_later, run_later, recorded_added, record_found, adds, violated_as, start_unviolated}
use Rattle.cl_model.proofs.Closed.{closed_after, start_closed, own_moved}
use Rattle.cl_model.proofs.Looks.{load_stands, unmet_is_fresh}
use Rattle.cl_model.proofs.Progress.{met_split, derive_records, load_records}
use Rattle.cl_model.proofs.Trees.{derive_gives}
use Rattle.cl_model.proofs.Reached.{reached}
use Rattle.cl_model.proofs.Sound.{posted_stay}

-- ---- steps that are allowed keep tables consistent

new_push : {A : Type 0} (IsNew : List A → A → Type 0) (before xs : List A) (x : A) → EachNew IsNew before xs → IsNew (before ++ xs) x → EachNew IsNew before (xs ++ x ∷ [])
new_push IsNew before [] x h fresh = (subst (λ ys. IsNew ys x) (append-nil before) fresh, tt)
new_push IsNew before (y ∷ xs) x h fresh = (h.0, new_push IsNew (before ++ y ∷ []) xs x h.1 (subst (λ ys. IsNew ys x) (sym (append_assoc before (y ∷ []) xs)) fresh))

consistent_added : (s : State) (loader place : ℕ) (name : Name) → IsConsistent s → IsLater s (with_need s (Entry loader name place)) → (loader ≡ place ⊎ (recorded_definer s.records place name ≡ Some place)) → recorded_definer s.records loader name ≡ None
    → (Clashes s (Entry loader name place) → ⊥) → IsConsistent (with_need s (Entry loader name place))
consistent_added s loader place name trusted later own fresh fits = record {
  recorded_once = new_push (λ front r. recorded_definer front r.loader r.name ≡ None) [] s.records (record { loader = loader; name = name; place = place }) trusted.recorded_once fresh;
  own = λ l p n h. elim (recorded_added s.records (record { loader = loader; name = name; place = place }) l p n h) [
    | inl k ↦ later.records p p n (trusted.own l p n k)
    | inr k ↦ own_moved s (with_need s (Entry loader name place)) later loader place l p name n own k.0 k.1 k.2 h
  ];
  unviolated = adds s (Entry loader name place) fits trusted.unviolated;
  answered_once = trusted.answered_once;
}

-- nothing is recorded, imposed or answered
consistent_same : (s t : State) → t.records ≡ s.records → t.equalities ≡ s.equalities → t.answers ≡ s.answers → IsConsistent s → IsConsistent t
consistent_same s t r e a trusted = record {
  recorded_once = subst (λ (xs : List Record). NoneRecordedTwice [] xs) (sym r) trusted.recorded_once;
  own = subst (λ (xs : List Record). (l p : ℕ) (n : Name) → recorded_definer xs l n ≡ Some p → recorded_definer xs p n ≡ Some p) (sym r) trusted.own;
  unviolated = λ x. trusted.unviolated (violated_as s t (sym r) (sym e) x);
  answered_once = subst (λ (xs : List Posted). NoneAnsweredTwice [] xs) (sym a) trusted.answered_once;
}

pub consistent_after : (script : List Scheduled) (rounds : ℕ) (s : State) (e : Step) → Allows script rounds s e → IsConsistent s → IsConsistent (after s e)
consistent_after script rounds s (Define c) may trusted = consistent_added s c.loader c.loader c.name trusted (after_later s (Define c)) (inl refl) may.fresh may.fits
consistent_after script rounds s (Initiate name place loader) may trusted = consistent_added s loader place name trusted (after_later s (Initiate name place loader)) (inr may.0) may.1.fresh may.1.fits
consistent_after script rounds s (Constrain name a b) may trusted = record {
  recorded_once = trusted.recorded_once;
  own = trusted.own;
  unviolated = adds s (Equal name a b) may.fits trusted.unviolated;
  answered_once = trusted.answered_once;
}
consistent_after script rounds s (Settle d i v) may trusted = consistent_same s (after s (Settle d i v)) refl refl refl trusted
consistent_after script rounds s (Prepare c) may trusted = consistent_same s (after s (Prepare c)) refl refl refl trusted
consistent_after script rounds s (Post q a) may trusted = record {
  recorded_once = trusted.recorded_once;
  own = trusted.own;
  unviolated = λ x. trusted.unviolated (violated_as s (after s (Post q a)) refl refl x);
  answered_once = new_push (λ front p. answer_to front p.request ≡ None) [] s.answers (record { request = q; answer = a }) trusted.answered_once may.unposted;
}
consistent_after script rounds s NextRound may trusted = consistent_same s (after s NextRound) refl refl refl trusted
consistent_after script rounds s Stray may trusted = absurd may

nothing : {x : ℕ} → None ≡ Some x → ⊥
nothing h = cc

start_consistent : IsConsistent start
start_consistent = record { recorded_once = tt; own = λ l p n h. absurd (nothing h); unviolated = start_unviolated; answered_once = tt }

consistent_run : (script : List Scheduled) (rounds : ℕ) (s : State) (es : List Step) → IsConsistent s → Orderly script rounds s es → IsConsistent (state_after s es)
consistent_run script rounds s [] trusted run = trusted
consistent_run script rounds s (e ∷ es) trusted run = consistent_run script rounds (after s e) es (consistent_after script rounds s e run.0 trusted) run.1

pub trusted_is_consistent : (script : List Scheduled) (rounds : ℕ) (es : List Step) → AreTrusted script rounds es → IsConsistent (state_after start es)
trusted_is_consistent script rounds es run = consistent_run script rounds start es start_consistent run

-- ---- plans and what is recorded

-- where the needs of a load are met, the loader records the class that is reached
pub reached_records : (w : World) (s : State) (q : Request) (p : Plan) (d : Class) → IsPlan w q p → p.reached ≡ Some d → AllMet s p.own → Records s (loaded_by q).loader (loaded_by q).name d
reached_records w s q p d is r met =
    let n = is.height in
    let x = reached w n q p d is.planned r in
    let i = load_ok w (derive w n []) ClassNotFound (loaded_by q).loader (loaded_by q).name x.loading x.kin x.loaded x.ends in
    let same : class (loaded_by q).name i.place ≡ d = sym (derive_gives w n [] (class (loaded_by q).name i.place) i.below x.kin i.made i.ends).0 ∙ x.class_is in
    let own : AllMet s x.loading.needs = subst (λ (y : Plan). AllMet s y.own) x.is met in
    let rec = (load_records w s (derive w n []) (derive_records w s n []) (loaded_by q).loader (loaded_by q).name x.loading x.kin i own).0 in
    (ap (λ (c : Class). c.name) (sym same), rec ∙ ap (λ (c : Class). Some c.loader) same)

-- where a loader records the class of a request, the plan reaches that class, and the needs of its load are met
pub recorded_reached : (w : World) (s : State) (q : Request) (p : Plan) (place : ℕ) → IsClosed w s → IsPlan w q p → recorded_definer s.records (loaded_by q).loader (loaded_by q).name ≡ Some place
    → (p.reached ≡ Some (class (loaded_by q).name place)) × AllMet s p.own
recorded_reached w s q p place closed is rec =
    let n = is.height in
    let l = then_some (plan_from w n q) (load w n ClassNotFound (loaded_by q).loader (loaded_by q).name) p is.planned in
    let stands = load_stands w s n ClassNotFound (loaded_by q).loader place (loaded_by q).name l.0 closed rec l.1 in
    at l.0 stands.kin stands.is_class stands.met l.0.ends stands.ends l.2
  where
    at : (m : Made Kin) (kin : Kin) → kin.class ≡ class (loaded_by q).name place → AllMet s m.needs → (e : Result Kin Error) → e ≡ Ok kin → (elim e as (λ x. Option Plan) [
      | Err x ↦ Some (record { own = m.needs; more = []; asked = m.asked; reached = None; ends = Wrong x })
      | Ok k ↦ option_map (plan_after m k) (go_on_with w is.height q k)
    ]) ≡ Some p → (p.reached ≡ Some (class (loaded_by q).name place)) × AllMet s p.own
    at m kin c met (Err x) h k = absurd (ok_not_err kin x (Err x) h refl)
    at m kin c met (Ok k) h z =
        let on = map_some (plan_after m k) (go_on_with w is.height q k) p z in
        let same : k ≡ kin = ok_same k kin (Ok k) refl h in
        (sym (ap (λ (y : Plan). y.reached) on.2) ∙ ap (λ (y : Kin). Some y.class) same ∙ ap (λ (y : Class). Some y) c, subst (λ (y : Plan). AllMet s y.own) on.2 met)

-- an answer is the end, and all needs are met, or a need that is refused
pub end_or_refused : (s : State) (ns : List Need) (ends v : Verdict) → Answers s ns ends v → ((v ≡ ends) × AllMet s ns) ⊎ ((n : Need) × (v ≡ Linkage n))
end_or_refused s [] ends v h = inl (h, tt)
end_or_refused s (n ∷ ns) ends v (inr h) = inr (n, h.1)
end_or_refused s (n ∷ ns) ends v (inl h) = elim (end_or_refused s ns ends v h.1) [ inl k ↦ inl (k.0, (h.0, k.1)) | inr k ↦ inr k ]

-- a plan reaches a class and ends so for it, or ends in an error
abbrev pub EndsFor : (Class → Verdict) → Plan → Type 0
EndsFor f p = ((d : Class) × (p.reached ≡ Some d) × (p.ends ≡ f d)) ⊎ ((e : Error) × (p.ends ≡ Wrong e))

pub ends_for : (w : World) (q : Request) (p : Plan) (f : Class → Verdict) → ((n : ℕ) (k : Kin) (r : Made Verdict) → go_on_with w n q k ≡ Some r → r.ends ≡ Ok (f k.class)) → IsPlan w q p → EndsFor f p
ends_for w q p f goes is =
    let n = is.height in
    let l = then_some (plan_from w n q) (load w n ClassNotFound (loaded_by q).loader (loaded_by q).name) p is.planned in
    at l.0 l.0.ends l.2
  where
    at : (m : Made Kin) (e : Result Kin Error) → (elim e as (λ x. Option Plan) [
      | Err x ↦ Some (record { own = m.needs; more = []; asked = m.asked; reached = None; ends = Wrong x })
      | Ok k ↦ option_map (plan_after m k) (go_on_with w is.height q k)
    ]) ≡ Some p → EndsFor f p
    at m (Err x) h = inr (x, ap (λ (y : Plan). y.ends) (sym (some_same _ p h)))
    at m (Ok k) h =
        let on = map_some (plan_after m k) (go_on_with w is.height q k) p h in
        inl (k.class, ap (λ (y : Plan). y.reached) (sym on.2), ap (λ (y : Plan). y.ends) (sym on.2) ∙ ap (λ (r : Result Verdict Error). ending_verdict r) (goes is.height k on.0 on.1))

-- what is answered for a class is recorded, and that class
pub answered_records : (w : World) (s : State) (q : Request) (p : Plan) (f : Class → Verdict) (v : Verdict) (c : Class) → ((n : Need) → Linkage n ≡ f c → ⊥) → ((e : Error) → Wrong e ≡ f c → ⊥) → ((d : Class) → f d ≡ f c → d ≡ c) → IsPlan w q p → EndsFor f p
    → Answers s (plan_needs p) p.ends v → v ≡ f c → Records s (loaded_by q).loader (loaded_by q).name c
answered_records w s q p f v c refused wrong one is ends h e = elim (end_or_refused s (plan_needs p) p.ends v h) [
  | inr k ↦ absurd (refused k.0 (sym k.1 ∙ e))
  | inl k ↦ elim ends [
    | inr x ↦ absurd (wrong x.0 (sym x.1 ∙ sym k.0 ∙ e))
    | inl x ↦ subst (λ (d : Class). Records s (loaded_by q).loader (loaded_by q).name d) (one x.0 (sym x.2 ∙ sym k.0 ∙ e)) (reached_records w s q p x.0 is x.1 (met_split s p.own p.more k.1).0)
  ]
]

-- ---- a run can be trusted

pub refused_no_class : (c : Class) (n : Need) → Linkage n ≡ IsClass c → ⊥
refused_no_class c n h = cc

pub wrong_no_class : (c : Class) (e : Error) → Wrong e ≡ IsClass c → ⊥
wrong_no_class c e h = cc

pub one_class : (c d : Class) → IsClass d ≡ IsClass c → d ≡ c
one_class c d h = cc

pub refused_not_linked : (c : Class) (n : Need) → Linkage n ≡ IsLinked c → ⊥
refused_not_linked c n h = cc

pub wrong_not_linked : (c : Class) (e : Error) → Wrong e ≡ IsLinked c → ⊥
wrong_not_linked c e h = cc

pub one_linked : (c d : Class) → IsLinked d ≡ IsLinked c → d ≡ c
one_linked c d h = cc

-- what a settled reference would hold, or a verdict that is none
settled_or_not : (s : State) (d : Class) (i : ℕ) (v : Verdict) → (IsSettling v → settled_to s.settled d i ≡ Some v) → (v ≡ BadEntry) ⊎ (v ≡ ArrayMember) ⊎ (settled_to s.settled d i ≡ Some v)
settled_or_not s d i BadEntry h = inl refl
settled_or_not s d i ArrayMember h = inr (inl refl)
settled_or_not s d i (IsClass c) h = inr (inr (h (record { is_entry = λ e. cc; is_class_member = λ e. cc })))
settled_or_not s d i (IsArrayOf n c) h = inr (inr (h (record { is_entry = λ e. cc; is_class_member = λ e. cc })))
settled_or_not s d i (IsArrayOfBase n l) h = inr (inr (h (record { is_entry = λ e. cc; is_class_member = λ e. cc })))
settled_or_not s d i (IsField c k) h = inr (inr (h (record { is_entry = λ e. cc; is_class_member = λ e. cc })))
settled_or_not s d i (IsMethod c k) h = inr (inr (h (record { is_entry = λ e. cc; is_class_member = λ e. cc })))
settled_or_not s d i (IsLinked c) h = inr (inr (h (record { is_entry = λ e. cc; is_class_member = λ e. cc })))
settled_or_not s d i (Wrong x) h = inr (inr (h (record { is_entry = λ e. cc; is_class_member = λ e. cc })))
settled_or_not s d i (Linkage n) h = inr (inr (h (record { is_entry = λ e. cc; is_class_member = λ e. cc })))

class_is : (d : Class) (name : Name) → d.name ≡ name → class name d.loader ≡ d
class_is d name e = ap (λ (n : Name). class n d.loader) (sym e)

-- the tables bear what may be said
pub may_bear : (g : Setting) (s : State) (q : Request) (v : Verdict) → IsClosed g.world s → MaySay g s q v → Bears s q v
may_bear g s (Load loader name) v closed may = λ c e. let a = may.answers in
    answered_records g.world s (Load loader name) a.plan (λ (d : Class). IsClass d) v c (refused_no_class c) (wrong_no_class c) (one_class c) a.planned
    (ends_for g.world (Load loader name) a.plan (λ (d : Class). IsClass d) (λ n k r h. (step_is _ r h).1) a.planned) a.answered e
may_bear g s (Resolve loader name i) v closed may = λ d rec.
    let at = recorded_reached g.world s (Resolve loader name i) may.answers.plan d.loader closed may.answers.planned rec.1 in
    settled_or_not s d i v (may.rests d (at.0 ∙ ap (λ (c : Class). Some c) (class_is d name rec.0), at.1))
may_bear g s (Link loader name) v closed may = λ c e. let a = may.answers in (
  answered_records g.world s (Link loader name) a.plan (λ (d : Class). IsLinked d) v c (refused_not_linked c) (wrong_not_linked c) (one_linked c) a.planned
      (ends_for g.world (Link loader name) a.plan (λ (d : Class). IsLinked d) (λ n k r h. (step_is _ r h).1) a.planned) a.answered e,
  may.rests c e,
)

answer_borne : (g : Setting) (s : State) (q : Request) (a : Answer) → IsClosed g.world s → MayAnswer g s q a → BearsAnswer s q a
answer_borne g s q (Said v) closed may = may_bear g s q v closed may
answer_borne g s q OutOfMemory closed may = tt
answer_borne g s q (SourceFault name loader) closed may = tt

pub may_allows : (g : Setting) (s : State) (e : Step) → IsClosed g.world s → May g s e → Allows g.script g.rounds s e
may_allows g s (Define c) closed may = record { fresh = unmet_is_fresh g.world s c.loader c.loader c.name closed may.at_home may.may_add.unmet; fits = may.may_add.fits }
may_allows g s (Initiate name place loader) closed may = (may.defined, record { fresh = unmet_is_fresh g.world s loader place name closed may.found may.may_add.unmet; fits = may.may_add.fits })
may_allows g s (Constrain name a b) closed may = may.may_add
may_allows g s (Settle d i v) closed may = may.may_keep
may_allows g s (Prepare c) closed may = (may.preparable.recorded, may.unprepared)
may_allows g s (Post q a) closed may = record {
  scheduled = may.scheduled;
  asked = may.asked;
  in_round = may.in_round;
  unposted = may.unposted;
  fits = answer_borne g s may.scheduled.request a closed may.fits;
}
may_allows g s NextRound closed may = may
may_allows g s Stray closed may = may

orderly_from : (g : Setting) (s : State) (es : List Step) → IsClosed g.world s → Run g s es → Orderly g.script g.rounds s es
orderly_from g s [] closed run = tt
orderly_from g s (e ∷ es) closed run = (may_allows g s e closed run.0, orderly_from g (after s e) es (closed_after g s e run.0 closed) run.1)

pub runs_are_trusted : (g : Setting) (es : List Step) → Run g start es → AreTrusted g.script g.rounds es
runs_are_trusted g es run = orderly_from g start es (start_closed g.world) run

-- ---- histories in parts

orderly_parts : (script : List Scheduled) (rounds : ℕ) (s : State) (es fs : List Step) → Orderly script rounds s (es ++ fs) → Orderly script rounds s es × Orderly script rounds (state_after s es) fs
orderly_parts script rounds s [] fs h = (tt, h)
orderly_parts script rounds s (e ∷ es) fs h = let rest = orderly_parts script rounds (after s e) es fs h.1 in ((h.0, rest.0), rest.1)

pub trusted_parts : (script : List Scheduled) (rounds : ℕ) (es fs : List Step) → AreTrusted script rounds (es ++ fs) → AreTrusted script rounds es × Orderly script rounds (state_after start es) fs
trusted_parts script rounds es fs h = orderly_parts script rounds start es fs h

orderly_then : (script : List Scheduled) (rounds : ℕ) (s : State) (es : List Step) (e : Step) → Orderly script rounds s es → Allows script rounds (state_after s es) e → Orderly script rounds s (es ++ e ∷ [])
orderly_then script rounds s [] e h may = (may, tt)
orderly_then script rounds s (f ∷ es) e h may = (h.0, orderly_then script rounds (after s f) es e h.1 may)

pub trusted_goes_on : (script : List Scheduled) (rounds : ℕ) (es : List Step) (e : Step) → AreTrusted script rounds es → Allows script rounds (state_after start es) e → AreTrusted script rounds (es ++ e ∷ [])
trusted_goes_on script rounds es e h may = orderly_then script rounds start es e h may

-- ---- a class is defined once

not_again : (script : List Scheduled) (rounds : ℕ) (s : State) (es : List Step) (c : Class) (p : ℕ) → recorded_definer s.records c.loader c.name ≡ Some p → Orderly script rounds s es → StepsHave es (Define c) → ⊥
not_again script rounds s [] c p h run x = x
not_again script rounds s (e ∷ es) c p h run (inl x) = let may = subst (λ (f : Step). Allows script rounds s f) x run.0 in nothing (sym may.fresh ∙ h)
not_again script rounds s (e ∷ es) c p h run (inr x) = not_again script rounds (after s e) es c p ((after_later s e).records c.loader p c.name h) run.1 x

defined : (s : State) (c : Class) → recorded_definer s.records c.loader c.name ≡ None → recorded_definer (after s (Define c)).records c.loader c.name ≡ Some c.loader
defined s c h = record_found s.records (record { loader = c.loader; name = c.name; place = c.loader }) h

stands_defined : (script : List Scheduled) (rounds : ℕ) (s : State) (es : List Step) (c : Class) → Orderly script rounds s es → StepsHave es (Define c) → recorded_definer (state_after s es).records c.loader c.name ≡ Some c.loader
stands_defined script rounds s [] c run x = absurd x
stands_defined script rounds s (e ∷ es) c run (inl x) =
    let may = subst (λ (f : Step). Allows script rounds s f) x run.0 in
    (run_later (after s e) es).records c.loader c.loader c.name (subst (λ (f : Step). recorded_definer (after s f).records c.loader c.name ≡ Some c.loader) (sym x) (defined s c may.fresh))
stands_defined script rounds s (e ∷ es) c run (inr x) = stands_defined script rounds (after s e) es c run.1 x

pub defined_once : (script : List Scheduled) (rounds : ℕ) (es fs : List Step) (c : Class) → AreTrusted script rounds (es ++ Define c ∷ fs) → StepsHave es (Define c) ⊎ StepsHave fs (Define c) → ⊥
defined_once script rounds es fs c run (inl x) =
    let parts = trusted_parts script rounds es (Define c ∷ fs) run in
    nothing (sym parts.1.0.fresh ∙ stands_defined script rounds start es c parts.0 x)
defined_once script rounds es fs c run (inr x) =
    let parts = trusted_parts script rounds es (Define c ∷ fs) run in
    not_again script rounds (after (state_after start es) (Define c)) fs c c.loader (defined (state_after start es) c parts.1.0.fresh) parts.1.1 x

-- ---- a request is answered once

no_answer : {a : Answer} → None ≡ Some a → ⊥
no_answer h = cc

pub answer_found : (ps : List Posted) (q : ℕ) (a : Answer) → answer_to ps q ≡ None → answer_to (ps ++ record { request = q; answer = a } ∷ []) q ≡ Some a
answer_found [] q a h = ap (λ (b : Bool). option_map (λ (p : Posted). p.answer) (if b then Some (record { request = q; answer = a }) else None)) (nat_eq_equiv.refl q)
answer_found (p ∷ ps) q a h = at (p.request == q) (answer_found ps q a) h
  where
    at : (b : Bool) → (answer_to ps q ≡ None → answer_to (ps ++ record { request = q; answer = a } ∷ []) q ≡ Some a)
        → option_map (λ (x : Posted). x.answer) (if b then Some p else find (λ (x : Posted). x.request == q) ps) ≡ None
        → option_map (λ (x : Posted). x.answer) (if b then Some p else find (λ (x : Posted). x.request == q) (ps ++ record { request = q; answer = a } ∷ [])) ≡ Some a
    at true ih k = absurd cc
    at false ih k = ih k

-- no post of a request that has an answer
not_posted : (script : List Scheduled) (rounds : ℕ) (s : State) (es : List Step) (q : ℕ) (a b : Answer) → answer_to s.answers q ≡ Some a → Orderly script rounds s es → StepsHave es (Post q b) → ⊥
not_posted script rounds s [] q a b h run x = x
not_posted script rounds s (e ∷ es) q a b h run (inl x) = let may = subst (λ (f : Step). Allows script rounds s f) x run.0 in no_answer (sym may.unposted ∙ h)
not_posted script rounds s (e ∷ es) q a b h run (inr x) = not_posted script rounds (after s e) es q a b (posted_stay s (e ∷ []) q a h) run.1 x

stands_posted : (script : List Scheduled) (rounds : ℕ) (s : State) (es : List Step) (q : ℕ) (b : Answer) → Orderly script rounds s es → StepsHave es (Post q b) → answer_to (state_after s es).answers q ≡ Some b
stands_posted script rounds s [] q b run x = absurd x
stands_posted script rounds s (e ∷ es) q b run (inl x) =
    let may = subst (λ (f : Step). Allows script rounds s f) x run.0 in
    posted_stay (after s e) es q b (subst (λ (f : Step). answer_to (after s f).answers q ≡ Some b) (sym x) (answer_found s.answers q b may.unposted))
stands_posted script rounds s (e ∷ es) q b run (inr x) = stands_posted script rounds (after s e) es q b run.1 x

pub answered_once : (script : List Scheduled) (rounds : ℕ) (es fs : List Step) (q : ℕ) (a b : Answer) → AreTrusted script rounds (es ++ Post q a ∷ fs) → StepsHave es (Post q b) ⊎ StepsHave fs (Post q b) → ⊥
answered_once script rounds es fs q a b run (inl x) =
    let parts = trusted_parts script rounds es (Post q a ∷ fs) run in
    no_answer (sym parts.1.0.unposted ∙ stands_posted script rounds start es q b parts.0 x)
answered_once script rounds es fs q a b run (inr x) =
    let parts = trusted_parts script rounds es (Post q a ∷ fs) run in
    not_posted script rounds (after (state_after start es) (Post q a)) fs q a b (answer_found (state_after start es).answers q a parts.1.0.unposted) parts.1.1 x

-- ---- what was told

-- the tables bore an answer where it was posted
told_there : (script : List Scheduled) (rounds : ℕ) (es fs : List Step) (q : ℕ) (a : Answer) (r : Scheduled) → AreTrusted script rounds (es ++ Post q a ∷ fs) → slice_get script q ≡ Some r → BearsAnswer (state_after start es) r.request a × (r.round ≡ (state_after start es).round)
told_there script rounds es fs q a r trusted asked =
    let may = (trusted_parts script rounds es (Post q a ∷ fs) trusted).1.0 in
    let same : may.scheduled ≡ r = some_same may.scheduled r (sym may.asked ∙ asked) in
    (subst (λ (x : Scheduled). BearsAnswer (state_after start es) x.request a) same may.fits, ap (λ (x : Scheduled). x.round) (sym same) ∙ may.in_round)

pub told_in_round : (script : List Scheduled) (rounds : ℕ) (es fs : List Step) (q : ℕ) (a : Answer) (r : Scheduled) → AreTrusted script rounds (es ++ Post q a ∷ fs) → slice_get script q ≡ Some r → r.round ≡ (state_after start es).round
told_in_round script rounds es fs q a r trusted asked = (told_there script rounds es fs q a r trusted asked).1

pub told_is_recorded : (script : List Scheduled) (rounds : ℕ) (es fs : List Step) (q : ℕ) (r : Scheduled) (loader : ℕ) (name : Name) (c : Class) → AreTrusted script rounds (es ++ Post q (Said (IsClass c)) ∷ fs) → slice_get script q ≡ Some r → r.request ≡ Load loader name → Records (state_after start es) loader name c
told_is_recorded script rounds es fs q r loader name c trusted asked is =
    subst (λ (x : Request). BearsAnswer (state_after start es) x (Said (IsClass c))) is (told_there script rounds es fs q (Said (IsClass c)) r trusted asked).0 c refl

pub told_is_settled : (script : List Scheduled) (rounds : ℕ) (es fs : List Step) (q : ℕ) (r : Scheduled) (loader : ℕ) (name : Name) (i : ℕ) (d : Class) (v : Verdict) → AreTrusted script rounds (es ++ Post q (Said v) ∷ fs) → slice_get script q ≡ Some r → r.request ≡ Resolve loader name i
    → Records (state_after start es) loader name d → IsSettling v → settled_to (state_after start es).settled d i ≡ Some v
told_is_settled script rounds es fs q r loader name i d v trusted asked is rec settling =
    elim (subst (λ (x : Request). BearsAnswer (state_after start es) x (Said v)) is (told_there script rounds es fs q (Said v) r trusted asked).0 d rec) [
      | inl e ↦ absurd (settling.is_entry e)
      | inr k ↦ elim k [ inl e ↦ absurd (settling.is_class_member e) | inr h ↦ h ]
    ]

pub told_is_prepared : (script : List Scheduled) (rounds : ℕ) (es fs : List Step) (q : ℕ) (r : Scheduled) (loader : ℕ) (name : Name) (c : Class) → AreTrusted script rounds (es ++ Post q (Said (IsLinked c)) ∷ fs) → slice_get script q ≡ Some r → r.request ≡ Link loader name
    → Records (state_after start es) loader name c × Contains (state_after start es).prepared c
told_is_prepared script rounds es fs q r loader name c trusted asked is =
    subst (λ (x : Request). BearsAnswer (state_after start es) x (Said (IsLinked c))) is (told_there script rounds es fs q (Said (IsLinked c)) r trusted asked).0 c refl

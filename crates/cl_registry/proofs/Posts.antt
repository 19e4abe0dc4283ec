-- What a registry keeps goes on by a post.
use Rattle.std.proofs.Common.{◌≡◌, ◌∙◌, ◌<◌, ◌≤◌, ◌+◌, ◌-◌, ℕ, zero, suc, Bool, true, false, List, [], ◌∷◌, length, Option, Some, None, refl, sym, ap, subst, arith, is_some, if◌then◌else◌}
use Rattle.std.specs.Prelude.{nat_eq, slice_get, slice_set, option_and_then, IsSome, IfSome, MatchOption, get_or, find, ◌==◌, ◌&&◌}
use Rattle.std.specs.List.{AllByRecursion, list_any}
use Rattle.std.proofs.lemmas.List.{append-nil, length-set, length_push}
use Rattle.std.proofs.lemmas.List.Elements.{All-push, All-same, All-set, All-get_or}
use Rattle.std.proofs.lemmas.Option.{slice_get_within, slice_get-get_or, get_or_from_slice_get, same_Some}
use Rattle.std.proofs.lemmas.Cmp.{nat_eq_equiv}
use Rattle.cl_classfile.specs.Files.{Name}
use Rattle.cl_model.specs.declared.class.Class.{Class}
use Rattle.cl_model.specs.declared.event.Event.TheVariants as events
use Rattle.cl_model.specs.declared.settled.Settled.{Settled}
use Rattle.cl_model.specs.declared.answer.Answer as rust
use Rattle.cl_model.specs.declared.answer.Answer.TheVariants as answers
use Rattle.cl_model.specs.Content.{Content}
use Rattle.cl_model.specs.Classes.{class, same_class}
use Rattle.cl_model.specs.Texts.{AnswerNames, EventNames, VerdictNames}
use Rattle.cl_model.specs.States.{State, Record, start, Answer, recorded_definer}
use Rattle.cl_model.specs.Tables.{MayTell}
use Rattle.cl_model.specs.Machine.{Post}
use Rattle.cl_model.specs.Views.{answer_of, answers_of, answer_at}
use Rattle.cl_config.specs.Loaders.{schedule_of}
use Rattle.cl_constraints.specs.Books.{IsBookOf}
use Rattle.cl_constraints.proofs.Standing.{stands_alike}
use Rattle.cl_findings.specs.Findings.{Answered, Rests}
use Rattle.cl_hierarchy.specs.Imposed.{needs_of}
use Rattle.cl_hierarchy.specs.Lineages.{row_of}
use Rattle.cl_registry.specs.Kept.{Fields, IsRegistry, open_in}
use Rattle.cl_registry.specs.Tables.{Shown, state_of, records_of, round_of, defined_classes, posts, settlements, settled_at, with_post, IsTrusted, IsKept, IsLater, IsPlaced, NamesLoaders}
use Rattle.cl_registry.specs.Posting.{AnswerFits}
use Rattle.cl_registry.proofs.Calm.{unposted_stays}
use Rattle.cl_registry.proofs.Histories.{trusted_more, run_more, posts_then, defined_then, settlements_then, is_in_push, swap_nat, eq_nat, other_answer, this_answer, left_set, open_set, steps_posts, state_posts, posted_by, unposted, less}
use Rattle.cl_registry.proofs.Known.{met_after}
use Rattle.cl_registry.proofs.Posted.{borne, fitting_is_allowed, in_its_round, scheduled, scheduled_at}
use Rattle.cl_registry.proofs.Counts.{get_set_other}

-- a request of this round is of no later one
pub not_later : (x : Shown) (q n round : ℕ) → slice_get x.script.rounds_of q ≡ Some n → n ≤ round → round ≡ round_of x → IsLater x q → ⊥
not_later x q n round at le is later =
    let same : later.round ≡ n = same_Some later.round n (sym later.of ∙ at) in
    let l = later.later in
    absurd (omega (arith, le, is, same, l))

-- ---- the tables allow it, under any source

may_tell : (x : Shown) (q : ℕ) (f : Answered) → IsTrusted x → AnswerFits x q f → MayTell (schedule_of x.script) (state_of x) q (answer_of f.answer)
may_tell x q f trusted fits =
    let n = in_its_round x q f trusted fits in
    record {
      scheduled = scheduled f.request n.0;
      asked = scheduled_at x.script.requests x.script.rounds_of q f.request n.0 fits.may.asked n.1;
      in_round = n.2;
      unposted = unposted_stays (answers_of x.answers) x.history start q (unposted x q trusted fits.may.unanswered);
      fits = borne x f f.answer fits.backed.answer;
    }

-- ---- what is kept

given_still : (x : Shown) (q p : ℕ) (a : rust.Answer) (b : Bool) → nat_eq q p ≡ b → slice_get x.answers q ≡ Some None → IsSome (answer_at (answers_of x.answers) p) → IsSome (answer_at (answers_of (slice_set x.answers q (Some a))) p)
given_still x q p a true e is h = subst (λ (k : ℕ). IsSome (answer_at (answers_of (slice_set x.answers q (Some a))) k)) (eq_nat q p e) (ap is_some (this_answer x.answers q a is))
given_still x q p a false e is h = subst (λ (o : Option Answer). IsSome o) (sym (other_answer x.answers q p a e)) h

-- nothing more is settled
settled_post : (x : Shown) (q : ℕ) (a : rust.Answer) → settlements (with_post x q a).history ≡ settlements x.history
settled_post x q a = settlements_then x.history (events.Post q ∷ []) ∙ append-nil (settlements x.history)

same_settled : (x : Shown) (q : ℕ) (a : rust.Answer) (c : Class) (i : ℕ) → settled_at (with_post x q a) c i ≡ settled_at x c i
same_settled x q a c i = ap (λ (rs : List Settled). find (λ s. same_class s.class c && (s.index == i)) rs) (settled_post x q a)

named_post : (x : Shown) (q : ℕ) (a : rust.Answer) → NamesLoaders x → AnswerNames (length x.config.loaders) a → NamesLoaders (with_post x q a)
named_post x q a n names = record {
  history = All-push (EventNames (length x.config.loaders)) x.history (events.Post q) n.history tt;
  settled = All-same (λ s. VerdictNames (length x.config.loaders) s.verdict) (settlements (with_post x q a).history) (settlements x.history) (settled_post x q a) n.settled;
  answers = All-set (λ o. IfSome o (AnswerNames (length x.config.loaders))) x.answers q (Some a) names n.answers;
}

kept : (told : Option Content) (x : Shown) (q : ℕ) (f : Answered) → IsKept told x → AnswerFits x q f → Rests told f → IsKept told (with_post x q f.answer)
kept told x q f k fits rests =
    let a = f.answer in
    let y = with_post x q a in
    let is = fits.may.unanswered in
    let out = unposted x q k.trusted is in
    let step = steps_posts x q a out is in
    let round : round_of y ≡ round_of x = ap (λ (s : State). s.round) (state_posts x q a out is) in
    record {
      trusted = record {
        script = k.trusted.script;
        tables = trusted_more x y (Post q (answer_of a)) refl step k.trusted.tables (may_tell x q f k.trusted fits);
        posted = λ p. ap (list_any (nat_eq p)) (posts_then x.history (events.Post q ∷ [])) ∙ is_in_push (posts x.history) p q ∙ posted_by x.answers (posts x.history) p q a (nat_eq p q) (swap_nat q p) is (k.trusted.posted p);
        whole = length-set x.answers q (Some a) ∙ k.trusted.whole;
        earlier = λ p n at before. given_still x q p a (nat_eq q p) refl is (k.trusted.earlier p n at (subst (λ (m : ℕ). n < m) round before));
      };
      named = named_post x q a k.named fits.backed.within.answer;
      run = run_more told x y (Post q (answer_of a)) refl refl step k.run
          (λ content e. fitting_is_allowed content x q f (subst (λ (t : Option Content). IsKept t x) e k) fits (subst (λ (t : Option Content). Rests t f) e rests));
      rows = k.rows ∙ sym (append-nil (defined_classes x.history)) ∙ sym (defined_then x.history (events.Post q ∷ []));
      spelt = k.spelt;
      order = k.order;
      placed = subst (λ (rs : List Record). AllByRecursion (IsPlaced rs) x.rows) (sym (ap (λ (s : State). s.records) (state_posts x q a out is))) k.placed;
    }

-- ---- and its fields

set_here : (xs : List ℕ) (i a m : ℕ) → slice_get (slice_set xs i a) i ≡ Some m → m ≡ a
set_here [] i a m e = absurd cc
set_here (x ∷ xs) zero a m e = cc
set_here (x ∷ xs) (suc i) a m e = set_here xs i a m e

lower_by : (v w o p : ℕ) → v + 1 ≡ w → w ≡ o → o ≡ p + 1 → v ≡ p
lower_by v w o p e f g = omega arith

none_less : (m o p : ℕ) → m ≡ o → o ≡ p + 0 → m ≡ p
none_less m o p e f = omega arith

count_after : {stands : State → Type 0} (told : Option Content) (x : Shown) (f : Fields) (q n v w r m : ℕ) (a : rust.Answer) (b : Bool) → IsRegistry told x f stands → slice_get x.script.rounds_of q ≡ Some n → slice_get x.answers q ≡ Some None → slice_get f.unanswered n ≡ Some w → v + 1 ≡ w
    → nat_eq n r ≡ b → slice_get (slice_set f.unanswered n v) r ≡ Some m → m ≡ open_in r x.script.rounds_of (slice_set x.answers q (Some a))
count_after told x f q n v w r m a true k at is here fewer e found =
    let same = eq_nat n r e in
    let m-is : m ≡ v = set_here f.unanswered n v m (subst (λ (i : ℕ). slice_get (slice_set f.unanswered n v) i ≡ Some m) (sym same) found) in
    let fall = open_set r x.script.rounds_of x.answers q n a at is ∙ ap (λ (b : Bool). open_in r x.script.rounds_of (slice_set x.answers q (Some a)) + (if b then 1 else 0)) e in
    m-is ∙ lower_by v w (open_in r x.script.rounds_of x.answers) (open_in r x.script.rounds_of (slice_set x.answers q (Some a))) fewer (k.counts r w (subst (λ (i : ℕ). slice_get f.unanswered i ≡ Some w) same here)) fall
count_after told x f q n v w r m a false k at is here fewer e found =
    let fall = open_set r x.script.rounds_of x.answers q n a at is ∙ ap (λ (b : Bool). open_in r x.script.rounds_of (slice_set x.answers q (Some a)) + (if b then 1 else 0)) e in
    none_less m (open_in r x.script.rounds_of x.answers) (open_in r x.script.rounds_of (slice_set x.answers q (Some a))) (k.counts r m (sym (get_set_other f.unanswered n r v e) ∙ found)) fall

-- a request that has no answer is counted in its round
pub counted : {stands : State → Type 0} (told : Option Content) (x : Shown) (f : Fields) (q n : ℕ) → IsRegistry told x f stands → slice_get x.script.rounds_of q ≡ Some n → slice_get x.answers q ≡ Some None → (w : ℕ) × (slice_get f.unanswered n ≡ Some w) × (0 < w)
counted told x f q n k at is =
    let rounds = x.script.rounds_of in
    let below : n < x.script.rounds = subst (λ (m : ℕ). m < x.script.rounds) (get_or_from_slice_get rounds q n 0 at) (All-get_or (λ m. m < x.script.rounds) rounds q 0 (slice_get_within rounds q n at) k.kept.trusted.script.within) in
    let each = k.each_round in
    let here = slice_get-get_or f.unanswered n 0 (omega (arith, below, each)) in
    let w = get_or f.unanswered n 0 in
    let a : rust.Answer = answers.Memory in
    let fall = open_set n rounds x.answers q n a at is ∙ ap (λ (b : Bool). open_in n rounds (slice_set x.answers q (Some a)) + (if b then 1 else 0)) (nat_eq_equiv.refl n) in
    (w, here, some_left w (open_in n rounds x.answers) (open_in n rounds (slice_set x.answers q (Some a))) (k.counts n w here) fall)
  where
    some_left : (w o p : ℕ) → w ≡ o → o ≡ p + 1 → 0 < w
    some_left w o p e f = omega arith

pub counts_down : {stands : State → Type 0} (told : Option Content) (x : Shown) (f : Fields) (q n : ℕ) → IsRegistry told x f stands → slice_get x.script.rounds_of q ≡ Some n → slice_get x.answers q ≡ Some None → MatchOption (slice_get f.unanswered n) ⊥ (λ w. 0 < w)
counts_down told x f q n k at is = let w = counted told x f q n k at is in subst (λ (o : Option ℕ). MatchOption o ⊥ (λ w. 0 < w)) (sym w.1) w.2

pub kept_post : {home : Name → ℕ → Option ℕ} {joins : Name → ℕ → ℕ → Type 0} (told : Option Content) (x : Shown) (f : Fields) (q n : ℕ) (a : Answered) (events room left : ℕ) (unanswered : List ℕ) → IsRegistry told x f (IsBookOf home joins) → AnswerFits x q a → Rests told a → slice_get x.script.rounds_of q ≡ Some n
    → MatchOption (slice_get f.unanswered n) ⊥ (λ w. unanswered ≡ slice_set f.unanswered n (w - 1)) → events ≡ f.events + 1 → room ≡ f.room_for_events → left + 1 ≡ f.left
    → IsRegistry told (with_post x q a.answer) (record f { events = events; room_for_events = room; left = left; unanswered = unanswered }) (IsBookOf home joins)
kept_post {home} {joins} told x f q n a used room less unanswered k fits rests at lower one same left =
    let y = with_post x q a.answer in
    let is = fits.may.unanswered in
    let out = unposted x q k.kept.trusted is in
    let state = state_posts x q a.answer out is in
    let records : records_of y ≡ records_of x = ap (λ (s : State). s.records) state in
    let w = counted told x f q n k at is in
    let v = w.0 - 1 in
    let some = w.2 in
    let fewer : v + 1 ≡ w.0 = omega (arith, some) in
    let counts : unanswered ≡ slice_set f.unanswered n v = subst (λ (o : Option ℕ). MatchOption o ⊥ (λ w. unanswered ≡ slice_set f.unanswered n (w - 1))) w.1 lower in
    record {
      kept = kept told x q a k.kept fits rests;
      script = k.script;
      width = k.width;
      rows = λ l n. k.rows l n ∙ ap (λ (rs : List Record). option_and_then (λ place. row_of x.rows (class n place)) (recorded_definer rs l n)) (sym records);
      book = stands_alike home joins (state_of x) (state_of y) records (ap (λ (s : State). s.equalities) state) k.book;
      references = λ c i. k.references c i ∙ sym (same_settled x q a.answer c i);
      prepared = k.prepared ∙ sym (ap (λ (s : State). s.prepared) state);
      met = met_after (state_of x) (state_of y) (Post q (answer_of a.answer)) (needs_of f.met) state k.met;
      left = let e = left_set x.answers q a.answer is in let l = k.left in omega (arith, e, l, left);
      counts = λ r m found. count_after told x f q n v w.0 r m a.answer (nat_eq n r) k at is w.1 fewer refl (subst (λ (us : List ℕ). slice_get us r ≡ Some m) counts found);
      each_round = ap length counts ∙ length-set f.unanswered n v ∙ k.each_round;
      round = k.round ∙ sym (ap (λ (s : State). s.round) state);
      begun = k.begun;
      used = let u = k.used in let l = length_push x.history (events.Post q) in omega (arith, u, l, one);
      events_fit = let e = k.events_fit in omega (arith, e, one, same, left);
      empty = k.empty;
      answers_fit = subst (λ n. n ≤ f.room) (sym (length-set x.answers q (Some a.answer))) k.answers_fit;
    }

pub one_less : (left more : ℕ) → left ≡ more + 1 → left - 1 + 1 ≡ left
one_less left more e = omega arith

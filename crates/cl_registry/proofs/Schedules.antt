-- When a round may end: each request of it has its answer.
use Rattle.std.proofs.Common.{◌≡◌, ◌∙◌, ◌<◌, ◌≤◌, ◌+◌, ◌⊎◌, inl, inr, ℕ, zero, suc, Bool, true, false, List, [], ◌∷◌, length, map, Option, Some, None, refl, sym, ap, subst, arith, is_some, replicate, get_or, add-one, if◌then◌else◌}
use Rattle.std.specs.Prelude.{nat_eq, ◌==◌, ◌&&◌, find, slice_get, option_and_then, option_map, IsSome}
use Rattle.std.specs.List.{AllByRecursion, list_any}
use Rattle.std.specs.HashMap.{HashMap, get}
use Rattle.std.specs.Map.{lookup}
use Rattle.std.proofs.lemmas.List.{length_push, length-replicate}
use Rattle.std.proofs.lemmas.Cmp.{nat_eq_equiv}
use Rattle.std.proofs.lemmas.Bool.Decides.{nat_tests}
use Rattle.std.proofs.lemmas.Option.{slice_get_within, slice_get_read}
use Rattle.cl_model.specs.declared.request.Request.{Request}
use Rattle.cl_model.specs.declared.event.Event.{Event}
use Rattle.cl_model.specs.declared.event.Event.TheVariants as events
use Rattle.cl_model.specs.declared.answer.Answer as rust
use Rattle.cl_classfile.specs.Files.{Name}
use Rattle.cl_model.specs.declared.class.Class.{Class}
use Rattle.cl_model.specs.declared.need.Equality.{Equality}
use Rattle.cl_model.specs.Classes.{class, same_class}
use Rattle.cl_model.specs.Content.{Content}
use Rattle.cl_model.specs.States.{State, AllMet, Answer, start, recorded_definer}
use Rattle.cl_model.specs.Machine.{Scheduled, Step, Run, state_after}
use Rattle.cl_model.specs.Tables as tables
use Rattle.cl_model.specs.Views.{answers_of, answer_at, request_of, steps_of}
use Rattle.cl_config.specs.Scripts.{IsScript}
use Rattle.cl_config.specs.Views.{Scripted}
use Rattle.cl_config.specs.Loaders.{schedule, schedule_of}
use Rattle.cl_delegation.specs.Worlds.{setting_of}
use Rattle.std.proofs.lemmas.List.Elements.{All-nil, All-same}
use Rattle.cl_hierarchy.specs.Drafts.{IsSpelt}
use Rattle.cl_hierarchy.specs.Imposed.{needs_of}
use Rattle.cl_hierarchy.specs.Rows.{Rowed}
use Rattle.cl_hierarchy.specs.RowTables.{AreRows}
use Rattle.cl_hierarchy.specs.Lineages.{row_of}
use Rattle.cl_constraints.specs.Books.{IsBookOf}
use Rattle.cl_registry.specs.Kept.{left_in, open_in, Fields, IsRegistry}
use Rattle.cl_registry.specs.Tables.{Shown, steps, state_of, records_of, round_of, posts, defined_classes, settlements, reference_in, RunsAs, IsPlaced, with_round, RoundMayBegin}
use Rattle.cl_registry.proofs.Histories.{given, open_answer, eq_nat}
use Rattle.cl_registry.proofs.Running.{answered, named_new}
use Rattle.cl_registry.proofs.Allowed.{round_is_allowed}
use Rattle.cl_registry.proofs.Kept.{book_event, kept_event, none_settled, rows_same, settled_same, state_event, step_by}
use Rattle.cl_registry.proofs.Known.{met_after}

-- ---- the schedule

schedule_at : (rs : List Request) (ns : List ℕ) (q : ℕ) (r : Request) (n : ℕ) → slice_get rs q ≡ Some r → slice_get ns q ≡ Some n → slice_get (schedule rs ns) q ≡ Some (record { request = request_of r; round = n })
schedule_at [] ns q r n e f = absurd cc
schedule_at (x ∷ rs) [] q r n e f = absurd cc
schedule_at (x ∷ rs) (m ∷ ns) zero r n e f =
    let same : x ≡ r = cc in
    let at : m ≡ n = cc in
    rw (same, at) refl
schedule_at (x ∷ rs) (m ∷ ns) (suc q) r n e f = schedule_at rs ns q r n e f

round_there : (x e : Scheduled) → Some x ≡ Some e → x.round ≡ e.round
round_there x e h = let same : x ≡ e = cc in ap (λ (s : Scheduled). s.round) same

pub schedule_round : (rs : List Request) (ns : List ℕ) (q : ℕ) (e : Scheduled) → slice_get (schedule rs ns) q ≡ Some e → slice_get ns q ≡ Some e.round
schedule_round [] ns q e h = absurd cc
schedule_round (x ∷ rs) [] q e h = absurd cc
schedule_round (x ∷ rs) (n ∷ ns) zero e h = ap (λ (m : ℕ). Some m) (round_there (record { request = request_of x; round = n }) e h)
schedule_round (x ∷ rs) (n ∷ ns) (suc q) e h = schedule_round rs ns q e h

schedule_within : (rs : List Request) (ns : List ℕ) (q : ℕ) (e : Scheduled) → slice_get (schedule rs ns) q ≡ Some e → q < length rs
schedule_within [] ns q e h = absurd cc
schedule_within (x ∷ rs) [] q e h = absurd cc
schedule_within (x ∷ rs) (n ∷ ns) zero e h = omega arith
schedule_within (x ∷ rs) (n ∷ ns) (suc q) e h = let k = schedule_within rs ns q e h in omega arith

pub some_at : {A : Type 0} (xs : List A) (q : ℕ) → q < length xs → (x : A) × (slice_get xs q ≡ Some x)
some_at [] q h = absurd (omega arith)
some_at (x ∷ xs) zero h = (x, refl)
some_at (x ∷ xs) (suc q) h = some_at xs q (omega arith)

-- ---- open requests of a round

add_zero : (i j : ℕ) → i + j ≡ 0 → j ≡ 0
add_zero i j h = omega arith

one_more : (b : Bool) (j : ℕ) → b ≡ true → (if b then 1 else 0) + j ≡ 0 → ⊥
one_more true j e h = omega arith
one_more false j e h = cc

-- where none is open, each of the round has its answer
none_open : (round : ℕ) (ns : List ℕ) (xs : List (Option rust.Answer)) (q : ℕ) → open_in round ns xs ≡ 0 → slice_get ns q ≡ Some round → q < length xs → is_some (given xs q) ≡ true
none_open round [] xs q h e w = absurd cc
none_open round (n ∷ ns) [] q h e w = absurd (omega arith)
none_open round (n ∷ ns) (None ∷ xs) zero h e w = let same : n ≡ round = cc in absurd (one_more (nat_eq n round) (open_in round ns xs) (subst (λ (m : ℕ). nat_eq n m ≡ true) same (nat_eq_equiv.refl n)) h)
none_open round (n ∷ ns) (Some a ∷ xs) zero h e w = refl
none_open round (n ∷ ns) (None ∷ xs) (suc q) h e w = none_open round ns xs q (add_zero _ _ h) e (omega arith)
none_open round (n ∷ ns) (Some a ∷ xs) (suc q) h e w = none_open round ns xs q h e (omega arith)

-- a request of a round that has no answer
record IsOpenOf (round : ℕ) (ns : List ℕ) (xs : List (Option rust.Answer)) : Type 0 where
  pub request : ℕ
  pub of : slice_get ns request ≡ Some round
  pub is_open : slice_get xs request ≡ Some None

later : (round n : ℕ) (ns : List ℕ) (x : Option rust.Answer) (xs : List (Option rust.Answer)) → IsOpenOf round ns xs → IsOpenOf round (n ∷ ns) (x ∷ xs)
later round n ns x xs o = record { request = suc o.request; of = o.of; is_open = o.is_open }

some_open : (round : ℕ) (ns : List ℕ) (xs : List (Option rust.Answer)) → (open_in round ns xs ≡ 0 → ⊥) → IsOpenOf round ns xs
some_open round [] xs h = absurd (h refl)
some_open round (n ∷ ns) [] h = absurd (h refl)
some_open round (n ∷ ns) (Some a ∷ xs) h = later round n ns (Some a) xs (some_open round ns xs h)
some_open round (n ∷ ns) (None ∷ xs) h = by_test (nat_eq n round) refl h (some_open round ns xs)
  where
    by_test : (b : Bool) → nat_eq n round ≡ b → ((if b then 1 else 0) + open_in round ns xs ≡ 0 → ⊥) → ((open_in round ns xs ≡ 0 → ⊥) → IsOpenOf round ns xs) → IsOpenOf round (n ∷ ns) (None ∷ xs)
    by_test true e k ih = record { request = 0; of = ap (λ (m : ℕ). Some m) (eq_nat n round e); is_open = refl }
    by_test false e k ih = later round n ns None xs (ih (λ z. k (zero_more _ z)))
      where
        zero_more : (j : ℕ) → j ≡ 0 → 0 + j ≡ 0
        zero_more j h = omega arith

-- ---- when the next round may begin

pub may_go_on : {stands : State → Type 0} (told : Option Content) (x : Shown) (f : Fields) (n : ℕ) → IsRegistry told x f stands → slice_get f.unanswered f.round ≡ Some n → n ≡ 0 → f.round + 1 < x.script.rounds → RoundMayBegin x
may_go_on told x f n k at zero-left more = record {
  answered = λ q e asked same.
      let count = k.counts f.round n at in
      let here : slice_get x.script.rounds_of q ≡ Some f.round = schedule_round x.script.requests x.script.rounds_of q e asked ∙ ap (λ (m : ℕ). Some m) (same ∙ sym k.round) in
      let within : q < length x.answers = subst (λ (m : ℕ). q < m) (sym k.kept.trusted.whole) (schedule_within x.script.requests x.script.rounds_of q e asked) in
      answered x q k.kept.trusted ∙ none_open f.round x.script.rounds_of x.answers q (sym count ∙ zero-left) here within;
  later = subst (λ (m : ℕ). m + 1 < x.script.rounds) k.round more;
}

-- the count of the round is there
pub round_there_is : {stands : State → Type 0} (told : Option Content) (x : Shown) (f : Fields) (n : ℕ) → IsRegistry told x f stands → f.round + 1 < x.script.rounds → n ≡ get_or f.unanswered f.round n → slice_get f.unanswered f.round ≡ Some n
round_there_is told x f n k more e = let each = k.each_round in slice_get_read f.unanswered (length f.unanswered) f.round n refl (omega arith) e

none_is_some : (o : Option Answer) → o ≡ None → is_some o ≡ true → ⊥
none_is_some o e h = cc

pub open_stops : {stands : State → Type 0} (told : Option Content) (x : Shown) (f : Fields) (n : ℕ) → IsRegistry told x f stands → slice_get f.unanswered f.round ≡ Some n → (n ≡ 0 → ⊥) → RoundMayBegin x → ⊥
open_stops told x f n k at some may =
    let o = some_open f.round x.script.rounds_of x.answers (λ z. some (k.counts f.round n at ∙ z)) in
    let asks = some_at x.script.requests o.request (subst (λ (m : ℕ). o.request < m) k.kept.trusted.whole (slice_get_within x.answers o.request None o.is_open)) in
    let there = schedule_at x.script.requests x.script.rounds_of o.request asks.0 f.round asks.1 o.of in
    none_is_some (given x.answers o.request) (open_answer x.answers o.request o.is_open)
    (sym (answered x o.request k.kept.trusted) ∙ may.answered o.request (record { request = request_of asks.0; round = f.round }) there k.round)

pub last_stops : {stands : State → Type 0} (told : Option Content) (x : Shown) (f : Fields) → IsRegistry told x f stands → x.script.rounds ≤ f.round + 1 → RoundMayBegin x → ⊥
last_stops told x f k last may = let r = k.round in let l = may.later in omega arith

pub round_left : {stands : State → Type 0} (told : Option Content) (x : Shown) (f : Fields) → IsRegistry told x f stands → f.round + 1 < x.script.rounds → round_of x + 1 < x.script.rounds
round_left told x f k more = subst (λ (n : ℕ). n + 1 < x.script.rounds) k.round more

pub no_round_left : {stands : State → Type 0} (told : Option Content) (x : Shown) (f : Fields) → IsRegistry told x f stands → x.script.rounds ≤ f.round + 1 → x.script.rounds ≤ round_of x + 1
no_round_left told x f k none = subst (λ (n : ℕ). x.script.rounds ≤ n + 1) k.round none

-- ---- the next round

below_or_at : (a b : ℕ) → a < b + 1 → (a < b) ⊎ (a ≡ b)
below_or_at a b h = by_test (nat_eq a b) refl
  where
    by_test : (c : Bool) → nat_eq a b ≡ c → (a < b) ⊎ (a ≡ b)
    by_test true e = inr (eq_nat a b e)
    by_test false e = inl (grind (arith, nat_tests))

state_round : (x : Shown) → round_of (with_round x) ≡ round_of x + 1
state_round x = ap (λ (s : State). s.round) (state_event x x.rows events.NextRound)

pub kept_round : {home : Name → ℕ → Option ℕ} {joins : Name → ℕ → ℕ → Type 0} (told : Option Content) (x : Shown) (f : Fields) (used more : ℕ) → IsRegistry told x f (IsBookOf home joins) → RoundMayBegin x → used ≡ f.events + 1 → more ≡ f.room_for_events
    → IsRegistry told (with_round x) (record f { events = used; room_for_events = more; round = f.round + 1 }) (IsBookOf home joins)
kept_round {home} {joins} told x f used more k may one same =
    let earlier : (q round : ℕ) → slice_get x.script.rounds_of q ≡ Some round → round < round_of (with_round x) → IsSome (answer_at (answers_of x.answers) q) =
    λ q round asked less.
    elim (below_or_at round (round_of x) (subst (λ (m : ℕ). round < m) (state_round x) less)) [
      | inl before ↦ k.kept.trusted.earlier q round asked before
      | inr now ↦
          (let asks = some_at x.script.requests q (subst (λ (m : ℕ). q < m) k.script.each (slice_get_within x.script.rounds_of q round asked)) in
          let there = schedule_at x.script.requests x.script.rounds_of q asks.0 round asks.1 asked in
          sym (answered x q k.kept.trusted) ∙ may.answered q (record { request = request_of asks.0; round = round }) there now)
    ] in
    let round_is = k.round in
    let later = may.later in
    let fits = k.events_fit in
    record {
      kept = kept_event told x x.rows events.NextRound k.kept (record { silent = refl; allows = may; may = λ content e. round_is_allowed content x may; names = tt }) (rows_same told x events.NextRound k.kept refl) earlier
          (none_settled told x events.NextRound k.kept refl);
      script = k.script;
      width = k.width;
      rows = λ l n. k.rows l n ∙ sym (ap (λ (s : State). option_and_then (λ (p : ℕ). row_of x.rows (class n p)) (recorded_definer s.records l n)) (state_event x x.rows events.NextRound));
      book = book_event home joins x x.rows events.NextRound refl refl k.book;
      references = λ c i. k.references c i ∙ sym (settled_same x x.rows events.NextRound c i refl);
      prepared = k.prepared ∙ sym (ap (λ (s : State). s.prepared) (state_event x x.rows events.NextRound));
      met = met_after (state_of x) (state_of (with_round x)) (step_by x events.NextRound) (needs_of f.met) (state_event x x.rows events.NextRound) k.met;
      left = k.left;
      counts = k.counts;
      each_round = k.each_round;
      round = ap (λ (n : ℕ). n + 1) k.round ∙ sym (state_round x);
      begun = omega arith;
      used = one ∙ ap (λ (n : ℕ). n + 1) k.used ∙ sym (length_push x.history events.NextRound);
      events_fit = omega arith;
      empty = k.empty;
      answers_fit = k.answers_fit;
    }

-- ---- the empty tables

left_all : (n : ℕ) → left_in (replicate n None) ≡ n
left_all zero = refl
left_all (suc n) = ap (λ k. k + 1) (left_all n) ∙ add-one n

none_given : (n q : ℕ) → given (replicate n None) q ≡ None
none_given zero q = refl
none_given (suc n) zero = refl
none_given (suc n) (suc q) = none_given n q

run_new : (told : Option Content) (x : Shown) → steps x ≡ [] → RunsAs told x
run_new None x e = tt
run_new (Some content) x e = subst (λ (es : List Step). Run (setting_of x.config x.script content) start es) (sym e) tt

-- the counts of a script are those of another name of it
pub counts_as : (s t : Scripted) (unanswered : List ℕ) (left : ℕ) → s ≡ t → left ≡ length t.requests → ((round n : ℕ) → slice_get unanswered round ≡ Some n → n ≡ open_in round s.rounds_of (replicate (length s.requests) None))
    → (round n : ℕ) → slice_get unanswered round ≡ Some n → n ≡ open_in round t.rounds_of (replicate left None)
counts_as s t unanswered left e l counts round n at =
    counts round n at ∙ ap (λ (u : Scripted). open_in round u.rounds_of (replicate (length u.requests) None)) e ∙ ap (λ (m : ℕ). open_in round t.rounds_of (replicate m None)) (sym l)

-- an empty table has nothing of any reference
pub bare_references : {R S A : Type 0} (value : R → A) (t : HashMap Class (HashMap ℕ R S) S) (c : Class) (i : ℕ) → t.entries ≡ [] → option_map value (reference_in t c i) ≡ None
bare_references {R} {S} value t c i e = ap (λ (es : List (Class × HashMap ℕ R S)). option_map value (option_and_then (λ m. get nat_eq m i) (lookup (same_class c) es))) e

-- no table has anything
pub record IsBare (f : Fields) (stands : State → Type 0) : Type 0 where
  pub table : (l : ℕ) (n : List ℕ) → f.table l n ≡ None
  pub book : stands start
  pub references : (c : Class) (i : ℕ) → f.references c i ≡ None
  pub prepared : f.prepared ≡ []
  pub met : f.met ≡ []

pub kept_new : {stands : State → Type 0} (told : Option Content) (x : Shown) (f : Fields) → x.rows ≡ [] → x.history ≡ [] → x.answers ≡ replicate f.left None → length x.script.requests ≡ f.left → IsScript x.script → f.parts ≡ length x.config.loaders
    → IsBare f stands → ((round n : ℕ) → slice_get f.unanswered round ≡ Some n → n ≡ open_in round x.script.rounds_of (replicate f.left None)) → length f.unanswered ≡ x.script.rounds → f.round ≡ 0 → f.events ≡ 0
    → f.left + x.script.rounds ≤ f.room_for_events → f.filled ≡ 0 → f.left ≤ f.room → IsRegistry told x f stands
kept_new {stands} told x f r h a s script width bare counts each first zero-used fit zero-filled fits =
    let no-steps : steps x ≡ [] = ap (λ (h : List Event). steps_of (answers_of x.answers) h) h in
    let no-state : state_of x ≡ start = ap (state_after start) no-steps in
    let no-posts : posts x.history ≡ [] = ap posts h in
    let no-round : round_of x ≡ 0 = ap (λ (s : State). s.round) no-state in
    let whole : length x.answers ≡ f.left = ap length a ∙ length-replicate f.left None in
    record {
      kept = record {
        trusted = record {
          script = script;
          tables = subst (λ (es : List Step). tables.AreTrusted (schedule_of x.script) x.script.rounds es) (sym no-steps) tt;
          posted = λ q. ap (list_any (nat_eq q)) no-posts ∙ sym (ap (λ (xs : List (Option rust.Answer)). is_some (given xs q)) a ∙ ap is_some (none_given f.left q));
          whole = whole ∙ sym s;
          earlier = λ q round asked less. absurd (omega arith);
        };
        named = named_new x f.left h a;
        run = run_new told x no-steps;
        rows = ap (map (λ (r : Rowed). r.class)) r ∙ sym (ap defined_classes h);
        spelt = All-same (λ s. IsSpelt told s.class s.file) x.rows [] r (All-nil (λ s. IsSpelt told s.class s.file));
        order = subst (λ (rows : List Rowed). AreRows told x.config rows) (sym r) tt;
        placed = subst (λ (rows : List Rowed). AllByRecursion (IsPlaced (records_of x)) rows) (sym r) tt;
      };
      script = script;
      width = width;
      rows = λ l n. bare.table l n ∙ sym (ap (λ (s : State). option_and_then (λ (p : ℕ). row_of x.rows (class n p)) (recorded_definer s.records l n)) no-state);
      book = subst (λ (s : State). stands s) (sym no-state) bare.book;
      references = λ c i. bare.references c i ∙ sym (ap (λ (es : List Event). find (λ s. same_class s.class c && (s.index == i)) (settlements es)) h);
      prepared = bare.prepared ∙ sym (ap (λ (s : State). s.prepared) no-state);
      met = subst (λ (es : List Equality). AllMet (state_of x) (needs_of es)) (sym bare.met) tt;
      left = sym (ap left_in a ∙ left_all f.left);
      counts = λ round n e. counts round n e ∙ ap (open_in round x.script.rounds_of) (sym a);
      each_round = each;
      round = first ∙ sym no-round;
      begun = omega arith;
      used = zero-used ∙ sym (ap length h);
      events_fit = omega arith;
      empty = zero-filled;
      answers_fit = omega arith;
    }

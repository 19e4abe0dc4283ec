-- Choices that are played one after another.
use Rattle.std.proofs.Common.{◌≡◌, ◌∙◌, ◌+◌, ◌<◌, ℕ, zero, suc, List, [], ◌∷◌, ◌++◌, length, take, Option, Some, None, refl, sym, ap, subst, add-one, append_assoc, arith}
use Rattle.std.specs.Prelude.{replicate, slice_index}
use Rattle.std.proofs.lemmas.List.{append-nil}
use Rattle.cl_model.specs.Content.{Content}
use Rattle.cl_model.specs.States.{State, start}
use Rattle.cl_model.specs.Machine.{Scheduled, Setting, Step, state_after}
use Rattle.cl_model.specs.Service.{PassesRounds}
use Rattle.cl_model.proofs.Views.{state_then}
use Rattle.cl_registry.specs.Tables.{Shown, RoundMayBegin, state_of, steps, machine}
use Rattle.cl_schedule.specs.Choices.{AreInTime, Plays, PlayedAs, ArePrompt, IsInTime, IsPieceOf, IsPrompt, Piece, piece, steps_in, IsPlayedBy}
use Rattle.cl_schedule.specs.Counting.{debt}
use Rattle.cl_schedule.specs.Nearing.{by_verdict}
use Rattle.cl_schedule.specs.Paying.{by_plan}
use Rattle.cl_schedule.specs.Rooms.{RoomIsOpened, KeepsTakings, PlayedPast, PlayedTo, PlaysIn, ServesOn}
use Rattle.cl_config.specs.Loaders.{schedule_of}
use Rattle.cl_config.specs.Views.{Configured, Scripted}
use Rattle.cl_schedule.specs.declared.choices.Room.{Room}
use Rattle.cl_schedule.specs.Rounds.{RoundsPassed}
use Rattle.cl_schedule.specs.Takings.{AreWithin}
use Rattle.cl_schedule.proofs.Owing.{count_then}
use Rattle.cl_schedule.proofs.Prompt.{each_none, each_push, is_in_time, is_prompt}
use Rattle.cl_schedule.proofs.Serving.{bare}
use Rattle.cl_schedule.proofs.States.{same_machine}
use Rattle.cl_schedule.proofs.Takings.{none_within}

-- a choice more, and its piece
pub plays_push : (g : Setting) (s : State) (cs : List ℕ) (ps : List Piece) (c : ℕ) (p : Piece) → Plays g s cs ps → IsPieceOf g (state_after s (steps_in ps)) c p → Plays g s (cs ++ c ∷ []) (ps ++ p ∷ [])
plays_push g s [] [] c p played is = (is, tt)
plays_push g s [] (k ∷ ps) c p played is = absurd played
plays_push g s (d ∷ cs) [] c p played is = absurd played
plays_push g s (d ∷ cs) (k ∷ ps) c p (first, more) is =
    let there : state_after s (steps_in (k ∷ ps)) ≡ state_after (state_after (state_after s k.made) k.rounds) (steps_in ps) =
    state_then s k.made (k.rounds ++ steps_in ps) ∙ state_then (state_after s k.made) k.rounds (steps_in ps) in (
      first,
      plays_push g (state_after (state_after s k.made) k.rounds) cs ps c p more (subst (λ (t : State). IsPieceOf g t c p) there is),
    )

steps_push : (ps : List Piece) (p : Piece) → steps_in (ps ++ p ∷ []) ≡ steps_in ps ++ (p.made ++ p.rounds)
steps_push [] p = ap (λ (es : List Step). p.made ++ es) (append-nil p.rounds)
steps_push (k ∷ ps) p =
    ap (λ (es : List Step). k.made ++ (k.rounds ++ es)) (steps_push ps p)
    ∙ ap (λ (es : List Step). k.made ++ es) (sym (append_assoc k.rounds (steps_in ps) (p.made ++ p.rounds)))
    ∙ sym (append_assoc k.made (k.rounds ++ steps_in ps) (p.made ++ p.rounds))

-- ---- a registry's history

pub played_none : (told : Option Content) (empty x : Shown) → steps empty ≡ [] → RoundsPassed empty x → PlayedTo told x []
played_none None empty x e p = tt
played_none (Some content) empty x e p =
    let same = same_machine empty x content p.config p.script in (
      p.passed,
      [],
      record {
        whole = p.steps_more ∙ ap (λ (es : List Step). es ++ p.passed) e ∙ sym (append-nil p.passed);
        passed =
            subst (λ (g : Setting). PassesRounds g start p.passed) (sym same)
            (subst (λ (es : List Step). PassesRounds (machine empty content) (state_after start es) p.passed) e (p.rounds content));
        played = tt;
        prompt = each_none (IsPrompt (schedule_of x.script));
        in_time = each_none (IsInTime (machine x content));
      },
    )

-- the choices so far, and how often each request is taken at most behind them
pub record IsPlayedIn {A : Type 0} (content : Content) (x : Shown) (room : Room A) (cs : List ℕ) : Type 0 where
  pub rounds : List Step
  pub pieces : List Piece
  pub by : IsPlayedBy (machine x content) cs (steps x) rounds pieces
  pub near : AreWithin by_verdict x room pieces
  pub paid : AreWithin (by_plan (Some content) x.config) x room pieces

abbrev pub RoomPlayed : {A : Type 0} → Option Content → Shown → Room A → List ℕ → Type 0
RoomPlayed None x room cs = Unit {0}
RoomPlayed (Some content) x room cs = IsPlayedIn content x room cs

-- the same after the schedule
abbrev pub RoomPast : {A : Type 0} → Option Content → Shown → Room A → List ℕ → Type 0
RoomPast told x room cs = (more : ℕ) × RoomPlayed told x room (cs ++ replicate more 0)

pub room_none : {A : Type 0} (told : Option Content) (x : Shown) (room : Room A) → RoomIsOpened told x room → RoomPlayed told x room []
room_none told x room opened = by_told told opened.begun
  where
    by_told : (o : Option Content) → PlayedTo o x [] → RoomPlayed o x room []
    by_told None played = tt
    by_told (Some content) (rounds, [], by) = record { rounds = rounds; pieces = []; by = by; near = none_within by_verdict x room opened.fresh; paid = none_within (by_plan (Some content) x.config) x room opened.fresh }
    by_told (Some content) (rounds, p ∷ ps, by) = absurd by.played

pub played_on : {A : Type 0} (told : Option Content) (old new : Shown) (was now : Room A) (cs : List ℕ) (c : ℕ) → new.config ≡ old.config → new.script ≡ old.script → RoomPlayed told old was cs → PlaysIn told old new c → KeepsTakings told old new was now c → RoomPlayed told new now (cs ++ c ∷ [])
played_on None old new was now cs c config script_is played plays keeps = tt
played_on {A = A} (Some content) old new was now cs c config script_is played (one, rounds, more, chosen, began) keeps =
    let g : Setting = machine old content in
    let script : List Scheduled = schedule_of old.script in
    let first = played.rounds in
    let pieces = played.pieces in
    let by = played.by in
    let p : Piece = piece script (state_of old) c one rounds in
    let there : state_of old ≡ state_after (state_after start first) (steps_in pieces) = ap (state_after start) by.whole ∙ state_then start first (steps_in pieces) in
    let is : IsPieceOf g (state_of old) c p = record { is = refl; made = chosen; passed = began } in
    let near = keeps.known pieces played.near in
    let paid = keeps.paid pieces played.paid in
    let machine_is = sym (same_machine old new content config script_is) in
    record {
      rounds = first;
      pieces = pieces ++ p ∷ [];
      by = record {
        whole =
            more
            ∙ ap (λ (es : List Step). es ++ (one ++ rounds)) by.whole
            ∙ append_assoc first (steps_in pieces) (one ++ rounds)
            ∙ ap (λ (es : List Step). first ++ es) (sym (steps_push pieces p));
        passed = subst (λ (h : Setting). PassesRounds h start first) machine_is by.passed;
        played =
            subst (λ (h : Setting). Plays h (state_after start first) (cs ++ c ∷ []) (pieces ++ p ∷ [])) machine_is
            (plays_push g (state_after start first) cs pieces c p by.played (subst (λ (t : State). IsPieceOf g t c p) there is));
        prompt = subst (λ (k : Scripted). ArePrompt (schedule_of k) (pieces ++ p ∷ [])) (sym script_is)
            (each_push (IsPrompt script) pieces p by.prompt (is_prompt A old new content c one rounds pieces near.0 more chosen began));
        in_time = subst (λ (h : Setting). AreInTime h (pieces ++ p ∷ [])) machine_is
            (each_push (IsInTime g) pieces p by.in_time (is_in_time A old new content c one rounds pieces paid.0 more chosen began));
      };
      near = near.1 one rounds;
      paid = subst (λ (k : Configured). AreWithin (by_plan (Some content) k) new now (pieces ++ p ∷ [])) (sym config) (paid.1 one rounds);
    }

-- one zero more at the end
replicate_push : (n k : ℕ) → replicate n k ++ k ∷ [] ≡ replicate (suc n) k
replicate_push zero k = refl
replicate_push (suc n) k = ap (λ (xs : List ℕ). k ∷ xs) (replicate_push n k)

pub past_none : {A : Type 0} (told : Option Content) (x : Shown) (room : Room A) (cs : List ℕ) → RoomPlayed told x room cs → RoomPast told x room cs
past_none told x room cs played = (0, subst (RoomPlayed told x room) (sym (append-nil cs)) played)

pub past_on : {A : Type 0} (told : Option Content) (old new : Shown) (was now : Room A) (cs : List ℕ) → new.config ≡ old.config → new.script ≡ old.script → RoomPast told old was cs → PlaysIn told old new 0 → KeepsTakings told old new was now 0 → RoomPast told new now cs
past_on told old new was now cs config script (more, played) plays keeps = (
  suc more,
  subst (RoomPlayed told new now) (append_assoc cs (replicate more 0) (0 ∷ []) ∙ ap (λ (xs : List ℕ). cs ++ xs) (replicate_push more 0)) (played_on told old new was now (cs ++ replicate more 0) 0 config script played plays keeps),
)

pub room_past : {A : Type 0} (told : Option Content) (x : Shown) (room : Room A) (cs : List ℕ) → RoomPast told x room cs → PlayedPast told x cs
room_past None x room cs (more, played) = (more, tt)
room_past (Some content) x room cs (more, played) = (more, (played.rounds, played.pieces, played.by))

-- between two choices: what is served is served on, and of the choices so far this holds
pub record IsBetween {A : Type 0} (told : Option Content) (config : Configured) (script : Scripted) (old new : Shown) (was now : Room A) (before after : ℕ) (Played : Type 0) : Type 0 where
  pub on : ServesOn told config script old new was now before after
  pub over : RoundMayBegin new → ⊥
  pub played : Played

pub between_on : {A : Type 0} (told : Option Content) (config : Configured) (script : Scripted) (first old new : Shown) (opened was now : Room A) (k l m : ℕ) (Played Next : Type 0) → IsBetween told config script first old opened was k l Played → ServesOn told config script old new was now l m → (RoundMayBegin new → ⊥)
    → (new.config ≡ old.config → new.script ≡ old.script → Played → Next) → IsBetween told config script first new opened now k m Next
between_on told config script first old new opened was now k l m Played Next between on over next = record {
  on = record { serves = on.serves; faults = count_then (debt first opened) (debt old was) (debt new now) k l m between.on.faults on.faults };
  over = over;
  played = next (on.serves.configured ∙ sym between.on.serves.configured) (on.serves.scripted ∙ sym between.on.serves.scripted) between.played;
}

pub played_as : (told : Option Content) (x : Shown) (cs : List ℕ) → PlayedPast told x cs → PlayedAs told (bare x) cs
played_as None x cs played = tt
played_as (Some content) x cs (more, (rounds, pieces, by)) = record { rounds = rounds; pieces = pieces; more = more; by = by }

-- ---- the choices of a schedule

take_next : (xs : List ℕ) (i : ℕ) → i < length xs → take (suc i) xs ≡ take i xs ++ slice_index xs i ∷ []
take_next [] i below = absurd (omega arith)
take_next (x ∷ xs) zero below = refl
take_next (x ∷ xs) (suc i) below = ap (λ (ys : List ℕ). x ∷ ys) (take_next xs i (omega arith))

pub take_more : (xs : List ℕ) (i : ℕ) → i < length xs → take (i + 1) xs ≡ take i xs ++ slice_index xs i ∷ []
take_more xs i below = ap (λ (n : ℕ). take n xs) (add-one i) ∙ take_next xs i below

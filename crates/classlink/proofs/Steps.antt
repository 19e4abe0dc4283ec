-- What each word of `run` does to the walk of `clap`, and how the walk ends.
use Rattle.std.proofs.Common.{◌≡◌, ◌∙◌, ◌==◌, not, Bool, true, false, List, [], ◌∷◌, ◌++◌, ℕ, codes, Option, Some, None, is_some, unwrap_or, refl, sym, ap, ap₂, fold, find}
use Rattle.std.specs.Option.{option_map_or}
use Rattle.std.specs.Str.{bytes_eq}
use Rattle.std.proofs.lemmas.List.{append_assoc, append-nil}
use Rattle.clap.specs.Faults.{built_fault, defaults_fault, check_fault, entered_fault, level_fault, settle_fault, step_fault, turn_fault, walk_fault, word_fault}
use Rattle.clap.specs.Kinds.{or_else}
use Rattle.clap.specs.Lexer.{long_of, short_of}
use Rattle.clap.specs.Simple.{Shape, built, entered, label_of, names_of, rows_at}
use Rattle.clap.specs.Walk.{Held, Names, Row, Rule, Step, Waiting, Walk, after_step, answers_to, arg_by_index, arg_by_long, finished, has_row, idle, nothing_held, option, plain_word, positional, reacted, settled, stop_after, to_positional, value, walk, walk_from, walked, word_met}
use Rattle.clap.specs.Words.{Kinds, Text}
use Rattle.clap.proofs.OnLiterals.{clap_on_literals}
use Rattle.classlink.specs.CommandLine.{is_plain_word, program, running}

-- ---- a word that is no flag

-- no test for a flag takes it for one
abbrev pub IsNoFlag : Text → Type 0
IsNoFlag word = (bytes_eq word (45 ∷ 45 ∷ []) ≡ false) × (long_of word ≡ None) × (short_of word ≡ None)

not_true : (b : Bool) → not b ≡ true → b ≡ false
not_true true e = cc
not_true false e = refl

pub no_flag : (path : Text) → is_plain_word path ≡ true → IsNoFlag path
no_flag [] p = (refl, refl, refl)
no_flag (c ∷ []) p = one (c == 45) refl
  where
    one : (b : Bool) → (c == 45) ≡ b → IsNoFlag (c ∷ [])
    one true t = rw t (refl, refl, refl)
    one false t = rw t (refl, refl, refl)
no_flag (c ∷ d ∷ rest) p = let t = not_true (c == 45) p in rw t (refl, refl, refl)

no_flag_met : (rules : List Rule) (h : Held) (at : ℕ) (word : Text) → IsNoFlag word → word_met rules [] false idle at word h ≡ (h, value)
no_flag_met rules h at word none = rw (none.0, none.1, none.2) refl

no_flag_kept : (rules : List Rule) (id : Text) (h : Held) (at : ℕ) (word : Text) → IsNoFlag word → word_met rules [] false (option id) at word h ≡ plain_word rules (option id) word h
no_flag_kept rules id h at word none = rw (none.0, none.1, none.2) refl

no_flag_passes : (s : Shape) (waiting : Waiting) (h : Held) (word : Text) → IsNoFlag word → word_fault s [] false waiting word h ≡ []
no_flag_passes s idle h word none = rw (none.0, none.1, none.2) refl
no_flag_passes s (option id) h word none = rw (none.0, none.1, none.2) refl
no_flag_passes s positional h word none = rw (none.0, none.1, none.2) refl

-- ---- the words of `run`, one by one

-- `run`, as `clap` builds it
abbrev pub run_built : Shape
run_built = unwrap_or (find (λ s. answers_to (codes "run") (label_of s)) (built program).subs) running.top

-- between two words
abbrev pub idle_at : Held → ℕ → Walk
idle_at h at = record { held = h; waiting = idle; position = at; is_trailing = false; stopped = None }

-- between two words, behind `--`
abbrev pub trailing_at : Held → ℕ → Walk
trailing_at h at = record { held = h; waiting = idle; position = at; is_trailing = true; stopped = None }

-- the words lead from here to there, and nothing is wrong with one
pub record Goes (w : Walk) (words : List Text) (v : Walk) : Type 0 where
  pub passes : walk_fault run_built [] w words ≡ []
  pub ends : fold (walked run_built.rules []) w words ≡ v

pub there : (w : Walk) → Goes w [] w
unfolding walk_fault
there w = record { passes = refl; ends = refl }

over : (w u v : Walk) (word : Text) (rest : List Text) → turn_fault run_built [] w word ≡ [] → walked run_built.rules [] w word ≡ u → Goes u rest v → Goes w (word ∷ rest) v
unfolding walk_fault
over w u v word rest none goes far = record {
  passes = ap₂ or_else none (ap (λ (x : Walk). walk_fault run_built [] x rest) goes ∙ far.passes);
  ends = ap (λ (x : Walk). fold (walked run_built.rules []) x rest) goes ∙ far.ends;
}

-- a path
pub over_path : (h : Held) (at : ℕ) (word : Text) (rest : List Text) (v : Walk) → IsNoFlag word → step_fault run_built at h value ≡ []
    → Goes (to_positional run_built.rules (arg_by_index run_built.rules at) word (idle_at h at) h) rest v → Goes (idle_at h at) (word ∷ rest) v
unfolding walked
over_path h at word rest v none passes far =
    let met = no_flag_met run_built.rules h at word none in
    over (idle_at h at) _ v word rest
    (ap₂ (λ (k : Kinds) (m : Held × Step). or_else k (step_fault run_built at m.0 m.1)) (no_flag_passes run_built idle h word none) met ∙ passes)
    (ap (λ (m : Held × Step). after_step run_built.rules word (idle_at h at) m.0 m.1) met)
    far

-- a path behind `--`
pub over_trailing : (h : Held) (at : ℕ) (word : Text) (rest : List Text) (v : Walk) → step_fault run_built at h value ≡ []
    → Goes (to_positional run_built.rules (arg_by_index run_built.rules at) word (trailing_at h at) h) rest v → Goes (trailing_at h at) (word ∷ rest) v
unfolding walked
over_trailing h at word rest v passes far = over (trailing_at h at) _ v word rest passes refl far

-- `--`
pub over_dashes : (h : Held) (at : ℕ) (rest : List Text) (v : Walk) → Goes (trailing_at h at) rest v → Goes (idle_at h at) (codes "--" ∷ rest) v
unfolding clap_on_literals
over_dashes h at rest v far = over (idle_at h at) _ v (codes "--") rest refl refl far

-- the count is the value that is read
abbrev pub with_count : Text → Held → Held
with_count text h = record (settled run_built.rules h) { pending = Some (codes "workers", text ∷ []) }

-- `--workers` and a count
pub over_count : (h : Held) (at : ℕ) (text : Text) (rest : List Text) (v : Walk) → IsNoFlag text → settle_fault run_built.rules false h ≡ []
    → Goes (idle_at (with_count text h) at) rest v → Goes (idle_at h at) (codes "--workers" ∷ text ∷ rest) v
unfolding clap_on_literals
over_count h at text rest v none passes far =
    let named : Held = record (settled run_built.rules h) { pending = Some (codes "workers", []) } in
    let waits : Walk = record { held = named; waiting = option (codes "workers"); position = at; is_trailing = false; stopped = None } in
    let met = no_flag_kept run_built.rules (codes "workers") named at text none in
    over (idle_at h at) waits v (codes "--workers") (text ∷ rest) (ap (λ (k : Kinds). or_else k []) passes) refl
    (over waits _ v text rest
    (ap₂ (λ (k : Kinds) (m : Held × Step). or_else k (step_fault run_built at m.0 m.1)) (no_flag_passes run_built (option (codes "workers")) named text none) met)
    (ap (λ (m : Held × Step). after_step run_built.rules text waits m.0 m.1) met)
    far)

-- the flag is seen
abbrev pub with_flag : Held → Held
with_flag h = option_map_or (λ a. reacted run_built.rules a [] h) (arg_by_long run_built.rules (codes "answers")) h

-- `--answers`
pub over_flag : (h : Held) (at : ℕ) (rest : List Text) (v : Walk) → settle_fault run_built.rules false h ≡ [] → has_row (codes "answers") (settled run_built.rules h).rows ≡ false
    → Goes (idle_at (with_flag h) at) rest v → Goes (idle_at h at) (codes "--answers" ∷ rest) v
unfolding clap_on_literals
over_flag h at rest v passes none far = over (idle_at h at) _ v (codes "--answers") rest (rw (passes, none) refl) refl far

-- ---- how `run` is entered

stays : (rules : List Rule) (names : Names) (w : Walk) (name : Text) (before words : List Text)
    → fold (walked rules names) (record w { stopped = Some (name, before) }) words ≡ record w { stopped = Some (name, before ++ words) }
unfolding walked
stays rules names w name before [] = ap (λ (ws : List Text). record w { stopped = Some (name, ws) }) (sym (append-nil before))
stays rules names w name before (word ∷ rest) =
    stays rules names w name (before ++ word ∷ []) rest ∙ ap (λ (ws : List Text). record w { stopped = Some (name, ws) }) (append_assoc before (word ∷ []) rest)

stays_right : (s : Shape) (names : Names) (w : Walk) (name : Text) (before words : List Text) → walk_fault s names (record w { stopped = Some (name, before) }) words ≡ []
unfolding walked walk_fault
stays_right s names w name before [] = refl
stays_right s names w name before (word ∷ rest) = stays_right s names w name (before ++ word ∷ []) rest

-- the walk that met `run`
abbrev entered_run : List Text → Walk
entered_run words = record (walk_from nothing_held) { stopped = Some (codes "run", words) }

meets : (words : List Text) → walk (built program).top.rules (names_of (built program)) nothing_held (codes "run" ∷ words) ≡ entered_run words
unfolding clap_on_literals
meets words = stays (built program).top.rules (names_of (built program)) (walk_from nothing_held) (codes "run") [] words

meets_right : (words : List Text) → walk_fault (built program).top (names_of (built program)) (walk_from nothing_held) (codes "run" ∷ words) ≡ []
unfolding clap_on_literals
meets_right words = stays_right (built program).top (names_of (built program)) (walk_from nothing_held) (codes "run") [] words

-- what is found in the words of `run`
pub enters : (words : List Text) → entered (built program) (stop_after (built program).top.rules (names_of (built program)) (codes "run" ∷ words)) ≡ Some (rows_at run_built words)
enters words = ap (λ (w : Walk). entered (built program) w.stopped) (meets words)

-- what is wrong at the end of the words of the program, by where its walk ends
abbrev wrong_from : Kinds → Walk → Kinds
wrong_from walked_wrong w =
    let top = (built program).top in
    or_else walked_wrong
    (or_else (entered_fault (built program) w.stopped) (or_else (settle_fault top.rules top.args_override_self w.held)
    (or_else (defaults_fault (settled top.rules w.held).rows top.rules)
    (check_fault top (finished top.rules w.held) (is_some (entered (built program) w.stopped))))))

enters_right : (words : List Text) → level_fault run_built [] nothing_held words false [] ≡ [] → built_fault (built program) nothing_held (codes "run" ∷ words) ≡ []
unfolding defaults_fault
enters_right words none = ap₂ wrong_from (meets_right words) (meets words) ∙ ap (λ (k : Kinds). or_else k []) none

-- ---- how its words end

-- what is wrong at their end
abbrev pub wrong_at_end : Held → Kinds
wrong_at_end h =
    or_else (settle_fault run_built.rules false h) (or_else (defaults_fault (settled run_built.rules h).rows run_built.rules) (check_fault run_built (finished run_built.rules h) false))

pub passes_to : (words : List Text) (v : Walk) → Goes (idle_at nothing_held 1) words v → wrong_at_end v.held ≡ [] → built_fault (built program) nothing_held (codes "run" ∷ words) ≡ []
passes_to words v goes right = enters_right words (ap₂ (λ (k : Kinds) (w : Walk). or_else k (wrong_at_end w.held)) goes.passes goes.ends ∙ right)

pub finds_at : (words : List Text) (v : Walk) → Goes (idle_at nothing_held 1) words v
    → entered (built program) (stop_after (built program).top.rules (names_of (built program)) (codes "run" ∷ words)) ≡ Some (codes "run", finished run_built.rules v.held)
finds_at words v goes = enters words ∙ ap (λ (w : Walk). let e : Option (Text × List Row) = Some (codes "run", finished run_built.rules w.held) in e) goes.ends

-- Words of `run` in which the options stand among the paths in any order.
use Rattle.std.proofs.Common.{◌≡◌, ◌∙◌, ◌&&◌, ◌||◌, ◌⊎◌, inl, inr, if◌then◌else◌, Bool, true, false, List, [], ◌∷◌, ◌++◌, suc, length, codes, Option, Some, None, option_map, unwrap_or, refl, sym, ap, ap₂, subst, slice_get, drop}
use Rattle.std.specs.Option.{option_or}
use Rattle.std.proofs.lemmas.List.{append_assoc, append-nil}
use Rattle.clap.specs.Faults.{check_fault, default_fault, defaults_fault, given_default_fault, settle_fault, step_fault}
use Rattle.clap.specs.Kinds.{or_else}
use Rattle.clap.specs.ValueTests.{accepts}
use Rattle.clap.specs.Walk.{Held, Row, Rule, Walk, arg_by_id, arg_by_index, finished, has_row, is_empty, is_pending, nothing_held, reading_by, settled, to_positional, value, with_default}
use Rattle.clap.specs.Words.{Kinds, Text, new_rule}
use Rattle.clap.specs.declared.builder.value_parser.ValueParser.TheVariants.{Unsigned}
use Rattle.clap.specs.declared.parser.matches.ValueSource.TheVariants.{CommandLine, DefaultValue}
use Rattle.classlink.specs.CommandLine.{Answers, AreWordsOf, Dashes, End, Path, Workers}
use Rattle.cl_pool.specs.declared.limits.TheConstants.{MOST_WORKERS}
use Rattle.classlink.proofs.Rows.{default_added, default_left, gets_first_row, has_its, keeps, look, new_row, no_default, no_row}
use Rattle.classlink.proofs.Steps.{Goes, IsNoFlag, idle_at, run_built, no_flag, over_count, over_dashes, over_flag, over_path, over_trailing, there, trailing_at, with_count, with_flag, wrong_at_end}

-- an argument of `run`, by its name
abbrev rule_at : Text → Rule
rule_at id = unwrap_or (arg_by_id run_built.rules id) (new_rule id)

-- the row that words give it
abbrev word_row : Text → List Text → Row
word_row id values = new_row id (reading_by (rule_at id)) CommandLine values

-- the rows after some paths, a count or none, and the flag or not
pub record HasRows (paths : List Text) (count : Option Text) (only_answers : Bool) (rows : List Row) : Type 0 where
  pub config : look (codes "CONFIG") rows ≡ option_map (λ path. word_row (codes "CONFIG") (path ∷ [])) (slice_get paths 0)
  pub script : look (codes "SCRIPT") rows ≡ option_map (λ path. word_row (codes "SCRIPT") (path ∷ [])) (slice_get paths 1)
  pub workers : look (codes "workers") rows ≡ option_map (λ text. word_row (codes "workers") (text ∷ [])) count
  pub answers : look (codes "answers") rows ≡ (if only_answers then Some (word_row (codes "answers") (codes "true" ∷ [])) else None)

-- what is held after them
pub record Seen (paths : List Text) (count : Option Text) (only_answers : Bool) (h : Held) : Type 0 where
  pub settles : settle_fault run_built.rules false h ≡ []
  pub rows : HasRows paths count only_answers (settled run_built.rules h).rows

nothing_seen : Seen [] None false nothing_held
nothing_seen = record { settles = refl; rows = record { config = refl; script = refl; workers = refl; answers = refl } }

-- a path is the value that is read
abbrev with_path : Text → Text → Held → Held
with_path id path h = record (settled run_built.rules h) { pending = Some (id, path ∷ []) }

unneeded : (b : Bool) → (b && false) ≡ false
unneeded true = refl
unneeded false = refl

-- ---- one more path or option

seen_config : (count : Option Text) (b : Bool) (h : Held) (path : Text) → Seen [] count b h → Seen (path ∷ []) count b (with_path (codes "CONFIG") path h)
seen_config count b h path seen =
    let rows = (settled run_built.rules h).rows in
    let row = word_row (codes "CONFIG") (path ∷ []) in
    let added = gets_first_row (codes "CONFIG") (reading_by (rule_at (codes "CONFIG"))) CommandLine (path ∷ []) rows seen.rows.config in
    record {
      settles = rw (no_row (codes "CONFIG") rows seen.rows.config) refl;
      rows = subst (HasRows (path ∷ []) count b) (sym added) (record {
        config = has_its (codes "CONFIG") rows row refl seen.rows.config;
        script = keeps (codes "SCRIPT") rows row refl ∙ seen.rows.script;
        workers = keeps (codes "workers") rows row refl ∙ seen.rows.workers;
        answers = keeps (codes "answers") rows row refl ∙ seen.rows.answers;
      });
    }

seen_script : (count : Option Text) (b : Bool) (h : Held) (config path : Text) → Seen (config ∷ []) count b h → Seen (config ∷ path ∷ []) count b (with_path (codes "SCRIPT") path h)
seen_script count b h config path seen =
    let rows = (settled run_built.rules h).rows in
    let row = word_row (codes "SCRIPT") (path ∷ []) in
    let added = gets_first_row (codes "SCRIPT") (reading_by (rule_at (codes "SCRIPT"))) CommandLine (path ∷ []) rows seen.rows.script in
    record {
      settles = rw (no_row (codes "SCRIPT") rows seen.rows.script) refl;
      rows = subst (HasRows (config ∷ path ∷ []) count b) (sym added) (record {
        config = keeps (codes "CONFIG") rows row refl ∙ seen.rows.config;
        script = has_its (codes "SCRIPT") rows row refl seen.rows.script;
        workers = keeps (codes "workers") rows row refl ∙ seen.rows.workers;
        answers = keeps (codes "answers") rows row refl ∙ seen.rows.answers;
      });
    }

seen_count : (paths : List Text) (b : Bool) (h : Held) (text : Text) → accepts false (Unsigned 1 MOST_WORKERS) text ≡ true → Seen paths None b h → Seen paths (Some text) b (with_count text h)
seen_count paths b h text passes seen =
    let rows = (settled run_built.rules h).rows in
    let row = word_row (codes "workers") (text ∷ []) in
    let added = gets_first_row (codes "workers") (reading_by (rule_at (codes "workers"))) CommandLine (text ∷ []) rows seen.rows.workers in
    record {
      settles = rw (no_row (codes "workers") rows seen.rows.workers, passes) refl;
      rows = subst (HasRows paths (Some text) b) (sym added) (record {
        config = keeps (codes "CONFIG") rows row refl ∙ seen.rows.config;
        script = keeps (codes "SCRIPT") rows row refl ∙ seen.rows.script;
        workers = has_its (codes "workers") rows row refl seen.rows.workers;
        answers = keeps (codes "answers") rows row refl ∙ seen.rows.answers;
      });
    }

seen_flag : (paths : List Text) (count : Option Text) (h : Held) → Seen paths count false h → Seen paths count true (with_flag h)
seen_flag paths count h seen =
    let rows = (settled run_built.rules h).rows in
    let row = word_row (codes "answers") (codes "true" ∷ []) in
    let added = gets_first_row (codes "answers") (reading_by (rule_at (codes "answers"))) CommandLine (codes "true" ∷ []) rows seen.rows.answers in
    record {
      settles = refl;
      rows = subst (HasRows paths count true) (sym added) (record {
        config = keeps (codes "CONFIG") rows row refl ∙ seen.rows.config;
        script = keeps (codes "SCRIPT") rows row refl ∙ seen.rows.script;
        workers = keeps (codes "workers") rows row refl ∙ seen.rows.workers;
        answers = has_its (codes "answers") rows row refl seen.rows.answers;
      });
    }

-- ---- from word to word

none_if : (b : Bool) (k : Kinds) → k ≡ [] → (if b then [] else k) ≡ []
none_if true k none = refl
none_if false k none = none

config_passes : (h : Held) → settle_fault run_built.rules false h ≡ [] → step_fault run_built 1 h value ≡ []
config_passes h none = none_if _ _ none

script_passes : (h : Held) → settle_fault run_built.rules false h ≡ [] → step_fault run_built 2 h value ≡ []
script_passes h none = none_if _ _ none

config_idle : (word : Text) (h : Held) → to_positional run_built.rules (arg_by_index run_built.rules 1) word (idle_at h 1) h ≡ idle_at (with_path (codes "CONFIG") word h) 2
config_idle word h = rw (unneeded (is_pending (rule_at (codes "CONFIG")) h.pending)) refl

config_trailing : (word : Text) (h : Held) → to_positional run_built.rules (arg_by_index run_built.rules 1) word (trailing_at h 1) h ≡ trailing_at (with_path (codes "CONFIG") word h) 2
config_trailing word h = rw (unneeded (is_pending (rule_at (codes "CONFIG")) h.pending)) refl

script_idle : (word : Text) (h : Held) → to_positional run_built.rules (arg_by_index run_built.rules 2) word (idle_at h 2) h ≡ idle_at (with_path (codes "SCRIPT") word h) 3
script_idle word h = rw (unneeded (is_pending (rule_at (codes "SCRIPT")) h.pending)) refl

script_trailing : (word : Text) (h : Held) → to_positional run_built.rules (arg_by_index run_built.rules 2) word (trailing_at h 2) h ≡ trailing_at (with_path (codes "SCRIPT") word h) 3
script_trailing word h = rw (unneeded (is_pending (rule_at (codes "SCRIPT")) h.pending)) refl

-- one more path is taken
record Takes (paths : List Text) (path : Text) (count : Option Text) (b : Bool) (h : Held) : Type 0 where
  pub next : Held
  pub seen : Seen (paths ++ path ∷ []) count b next
  pub plain : IsNoFlag path → (rest : List Text) (v : Walk) → Goes (idle_at next (suc (length (paths ++ path ∷ [])))) rest v → Goes (idle_at h (suc (length paths))) (path ∷ rest) v
  pub behind : (rest : List Text) (v : Walk) → Goes (trailing_at next (suc (length (paths ++ path ∷ [])))) rest v → Goes (trailing_at h (suc (length paths))) (path ∷ rest) v

no_third : (zs : List Text) (path : Text) (left : List Text) → zs ++ path ∷ left ≡ [] → ⊥
no_third [] path left e = cc
no_third (z ∷ zs) path left e = cc

takes : (paths : List Text) (path : Text) (left : List Text) (config script : Text) (count : Option Text) (b : Bool) (h : Held) → paths ++ path ∷ left ≡ config ∷ script ∷ [] → Seen paths count b h
    → Takes paths path count b h
takes [] path left config script count b h e seen = record {
  next = with_path (codes "CONFIG") path h;
  seen = seen_config count b h path seen;
  plain = λ none rest v far. over_path h 1 path rest v none (config_passes h seen.settles) (subst (λ (w : Walk). Goes w rest v) (sym (config_idle path h)) far);
  behind = λ rest v far. over_trailing h 1 path rest v (config_passes h seen.settles) (subst (λ (w : Walk). Goes w rest v) (sym (config_trailing path h)) far);
}
takes (first ∷ []) path left config script count b h e seen = record {
  next = with_path (codes "SCRIPT") path h;
  seen = seen_script count b h first path seen;
  plain = λ none rest v far. over_path h 2 path rest v none (script_passes h seen.settles) (subst (λ (w : Walk). Goes w rest v) (sym (script_idle path h)) far);
  behind = λ rest v far. over_trailing h 2 path rest v (script_passes h seen.settles) (subst (λ (w : Walk). Goes w rest v) (sym (script_trailing path h)) far);
}
takes (x ∷ y ∷ zs) path left config script count b h e seen = absurd (no_third zs path left (ap (drop 2) e))

-- the words lead on until both paths and all options were seen
pub record Ends (config script : Text) (count : Option Text) (b : Bool) (w : Walk) (words : List Text) : Type 0 where
  pub at : Walk
  pub goes : Goes w words at
  pub seen : Seen (config ∷ script ∷ []) count b at.held

-- the paths that are left stand behind `--`
trails : (left paths : List Text) (count : Option Text) (b : Bool) (h : Held) (config script : Text) → paths ++ left ≡ config ∷ script ∷ [] → Seen paths count b h
    → Ends config script count b (trailing_at h (suc (length paths))) left
trails [] paths count b h config script e seen =
    record { at = _; goes = there _; seen = subst (λ (ps : List Text). Seen ps count b h) (sym (append-nil paths) ∙ e) seen }
trails (path ∷ left) paths count b h config script e seen =
    let step = takes paths path left config script count b h e seen in
    let far = trails left (paths ++ path ∷ []) count b step.next config script (append_assoc paths (path ∷ []) left ∙ e) step.seen in
    record { at = far.at; goes = step.behind left far.at far.goes; seen = far.seen }

-- the count, where there is one, is no flag and passes its test
abbrev pub IsCountWord : Text → Type 0
IsCountWord text = IsNoFlag text × (accepts false (Unsigned 1 MOST_WORKERS) text ≡ true)

abbrev pub PassesCount : Option Text → Type 0
PassesCount None = Unit {0}
PassesCount (Some text) = IsCountWord text

-- ---- from the first word to the last

or_nothing : (o : Option Text) → o ≡ option_or o None
or_nothing None = refl
or_nothing (Some t) = refl

or_false : (b : Bool) → b ≡ (b || false)
or_false true = refl
or_false false = refl

not_flagged : (b : Bool) → (b && true) ≡ false → b ≡ false
not_flagged true e = cc
not_flagged false e = refl

some_is_none : (text : Text) → Some text ≡ None → ⊥
some_is_none text e = cc

-- the words behind have no option
nothing_more : (count : Option Text) (b : Bool) (config script : Text) (w : Walk) (words : List Text) → Ends config script count b w words
    → Ends config script (option_or count None) (b || false) w words
nothing_more count b config script w words ends =
    subst (λ (x : Bool). Ends config script (option_or count None) x w words) (or_false b) (subst (λ (o : Option Text). Ends config script o b w words) (or_nothing count) ends)

-- of the words that are left, by what those before them had: no option stands twice
leads : {left : List Text} {count : Option Text} {b : Bool} {words : List Text} → AreWordsOf left count b words → (paths : List Text) (before : Option Text) (flagged : Bool) (h : Held) (config script : Text)
    → paths ++ left ≡ config ∷ script ∷ [] → PassesCount count → (before ≡ None) ⊎ (count ≡ None) → (flagged && b) ≡ false → Seen paths before flagged h
    → Ends config script (option_or before count) (flagged || b) (idle_at h (suc (length paths))) words
leads End paths before flagged h config script e p apart f seen =
    nothing_more before flagged config script _ _ (record { at = _; goes = there _; seen = subst (λ (ps : List Text). Seen ps before flagged h) (sym (append-nil paths) ∙ e) seen })
leads (Path path plain rest) paths before flagged h config script e p apart f seen =
    let step = takes paths path _ config script before flagged h e seen in
    let far = leads rest (paths ++ path ∷ []) before flagged step.next config script (append_assoc paths (path ∷ []) _ ∙ e) p apart f step.seen in
    record { at = far.at; goes = step.plain (no_flag path plain) _ far.at far.goes; seen = far.seen }
leads (Workers {only_answers = b} {words = ws} text rest) paths before flagged h config script e p (inl none) f seen =
    let far = leads rest paths (Some text) flagged (with_count text h) config script e tt (inr refl) f (seen_count paths flagged h text p.1 (subst (λ (o : Option Text). Seen paths o flagged h) none seen)) in
    subst (λ (o : Option Text). Ends config script (option_or o (Some text)) (flagged || b) (idle_at h (suc (length paths))) (codes "--workers" ∷ text ∷ ws)) (sym none)
    (record { at = far.at; goes = over_count h _ text _ far.at p.0 seen.settles far.goes; seen = far.seen })
leads (Workers text rest) paths before flagged h config script e p (inr none) f seen = absurd (some_is_none text none)
leads (Answers {count = count} {words = ws} rest) paths before flagged h config script e p apart f seen =
    let none = not_flagged flagged f in
    let clear = subst (λ (x : Bool). Seen paths before x h) none seen in
    let far = leads rest paths before true (with_flag h) config script e p apart refl (seen_flag paths before h clear) in
    subst (λ (x : Bool). Ends config script (option_or before count) (x || true) (idle_at h (suc (length paths))) (codes "--answers" ∷ ws)) (sym none)
    (record { at = far.at; goes = over_flag h _ _ far.at seen.settles (no_row (codes "answers") (settled run_built.rules h).rows clear.rows.answers) far.goes; seen = far.seen })
leads (Dashes left) paths before flagged h config script e p apart f seen =
    let far = trails left paths before flagged h config script e seen in
    nothing_more before flagged config script _ _ (record { at = far.at; goes = over_dashes h _ left far.at far.goes; seen = far.seen })

-- the words of `run`
pub leads_on : {config script : Text} {count : Option Text} {b : Bool} {words : List Text} → AreWordsOf (config ∷ script ∷ []) count b words → PassesCount count
    → Ends config script count b (idle_at nothing_held 1) words
leads_on {config = config} {script = script} spelled p = leads spelled [] None false nothing_held config script refl p (inl refl) refl nothing_seen

-- ---- the end

or_true : (b : Bool) → (b || true) ≡ true
or_true true = refl
or_true false = refl

help_left : (rows : List Row) → default_fault rows (rule_at (codes "help")) ≡ []
help_left rows = ap (λ (b : Bool). if b then [] else given_default_fault (rule_at (codes "help")) []) (or_true (has_row (codes "help") rows))

default_right : (rows : List Row) (a : Rule) → given_default_fault a a.defaults ≡ [] → default_fault rows a ≡ []
default_right rows a none = none_if (has_row a.id rows || is_empty a.defaults) _ none

defaults_pass : (rows : List Row) → defaults_fault rows run_built.rules ≡ []
unfolding defaults_fault
defaults_pass rows =
    let config = with_default rows (rule_at (codes "CONFIG")) in
    let script = with_default config (rule_at (codes "SCRIPT")) in
    let workers = with_default script (rule_at (codes "workers")) in
    let answers = with_default workers (rule_at (codes "answers")) in
    ap₂ or_else (default_right rows (rule_at (codes "CONFIG")) refl) (ap₂ or_else (default_right config (rule_at (codes "SCRIPT")) refl)
    (ap₂ or_else (default_right script (rule_at (codes "workers")) refl) (ap₂ or_else (default_right workers (rule_at (codes "answers")) refl) (ap₂ or_else (help_left answers) refl))))

-- what stands in the row of an option, or of its default
abbrev pub workers_row : Option Text → Row
workers_row None = new_row (codes "workers") (reading_by (rule_at (codes "workers"))) DefaultValue (codes "1" ∷ [])
workers_row (Some text) = word_row (codes "workers") (text ∷ [])

abbrev pub answers_row : Bool → Row
answers_row false = new_row (codes "answers") (reading_by (rule_at (codes "answers"))) DefaultValue (codes "false" ∷ [])
answers_row true = word_row (codes "answers") (codes "true" ∷ [])

-- the rows with every default
pub record AreFull (c s : Text) (count : Option Text) (b : Bool) (rows : List Row) : Type 0 where
  pub config : look (codes "CONFIG") rows ≡ Some (word_row (codes "CONFIG") (c ∷ []))
  pub script : look (codes "SCRIPT") rows ≡ Some (word_row (codes "SCRIPT") (s ∷ []))
  pub workers : look (codes "workers") rows ≡ Some (workers_row count)
  pub answers : look (codes "answers") rows ≡ Some (answers_row b)

with_answers : (config script : Text) (count : Option Text) (b : Bool) (rows : List Row) → look (codes "CONFIG") rows ≡ Some (word_row (codes "CONFIG") (config ∷ []))
    → look (codes "SCRIPT") rows ≡ Some (word_row (codes "SCRIPT") (script ∷ [])) → look (codes "workers") rows ≡ Some (workers_row count)
    → look (codes "answers") rows ≡ (if b then Some (word_row (codes "answers") (codes "true" ∷ [])) else None) → AreFull config script count b (with_default rows (rule_at (codes "answers")))
with_answers config script count true rows c s w a =
    subst (AreFull config script count true) (sym (default_left (rule_at (codes "answers")) rows _ a)) (record { config = c; script = s; workers = w; answers = a })
with_answers config script count false rows c s w a =
    let row = answers_row false in
    subst (AreFull config script count false) (sym (default_added (rule_at (codes "answers")) rows (codes "false") refl a)) (record {
      config = keeps (codes "CONFIG") rows row refl ∙ c;
      script = keeps (codes "SCRIPT") rows row refl ∙ s;
      workers = keeps (codes "workers") rows row refl ∙ w;
      answers = has_its (codes "answers") rows row refl a;
    })

with_both : (config script : Text) (count : Option Text) (b : Bool) (rows : List Row) → HasRows (config ∷ script ∷ []) count b rows
    → AreFull config script count b (with_default (with_default rows (rule_at (codes "workers"))) (rule_at (codes "answers")))
with_both config script (Some text) b rows has =
    subst (λ (rs : List Row). AreFull config script (Some text) b (with_default rs (rule_at (codes "answers")))) (sym (default_left (rule_at (codes "workers")) rows _ has.workers))
    (with_answers config script (Some text) b rows has.config has.script has.workers has.answers)
with_both config script None b rows has =
    let row = workers_row None in
    subst (λ (rs : List Row). AreFull config script None b (with_default rs (rule_at (codes "answers")))) (sym (default_added (rule_at (codes "workers")) rows (codes "1") refl has.workers))
    (with_answers config script None b (rows ++ row ∷ []) (keeps (codes "CONFIG") rows row refl ∙ has.config) (keeps (codes "SCRIPT") rows row refl ∙ has.script)
    (has_its (codes "workers") rows row refl has.workers) (keeps (codes "answers") rows row refl ∙ has.answers))

pub full_at_end : (config script : Text) (count : Option Text) (b : Bool) (h : Held) → Seen (config ∷ script ∷ []) count b h → AreFull config script count b (finished run_built.rules h)
full_at_end config script count b h seen =
    let rows = (settled run_built.rules h).rows in
    let d : Text → List Row → List Row = λ id rs. with_default rs (rule_at id) in
    let is : finished run_built.rules h ≡ d (codes "answers") (d (codes "workers") rows) =
    ap (λ (rs : List Row). d (codes "help") (d (codes "answers") (d (codes "workers") (d (codes "SCRIPT") rs)))) (no_default (rule_at (codes "CONFIG")) rows refl)
    ∙ ap (λ (rs : List Row). d (codes "help") (d (codes "answers") (d (codes "workers") rs))) (no_default (rule_at (codes "SCRIPT")) rows refl)
    ∙ no_default (rule_at (codes "help")) (d (codes "answers") (d (codes "workers") rows)) refl in
    subst (AreFull config script count b) (sym is) (with_both config script count b rows seen.rows)

check_passes : (config script : Text) (count : Option Text) (b : Bool) (rows : List Row) → AreFull config script count b rows → check_fault run_built rows false ≡ []
check_passes config script count b rows full = rw (full.config, full.script) refl

pub right_at_end : (config script : Text) (count : Option Text) (b : Bool) (h : Held) → Seen (config ∷ script ∷ []) count b h → wrong_at_end h ≡ []
right_at_end config script count b h seen =
    ap₂ or_else seen.settles (ap₂ or_else (defaults_pass (settled run_built.rules h).rows) (check_passes config script count b (finished run_built.rules h) (full_at_end config script count b h seen)))

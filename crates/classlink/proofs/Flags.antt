-- What `clap` makes of the words that ask for a report or for a class file's lines.
use Rattle.std.proofs.Common.{◌≡◌, ◌∙◌, ◌==◌, ◌<◌, ℕ, Bool, true, false, not, List, [], ◌∷◌, codes, drop, Option, Some, None, option_map, option_and_then, slice_get, unwrap_or, Result, Ok, Err, IsErrAnd, IfErr, MatchResult, inl, inr, refl, sym, ap, subst, arith}
use Rattle.std.specs.Borrow.{Bor}
use Rattle.std.specs.Prelude.{Box}
use Rattle.std.specs.Box.{box_value}
use Rattle.std.specs.Str.Parse.{ExplainsUnsignedError, HasUnsignedDigitsIfOk, IsNumeral, ParsesUnsigned, without_leading_plus}
use Rattle.std.proofs.lemmas.Bool.{eqb-true}
use Rattle.clap.specs.Faults.{built_fault}
use Rattle.clap.specs.Matches.{ReadsOne, first_value, one_text}
use Rattle.clap.specs.Simple.{built, entered, names_of}
use Rattle.clap.specs.Values.{bool_text}
use Rattle.clap.specs.declared.builder.value_parser.ValueParser.TheVariants.{Unsigned}
use Rattle.clap.specs.Walk.{nothing_held, row_text, stop_after}
use Rattle.clap.specs.Words.{App, FailsBy, HasMatchesOf, Row, Text, fault_of, first_of, is_simple, is_simple_and_free, HasKind, Kinds, kind_of, one_of, rows_of, subcommand_name_of, subcommand_of, subcommand_rows, subcommand_rows_of}
use Rattle.clap.specs.declared.error.Error.{Error}
use Rattle.clap.specs.declared.error.kind.ErrorKind.TheVariants.{OutOfMemory}
use Rattle.clap.specs.declared.parser.matches.ArgMatches.{ArgMatches}
use Rattle.clap.specs.declared.parser.matches.ArgMatches.TheViews.{out-ArgMatches, out-SubCommand}
use Rattle.clap.specs.declared.parser.matches.Found.{Found}
use Rattle.clap.specs.declared.parser.matches.SubCommand.{SubCommand}
use Rattle.clap.proofs.OnLiterals.{clap_on_literals}
use Rattle.clap.proofs.ValueTestLemmas.{Accepts-accepts}
use Rattle.clap.proofs.WalkLemmas.{first_value-rows, one_text-rows}
use Rattle.cl_program.specs.Asking.{AsksForBundle, AsksForFile, AsksForRun, Wanted, wanted_of}
use Rattle.cl_program.specs.declared.asked.Asked.{Asked}
use Rattle.cl_program.specs.declared.asked.Asked.TheVariants.{Bundle, Read, Run}
use Rattle.cl_program.specs.declared.asked.Options.{Options}
use Rattle.classlink.specs.CommandLine.{Answers, AreOptions, AreWordsOf, AskFor, AskToRead, AskToRun, Dashes, End, HasFlag, HasOptions, CommandAsks, IsCount, IsCountOf, CommandIsNamed, IsToRead, IsToRun, Workers, file_to_read, is_plain_word, named_file, program, wrong_words, argument_text}
use Rattle.classlink.proofs.Orders.{AreFull, Ends, PassesCount, answers_row, full_at_end, leads_on, right_at_end, workers_row}
use Rattle.classlink.proofs.Steps.{IsNoFlag, finds_at, idle_at, no_flag, passes_to}
use Rattle.cl_pool.specs.declared.limits.TheConstants.{MOST_WORKERS}

-- ---- the program's command on its words

is_simple_program : is_simple program ≡ true
unfolding clap_on_literals
is_simple_program = refl

is_free_program : is_simple_and_free program ≡ true
unfolding clap_on_literals
is_free_program = refl

-- how a parse of the words ends
pub ends_by : (a : App) (words : List Text) (r : Result ArgMatches Error) → a ≡ program → (is_simple_and_free a ≡ true → FailsBy (fault_of a words) r) → FailsBy (wrong_words words) r
unfolding wrong_words
ends_by a words r is kinds = subst (λ (b : App). FailsBy (fault_of b words) r) is (kinds (ap is_simple_and_free is ∙ is_free_program))

-- ---- a count of workers among the words

-- a numeral does not begin with a hyphen
numeral_plain : (text : Text) → IsNumeral 10 (without_leading_plus text) → is_plain_word text ≡ true
numeral_plain [] h = refl
numeral_plain (c ∷ []) h = refl
numeral_plain (c ∷ d ∷ rest) h = by (c == 45) refl
  where
    by : (b : Bool) → (c == 45) ≡ b → not (c == 45) ≡ true
    by false e = rw e refl
    by true e =
        let digits = subst (λ (x : ℕ). IsNumeral 10 (without_leading_plus (x ∷ d ∷ rest))) (eqb-true _ _ e) h in
        let bad : 36 < 10 = digits.1.0 in
        absurd (omega arith)

passes_count : (count : Option Text) (n : ℕ) → IsCountOf count n → PassesCount count
passes_count None n is = tt
passes_count (Some text) n is = (no_flag text (numeral_plain text is.is_in.0), Accepts-accepts false (Unsigned 1 MOST_WORKERS) text is.is_in)

-- what is found for the option
abbrev count_text : Option Text → Text
count_text None = codes "1"
count_text (Some text) = text

one_is : IsCount (codes "1") 1
one_is = record { is_in = ((omega arith, (omega arith, tt)), omega arith, omega arith, omega arith); value = refl }

spells_count : (count : Option Text) (n : ℕ) → IsCountOf count n → IsCount (count_text count) n
spells_count None n is = subst (IsCount (codes "1")) (sym is) one_is
spells_count (Some text) n is = is

-- ---- the words of a bundle's report

abbrev Passes : List Text → Type 0
Passes words = built_fault (built program) nothing_held words ≡ []

abbrev entered_at : List Text → Option (Text × List Row)
entered_at words = entered (built program) (stop_after (built program).top.rules (names_of (built program)) words)

-- what is found for the options
abbrev HasTexts : Option Text → Bool → Option (Text × List Row) → Type 0
HasTexts count answers entered = HasFlag entered answers × (argument_text entered (codes "workers") ≡ Some (count_text count))

-- the words of `bundle` pass, and the options are found in them
abbrev IsBundle : Option Text → Bool → List Text → Type 0
IsBundle count answers words = Passes words × HasTexts count answers (entered_at words) × CommandIsNamed (codes "bundle") (entered_at words)

bundle_at : {count : Option Text} {answers : Bool} {rest : List Text} → AreWordsOf [] count answers rest → PassesCount count → IsBundle count answers (codes "bundle" ∷ rest)
unfolding clap_on_literals
bundle_at End p = (refl, (refl, refl), refl)
bundle_at (Dashes none) p = (refl, (refl, refl), refl)
bundle_at (Answers End) p = (refl, (refl, refl), refl)
bundle_at (Answers (Dashes none)) p = (refl, (refl, refl), refl)
bundle_at (Answers (Workers text End)) p = (rw (p.0.0, p.0.1, p.0.2, p.1) refl, rw (p.0.0, p.0.1, p.0.2) (refl, refl), refl)
bundle_at (Answers (Workers text (Dashes none))) p = (rw (p.0.0, p.0.1, p.0.2, p.1) refl, rw (p.0.0, p.0.1, p.0.2) (refl, refl), refl)
bundle_at (Workers text End) p = (rw (p.0.0, p.0.1, p.0.2, p.1) refl, rw (p.0.0, p.0.1, p.0.2) (refl, refl), refl)
bundle_at (Workers text (Dashes none)) p = (rw (p.0.0, p.0.1, p.0.2, p.1) refl, rw (p.0.0, p.0.1, p.0.2) (refl, refl), refl)
bundle_at (Workers text (Answers End)) p = (rw (p.0.0, p.0.1, p.0.2, p.1) refl, rw (p.0.0, p.0.1, p.0.2) (refl, refl), refl)
bundle_at (Workers text (Answers (Dashes none))) p = (rw (p.0.0, p.0.1, p.0.2, p.1) refl, rw (p.0.0, p.0.1, p.0.2) (refl, refl), refl)

bundle_found : (words : List Text) (o : Options) (ask : AskFor words o) → IsBundle ask.count o.answers (drop 1 words)
bundle_found words o ask = subst (IsBundle ask.count o.answers) (sym ask.are) (bundle_at ask.spelled (passes_count ask.count o.workers ask.counts))

pub takes_words : (words : List Text) (o : Options) → AskFor words o → wrong_words words ≡ []
unfolding wrong_words
takes_words words o ask = (bundle_found words o ask).0

same_options : (a b : Options) → a.workers ≡ b.workers → a.answers ≡ b.answers → a ≡ b
same_options a b w f =
    let by_workers : a ≡ record { workers = b.workers; answers = a.answers } = ap (λ (x : ℕ). let o : Options = record { workers = x; answers = a.answers } in o) w in
    by_workers ∙ ap (λ (x : Bool). let o : Options = record { workers = b.workers; answers = x } in o) f

-- the options that were found are those that the words have
options_are : (count : Option Text) (words : List Text) (o given : Options) → IsCountOf count o.workers → HasTexts count o.answers (entered_at words) → HasOptions (entered_at words) given → given ≡ o
options_are count words o given is found has =
    same_options given o (has.workers (count_text count) o.workers found.1 (spells_count count o.workers is)) (has.answers o.answers found.0)

-- ---- a path among the words

abbrev Finds : Text → List Text → Type 0
Finds path words = IsToRead (entered_at words) × (file_to_read (entered_at words) ≡ path)

abbrev to_read : Text → List Text
to_read path = codes "read" ∷ path ∷ []

abbrev to_read_behind : Text → List Text
to_read_behind path = codes "read" ∷ codes "--" ∷ path ∷ []

plain_passes : (path : Text) → IsNoFlag path → Passes (to_read path)
unfolding clap_on_literals
plain_passes path none = rw (none.0, none.1, none.2) refl

plain_found : (path : Text) → IsNoFlag path → Finds path (to_read path)
unfolding clap_on_literals
plain_found path none = rw (none.0, none.1, none.2) (refl, refl)

behind_passes : (path : Text) → Passes (to_read_behind path)
unfolding clap_on_literals
behind_passes path = refl

behind_found : (path : Text) → Finds path (to_read_behind path)
unfolding clap_on_literals
behind_found path = (refl, refl)

pub takes_path : (words : List Text) (path : Text) → AskToRead words path → wrong_words words ≡ []
unfolding wrong_words
takes_path words path (inl p) = ap (built_fault (built program) nothing_held) p.0 ∙ plain_passes path (no_flag path p.1)
takes_path words path (inr p) = ap (built_fault (built program) nothing_held) p ∙ behind_passes path

found_path : (words : List Text) (path : Text) → AskToRead words path → Finds path (drop 1 words)
found_path words path (inl p) = subst (Finds path) (sym p.0) (plain_found path (no_flag path p.1))
found_path words path (inr p) = subst (Finds path) (sym p) (behind_found path)

-- ---- a script's run among the words

-- this run is what is found
abbrev IsRunIn : Wanted → Option Text → Option (Text × List Row) → Type 0
IsRunIn w count entered =
    IsToRun entered × (named_file (codes "CONFIG") entered ≡ w.config) × (named_file (codes "SCRIPT") entered ≡ w.script) × HasTexts count w.options.answers entered

-- the words of `run` pass, and the run is found in them
abbrev IsRunAt : Wanted → Option Text → List Text → Type 0
IsRunAt w count words = Passes words × IsRunIn w count (entered_at words)

text_of_count : (count : Option Text) → row_text (workers_row count) ≡ Some (count_text count)
text_of_count None = refl
text_of_count (Some text) = refl

text_of_flag : (answers : Bool) → row_text (answers_row answers) ≡ Some (bool_text answers)
text_of_flag false = refl
text_of_flag true = refl

run_in : (w : Wanted) (count : Option Text) (rows : List Row) → AreFull w.config w.script count w.options.answers rows → IsRunIn w count (Some (codes "run", rows))
run_in w count rows full =
    let first : Option Row → Text = λ row. unwrap_or (option_and_then (λ r. slice_get r.values 0) row) [] in
    (refl, ap first full.config, ap first full.script, (ap (option_and_then row_text) full.answers ∙ text_of_flag w.options.answers, ap (option_and_then row_text) full.workers ∙ text_of_count count))

run_at : (w : Wanted) (count : Option Text) (rest : List Text) → Ends w.config w.script count w.options.answers (idle_at nothing_held 1) rest → IsRunAt w count (codes "run" ∷ rest)
run_at w count rest ends =
    let full = full_at_end w.config w.script count w.options.answers ends.at.held ends.seen in
    let right = right_at_end w.config w.script count w.options.answers ends.at.held ends.seen in
    (passes_to rest ends.at ends.goes right, subst (IsRunIn w count) (sym (finds_at rest ends.at ends.goes)) (run_in w count _ full))

run_found : (words : List Text) (w : Wanted) (ask : AskToRun words w) → IsRunAt w ask.count (drop 1 words)
run_found words w ask =
    let ends = leads_on ask.spelled (passes_count ask.count w.options.workers ask.counts) in
    subst (IsRunAt w ask.count) (sym ask.are) (run_at w ask.count ask.rest ends)

pub takes_run : (words : List Text) (w : Wanted) → AskToRun words w → wrong_words words ≡ []
unfolding wrong_words
takes_run words w ask = (run_found words w ask).0

-- ---- what is asked for by these words

one_name : (o : Option (Text × List Row)) (a b : Text) → CommandIsNamed a o → CommandIsNamed b o → a ≡ b
one_name o a b x y = some_is (sym x ∙ y)
  where
    some_is : Some a ≡ Some b → a ≡ b
    some_is e = cc

bundle_no_reading : codes "bundle" ≡ codes "read" → ⊥
bundle_no_reading e = cc

bundle_no_running : codes "bundle" ≡ codes "run" → ⊥
bundle_no_running e = cc

reading_no_running : codes "read" ≡ codes "run" → ⊥
reading_no_running e = cc

pub bundle_asked : (words : List Text) (o : Options) (a : Asked) → AskFor words o → CommandAsks (subcommand_of program words) a → AsksForBundle o a
bundle_asked words o (Bundle given) ask is = options_are ask.count (drop 1 words) o given ask.counts (bundle_found words o ask).1 is.1
bundle_asked words o (Run w) ask is = absurd (bundle_no_running (one_name _ _ _ (bundle_found words o ask).2 is.0))
bundle_asked words o (Read path) ask is = absurd (bundle_no_reading (one_name _ _ _ (bundle_found words o ask).2 is.0))

pub path_asked : (words : List Text) (path : Text) (a : Asked) → AskToRead words path → CommandAsks (subcommand_of program words) a → AsksForFile path a
path_asked words path (Bundle b) ask is = absurd (is.0.no_reading (found_path words path ask).0)
path_asked words path (Run w) ask is = absurd (reading_no_running (one_name _ _ _ (found_path words path ask).0 is.0))
path_asked words path (Read at) ask is = sym is.1 ∙ (found_path words path ask).1

same_wanted : (a b : Wanted) → a.config ≡ b.config → a.script ≡ b.script → a.options ≡ b.options → a ≡ b
same_wanted a b c s o =
    let run : Text → Text → Options → Wanted = λ config script options. record { config = config; script = script; options = options } in
    ap (λ (x : Text). run x a.script a.options) c ∙ ap (λ (x : Text). run b.config x a.options) s ∙ ap (λ (x : Options). run b.config b.script x) o

pub run_asked : (words : List Text) (w : Wanted) (a : Asked) → AskToRun words w → CommandAsks (subcommand_of program words) a → AsksForRun w a
run_asked words w (Bundle b) ask is = absurd (is.0.no_running (run_found words w ask).1.0)
run_asked words w (Run given) ask is =
    let run = (run_found words w ask).1 in
    same_wanted (wanted_of given) w (sym is.1.config ∙ run.1) (sym is.1.script ∙ run.2) (options_are ask.count (drop 1 words) w.options given.options ask.counts run.3 is.1.options)
run_asked words w (Read at) ask is = absurd (reading_no_running (one_name _ _ _ is.0 (run_found words w ask).1.0))

-- what the matches ask for is what the words ask for
pub asked_by_words : (a : App) (words : List Text) (m : ArgMatches) (asked : Asked) → a ≡ program → HasMatchesOf a words m → CommandAsks (subcommand_rows_of m) asked → CommandAsks (subcommand_of program words) asked
asked_by_words a words m asked is matches h =
    let found = (matches (ap is_simple is ∙ is_simple_program)).1 in
    subst (λ (o : Option (Text × List Row)). CommandAsks o asked) (found ∙ ap (λ (b : App). subcommand_of b words) is) h

-- ---- what is read of the matches

-- the text of an argument, by the entries of its subcommand
text_in : (id : Text) (text : Text) (f : Found) (o : Option (Text × List Row)) → option_map (λ p. p.1) o ≡ Some (rows_of f) → option_and_then (λ p. one_of id p.1) o ≡ Some text → one_text f id ≡ Some text
text_in id text f None e h = absurd cc
text_in id text f (Some p) e h = one_text-rows f id ∙ ap (one_of id) (sym (same e)) ∙ h
  where
    same : Some p.1 ≡ Some (rows_of f) → p.1 ≡ rows_of f
    same e = cc

-- the options that are found for a subcommand's arguments are its options
pub are_its : (f : Found) (o : Option (Text × List Row)) (given : Options) → option_map (λ p. p.1) o ≡ Some (rows_of f) → AreOptions f given → HasOptions o given
are_its f o given e are = record {
  workers = λ text n has spells. are.workers text n (text_in (codes "workers") text f o e has) spells;
  answers = λ b has. are.answers b (text_in (codes "answers") (bool_text b) f o e has);
}

-- there is no subcommand
pub has_none : (o : Option (Text × List Row)) (given : Options) → o ≡ None → HasOptions o given
has_none None given e = record { workers = λ text n has spells. absurd (none_is has); answers = λ b has. absurd (none_is has) }
  where
    none_is : {A : Type 0} {x : A} → None ≡ Some x → ⊥
    none_is e = cc
has_none (Some p) given e = absurd cc

name_of : {Z : Type 0} (o : Option (Box SubCommand Z)) → option_map (λ b. (out-SubCommand (box_value b)).name.now) o ≡ option_map (λ p. p.0) (subcommand_rows o)
name_of None = refl
name_of (Some b) = refl

pub is_named : (m : ArgMatches) (name : Text) → subcommand_name_of m ≡ Some name → CommandIsNamed name (subcommand_rows_of m)
is_named m name e = sym (name_of (out-ArgMatches m).subcommand) ∙ e

false_true : false ≡ true → ⊥
false_true e = cc

pub is_other : (m : ArgMatches) (name : Text) → (subcommand_name_of m ≡ Some name → false ≡ true) → CommandIsNamed name (subcommand_rows_of m) → ⊥
is_other m name other e = false_true (other (name_of (out-ArgMatches m).subcommand ∙ e))

path_text : (read : Option (Bor Text)) (or : Bor Text) → or.now ≡ [] → unwrap_or (option_map (λ s. s.now) read) [] ≡ (unwrap_or read or).now
path_text None or e = sym e
path_text (Some s) or e = refl

pub file_read : (name : Text) (o : Option (Text × List Row)) (f : Found) (read : Option (Bor Text)) (or given : Bor Text) → option_map (λ p. p.1) o ≡ Some (rows_of f) → option_map (λ s. s.now) read ≡ first_value f name
    → or.now ≡ [] → given ≡ unwrap_or read or → named_file name o ≡ given.now
file_read name None f read or given e h n g = absurd cc
file_read name (Some p) f read or given e h n g =
    ap (λ (o : Option Text). unwrap_or o []) (ap (first_of name) (same e) ∙ sym (first_value-rows f name) ∙ sym h) ∙ path_text read or n ∙ ap (λ (b : Bor Text). b.now) (sym g)
  where
    same : Some p.1 ≡ Some (rows_of f) → p.1 ≡ rows_of f
    same e = cc

pub flag_read : (f : Found) (read : Bool) (answers : Bool) → (one_text f (codes "answers") ≡ Some (codes "true") → read ≡ true) → (one_text f (codes "answers") ≡ Some (codes "false") → read ≡ false)
    → one_text f (codes "answers") ≡ Some (bool_text answers) → read ≡ answers
flag_read f read true by_true by_false e = by_true e
flag_read f read false by_true by_false e = by_false e

-- the number that is read of a text that spells a count
pub count_read : (read : Option ℕ) (text : Text) (n : ℕ) → IsCount text n → ReadsOne (λ bs r. ParsesUnsigned 32 10 bs r × ExplainsUnsignedError 10 bs r × HasUnsignedDigitsIfOk bs r) text read
    → unwrap_or read 1 ≡ n
count_read (Some v) text n is got = got.0.1 ∙ is.value
count_read None text n is got =
    let most = is.is_in.3 in
    absurd (got.1.0 (is.is_in.0, omega arith))

-- ---- a parse that fails

pub memory_alone : (kinds : Kinds) (e : Error) → kinds ≡ [] → HasKind kinds e → kind_of e ≡ OutOfMemory
memory_alone [] e k (inl m) = m
memory_alone [] e k (inr a) = absurd a
memory_alone (x ∷ xs) e k h = absurd cc

pub for_memory : {A : Type 0} (kinds : Kinds) (r : Result A Error) (e : Error) (P : A → Type 0) → kinds ≡ [] → IsErrAnd r (λ f. f ≡ e) → HasKind kinds e → MatchResult r P (λ f. kind_of f ≡ OutOfMemory)
for_memory kinds (Ok x) e P k is h = absurd is
for_memory kinds (Err f) e P k is h = ap kind_of is ∙ memory_alone kinds e k h

pub kind_by : {A : Type 0} (kinds : Kinds) (r : Result A Error) (e : Error) → IsErrAnd r (λ f. f ≡ e) → HasKind kinds e → IfErr r (HasKind kinds)
kind_by kinds (Ok x) e is h = absurd is
kind_by kinds (Err f) e is h = subst (HasKind kinds) (sym is) h

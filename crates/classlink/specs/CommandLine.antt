-- The words that the program takes, as `clap` sees its command.
use Rattle.std.specs.Prelude.{◌≡◌, ◌⊎◌, ◌==◌, ℕ, Bool, true, false, not, List, [], ◌∷◌, codes, Option, Some, None, option_map, option_and_then, unwrap_or, drop}
use Rattle.std.specs.Str.Parse.{digits_value, without_leading_plus}
use Rattle.clap.specs.Matches.{one_text}
use Rattle.clap.specs.Values.{IsUnsignedIn, bool_text}
use Rattle.clap.specs.Words.{App, Kinds, Row, Rule, Text, app_of, fault_of, first_of, new_app, new_rule, one_of, with_rule, with_subcommand}
use Rattle.clap.specs.declared.builder.ArgAction.TheVariants.{SetTrue}
use Rattle.clap.specs.declared.builder.command.Command.{Command}
use Rattle.clap.specs.declared.builder.command.Command.TheViews.{out-Command}
use Rattle.clap.specs.declared.builder.value_parser.ValueParser.TheVariants.{Unsigned}
use Rattle.clap.specs.declared.parser.matches.Found.{Found}
use Rattle.cl_program.specs.Asking.{Wanted, wanted_of}
use Rattle.cl_program.specs.declared.asked.Asked.{Asked}
use Rattle.cl_program.specs.declared.asked.Asked.TheVariants.{Bundle, Read, Run}
use Rattle.cl_program.specs.declared.asked.Options.{Options}
use Rattle.cl_pool.specs.declared.limits.TheConstants.{MOST_WORKERS}

-- the option `--workers`, from 1 to the most, and 1 where it is left out
abbrev pub workers : Rule
workers = record (new_rule (codes "workers")) {
  long = Some (codes "workers");
  value_names = 1;
  defaults = codes "1"
      ∷ [];
  parser = Some (Unsigned 1 MOST_WORKERS);
}

-- the flag `--answers`
abbrev pub answers : Rule
answers = record (new_rule (codes "answers"))
    { long = Some (codes "answers"); action = Some SetTrue }

-- `bundle`, with its options
abbrev pub bundle : App
bundle = with_rule (with_rule (new_app (codes "bundle")) workers) answers

-- a file that is wanted, by its name
abbrev pub file : List ℕ → Rule
file name = record (new_rule name) { required = true }

-- `read`, with its file
abbrev pub reading : App
reading = with_rule (new_app (codes "read")) (file (codes "FILE"))

-- `run`, with its files and its options
abbrev pub running : App
running = with_rule
    (with_rule (with_rule (with_rule (new_app (codes "run")) (file (codes "CONFIG")))
    (file (codes "SCRIPT"))) workers) answers

-- the command, with one of its subcommands wanted
abbrev pub with_required : App → App
with_required a = record a { top = record a.top { subcommand_required = true } }

-- the command, with a version
abbrev pub with_version : App → App
with_version a = record a { top = record a.top { has_version = true } }

-- the program before its subcommands are added: one of them is wanted, and there is a version
abbrev pub wanting : App
wanting = with_required (with_version (new_app (codes "classlink")))

-- the program: `bundle`, `run` or `read`
abbrev pub program : App
program = with_subcommand (with_subcommand (with_subcommand wanting bundle.top) running.top)
    reading.top

-- a command is this one, for what is built on it
abbrev pub IsCommand : App → Command → Type 0
IsCommand a c = (app_of c ≡ a) × ((out-Command c).has_globals ≡ false)

-- what `clap` finds wrong with the words, of which the first is the program's name: nothing, or the kinds of error that it may give
unfoldable pub wrong_words : List (List ℕ) → Kinds
wrong_words words = fault_of program words

-- a text of digits that spells a count of workers, from 1 to the most; a plus may stand first
pub record IsCount (text : List ℕ) (n : ℕ) : Type 0 where
  pub is_in : IsUnsignedIn 1 MOST_WORKERS text
  pub value : digits_value 10 (without_leading_plus text) ≡ n

-- a count of workers that is given, or 1
abbrev pub IsCountOf : Option (List ℕ) → ℕ → Type 0
IsCountOf None n = n ≡ 1
IsCountOf (Some text) n = IsCount text n

-- a word that is no flag: it does not begin with a hyphen, or is the hyphen alone
abbrev pub is_plain_word : List ℕ → Bool
is_plain_word [] = true
is_plain_word (c ∷ []) = true
is_plain_word (c ∷ d ∷ rest) = not (c == 0x2d)

-- the words are these paths, in this order, and the options: `--workers` and a count, where one is given, and `--answers`, where the answers
-- alone are wanted. The options stand before, between or behind the paths, in either order, and each path is plain or behind `--`
pub data AreWordsOf : List (List ℕ) → Option (List ℕ) → Bool → List (List ℕ) → Type 0 where
  End : AreWordsOf [] None false []
  Path : {paths : List (List ℕ)} {count : Option (List ℕ)} {only_answers : Bool}
      {words : List (List ℕ)} (path : List ℕ) → is_plain_word path ≡ true
      → AreWordsOf paths count only_answers words
      → AreWordsOf (path ∷ paths) count only_answers (path ∷ words)
  Workers : {paths : List (List ℕ)} {only_answers : Bool} {words : List (List ℕ)} (count : List ℕ)
      → AreWordsOf paths None only_answers words → AreWordsOf paths (Some count) only_answers
      (codes "--workers" ∷ count ∷ words)
  Answers : {paths : List (List ℕ)} {count : Option (List ℕ)} {words : List (List ℕ)}
      → AreWordsOf paths count false words → AreWordsOf paths count true (codes "--answers" ∷ words)
  Dashes : (paths : List (List ℕ)) → AreWordsOf paths None false (codes "--" ∷ paths)

-- the words, of which the first is the program's name, are this subcommand, these paths and the
-- options
pub record AskBy (subcommand : List ℕ) (paths words : List (List ℕ)) (o : Options) : Type 0 where
  pub count : Option (List ℕ)
  pub counts : IsCountOf count o.workers
  pub rest : List (List ℕ)
  pub spelled : AreWordsOf paths count o.answers rest
  pub are : drop 1 words ≡ subcommand ∷ rest

-- the words ask for a bundle's report with these options
abbrev pub AskFor : List (List ℕ) → Options → Type 0
AskFor words o = AskBy (codes "bundle") [] words o

-- the words, of which the first is the program's name, ask for the lines of the file at a path, which is plain or stands behind `--`
abbrev pub AskToRead : List (List ℕ) → List ℕ → Type 0
AskToRead words path =
    ((drop 1 words ≡ codes "read" ∷ path ∷ []) × (is_plain_word path ≡ true))
    ⊎ (drop 1 words ≡ codes "read" ∷ codes "--" ∷ path ∷ [])

-- the words ask so for a script's run
abbrev pub AskToRun : List (List ℕ) → Wanted → Type 0
AskToRun words w = AskBy (codes "run") (w.config ∷ w.script ∷ []) words w.options

-- ---- what is asked for, by the subcommand that `clap` finds and what it finds for its arguments

-- the subcommand has this name
abbrev pub CommandIsNamed : List ℕ → Option (Text × List Row) → Type 0
CommandIsNamed name entered = option_map (λ p. p.0) entered ≡ Some name

-- the subcommand is `read`
abbrev pub IsToRead : Option (Text × List Row) → Type 0
IsToRead entered = CommandIsNamed (codes "read") entered

-- the subcommand is `run`
abbrev pub IsToRun : Option (Text × List Row) → Type 0
IsToRun entered = CommandIsNamed (codes "run") entered

-- its file of this name
abbrev pub named_file : List ℕ → Option (Text × List Row) → Text
named_file name entered = unwrap_or (option_and_then (λ p. first_of name p.1) entered) []

-- the file of `read`
abbrev pub file_to_read : Option (Text × List Row) → Text
file_to_read entered = named_file (codes "FILE") entered

-- the one text of an argument of this name
abbrev pub argument_text : Option (Text × List Row) → List ℕ → Option Text
argument_text entered name = option_and_then (λ p. one_of name p.1) entered

-- the flag `--answers` is `true` or `false`
abbrev pub HasFlag : Option (Text × List Row) → Bool → Type 0
HasFlag entered b = argument_text entered (codes "answers") ≡ Some (bool_text b)

-- these are the options, where each argument has this text
pub record OptionsBy (text_of : List ℕ → Option Text) (o : Options) : Type 0 where
  pub workers : (text : List ℕ) (n : ℕ) → text_of (codes "workers") ≡ Some text → IsCount text n
      → o.workers ≡ n
  pub answers : (b : Bool) → text_of (codes "answers") ≡ Some (bool_text b) → o.answers ≡ b

-- these are the options of the subcommand
abbrev pub HasOptions : Option (Text × List Row) → Options → Type 0
HasOptions entered o = OptionsBy (argument_text entered) o

-- these are the options of a subcommand, by what is found for its arguments
abbrev pub AreOptions : Found → Options → Type 0
AreOptions f o = OptionsBy (one_text f) o

-- the subcommand is neither `read` nor `run`
pub record IsForBundle (entered : Option (Text × List Row)) : Type 0 where
  pub no_reading : ¬ IsToRead entered
  pub no_running : ¬ IsToRun entered

-- `run` wants this
pub record RunWants (entered : Option (Text × List Row)) (w : Wanted) : Type 0 where
  pub config : named_file (codes "CONFIG") entered ≡ w.config
  pub script : named_file (codes "SCRIPT") entered ≡ w.script
  pub options : HasOptions entered w.options

-- what is asked for is what `clap` finds
abbrev pub CommandAsks : Option (Text × List Row) → Asked → Type 0
CommandAsks entered (Bundle options) = IsForBundle entered × HasOptions entered options
CommandAsks entered (Run words) = IsToRun entered × RunWants entered (wanted_of words)
CommandAsks entered (Read path) = IsToRead entered × (file_to_read entered ≡ path.now)

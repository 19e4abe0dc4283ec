-- Which texts are a script, and what their lines say: a line makes a request, or begins a round.
use Rattle.std.specs.Prelude.{
  All,
  ◌≡◌,
  ℕ,
  ◌+◌,
  ◌<◌,
  ◌≤◌,
  List,
  [],
  ◌∷◌,
  ◌++◌,
  length,
  slice_get,
  Some,
  None,
  Result,
  Ok,
  Err,
  codes,
}
use Rattle.std.specs.List.{AllZip}
use Rattle.cl_model.specs.declared.request.Request.{Request}
use Rattle.cl_model.specs.declared.request.Request.TheVariants.{Load, Resolve, Link}
use Rattle.cl_model.specs.Plans.{loaded_by}
use Rattle.cl_model.specs.Views.{request_of}
use Rattle.cl_names.specs.Name.{WritesClass}
use Rattle.cl_lines.specs.Lines.{Numbered, words_of, stated_from}
use Rattle.cl_lines.specs.Numbers.{WritesNumber}
use Rattle.cl_config.specs.Views.{Scripted, loader_named}
use Rattle.cl_config.specs.declared.script.Action.{Action}
use Rattle.cl_config.specs.declared.script.Action.TheVariants as actions
use Rattle.cl_config.specs.declared.script.Said.{Said}
use Rattle.cl_config.specs.declared.script.Said.TheVariants.{Ask, Then}
use Rattle.cl_config.specs.declared.script.ScriptFault.{ScriptFault}
use Rattle.cl_config.specs.declared.script.ScriptFault.TheVariants.{
  Memory,
  BadLine,
  UnknownLoader,
  TooMany,
}
use Rattle.cl_config.specs.declared.limits.TheConstants.{MOST_REQUESTS, MOST_THENS}

-- ---- one line

-- the words are those of a request: what is asked for, a loader's name and the text of a class's
-- name, and of a resolution that of an index
abbrev pub HasWords : List ℕ → Action → List ℕ → List ℕ → Type 0
HasWords line actions.Load loader text = words_of line ≡ codes "load" ∷ loader ∷ text ∷ []
HasWords line (actions.Resolve index) loader text =
    (number : List ℕ) × (words_of line ≡ codes "resolve" ∷ loader ∷ text ∷ number ∷ [])
    × WritesNumber number index
HasWords line actions.Link loader text = words_of line ≡ codes "link" ∷ loader ∷ text ∷ []

-- the line is a request for this class, but for what loader its name is of
pub record IsRequest (line : List ℕ) (action : Action) (loader name : List ℕ) : Type 0 where
  pub text : List ℕ
  pub words : HasWords line action loader text
  pub writes : WritesClass text name

-- the one word is `then`
abbrev pub IsThen : List ℕ → Type 0
IsThen line = words_of line ≡ codes "then" ∷ []

-- the line asks for this of the class of this name through this loader
pub record AsksFor (names : List (List ℕ)) (line : List ℕ) (action : Action) (loader : ℕ)
    (name : List ℕ) : Type 0 where
  pub word : List ℕ
  pub request : IsRequest line action word name
  pub known : loader_named names word ≡ Some loader

-- the line makes this request
abbrev pub ScriptAsks : List (List ℕ) → List ℕ → Request → Type 0
ScriptAsks names line (Load loader name) = AsksFor names line actions.Load loader name
ScriptAsks names line (Resolve loader name index) =
    AsksFor names line (actions.Resolve index) loader name
ScriptAsks names line (Link loader name) = AsksFor names line actions.Link loader name

-- the line says this
abbrev pub ScriptSays : List (List ℕ) → List ℕ → Said → Type 0
ScriptSays names line (Ask request) = ScriptAsks names line request
ScriptSays names line Then = IsThen line

-- the line is none that a script may have
pub record IsBad (line : List ℕ) : Type 0 where
  pub request : (action : Action) (loader name : List ℕ) → IsRequest line action loader name → ⊥
  pub round : IsThen line → ⊥

-- the line is a request but for its loader
pub record LacksLoader (names : List (List ℕ)) (line : List ℕ) : Type 0 where
  pub action : Action
  pub word : List ℕ
  pub name : List ℕ
  pub request : IsRequest line action word name
  pub unknown : loader_named names word ≡ None

-- the line alone has this fault: it is none that a script may have, or it is a request whose loader
-- there is not; memory may run out at each
abbrev pub HasFault : List (List ℕ) → Numbered → ScriptFault → Type 0
HasFault names line (BadLine n) = (n ≡ line.number) × IsBad line.text
HasFault names line (UnknownLoader n) = (n ≡ line.number) × LacksLoader names line.text
HasFault names line TooMany = ⊥
HasFault names line Memory = Unit {0}

-- what a line is read as: what it says, or its fault
abbrev pub line_of : List (List ℕ) → Numbered → Result Said ScriptFault → Type 0
line_of names line (Ok one) = ScriptSays names line.text one
line_of names line (Err fault) = HasFault names line fault

-- ---- all lines

-- the lines say these, in order
abbrev pub ScriptSaysAll : List (List ℕ) → List Numbered → List Said → Type 0
ScriptSaysAll names lines said = AllZip (λ l x. ScriptSays names l.text x) lines said

-- the requests, in order
abbrev pub requests_in : List Said → List Request
requests_in [] = []
requests_in (Ask r ∷ xs) = r ∷ requests_in xs
requests_in (Then ∷ xs) = requests_in xs

-- the round of each request, where this one is the round so far
abbrev pub rounds_in : ℕ → List Said → List ℕ
rounds_in n [] = []
rounds_in n (Ask r ∷ xs) = n ∷ rounds_in n xs
rounds_in n (Then ∷ xs) = rounds_in (n + 1) xs

-- how many lines begin a round
abbrev pub thens_in : List Said → ℕ
thens_in [] = 0
thens_in (Ask r ∷ xs) = thens_in xs
thens_in (Then ∷ xs) = thens_in xs + 1

-- there are not too many requests, and not too many lines that begin a round
pub record ScriptFits (xs : List Said) : Type 0 where
  pub requests : length (requests_in xs) ≤ MOST_REQUESTS
  pub thens : thens_in xs ≤ MOST_THENS

-- the script that says these: the rounds are counted from 0, and the first begins the script
abbrev pub script_from : List Said → Scripted
script_from xs =
    record { requests = requests_in xs; rounds_of = rounds_in 0 xs; rounds = thens_in xs + 1 }

-- after some lines, not too many, that each say something there is a line of which P holds
pub record ScriptStopsAt (names : List (List ℕ)) (lines : List Numbered)
    (P : List Said → Numbered → Type 0) : Type 0 where
  pub front : List Numbered
  pub line : Numbered
  pub behind : List Numbered
  pub said : List Said
  pub cut : lines ≡ front ++ line ∷ behind
  pub says : ScriptSaysAll names front said
  pub fits : ScriptFits said
  pub here : P said line

-- what the lines say is this script
pub record TellsScript (names : List (List ℕ)) (lines : List Numbered) (s : Scripted) : Type 0 where
  pub said : List Said
  pub says : ScriptSaysAll names lines said
  pub fits : ScriptFits said
  pub is : s ≡ script_from said

-- a line with which there are too many
pub record IsTooMany (names : List (List ℕ)) (said : List Said) (line : Numbered) : Type 0 where
  pub one : Said
  pub says : ScriptSays names line.text one
  pub over : ScriptFits (said ++ one ∷ []) → ⊥

-- what the lines of a text are read as: the script, or the first line that is wrong or one too many
abbrev pub script_of : List (List ℕ) → List ℕ → Result Scripted ScriptFault → Type 0
script_of names text (Ok script) = TellsScript names (stated_from 1 text) script
script_of names text (Err (BadLine n)) =
    ScriptStopsAt names (stated_from 1 text) (λ said line. HasFault names line (BadLine n))
script_of names text (Err (UnknownLoader n)) =
    ScriptStopsAt names (stated_from 1 text) (λ said line. HasFault names line (UnknownLoader n))
script_of names text (Err TooMany) = ScriptStopsAt names (stated_from 1 text) (IsTooMany names)
script_of names text (Err Memory) = 0 < length (stated_from 1 text)

-- ---- what is so of every script

-- the request's loader is one of so many
abbrev pub HasLoader : ℕ → Request → Type 0
HasLoader count r = (loaded_by (request_of r)).loader < count

-- each request's loader is one of so many
abbrev pub HasLoaders : ℕ → List Request → Type 0
HasLoaders count requests = All (HasLoader count) requests

-- there are not too many requests, each of one of the rounds and none of an earlier one than those
-- before it, and not too many rounds
pub record IsScript (s : Scripted) : Type 0 where
  pub few : length s.requests ≤ MOST_REQUESTS
  pub each : length s.rounds_of ≡ length s.requests
  pub within : All (λ n. n < s.rounds) s.rounds_of
  pub in_order : (p q m n : ℕ) → p < q → slice_get s.rounds_of p ≡ Some m
      → slice_get s.rounds_of q ≡ Some n → m ≤ n
  pub rounds : s.rounds ≤ MOST_THENS + 1

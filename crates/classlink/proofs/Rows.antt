-- The rows of `clap` after words of `run`: which row an argument has.
use Rattle.std.proofs.Common.{◌≡◌, ◌∙◌, ◌||◌, if◌then◌else◌, Bool, true, false, List, [], ◌∷◌, ◌++◌, Option, Some, None, refl, ap, ap₂, find}
use Rattle.std.specs.Str.{bytes_eq}
use Rattle.std.specs.Option.{option_or}
use Rattle.std.proofs.lemmas.List.{append-nil}
use Rattle.std.proofs.lemmas.List.Folds.{find-append}
use Rattle.clap.specs.Walk.{Row, Rule, at_row, default_rows, has_row, more_values, reading_by, with_default, with_values, without}
use Rattle.clap.specs.Words.{Text}
use Rattle.clap.specs.declared.builder.value_parser.Reading.{Reading}
use Rattle.clap.specs.declared.parser.matches.ValueSource.{ValueSource}
use Rattle.clap.specs.declared.parser.matches.ValueSource.TheVariants.{DefaultValue}

-- the row of an argument
abbrev pub look : Text → List Row → Option Row
look id rows = find (λ r. bytes_eq r.id id) rows

abbrev pub new_row : Text → Reading → ValueSource → List Text → Row
new_row id how source values = record { id = id; values = values; count = None; source = Some source; reading = how }

-- an argument with no row changes none
past : (id : Text) (change : Row → List Row) (missing rows : List Row) → look id rows ≡ None → at_row id change missing rows ≡ rows ++ missing
past id change missing [] none = refl
past id change missing (r ∷ rs) none = by (bytes_eq r.id id) none (past id change missing rs)
  where
    by : (b : Bool) → (if b then Some r else look id rs) ≡ None → (look id rs ≡ None → at_row id change missing rs ≡ rs ++ missing)
        → (if b then change r ++ rs else r ∷ at_row id change missing rs) ≡ r ∷ rs ++ missing
    by true e next = absurd cc
    by false e next = ap (λ (xs : List Row). r ∷ xs) (next e)

pub no_row : (id : Text) (rows : List Row) → look id rows ≡ None → has_row id rows ≡ false
no_row id [] none = refl
no_row id (r ∷ rs) none = by (bytes_eq r.id id) none (no_row id rs)
  where
    by : (b : Bool) → (if b then Some r else look id rs) ≡ None → (look id rs ≡ None → has_row id rs ≡ false) → (b || has_row id rs) ≡ false
    by true e next = absurd cc
    by false e next = next e

pub some_row : (id : Text) (rows : List Row) (row : Row) → look id rows ≡ Some row → has_row id rows ≡ true
some_row id [] row some = absurd cc
some_row id (r ∷ rs) row some = by (bytes_eq r.id id) some (some_row id rs row)
  where
    by : (b : Bool) → (if b then Some r else look id rs) ≡ Some row → (look id rs ≡ Some row → has_row id rs ≡ true) → (b || has_row id rs) ≡ true
    by true e next = refl
    by false e next = next e

-- its row comes behind the others
pub gets_row : (id : Text) (how : Reading) (source : ValueSource) (values : List Text) (rows : List Row) → look id rows ≡ None
    → with_values id how source values rows ≡ rows ++ new_row id how source values ∷ []
gets_row id how source values rows none = past id (more_values source values) _ rows none

pub gets_first_row : (id : Text) (how : Reading) (source : ValueSource) (values : List Text) (rows : List Row) → look id rows ≡ None
    → with_values id how source values (without id rows) ≡ rows ++ new_row id how source values ∷ []
gets_first_row id how source values rows none =
    ap (with_values id how source values) (past id (λ _. []) [] rows none ∙ append-nil rows) ∙ gets_row id how source values rows none

or_none : (o : Option Row) → option_or o None ≡ o
or_none None = refl
or_none (Some r) = refl

-- another argument keeps its row
pub keeps : (id : Text) (rows : List Row) (row : Row) → bytes_eq row.id id ≡ false → look id (rows ++ row ∷ []) ≡ look id rows
keeps id rows row other = find-append (λ (r : Row). bytes_eq r.id id) rows (row ∷ []) ∙ ap (λ (b : Bool). option_or (look id rows) (if b then Some row else None)) other ∙ or_none (look id rows)

-- the argument has its own
pub has_its : (id : Text) (rows : List Row) (row : Row) → bytes_eq row.id id ≡ true → look id rows ≡ None → look id (rows ++ row ∷ []) ≡ Some row
has_its id rows row own none =
    find-append (λ (r : Row). bytes_eq r.id id) rows (row ∷ []) ∙ ap₂ (λ (o : Option Row) (b : Bool). option_or o (if b then Some row else None)) none own

-- ---- defaults

same_if : (b : Bool) (rows : List Row) → (if b then rows else rows) ≡ rows
same_if true rows = refl
same_if false rows = refl

-- an argument without a default adds nothing
pub no_default : (a : Rule) (rows : List Row) → a.defaults ≡ [] → with_default rows a ≡ rows
no_default a rows none = ap (λ (vs : List Text). if has_row a.id rows then rows else default_rows a.id (reading_by a) vs rows) none ∙ same_if (has_row a.id rows) rows

-- one with a default gets a row, where it had none
pub default_added : (a : Rule) (rows : List Row) (value : Text) → a.defaults ≡ value ∷ [] → look a.id rows ≡ None
    → with_default rows a ≡ rows ++ new_row a.id (reading_by a) DefaultValue (value ∷ []) ∷ []
default_added a rows value is none =
    ap₂ (λ (b : Bool) (vs : List Text). if b then rows else default_rows a.id (reading_by a) vs rows) (no_row a.id rows none) is ∙ gets_row a.id (reading_by a) DefaultValue (value ∷ []) rows none

pub default_left : (a : Rule) (rows : List Row) (row : Row) → look a.id rows ≡ Some row → with_default rows a ≡ rows
default_left a rows row some = ap (λ (b : Bool). if b then rows else default_rows a.id (reading_by a) a.defaults rows) (some_row a.id rows row some)

-- Which interfaces of a class one text names (JVMS SE 8, 4.1, 4.4.1).
use Rattle.std.specs.Prelude.{◌≡◌, ◌≤◌, ◌<◌, ◌+◌, ◌⊎◌, ℕ, List, Option, Some, None, slice_get}
use Rattle.std.specs.Option.{option_and_then}
use Rattle.cl_classfile.specs.declared.entry.Entry.{Entry}
use Rattle.cl_classfile.specs.declared.entry.Entry.TheVariants.{Class}
use Rattle.cl_classfile.specs.Files.{Name, class_name}
use Rattle.cl_classfile.specs.Pool.{at}
use Rattle.cl_classfile.specs.Structure.{Structure}
use Rattle.cl_classfile.specs.declared.mentions.Mentions.{Mentions}

-- the index of the text that names a class or an array, and 0 of another entry (4.4.1)
abbrev pub naming_text : Option Entry → ℕ
naming_text (Some (Class text)) = text
naming_text other = 0

-- the index of the text that names an interface, by its place, and 0 where there is none (4.1)
abbrev pub text_of_interface : List Entry → Option ℕ → ℕ
text_of_interface pool None = 0
text_of_interface pool (Some index) = naming_text (at pool index)

-- the name of an interface, by its place (4.1)
abbrev pub named_at : List Entry → List ℕ → ℕ → Option Name
named_at pool interfaces place =
    option_and_then (class_name pool) (slice_get interfaces place)

-- each of these is a place of an interface of the same name as the one at its own place, and none
-- that comes later
abbrev pub AreMentions : List Entry → List ℕ → List ℕ → Type 0
AreMentions pool interfaces firsts =
    (place first : ℕ) → slice_get firsts place ≡ Some first
    → (first ≤ place) × (named_at pool interfaces first ≡ named_at pool interfaces place)

-- the same of a class file
abbrev pub AreMentionsOf : Structure → Mentions → Type 0
AreMentionsOf f m = AreMentions f.pool f.interfaces m.firsts.items

-- a mark, of the text behind an index of the pool, is one more than the place of an interface which
-- that text names, among the first so many
abbrev pub AreMet : List Entry → List ℕ → ℕ → List ℕ → Type 0
AreMet pool interfaces before marks =
    (text place : ℕ) → slice_get marks text ≡ Some (place + 1)
    → (place < before) × (text_of_interface pool (slice_get interfaces place) ≡ text + 1)

-- where a text was met first, by marks: at this place, or at one that is marked
abbrev pub MetAt : List ℕ → ℕ → ℕ → ℕ → Type 0
MetAt marks text place first =
    (first ≡ place)
    ⊎ ((behind : ℕ) × (text ≡ behind + 1) × (slice_get marks behind ≡ Some (first + 1)))

-- no mark is new but that of this text, which is of this place
abbrev pub MarksOne : List ℕ → List ℕ → ℕ → ℕ → Type 0
MarksOne old new text place =
    (behind met : ℕ) → slice_get new behind ≡ Some (met + 1)
    → (slice_get old behind ≡ Some (met + 1)) ⊎ ((text ≡ behind + 1) × (met ≡ place))

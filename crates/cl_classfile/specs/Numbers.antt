-- Numbers of texts, the same for equal ones.
use Rattle.std.specs.Prelude.{◌≡◌, ◌<◌, ℕ, zero, suc, List, length, Option, Some, None, unwrap_or, set, bytes_eq, bit_and, slice_get, if◌then◌else◌}
use Rattle.std.specs.List.{AllByRecursion, fold}
use Rattle.std.specs.Hash.FoldHasher as hasher
use Rattle.cl_names.specs.Digest.{fed_name}
use Rattle.std.specs.BTreeMap.{get}
use Rattle.std.specs.Ordering.{nat_cmp}
use Rattle.std.specs.declared.cmp.Ordering.{Ordering}
use Rattle.std.specs.Cmp.Lexicographic.{slice_cmp}
use Rattle.cl_classfile.specs.declared.entry.Entry.{Entry}
use Rattle.cl_classfile.specs.declared.numbers.Numbers.{Numbers}
use Rattle.cl_classfile.specs.Pool.{at}
use Rattle.cl_classfile.specs.Structure.{MemberInfo}
use Rattle.cl_classfile.specs.Files.{text_at}
use Rattle.cl_classfile.specs.Lookups.{is_this}

-- by the bytes
abbrev pub text_cmp : List ℕ → List ℕ → Ordering
text_cmp a b = slice_cmp nat_cmp a b

-- what stands for a text where texts are looked for: no answer depends on it
unfoldable pub rank_of : List ℕ → ℕ
rank_of text = hasher.finish (fold hasher.write hasher.initial (fed_name text))

-- the number that stands in a slot, or 0
abbrev pub number_in_slot : List ℕ → ℕ → ℕ
number_in_slot slots i = unwrap_or (slice_get slots i) 0

-- the number that stands in its slot, where it is this text's, or else another
abbrev pub first_or : List Entry → List ℕ → ℕ → Option ℕ → Option ℕ
first_or pool text n other = if is_this text (text_at pool n) then Some n else other

-- the number of a text of this rank, if it was met
abbrev pub found_number : List Entry → Numbers → ℕ → List ℕ → Option ℕ
found_number pool ns rank text =
    first_or pool text (number_in_slot ns.slots.items (bit_and rank ns.mask))
    (get text_cmp ns.others text)

-- the number of a text, if it was met
abbrev pub number_of : List Entry → Numbers → List ℕ → Option ℕ
number_of pool ns text = found_number pool ns (rank_of text) text

-- the number that is noted at an index, or 0
abbrev pub noted_at : List ℕ → ℕ → ℕ
noted_at noted i = unwrap_or (at noted i) 0

-- the notes with this number at an index
abbrev pub with_number : List ℕ → ℕ → ℕ → List ℕ
with_number noted zero n = noted
with_number noted (suc i) n = set noted i n

-- this is the number of what stands at an index, 0 of what is no text
abbrev pub IsNumber : (List ℕ → Option ℕ) → Option (List ℕ) → ℕ → Type 0
IsNumber of None n = n ≡ 0
IsNumber of (Some text) n = of text ≡ Some n

-- the number of the text at an index is noted
abbrev pub NumberIsNoted : List Entry → Numbers → ℕ → Type 0
NumberIsNoted pool ns i = IsNumber (number_of pool ns) (text_at pool i) (noted_at ns.noted.items i)

-- a number is an index at which its text stands
abbrev pub NumbersAreIndexes : List Entry → (List ℕ → Option ℕ) → Type 0
NumbersAreIndexes pool of = (text : List ℕ) (n : ℕ) → of text ≡ Some n → text_at pool n ≡ Some text

-- numbers are such, and what is noted is the number of the text there
pub record AreNumbers (pool : List Entry) (ns : Numbers) : Type 0 where
  pub first : NumbersAreIndexes pool (number_of pool ns)
  pub known : (i : ℕ) → (noted_at ns.noted.items i ≡ 0 → ⊥) → NumberIsNoted pool ns i
  pub all : length ns.noted.items ≡ length pool

-- a text that has a number keeps it
abbrev pub KeepsNumbers : List Entry → Numbers → Numbers → Type 0
KeepsNumbers pool old new =
    (text : List ℕ) (n : ℕ) → number_of pool old text ≡ Some n → number_of pool new text ≡ Some n

-- the text has this number, and no other's changed
abbrev pub PutsNumber : List Entry → Numbers → Numbers → List ℕ → ℕ → Type 0
PutsNumber pool old new text n =
    (u : List ℕ)
    → number_of pool new u ≡ (if bytes_eq text u then Some n else number_of pool old u)

-- a slot that was free has this number, and no other's changed
pub record TakesSlot (old new : List ℕ) (i n : ℕ) : Type 0 where
  pub within : i < length old
  pub free : number_in_slot old i ≡ 0
  pub put : new ≡ set old i n

-- the text at an index was asked for, and no other's number changed
pub record Notes (pool : List Entry) (old new : Numbers) (i : ℕ) : Type 0 where
  pub numbers : AreNumbers pool new
  pub kept : (j : ℕ) → NumberIsNoted pool old j → NumberIsNoted pool new j
  pub noted : NumberIsNoted pool new i

-- the texts of a member were asked for (4.5, 4.6)
abbrev pub IsMemberNoted : List Entry → Numbers → MemberInfo → Type 0
IsMemberNoted pool ns m =
    NumberIsNoted pool ns m.name_index × NumberIsNoted pool ns m.descriptor_index

-- the texts of these members have numbers (4.5, 4.6)
pub record AreNoted (pool : List Entry) (ns : Numbers) (ms : List MemberInfo) : Type 0 where
  pub numbers : AreNumbers pool ns
  pub each : AllByRecursion (IsMemberNoted pool ns) ms

-- the texts of these members were asked for, and no other's number changed (4.5, 4.6)
pub record NotesAll (pool : List Entry) (old new : Numbers) (ms : List MemberInfo) : Type 0 where
  pub kept : (j : ℕ) → NumberIsNoted pool old j → NumberIsNoted pool new j
  pub noted : AreNoted pool new ms

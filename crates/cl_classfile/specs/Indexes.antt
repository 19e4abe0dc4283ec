-- Where the members of a class stand, by the numbers of their names and descriptors.
use Rattle.std.specs.Prelude.{
  ◌≡◌,
  ℕ,
  ◌<◌,
  ◌≤◌,
  List,
  length,
  Option,
  Some,
  IsSome,
  Bool,
  is_some,
  MatchOption,
  option_and_then,
  slice_get,
  if◌then◌else◌,
}
use Rattle.std.specs.Ordering.{is_eq}
use Rattle.std.specs.BTreeMap.{get}
use Rattle.cl_classfile.specs.declared.entry.Entry.{Entry}
use Rattle.cl_classfile.specs.declared.numbers.Numbers.{Numbers}
use Rattle.cl_classfile.specs.declared.index.Places.{Places}
use Rattle.cl_classfile.specs.declared.index.Index.{Index}
use Rattle.cl_classfile.specs.declared.index.TheConstants.{FEW_MEMBERS}
use Rattle.cl_classfile.specs.Structure.{Structure, MemberInfo}
use Rattle.cl_classfile.specs.Numbers.{AreNoted, noted_at, number_of}
use Rattle.cl_classfile.specs.Seen.{pair_cmp}

-- the numbers that are noted of a member's name and descriptor (4.5, 4.6)
abbrev pub number_pair : Numbers → MemberInfo → ℕ × ℕ
number_pair ns m =
    (noted_at ns.noted.items m.name_index, noted_at ns.noted.items m.descriptor_index)

-- where a member of these numbers stands, if there is one
abbrev pub place_of : Places → ℕ × ℕ → Option ℕ
place_of ps pair = get pair_cmp ps.map pair

-- a member of these numbers stands somewhere
abbrev pub has_place : Places → ℕ × ℕ → Bool
has_place ps pair = is_some (place_of ps pair)

-- the member that stands where one of these numbers does
abbrev pub member_in : Places → List MemberInfo → ℕ → ℕ → Option MemberInfo
member_in ps ms name descriptor = option_and_then (slice_get ms) (place_of ps (name, descriptor))

-- the member that a name and a descriptor lead to by their numbers
abbrev pub led_to : List Entry → Numbers → Places → List MemberInfo → List ℕ → List ℕ
    → Option MemberInfo
led_to pool ns ps ms name descriptor =
    option_and_then
    (λ n. option_and_then (λ d. member_in ps ms n d) (number_of pool ns descriptor))
    (number_of pool ns name)

-- the places with that of one more member
abbrev pub PutsPlace : Places → Places → ℕ × ℕ → ℕ → Type 0
PutsPlace old new pair i =
    (q : ℕ × ℕ)
    → place_of new q ≡ (if is_eq (pair_cmp pair q) then Some i else place_of old q)

-- a member of these numbers stands there
pub record StandsAt (ns : Numbers) (ms : List MemberInfo) (pair : ℕ × ℕ) (i : ℕ) : Type 0 where
  pub member : MemberInfo
  pub stands : slice_get ms i ≡ Some member
  pub pair_is : number_pair ns member ≡ pair

-- each place is that of a member of its numbers, and each of the members before the end has one
pub record StandTo (ns : Numbers) (ps : Places) (ms : List MemberInfo) (end : ℕ) : Type 0 where
  pub each : (pair : ℕ × ℕ) (i : ℕ) → place_of ps pair ≡ Some i → StandsAt ns ms pair i
  pub all : (i : ℕ) (m : MemberInfo) → i < end → slice_get ms i ≡ Some m
      → IsSome (place_of ps (number_pair ns m))

-- each place is that of a member of its numbers, and each of the members has one
abbrev pub StandThere : Numbers → Places → List MemberInfo → Type 0
StandThere ns ps ms = StandTo ns ps ms (length ms)

-- the texts of these members have numbers, under which the members stand
pub record Lead (pool : List Entry) (ns : Numbers) (ps : Places) (ms : List MemberInfo)
    : Type 0 where
  pub noted : AreNoted pool ns ms
  pub stand : StandThere ns ps ms

-- the index leads to these fields and these methods
pub record IndexLeads (pool : List Entry) (i : Index) (fs ms : List MemberInfo) : Type 0 where
  pub fields : Lead pool i.numbers i.fields fs
  pub methods : Lead pool i.numbers i.methods ms

-- these fields and these methods are so few that they have no index
pub record MembersAreFew (fs ms : List MemberInfo) : Type 0 where
  pub fields : length fs ≤ FEW_MEMBERS
  pub methods : length ms ≤ FEW_MEMBERS

-- fields and methods are few, or there is an index, which leads to them
abbrev pub IsIndexed : List Entry → List MemberInfo → List MemberInfo → Option Index → Type 0
IsIndexed pool fs ms index = MatchOption index (MembersAreFew fs ms) (λ i. IndexLeads pool i fs ms)

-- the fields and the methods of the file are few, or there is an index, which leads to them
abbrev pub IsIndexOf : Option Index → Structure → Type 0
IsIndexOf index f = IsIndexed f.pool f.fields f.methods index

-- The tables as tests, with the first fault in the order in which a file is looked at.
use Rattle.std.specs.Prelude.{
  ◌≡◌,
  ℕ,
  ◌+◌,
  Bool,
  true,
  false,
  not,
  ◌&&◌,
  ◌||◌,
  ◌==◌,
  nat_lt,
  List,
  [],
  ◌∷◌,
  ◌++◌,
  length,
  map,
  Option,
  Some,
  None,
  is_some,
  Result,
  Ok,
  Err,
  if◌then◌else◌,
  bytes_eq,
}
use Rattle.std.specs.List.{list_any}
use Rattle.cl_classfile.specs.declared.entry.Entry.{Entry}
use Rattle.cl_classfile.specs.declared.fault.Fault.{Fault}
use Rattle.cl_classfile.specs.declared.fault.Fault.TheVariants.{
  BadPool,
  BadFlags,
  BadMember,
  Duplicate,
  BadSupertype,
}
use Rattle.cl_classfile.specs.declared.fault.ReadError.{ReadError}
use Rattle.cl_classfile.specs.declared.fault.ReadError.TheVariants as errors
use Rattle.cl_classfile.specs.declared.fault.Fault.TheVariants as faults
use Rattle.cl_classfile.specs.declared.version.Owner.{Owner}
use Rattle.cl_classfile.specs.declared.version.Version.{Version}
use Rattle.cl_classfile.specs.Versions.{is_supported}
use Rattle.cl_classfile.specs.declared.members.Kind.{Kind}
use Rattle.cl_classfile.specs.declared.members.Kind.TheVariants as kinds
use Rattle.cl_classfile.specs.declared.traits.Special.{Special}
use Rattle.cl_classfile.specs.declared.traits.Special.TheVariants as names
use Rattle.cl_classfile.specs.declared.traits.Traits.{Traits}
use Rattle.cl_classfile.specs.Flags.{
  has,
  static,
  interface,
  is_class_flags,
  is_field_flags,
  is_method_flags,
  is_init_flags,
}
use Rattle.cl_classfile.specs.Pool.{is_wide}
use Rattle.cl_classfile.specs.Structure.{Structure, MemberInfo, Attribute, object, owner_of}
use Rattle.cl_classfile.specs.Widths.{
  is_short,
  entry_fits,
  is_unusable,
  all_fit,
  attribute_fits,
  member_fits,
}
use Rattle.cl_classfile.specs.Rows.{is_field, entry_traits, traits_at, keeps_entry}
use Rattle.cl_classfile.specs.Files.{text_at, class_name}
use Rattle.cl_descriptors.specs.declared.limits.TheConstants.{MOST_UNITS}
use Rattle.std.specs.Option.{option_zip}
use Rattle.cl_names.specs.Steps.{◌>>=◌}

-- a function that takes memory found this fault, unless memory ran out
abbrev pub GivesFault : {Y : Type 0} → ReadError → Result Y Fault → Type 0
GivesFault errors.Memory read = Unit {0}
GivesFault (errors.Fault f) read = read ≡ Err f

-- what a function that takes memory returned is this value or fault, unless memory ran out
abbrev pub Gives : {X Y : Type 0} → (X → Y) → Result X ReadError → Result Y Fault → Type 0
Gives view (Ok x) read = read ≡ Ok (view x)
Gives view (Err e) read = GivesFault e read

-- the entry at index i, where it keeps its row of the table (JVMS SE 8, 4.4)
abbrev pub kept_entry : ℕ → List Entry → ℕ → Entry → Result Entry Fault
kept_entry major pool i e = if keeps_entry major (map entry_traits pool) pool e then Ok e else Err (BadPool i)

-- the entries from index i on: whether each keeps its row (4.4)
unfoldable pub checked_entries : ℕ → List Entry → ℕ → List Entry → Result (Unit {0}) Fault
checked_entries major pool i [] = Ok tt
checked_entries major pool i (e ∷ es) =
    kept_entry major pool i e >>= λ kept. checked_entries major pool (i + 1) es

-- the class named above may be the superclass: of an interface it is java/lang/Object
-- (JVMS SE 8, 4.1)
abbrev pub may_stand_above : Bool → Option (List ℕ) → Bool
may_stand_above of_interface None = false
may_stand_above of_interface (Some above) = not of_interface || bytes_eq above object

-- super_class is 0 exactly in java/lang/Object, which is no interface (JVMS SE 8, 4.1)
abbrev pub keeps_super : List Entry → Bool → List ℕ → ℕ → Bool
keeps_super pool of_interface name super =
    if bytes_eq name object
    then not of_interface && super == 0
    else may_stand_above of_interface (class_name pool super)

-- this_class has a name, and super_class suits it (4.1)
abbrev pub keeps_names : List Entry → Bool → ℕ → Option (List ℕ) → Bool
keeps_names pool of_interface super None = false
keeps_names pool of_interface super (Some name) = keeps_super pool of_interface name super

-- a count can say how many interfaces there are, and each is a class (JVMS SE 8, 4.1)
abbrev pub keeps_interfaces : List Entry → List ℕ → Bool
keeps_interfaces pool interfaces = all_fit (λ i. is_some (class_name pool i)) interfaces

-- the flags, and then this_class, super_class and the interfaces (JVMS SE 8, 4.1)
abbrev pub checked_class : ℕ → List Entry → ℕ → ℕ → ℕ → List ℕ → Result (Unit {0}) Fault
checked_class major pool flags this super interfaces =
    if is_short flags && is_class_flags major flags
    then if keeps_names pool (has flags interface) super (class_name pool this)
    && keeps_interfaces pool interfaces
    then Ok tt
    else Err BadSupertype
    else Err BadFlags

-- ---- members (JVMS SE 8, 4.5, 4.6)

-- a field keeps its table (4.5)
abbrev pub keeps_field : List Traits → Bool → MemberInfo → Bool
keeps_field traits of_interface m =
    is_field_flags of_interface m.flags && (traits_at traits m.name_index).unqualified
    && is_field (traits_at traits m.descriptor_index).form

-- the parameters leave a unit for this, where the method is of an instance (4.3.3)
abbrev pub has_room : Bool → Option ℕ → Bool
has_room of_class None = false
has_room of_class (Some units) = of_class || nat_lt units MOST_UNITS

-- the flags of a method of such a name (4.6)
abbrev pub keeps_method_flags : Special → Owner → ℕ → Bool
keeps_method_flags names.Clinit owner flags = true
keeps_method_flags names.Init owner flags =
    is_method_flags owner flags && is_init_flags flags
keeps_method_flags names.Plain owner flags = is_method_flags owner flags
keeps_method_flags names.Angle owner flags = is_method_flags owner flags

-- a method keeps its table (4.6)
abbrev pub keeps_method : List Traits → Owner → MemberInfo → Bool
keeps_method traits owner m =
    keeps_method_flags (traits_at traits m.name_index).special owner m.flags
    && (traits_at traits m.name_index).method
    && has_room (has m.flags static) (traits_at traits m.descriptor_index).units

-- a field, or a method, fits its widths and keeps its table (4.5, 4.6)
abbrev pub keeps_member : Kind → List Traits → Owner → MemberInfo → Bool
keeps_member kinds.Field traits owner m = member_fits m && keeps_field traits owner.of_interface m
keeps_member kinds.Method traits owner m = member_fits m && keeps_method traits owner m

-- the texts of a name and of a descriptor (4.5, 4.6)
abbrev pub TextKey : Type 0
TextKey = List ℕ × List ℕ

-- what no two fields, and no two methods, may have in common (4.5, 4.6)
abbrev pub key_of : List Entry → MemberInfo → Option TextKey
key_of pool m = option_zip (text_at pool m.name_index) (text_at pool m.descriptor_index)

-- two keys are the same (4.5, 4.6)
abbrev pub same_text_key : Option TextKey → Option TextKey → Bool
same_text_key (Some a) (Some b) = bytes_eq a.0 b.0 && bytes_eq a.1 b.1
same_text_key (Some a) None = false
same_text_key None other = false

-- the members agree in name and descriptor (4.5, 4.6)
abbrev pub same_member : List Entry → MemberInfo → MemberInfo → Bool
same_member pool a b = same_text_key (key_of pool a) (key_of pool b)

-- each member keeps its row, and agrees with none before it, nor with one of these (4.5, 4.6)
unfoldable pub checked_members : (MemberInfo → Bool) → List Entry → List MemberInfo
    → List MemberInfo
    → Result (Unit {0}) Fault
checked_members keeps pool before [] = Ok tt
checked_members keeps pool before (m ∷ ms) =
    if keeps m
    then if list_any (λ e. same_member pool e m) before
    then Err Duplicate
    else checked_members keeps pool (before ++ m ∷ []) ms
    else Err BadMember

-- a count can say how many members there are, and each is looked at (4.1, 4.5, 4.6)
unfoldable pub checked_list : Kind → List Traits → Owner → List Entry → List MemberInfo
    → Result (Unit {0}) Fault
checked_list kind traits owner pool ms =
    if is_short (length ms)
    then checked_members (keeps_member kind traits owner) pool [] ms
    else Err BadMember

-- the attributes fit their widths (4.7)
abbrev pub checked_attributes : List Attribute → Result (Unit {0}) Fault
checked_attributes attributes = if all_fit attribute_fits attributes then Ok tt else Err BadMember

-- the class's own tables, then its fields, its methods and its attributes, where the traits of the
-- entries are given (4.1, 4.5 to 4.7)
unfoldable pub checked_tables : List Traits → List Entry → Structure → Result (Unit {0}) Fault
checked_tables traits pool f =
    checked_class f.version.major pool f.flags f.this_class f.super_class f.interfaces >>= λ class.
    (checked_list kinds.Field traits (owner_of f) pool f.fields >>= λ fields.
    (checked_list kinds.Method traits (owner_of f) pool f.methods
    >>= λ methods. checked_attributes f.attributes))

-- the file, where it keeps the tables and what stands behind its pool fits its widths (4.1)
unfoldable pub kept_file : Structure → Result Structure Fault
kept_file f =
    checked_entries f.version.major f.pool 1 f.pool
    >>= λ entries. (checked_tables (map entry_traits f.pool) f.pool f >>= λ tables. Ok f)

-- ---- parts that no bytes were read for
-- (own choice of the order: that of the bytes, a count before its items)

-- an entry may stand behind one that takes its index too, or behind another, and fits its width
-- (4.4.5)
abbrev pub fits_slot : Bool → Entry → Bool
fits_slot true e = is_unusable e
fits_slot false e = not (is_unusable e) && entry_fits e

-- the entries behind index i: whether each may stand there (4.4.5)
unfoldable pub checked_slots : ℕ → Bool → List Entry → Result (Unit {0}) Fault
checked_slots i false [] = Ok tt
checked_slots i true [] = Err (BadPool i)
checked_slots i taken (e ∷ es) =
    if fits_slot taken e then checked_slots (i + 1) (is_wide e) es else Err (BadPool (i + 1))

-- the count of the pool can say how many entries there are, and each may stand where it does
-- (4.1, 4.4.5)
unfoldable pub checked_pool : List Entry → Result (Unit {0}) Fault
checked_pool pool =
    if is_short (length pool + 1) then checked_slots 0 false pool else Err (BadPool 0)

-- the version is one that is read (4.1)
abbrev pub checked_version : Version → Result (Unit {0}) Fault
checked_version v =
    if is_short v.minor && is_short v.major && is_supported v then Ok tt else Err faults.Version

-- the file of these parts, or their first fault: the version, what no bytes spell of the pool, and
-- then as in a file that is read (4.1)
unfoldable pub parts_of : Structure → Result Structure Fault
parts_of f = checked_version f.version >>= λ version. (checked_pool f.pool >>= λ pool. kept_file f)

-- The tables of flags (JVMS SE 8, 4.1, 4.5, 4.6); a bit that a table does not name may be set.
use Rattle.std.specs.Prelude.{ℕ, ◌/◌, ◌%◌, Bool, not, ◌&&◌, ◌||◌, ◌==◌, nat_lt, if◌then◌else◌}
use Rattle.cl_classfile.specs.declared.version.Owner.{Owner}

-- flags have this bit (4.1)
abbrev pub has : ℕ → ℕ → Bool
has flags bit = flags / bit % 2 == 1

-- ---- the bits, by their names in the tables 4.1-A, 4.5-A and 4.6-A

-- what has it may be used from outside its package (table 4.1-A, 4.5-A, 4.6-A)
abbrev pub public : ℕ
public = 0x0001

-- what has it is used in its own class alone (table 4.5-A, 4.6-A)
abbrev pub private : ℕ
private = 0x0002

-- what has it may be used in subclasses (table 4.5-A, 4.6-A)
abbrev pub protected : ℕ
protected = 0x0004

-- what has it is of the class, and of no instance (table 4.5-A, 4.6-A)
abbrev pub static : ℕ
static = 0x0008

-- what has it is not changed, overridden or extended (table 4.1-A, 4.5-A, 4.6-A)
abbrev pub final : ℕ
final = 0x0010

-- what has it is treated as a class is since JDK 1.0.2 (table 4.1-A)
abbrev pub super : ℕ
super = 0x0020

-- what has it is wrapped in a lock (table 4.6-A)
abbrev pub synchronized : ℕ
synchronized = 0x0020

-- what has it is not cached (table 4.5-A)
abbrev pub volatile : ℕ
volatile = 0x0040

-- what has it was made by a compiler to bridge two types (table 4.6-A)
abbrev pub bridge : ℕ
bridge = 0x0040

-- what has it is not kept with an object (table 4.5-A)
abbrev pub transient : ℕ
transient = 0x0080

-- what has it is written in another language (table 4.6-A)
abbrev pub native : ℕ
native = 0x0100

-- what has it is an interface (table 4.1-A)
abbrev pub interface : ℕ
interface = 0x0200

-- what has it is not instantiated, or has no body (table 4.1-A, 4.6-A)
abbrev pub abstract : ℕ
abstract = 0x0400

-- what has it computes floating point strictly (table 4.6-A)
abbrev pub strict : ℕ
strict = 0x0800

-- what has it is an annotation type (table 4.1-A)
abbrev pub annotation : ℕ
annotation = 0x2000

-- what has it is an enum, or an element of one (table 4.1-A, 4.5-A)
abbrev pub enum : ℕ
enum = 0x4000

-- ---- classes

-- an interface is never final or an enum, from 49.0 on not super, and from 50.0 on abstract
-- (4.1; own choice of these versions)
abbrev pub is_interface_flags : ℕ → ℕ → Bool
is_interface_flags major flags =
    (nat_lt major 50 || has flags abstract) && not (has flags final)
    && (nat_lt major 49 || not (has flags super)) && not (has flags enum)

-- a class that is no interface is no annotation, and not both final and abstract (4.1)
abbrev pub is_plain_flags : ℕ → Bool
is_plain_flags flags = not (has flags annotation) && not (has flags final && has flags abstract)

-- the flags of a class file go together (4.1)
abbrev pub is_class_flags : ℕ → ℕ → Bool
is_class_flags major flags =
    if has flags interface then is_interface_flags major flags else is_plain_flags flags

-- ---- members

-- at most one of public, private and protected (4.5, 4.6)
abbrev pub has_one_access : ℕ → Bool
has_one_access flags =
    not (has flags public && has flags private) && not (has flags public && has flags protected)
    && not (has flags private && has flags protected)

-- a field of an interface is public, static and final, and of the others synthetic at most (4.5)
abbrev pub is_constant_flags : ℕ → Bool
is_constant_flags flags =
    has flags public && has flags static && has flags final
    && not (has flags private || has flags protected || has flags volatile || has flags transient
    || has flags enum)

-- a field is not both final and volatile (4.5)
abbrev pub is_field_flags : Bool → ℕ → Bool
is_field_flags of_interface flags =
    if of_interface
    then is_constant_flags flags
    else has_one_access flags && not (has flags final && has flags volatile)

-- an abstract method is none of these, and from 49.0 on neither synchronized nor strict
-- (4.6; own choice of this version)
abbrev pub may_be_abstract : ℕ → ℕ → Bool
may_be_abstract major flags =
    not (has flags private || has flags static || has flags final || has flags native)
    && (nat_lt major 49 || not (has flags synchronized || has flags strict))

-- a method of an interface is public or private, below 52.0 public and abstract, and none of these
-- (4.6)
abbrev pub may_be_of_interface : ℕ → ℕ → Bool
may_be_of_interface major flags =
    (if nat_lt major 52
    then has flags public && has flags abstract
    else has flags public || has flags private)
    && not (has flags protected || has flags final || has flags synchronized || has flags native)

-- the flags of a method go together (4.6)
abbrev pub is_method_flags : Owner → ℕ → Bool
is_method_flags owner flags =
    has_one_access flags && (not (has flags abstract) || may_be_abstract owner.major flags)
    && (not owner.of_interface || may_be_of_interface owner.major flags)

-- what makes an instance is none of these (4.6)
abbrev pub is_init_flags : ℕ → Bool
is_init_flags flags =
    not (has flags static || has flags final || has flags synchronized || has flags bridge
    || has flags native || has flags abstract)

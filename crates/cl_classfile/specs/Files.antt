-- The parts of a class file that linking looks at (JVMS SE 8, 4.1 to 4.6).
use Rattle.std.specs.Prelude.{
  ℕ,
  ◌+◌,
  Bool,
  false,
  ◌&&◌,
  ◌==◌,
  List,
  [],
  ◌∷◌,
  ◌++◌,
  Option,
  Some,
  None,
  find,
  filter_map,
  option_map,
  option_and_then,
  option_to_list,
  unwrap_or,
  if◌then◌else◌,
  bytes_eq,
  slice_index,
}
use Rattle.std.specs.Cmp.Lexicographic.{pointwise}
use Rattle.cl_descriptors.specs.declared.types.Base.{Base}
use Rattle.cl_descriptors.specs.declared.types.Base.TheVariants as bases
use Rattle.cl_descriptors.specs.declared.types.FieldType.{FieldType}
use Rattle.cl_descriptors.specs.declared.types.Descriptor.{Descriptor}
use Rattle.cl_descriptors.specs.declared.types.Descriptor.TheVariants as descriptors
use Rattle.cl_classfile.specs.declared.entry.Entry.{Entry}
use Rattle.cl_descriptors.specs.Reading.{whole_field, whole_method}
use Rattle.cl_classfile.specs.declared.entry.Entry.TheVariants.{
  Utf8,
  Class,
  Fieldref,
  Methodref,
  InterfaceMethodref,
  NameAndType,
}
pub use Rattle.cl_classfile.specs.Flags.{has}
use Rattle.cl_classfile.specs.Flags.{public, private, protected, static, abstract, interface}
use Rattle.cl_classfile.specs.Structure.{Structure, at}
use Rattle.cl_classfile.specs.Structure as structure
use Rattle.cl_descriptors.specs.Types.{spelling_of_base, class_of_base}

-- the bytes of the name of a class or a member (4.2)
abbrev pub Name : Type 0
Name = List ℕ

-- what a member is looked up by (5.4.3)
pub record Key : Type 0 where
  pub name : Name
  pub descriptor : Descriptor

-- a field or a method (4.5, 4.6)
pub record Member : Type 0 where
  pub flags : ℕ
  pub key : Key

-- a reference in the pool: its class, and the member asked of it (4.4.1, 4.4.2)
pub data Reference : Type 0 where
  ToClass : (target : FieldType) → Reference
  ToField : (target : FieldType) → (key : Key) → Reference
  ToMethod : (target : FieldType) → (key : Key) → Reference
  ToInterfaceMethod : (target : FieldType) → (key : Key) → Reference

-- a class file (4.1); each reference with its index in the pool
pub record File : Type 0 where
  pub flags : ℕ
  pub name : Name
  pub super_name : Option Name
  pub interfaces : List Name
  pub fields : List Member
  pub methods : List Member
  pub references : List (ℕ × Reference)

-- why bytes spell no file: of another version, or of no class file's form (4.8)
pub data FileFault : Type 0 where
  BadVersion : FileFault
  BadFormat : FileFault

-- ---- the file of a structure

-- the text at an index of the pool (4.4.7)
abbrev pub text_of : Option Entry → Option Name
text_of (Some (Utf8 text)) = Some text
text_of _ = None

-- the text at an index (4.4.7)
abbrev pub text_at : List Entry → ℕ → Option Name
text_at pool i = text_of (at pool i)

-- the name of an entry that is a class or an array (4.4.1)
abbrev pub type_of : List Entry → Option Entry → Option Name
type_of pool (Some (Class index)) = text_at pool index
type_of pool _ = None

-- the name that stands at an index, of a class or an array (4.4.1)
abbrev pub type_name : List Entry → ℕ → Option Name
type_name pool i = type_of pool (at pool i)

-- the name of an array is its descriptor (4.4.1)
abbrev pub is_array_name : Name → Bool
is_array_name [] = false
is_array_name (c ∷ rest) = c == 0x5b

-- a name, unless it is that of an array (4.4.1)
abbrev pub no_array : Name → Option Name
no_array name = if is_array_name name then None else Some name

-- the name of an entry that is a class and no array (4.4.1)
abbrev pub class_name : List Entry → ℕ → Option Name
class_name pool i = option_and_then no_array (type_name pool i)

-- a class that is no array, as a type (4.3.2)
abbrev pub class_type : Name → FieldType
class_type name = record { dims = 0; base = bases.Class name }

-- the type of this name (4.4.1, 4.3.2)
abbrev pub named_type : Name → Option FieldType
named_type name = if is_array_name name then whole_field name else Some (class_type name)

-- ---- references, by their texts and by their types

-- the class or array that a member is asked of, the member's name and its descriptor (4.4.2)
pub record Symbol : Type 0 where
  pub class : Name
  pub name : Name
  pub descriptor : Name

-- what a reference says (4.4.1, 4.4.2)
pub data Citation : Type 0 where
  CitesClass : (name : Name) → Citation
  CitesField : (symbol : Symbol) → Citation
  CitesMethod : (symbol : Symbol) → Citation
  CitesInterfaceMethod : (symbol : Symbol) → Citation

-- three texts, where each is there (4.4.2)
abbrev pub symbol_of : Option Name → Option Name → Option Name → Option Symbol
symbol_of (Some class) (Some name) (Some descriptor) =
    Some (record { class = class; name = name; descriptor = descriptor })
symbol_of _ _ _ = None

-- the texts of the name and of the descriptor of a name and type (4.4.6)
abbrev pub pair_name : List Entry → Option Entry → Option Name
pair_name pool (Some (NameAndType name descriptor)) = text_at pool name
pair_name pool _ = None

-- the descriptor of a name and type (4.4.6)
abbrev pub pair_descriptor : List Entry → Option Entry → Option Name
pair_descriptor pool (Some (NameAndType name descriptor)) = text_at pool descriptor
pair_descriptor pool _ = None

-- the texts of a member reference with this class and this name and type (4.4.2)
abbrev pub symbol_at : List Entry → ℕ → ℕ → Option Symbol
symbol_at pool class pair =
    symbol_of (type_name pool class) (pair_name pool (at pool pair))
    (pair_descriptor pool (at pool pair))

-- the texts of an entry that refers to a class or a member (4.4.1, 4.4.2)
abbrev pub citation_of : List Entry → Entry → Option Citation
citation_of pool (Class text) = option_map (λ name. CitesClass name) (text_at pool text)
citation_of pool (Fieldref class pair) = option_map (λ s. CitesField s) (symbol_at pool class pair)
citation_of pool (Methodref class pair) =
    option_map (λ s. CitesMethod s) (symbol_at pool class pair)
citation_of pool (InterfaceMethodref class pair) =
    option_map (λ s. CitesInterfaceMethod s) (symbol_at pool class pair)
citation_of pool _ = None

-- the key of a field, and of a method, of this name and descriptor (4.3.2, 4.3.3)
abbrev pub field_of : Name → Name → Option Key
field_of name descriptor =
    option_map (λ t. record { name = name; descriptor = descriptors.Field t })
    (whole_field descriptor)

-- the key of a method (4.3.3)
abbrev pub method_of : Name → Name → Option Key
method_of name descriptor =
    option_map (λ m. record { name = name; descriptor = descriptors.Method m })
    (whole_method descriptor)

-- the key of a field that is referred to (4.4.2)
abbrev pub field_key : Symbol → Option Key
field_key s = field_of s.name s.descriptor

-- the key of a method that is referred to (4.4.2)
abbrev pub method_key : Symbol → Option Key
method_key s = method_of s.name s.descriptor

-- a reference to a member, where its type and its key are there (4.4.2)
abbrev pub typed_by : (FieldType → Key → Reference) → Option FieldType → Option Key
    → Option Reference
typed_by make (Some target) (Some key) = Some (make target key)
typed_by make _ _ = None

-- a reference with its descriptors read (4.3, 4.4.2)
abbrev pub typed_reference : Citation → Option Reference
typed_reference (CitesClass name) = option_map (λ t. ToClass t) (named_type name)
typed_reference (CitesField s) = typed_by ToField (named_type s.class) (field_key s)
typed_reference (CitesMethod s) = typed_by ToMethod (named_type s.class) (method_key s)
typed_reference (CitesInterfaceMethod s) =
    typed_by ToInterfaceMethod (named_type s.class) (method_key s)

-- what an entry refers to, if it is a reference (4.4.1, 4.4.2)
abbrev pub reference_of : List Entry → Entry → Option Reference
reference_of pool e = option_and_then typed_reference (citation_of pool e)

-- the references among the entries from an index on (4.4)
abbrev pub references_from : List Entry → ℕ → List Entry → List (ℕ × Reference)
references_from pool i [] = []
references_from pool i (e ∷ es) =
    option_to_list (option_map (λ r. (i, r)) (reference_of pool e))
    ++ references_from pool (i + 1) es

-- what linking looks at of a field or a method (4.5, 4.6)
abbrev pub linked_member : (Name → Name → Option Key) → ℕ → Option Name → Option Name
    → Option Member
linked_member key flags (Some name) (Some descriptor) =
    option_map (λ k. record { flags = flags; key = k }) (key name descriptor)
linked_member key flags _ _ = None

-- what linking looks at of a member of the structure (4.5, 4.6)
abbrev pub declared_by : (Name → Name → Option Key) → List Entry → structure.MemberInfo
    → Option Member
declared_by key pool m =
    linked_member key m.flags (text_at pool m.name_index) (text_at pool m.descriptor_index)

-- what linking looks at in a structure (4.1)
abbrev pub file_of : Structure → File
file_of f = record {
  flags = f.flags;
  name = unwrap_or (class_name f.pool f.this_class) [];
  super_name = class_name f.pool f.super_class;
  interfaces = filter_map (class_name f.pool) f.interfaces;
  fields = filter_map (declared_by field_of f.pool) f.fields;
  methods = filter_map (declared_by method_of f.pool) f.methods;
  references = references_from f.pool 1 f.pool;
}

-- ---- flags, and members by their key

-- it is public (tables 4.1-A, 4.5-A, 4.6-A)
abbrev pub is_public : ℕ → Bool
is_public flags = has flags public

-- it is private (tables 4.5-A, 4.6-A)
abbrev pub is_private : ℕ → Bool
is_private flags = has flags private

-- it is protected (tables 4.5-A, 4.6-A)
abbrev pub is_protected : ℕ → Bool
is_protected flags = has flags protected

-- it is static (tables 4.5-A, 4.6-A)
abbrev pub is_static : ℕ → Bool
is_static flags = has flags static

-- it is abstract (tables 4.1-A, 4.6-A)
abbrev pub is_abstract : ℕ → Bool
is_abstract flags = has flags abstract

-- it is an interface (table 4.1-A)
abbrev pub is_interface : File → Bool
is_interface f = has f.flags interface

-- two names are the same (4.2)
abbrev pub same_name : Name → Name → Bool
same_name = bytes_eq

-- the letter of a base, and `L` of a class (4.3.2)
abbrev pub letter : Base → ℕ
letter base = slice_index (spelling_of_base base) 0

-- the name of a base that is a class (4.3.2)
abbrev pub element_name : Base → List Name
element_name base = option_to_list (class_of_base base)

-- two bases are the same (4.3.2)
abbrev pub same_base : Base → Base → Bool
same_base a b = (letter a == letter b) && pointwise same_name (element_name a) (element_name b)

-- two types are the same (4.3.2)
abbrev pub same_type : FieldType → FieldType → Bool
same_type a b = (a.dims == b.dims) && same_base a.base b.base

-- two descriptors are the same (4.3)
abbrev pub same_descriptor : Descriptor → Descriptor → Bool
same_descriptor (descriptors.Field a) (descriptors.Field b) = same_type a b
same_descriptor (descriptors.Method a) (descriptors.Method b) =
    pointwise same_type (option_to_list a.ret) (option_to_list b.ret)
    && pointwise same_type a.params b.params
same_descriptor (descriptors.Field a) (descriptors.Method b) = false
same_descriptor (descriptors.Method a) (descriptors.Field b) = false

-- two keys are the same (5.4.3)
abbrev pub same_key : Key → Key → Bool
same_key a b = same_name a.name b.name && same_descriptor a.descriptor b.descriptor

-- the member of a list with this key: there is at most one (4.5, 4.6)
abbrev pub member : List Member → Key → Option Member
member ms key = find (λ m. same_key m.key key) ms

-- the reference at an index of the pool (4.4)
abbrev pub reference : File → ℕ → Option Reference
reference f i = option_map (λ e. e.1) (find (λ e. e.0 == i) f.references)

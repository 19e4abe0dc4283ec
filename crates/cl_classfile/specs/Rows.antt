-- The table of entries as tests (JVMS SE 8, 4.4).
use Rattle.std.specs.Prelude.{
  ℕ,
  Bool,
  true,
  false,
  ◌&&◌,
  ◌||◌,
  ◌==◌,
  nat_le,
  length,
  List,
  [],
  ◌∷◌,
  Option,
  Some,
  None,
  unwrap_or,
  if◌then◌else◌,
  bytes_eq,
  slice_index,
  ◌≡◌,
}
use Rattle.cl_names.specs.Text.{is_text}
use Rattle.cl_names.specs.Kind.{is_class_name, is_unqualified_name, is_method_name, init, clinit}
use Rattle.cl_descriptors.specs.Reading.{form_of, units_of}
use Rattle.cl_descriptors.specs.declared.types.Form.{Form}
use Rattle.cl_descriptors.specs.declared.types.Form.TheVariants as forms
use Rattle.cl_classfile.specs.declared.entry.Entry.{Entry}
use Rattle.cl_classfile.specs.declared.entry.Entry.TheVariants.{
  Utf8,
  Class,
  String,
  Fieldref,
  Methodref,
  InterfaceMethodref,
  NameAndType,
  MethodHandle,
  MethodType,
  InvokeDynamic,
}
use Rattle.cl_classfile.specs.declared.traits.Special.{Special}
use Rattle.cl_classfile.specs.declared.traits.Special.TheVariants as names
use Rattle.cl_classfile.specs.declared.traits.Traits.{Traits}
use Rattle.cl_classfile.specs.Pool.{at, may_name_interface_method}
use Rattle.cl_names.specs.declared.kind.TheConstants.{MOST_TEXT_BYTES}

-- ---- what a text is

-- the text begins with < (4.2.2)
abbrev pub begins_angle : List ℕ → Bool
begins_angle [] = false
begins_angle (c ∷ rest) = c == 0x3c

-- which of the names that begin with < it is, if one (2.9, 4.2.2)
abbrev pub special_of : List ℕ → Special
special_of text =
    if bytes_eq text init
    then names.Init
    else if bytes_eq text clinit
    then names.Clinit
    else if begins_angle text
    then names.Angle
    else names.Plain

-- a descriptor of a field, an array, a method, a method that returns nothing (4.3)
abbrev pub is_field : Option Form → Bool
is_field (Some forms.Plain) = true
is_field (Some forms.Array) = true
is_field _ = false

-- the descriptor of an array (4.3.2)
abbrev pub is_array : Option Form → Bool
is_array (Some forms.Array) = true
is_array _ = false

-- the descriptor of a method (4.3.3)
abbrev pub is_call : Option Form → Bool
is_call (Some forms.Method) = true
is_call (Some forms.Void) = true
is_call _ = false

-- the descriptor of a method that returns nothing (4.3.3)
abbrev pub is_void : Option Form → Bool
is_void (Some forms.Void) = true
is_void _ = false

-- all that the tables ask of a text (4.4)
abbrev pub traits_of : List ℕ → Traits
traits_of text = record {
  stands = true;
  text = is_text text;
  class = is_class_name text || is_array (form_of text);
  unqualified = is_unqualified_name text;
  method = is_method_name text;
  special = special_of text;
  form = form_of text;
  units = units_of text;
}

-- a ; stands somewhere in it (4.3.2)
abbrev pub HasSemicolon : List ℕ → Type 0
HasSemicolon text = (i : ℕ) × (slice_index text i ≡ 0x3b)

-- of what is no text nothing is true (4.4)
abbrev pub nothing : Traits
nothing =
    record {
      stands = false;
      text = false;
      class = false;
      unqualified = false;
      method = false;
      special = names.Plain;
      form = None;
      units = None;
    }

-- what the tables ask of the text that an entry is (4.4.7)
abbrev pub entry_traits : Entry → Traits
entry_traits (Utf8 text) = traits_of text
entry_traits _ = nothing

-- ---- what stands at an index, where the traits of each entry are given

-- the traits at an index (4.4)
abbrev pub traits_at : List Traits → ℕ → Traits
traits_at traits i = unwrap_or (at traits i) nothing

-- the entry is a class or an array (4.4.1)
abbrev pub is_class : Option Entry → Bool
is_class (Some (Class text)) = true
is_class _ = false

-- the traits of the name and of the descriptor of a name and type (4.4.6)
abbrev pub pair_of : List Traits → Option Entry → Traits × Traits
pair_of traits (Some (NameAndType name descriptor)) =
    (traits_at traits name, traits_at traits descriptor)
pair_of traits _ = (nothing, nothing)

-- the same of the name and type at an index (4.4.6)
abbrev pub pair_at : List Traits → List Entry → ℕ → Traits × Traits
pair_at traits pool i = pair_of traits (at pool i)

-- ---- what the table asks of each kind

-- of a method with this name and this descriptor (4.4.2)
abbrev pub may_call : Special → Option Form → Bool
may_call names.Plain form = is_call form
may_call names.Init form = is_void form
may_call names.Clinit form = false
may_call names.Angle form = false

-- of a name with this descriptor (4.4.6)
abbrev pub may_pair : Traits → Option Form → Bool
may_pair name form = is_field form && name.unqualified || is_call form && name.method

-- neither <init> nor <clinit> (2.9)
abbrev pub is_plain : Special → Bool
is_plain names.Plain = true
is_plain names.Angle = true
is_plain names.Init = false
is_plain names.Clinit = false

-- it is <init> (2.9)
abbrev pub is_init : Special → Bool
is_init names.Init = true
is_init names.Plain = false
is_init names.Angle = false
is_init names.Clinit = false

-- of a method handle over this entry (4.4.8)
abbrev pub may_handle : ℕ → List Traits → List Entry → ℕ → Option Entry → Bool
may_handle major traits pool kind (Some (Fieldref class pair)) = nat_le 1 kind && nat_le kind 4
may_handle major traits pool kind (Some (Methodref class pair)) =
    (kind == 5 || kind == 6 || kind == 7) && is_plain (pair_at traits pool pair).0.special
    || kind == 8 && is_init (pair_at traits pool pair).0.special
may_handle major traits pool kind (Some (InterfaceMethodref class pair)) =
    may_name_interface_method major kind && is_plain (pair_at traits pool pair).0.special
may_handle major traits pool kind _ = false

-- the entry keeps its row of the table (4.4)
abbrev pub keeps_entry : ℕ → List Traits → List Entry → Entry → Bool
keeps_entry major traits pool (Utf8 text) = is_text text && nat_le (length text) MOST_TEXT_BYTES
keeps_entry major traits pool (Class text) = (traits_at traits text).class
keeps_entry major traits pool (String text) = (traits_at traits text).stands
keeps_entry major traits pool (Fieldref class pair) =
    is_class (at pool class) && is_field (pair_at traits pool pair).1.form
keeps_entry major traits pool (Methodref class pair) =
    is_class (at pool class)
    && may_call (pair_at traits pool pair).0.special (pair_at traits pool pair).1.form
keeps_entry major traits pool (InterfaceMethodref class pair) =
    is_class (at pool class) && is_call (pair_at traits pool pair).1.form
keeps_entry major traits pool (NameAndType name descriptor) =
    may_pair (traits_at traits name) (traits_at traits descriptor).form
keeps_entry major traits pool (MethodHandle kind reference) =
    may_handle major traits pool kind (at pool reference)
keeps_entry major traits pool (MethodType descriptor) = is_call (traits_at traits descriptor).form
keeps_entry major traits pool (InvokeDynamic bootstrap pair) = is_call (pair_at traits pool pair).1.form
keeps_entry major traits pool _ = true

-- What is read, without where it lies in memory.
use Rattle.std.specs.Prelude.{◌≡◌, ℕ, ◌+◌, ◌≤◌, nat_le, if◌then◌else◌, List, [], length, map}
use Rattle.std.specs.List.{flat_map}
use Rattle.cl_names.specs.Text.{IsModifiedUtf8}
use Rattle.cl_names.specs.Name.{part_of}
use Rattle.cl_classfile.specs.declared.entry.Entry.{Entry}
use Rattle.cl_classfile.specs.declared.entry.Entry.TheVariants.{
  Utf8,
  Integer,
  Float,
  Long,
  Double,
  Unusable,
  Class,
  String,
  Fieldref,
  Methodref,
  InterfaceMethodref,
  NameAndType,
  MethodHandle,
  MethodType,
  InvokeDynamic,
}
use Rattle.cl_classfile.specs.declared.raw.RawEntry.{RawEntry}
use Rattle.cl_classfile.specs.declared.raw.RawEntry.TheVariants as raw
use Rattle.cl_classfile.specs.declared.reading.RawFile.{RawFile}
use Rattle.cl_classfile.specs.Structure.{Structure}
use Rattle.cl_names.specs.declared.digest.TheConstants.{MOST_SHARED_BYTES}
use Rattle.cl_names.specs.declared.kind.TheConstants.{MOST_TEXT_BYTES}

-- an entry without where its text lies (4.4)
abbrev pub plain_entry : RawEntry → Entry
plain_entry (raw.Utf8 text) = Utf8 text.now
plain_entry (raw.Integer value) = Integer value
plain_entry (raw.Float bits) = Float bits
plain_entry (raw.Long value) = Long value
plain_entry (raw.Double bits) = Double bits
plain_entry raw.Unusable = Unusable
plain_entry (raw.Class text) = Class text
plain_entry (raw.String text) = String text
plain_entry (raw.Fieldref class pair) = Fieldref class pair
plain_entry (raw.Methodref class pair) = Methodref class pair
plain_entry (raw.InterfaceMethodref class pair) = InterfaceMethodref class pair
plain_entry (raw.NameAndType name descriptor) = NameAndType name descriptor
plain_entry (raw.MethodHandle kind reference) = MethodHandle kind reference
plain_entry (raw.MethodType descriptor) = MethodType descriptor
plain_entry (raw.InvokeDynamic bootstrap pair) = InvokeDynamic bootstrap pair

-- the entries, so (4.4)
abbrev pub plain_entries : List RawEntry → List Entry
plain_entries es = map plain_entry es

-- the file, so (4.1)
abbrev pub plain_file : RawFile → Structure
plain_file f = record {
  version = f.version;
  pool = plain_entries f.pool.items;
  flags = f.flags;
  this_class = f.this_class;
  super_class = f.super_class;
  interfaces = f.interfaces.items;
  fields = f.fields.items;
  methods = f.methods.items;
  attributes = f.attributes.items;
}

-- where the entry is a text, it is modified UTF-8 and no longer than a class file can say (4.4.7)
abbrev pub HoldsText : Entry → Type 0
HoldsText (Utf8 text) = IsModifiedUtf8 text × (length text ≤ MOST_TEXT_BYTES)
HoldsText _ = Unit {0}

-- the bytes of the text that an entry is, if it is one that is short enough to stand among others (4.4.7)
abbrev pub shared_in : Entry → List ℕ
shared_in (Utf8 text) = if nat_le (length text) MOST_SHARED_BYTES then text else []
shared_in _ = []

-- these texts of the entries, one behind the other
abbrev pub all_shared_in : List Entry → List ℕ
all_shared_in es = flat_map shared_in es

-- the text stands in these bytes from a place on
pub record IsPart (text : List ℕ) (start : ℕ) (bytes : List ℕ) : Type 0 where
  pub within : start + length text ≤ length bytes
  pub is : part_of start (length text) bytes ≡ text

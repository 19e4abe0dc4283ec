-- The file that the lines of a class describe (JVMS SE 8, 4.1).
use Rattle.std.specs.Prelude.{ℕ, List, [], map, Option, Some, None}
use Rattle.cl_classfile.specs.declared.entry.Entry.{Entry}
use Rattle.cl_classfile.specs.declared.entry.Entry.TheVariants as entries
use Rattle.cl_classfile.specs.Structure as structure
use Rattle.cl_writer.specs.declared.item.MemberKind.{MemberKind}
use Rattle.cl_writer.specs.declared.item.MemberKind.TheVariants as kinds
use Rattle.cl_writer.specs.declared.item.Item.{Item}
use Rattle.cl_writer.specs.declared.item.Item.TheVariants.{
  Text,
  Integer,
  Class,
  NameAndType,
  Member,
}
use Rattle.cl_writer.specs.declared.statement.MemberLine.{MemberLine}
use Rattle.cl_writer.specs.Assemblies.{ListedClass, version_of}
use Rattle.cl_writer.specs.Items.{index, items_of}

-- the reference to a member of such a kind (4.4.2)
abbrev pub reference_of : MemberKind → ℕ → ℕ → Entry
reference_of kinds.Field class pair = entries.Fieldref class pair
reference_of kinds.Method class pair = entries.Methodref class pair
reference_of kinds.InterfaceMethod class pair = entries.InterfaceMethodref class pair

-- an entry, by the indices of what it names (4.4)
abbrev pub entry_of : List Item → Item → Entry
entry_of items (Text text) = entries.Utf8 text
entry_of items (Integer number) = entries.Integer number
entry_of items (Class name) = entries.Class (index items (Text name))
entry_of items (NameAndType name descriptor) =
    entries.NameAndType (index items (Text name)) (index items (Text descriptor))
entry_of items (Member kind m) =
    reference_of kind (index items (Class m.class)) (index items (NameAndType m.name m.descriptor))

-- a field or a method, without attributes (4.5, 4.6)
abbrev pub member_of : List Item → MemberLine → structure.MemberInfo
member_of items line =
    record {
      flags = line.flags;
      name_index = index items (Text line.name);
      descriptor_index = index items (Text line.descriptor);
      attributes = [];
    }

-- the index of the superclass, and 0 where there is none (4.1)
abbrev pub super_index : List Item → Option (List ℕ) → ℕ
super_index items None = 0
super_index items (Some name) = index items (Class name)

-- the file of these entries, with the flags, names and members of the lines (4.1)
abbrev pub described_over : List Item → ListedClass → structure.Structure
described_over items l = record {
  version = version_of l;
  pool = map (entry_of items) items;
  flags = l.class.flags;
  this_class = index items (Class l.class.name);
  super_class = super_index items l.class.superclass;
  interfaces = map (λ n. index items (Class n)) l.interfaces;
  fields = map (member_of items) l.fields;
  methods = map (member_of items) l.methods;
  attributes = [];
}

-- the file that the lines describe, over the entries that they ask for (4.1)
abbrev pub described_file : ListedClass → structure.Structure
described_file l = described_over (items_of l) l

-- The pool that the assembler makes, as entries that name one another (JVMS SE 8, 4.4).
use Rattle.std.specs.Prelude.{
  ◌≡◌,
  ℕ,
  Bool,
  true,
  false,
  ◌&&◌,
  List,
  [],
  ◌∷◌,
  ◌++◌,
  fold,
  Option,
  Some,
  is_some,
  unwrap_or,
  option_to_list,
  if◌then◌else◌,
}
use Rattle.std.specs.Ordering.{int_eq}
use Rattle.std.specs.List.{flat_map, position_from}
use Rattle.std.specs.Map.{update}
use Rattle.indexmap.specs.IndexMap.{IndexMap, get}
use Rattle.cl_classfile.specs.Files.{same_name}
use Rattle.cl_writer.specs.declared.item.MemberKind.{MemberKind}
use Rattle.cl_writer.specs.declared.item.MemberKind.TheVariants as kinds
use Rattle.cl_writer.specs.declared.item.MemberName.{MemberName}
use Rattle.cl_writer.specs.declared.item.Item.{Item}
use Rattle.cl_writer.specs.declared.item.Item.TheVariants.{
  Text,
  Integer,
  Class,
  NameAndType,
  Member,
}
use Rattle.cl_writer.specs.declared.statement.MemberLine.{MemberLine}
use Rattle.cl_writer.specs.Assemblies.{ListedClass}

-- ---- two entries are equal

-- two references are of one kind (4.4.2)
abbrev pub same_kind : MemberKind → MemberKind → Bool
same_kind kinds.Field kinds.Field = true
same_kind kinds.Method kinds.Method = true
same_kind kinds.InterfaceMethod kinds.InterfaceMethod = true
same_kind _ _ = false

-- two members are of one class, name and descriptor (4.4.2, 4.4.6)
abbrev pub same_member : MemberName → MemberName → Bool
same_member m n =
    same_name m.class n.class && (same_name m.name n.name && same_name m.descriptor n.descriptor)

-- two entries name the same (4.4); names and not indices are compared
abbrev pub same_item : Item → Item → Bool
same_item (Text a) (Text b) = same_name a b
same_item (Integer a) (Integer b) = int_eq a b
same_item (Class a) (Class b) = same_name a b
same_item (NameAndType a b) (NameAndType c d) = same_name a c && same_name b d
same_item (Member k m) (Member l n) = same_kind k l && same_member m n
same_item _ _ = false

-- ---- where an entry stands

-- the least index at which the entry stands, where the first has this index (4.1)
abbrev pub index_from : ℕ → List Item → Item → Option ℕ
index_from n items item = position_from (same_item item) n items

-- indices count from 1 (4.1)
abbrev pub index_of : List Item → Item → Option ℕ
index_of items item = index_from 1 items item

-- the index of an entry that stands, and 0 of another (4.1)
abbrev pub index : List Item → Item → ℕ
index items item = unwrap_or (index_of items item) 0

-- the map tells the index of each entry
abbrev pub ItemsAreIndexed : {S : Type 0} → List Item → IndexMap Item ℕ S → Type 0
ItemsAreIndexed items indices = (item : Item) → get same_item indices item ≡ index_of items item

-- one entry of the map is put, and the others stay
abbrev pub PutsIndex : {S : Type 0} → IndexMap Item ℕ S → IndexMap Item ℕ S → Item → ℕ → Type 0
PutsIndex old new item index =
    (q : Item) → get same_item new q ≡ update same_item (get same_item old) item (Some index) q

-- ---- what stands

-- the entries with one more at the end, where no equal one stands
abbrev pub with_item : List Item → Item → List Item
with_item items item = if is_some (index_of items item) then items else items ++ item ∷ []

-- what a class wants to stand: its name, and then itself (4.4.1)
abbrev pub class_wanted : List ℕ → List Item
class_wanted name = Text name ∷ Class name ∷ []

-- the name, the descriptor, and then the pair itself (4.4.6)
abbrev pub type_wanted : List ℕ → List ℕ → List Item
type_wanted name descriptor = Text name ∷ Text descriptor ∷ NameAndType name descriptor ∷ []

-- what an entry wants to stand, in order: what it names, and then itself (4.4)
abbrev pub wanted_items : Item → List Item
wanted_items (Text text) = Text text ∷ []
wanted_items (Integer number) = Integer number ∷ []
wanted_items (Class name) = class_wanted name
wanted_items (NameAndType name descriptor) = type_wanted name descriptor
wanted_items (Member kind m) =
    class_wanted m.class ++ (type_wanted m.name m.descriptor ++ Member kind m ∷ [])

-- what a field or a method wants: its name and its descriptor (4.5, 4.6)
abbrev pub line_wanted : MemberLine → List Item
line_wanted line = Text line.name ∷ Text line.descriptor ∷ []

-- what all lines want, in their order: the `ref` lines, the class, its superclass, the interfaces,
-- the fields, the methods
abbrev pub all_wanted : ListedClass → List Item
all_wanted l =
    flat_map wanted_items l.references
    ++ (class_wanted l.class.name
    ++ (flat_map class_wanted (option_to_list l.class.superclass)
    ++ (flat_map class_wanted l.interfaces
    ++ (flat_map line_wanted l.fields ++ flat_map line_wanted l.methods))))

-- the entries of the `ref` lines stand from the start; what is wanted is appended where no equal
-- entry stands
abbrev pub items_of : ListedClass → List Item
items_of l = fold with_item l.references (all_wanted l)

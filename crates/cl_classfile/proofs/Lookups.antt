-- The member that a class declares under a name and a descriptor.
use Rattle.std.proofs.Common.{◌≡◌, Bool, true, false, ◌&&◌, List, [], ◌∷◌, Option, Some, None, refl, sym, ap, ◌∙◌}
use Rattle.std.specs.Prelude.{option_map, option_and_then, filter_map, find}
use Rattle.std.specs.List.{AllByRecursion}
use Rattle.cl_descriptors.specs.declared.types.Descriptor.TheVariants as descriptors
use Rattle.cl_descriptors.specs.Reading.{whole_field, whole_method}
use Rattle.cl_descriptors.proofs.Methods.{whole_field_again, whole_method_again}
use Rattle.cl_classfile.specs.declared.version.Owner.{Owner}
use Rattle.cl_classfile.specs.declared.entry.Entry.{Entry}
use Rattle.cl_classfile.specs.Structure.{owner_of, Structure, MemberInfo, IsClassFile}
use Rattle.cl_classfile.specs.declared.numbers.Numbers.{Numbers}
use Rattle.cl_classfile.specs.declared.index.Places.{Places}
use Rattle.cl_classfile.specs.Indexes.{Lead, led_to}
use Rattle.cl_classfile.specs.Members.{KeepsField, KeepsMethod, AreNew}
use Rattle.cl_classfile.specs.Flags.{has, interface}
use Rattle.cl_classfile.specs.Files.{Name, Key, same_name, same_key, member, field_of, method_of, declared_by, text_at, text_of, file_of}
use Rattle.cl_classfile.specs.Files as files
use Rattle.cl_classfile.specs.Lookups.{field_named, method_named, linked_field, linked_method, has_texts}
use Rattle.cl_classfile.proofs.KeyTexts.{Reads, reads_fields, reads_methods}
use Rattle.cl_classfile.proofs.Indexes.{leads}

-- a member's texts, and the key that they are
record IsKeyed (read : Name → Name → Option Key) (pool : List Entry) (m : MemberInfo) : Type 0 where
  name : Name
  descriptor : Name
  key : Key
  named : text_at pool m.name_index ≡ Some name
  described : text_at pool m.descriptor_index ≡ Some descriptor
  read_is : read name descriptor ≡ Some key

swap : (a b : Bool) → a && b ≡ b && a
swap true true = refl
swap true false = refl
swap false true = refl
swap false false = refl

no_both : (a b : Bool) → a ≡ false → a && b ≡ false
no_both false b e = refl
no_both true b e = absurd cc

module _ (read : Name → Name → Option Key) (reads : Reads read) (pool : List Entry) (name descriptor : Name) where
  declared_is : (m : MemberInfo) (k : IsKeyed read pool m) → declared_by read pool m ≡ Some (record { flags = m.flags; key = k.key })
  declared_is m k = rw (k.named, k.described, k.read_is) refl

  test_is : (m : MemberInfo) (k : IsKeyed read pool m) (key : Key) → read name descriptor ≡ Some key → has_texts pool name descriptor m ≡ same_key k.key key
  test_is m k key e =
      let texts : has_texts pool name descriptor m ≡ same_name k.descriptor descriptor && same_name k.name name = rw (k.named, k.described) refl in
      texts ∙ swap (same_name k.descriptor descriptor) (same_name k.name name) ∙ sym (reads.same k.name k.descriptor name descriptor k.key key k.read_is e)

  test_none : (m : MemberInfo) (k : IsKeyed read pool m) → read name descriptor ≡ None → has_texts pool name descriptor m ≡ false
  test_none m k e =
      let texts : has_texts pool name descriptor m ≡ same_name k.descriptor descriptor && same_name k.name name = rw (k.named, k.described) refl in
      texts ∙ no_both (same_name k.descriptor descriptor) (same_name k.name name) (reads.other k.name k.descriptor name descriptor k.key k.read_is e)

  abbrev found : List MemberInfo → Option (Option files.Member)
  found ms = option_map (declared_by read pool) (find (has_texts pool name descriptor) ms)

  abbrev meant : Option Key → List MemberInfo → Option (Option files.Member)
  meant o ms = option_map (λ m. Some m) (option_and_then (member (filter_map (declared_by read pool) ms)) o)

  one_more : (m : MemberInfo) (k : IsKeyed read pool m) (key : Key) (ms : List MemberInfo) (b : Bool) → has_texts pool name descriptor m ≡ b → same_key k.key key ≡ b
      → found ms ≡ meant (Some key) ms → found (m ∷ ms) ≡ meant (Some key) (m ∷ ms)
  one_more m k key ms true t e others = rw (t, declared_is m k, e) refl
  one_more m k key ms false t e others = rw (t, declared_is m k, e) others

  none_more : (m : MemberInfo) (ms : List MemberInfo) → has_texts pool name descriptor m ≡ false → found ms ≡ None → found (m ∷ ms) ≡ None
  none_more m ms t others = rw t others

  found_is : (key : Key) → read name descriptor ≡ Some key → (ms : List MemberInfo) → AllByRecursion (IsKeyed read pool) ms → found ms ≡ meant (Some key) ms
  found_is key e [] all = refl
  found_is key e (m ∷ ms) all =
      let t : has_texts pool name descriptor m ≡ same_key all.0.key key = test_is m all.0 key e in
      one_more m all.0 key ms (same_key all.0.key key) t refl (found_is key e ms all.1)

  none_is : read name descriptor ≡ None → (ms : List MemberInfo) → AllByRecursion (IsKeyed read pool) ms → found ms ≡ None
  none_is e [] all = refl
  none_is e (m ∷ ms) all = none_more m ms (test_none m all.0 e) (none_is e ms all.1)

  either_is : (o : Option Key) → read name descriptor ≡ o → (ms : List MemberInfo) → AllByRecursion (IsKeyed read pool) ms → found ms ≡ meant o ms
  either_is (Some key) e ms all = found_is key e ms all
  either_is None e ms all = none_is e ms all

-- ---- the members of a class file

field_keyed : (pool : List Entry) (b : Bool) (m : MemberInfo) → KeepsField pool b m → IsKeyed field_of pool m
field_keyed pool b m k =
    let read : whole_field k.descriptor.text ≡ Some k.descriptor.kind.0 = whole_field_again k.descriptor.text k.descriptor.kind.0 k.descriptor.kind.1 in
    record {
      name = k.name.text;
      descriptor = k.descriptor.text;
      key = record { name = k.name.text; descriptor = descriptors.Field k.descriptor.kind.0 };
      named = ap text_of k.name.is_text;
      described = ap text_of k.descriptor.is_text;
      read_is = rw read refl;
    }

method_keyed : (pool : List Entry) (b : Owner) (m : MemberInfo) → KeepsMethod pool b m → IsKeyed method_of pool m
method_keyed pool b m k =
    let read : whole_method k.descriptor.text ≡ Some k.descriptor.kind.0 = whole_method_again k.descriptor.text k.descriptor.kind.0 k.descriptor.kind.1 in
    record {
      name = k.name.text;
      descriptor = k.descriptor.text;
      key = record { name = k.name.text; descriptor = descriptors.Method k.descriptor.kind.0 };
      named = ap text_of k.name.is_text;
      described = ap text_of k.descriptor.is_text;
      read_is = rw read refl;
    }

each : {P Q : MemberInfo → Type 0} → ((m : MemberInfo) → P m → Q m) → (ms : List MemberInfo) → AllByRecursion P ms → AllByRecursion Q ms
each f [] all = tt
each f (m ∷ ms) all = (f m all.0, each f ms all.1)

pub field_is : (f : Structure) → IsClassFile f → (name descriptor : Name)
    → option_map (linked_field f) (find (has_texts f.pool name descriptor) f.fields) ≡ option_map (λ m. Some m) (field_named (file_of f) name descriptor)
field_is f is name descriptor =
    either_is field_of reads_fields f.pool name descriptor (field_of name descriptor) refl f.fields
    (each (field_keyed f.pool (has f.flags interface)) f.fields is.kept.fields.each)

pub method_is : (f : Structure) → IsClassFile f → (name descriptor : Name)
    → option_map (linked_method f) (find (has_texts f.pool name descriptor) f.methods) ≡ option_map (λ m. Some m) (method_named (file_of f) name descriptor)
method_is f is name descriptor =
    either_is method_of reads_methods f.pool name descriptor (method_of name descriptor) refl f.methods
    (each (method_keyed f.pool (owner_of f)) f.methods is.kept.methods.each)

-- ---- what a search found, r, with what g tells of it: the members are those that the file showed, and so is the pool

-- what is true of what was found is true of it without where it lies
map_after : {A B C : Type 0} (f : A → B) (g : B → C) (o : Option A) (r : Option B) → option_map f o ≡ r → option_map (λ a. g (f a)) o ≡ option_map g r
map_after f g None r e = ap (option_map g) e
map_after f g (Some a) r e = ap (option_map g) e

module _ {A B : Type 0} (now : A → MemberInfo) (g : MemberInfo → B) (pool : List Entry) (ms shown : List MemberInfo) (same : shown ≡ ms) (name descriptor : Name) (r : Option A) where
  abbrev IsFound : Type 0
  IsFound = option_map (λ m. g (now m)) r ≡ option_map g (find (has_texts pool name descriptor) ms)

  pub by_index : (from : List Entry) → from ≡ pool → (ns : Numbers) (ps : Places) → Lead pool ns ps ms → AreNew pool [] ms → option_map now r ≡ led_to from ns ps shown name descriptor → IsFound
  by_index from pools ns ps lead new e =
      map_after now g r _ (e ∙ ap (λ (es : List Entry). led_to es ns ps shown name descriptor) pools ∙ ap (λ (it : List MemberInfo). led_to pool ns ps it name descriptor) same ∙ leads pool ns ps ms lead new name descriptor)

  pub by_look : (from : List Entry) → from ≡ pool → option_map now r ≡ find (has_texts from name descriptor) shown → IsFound
  by_look from pools e =
      map_after now g r _ (e ∙ ap (λ (es : List Entry). find (has_texts es name descriptor) shown) pools ∙ ap (find (has_texts pool name descriptor)) same)

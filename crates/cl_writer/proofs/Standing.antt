-- What is wanted stands among the entries, so that a file that was assembled is printed as its lines.
use Rattle.std.proofs.Common.{◌≡◌, ℕ, suc, ◌+◌, ◌==◌, Bool, true, false, cond, List, [], ◌∷◌, ◌++◌, fold, map, codes, Option, Some, None, is_some, length, refl, sym, ap, ◌∙◌, arith}
use Rattle.std.specs.Prelude.{slice_get, option_map, unwrap_or, option_to_list}
use Rattle.std.specs.List.{flat_map, AllByRecursion}
use Rattle.std.proofs.lemmas.Bool.Decides.{nat_tests}
use Rattle.std.proofs.lemmas.Option.{slice_get-map, same_Some}
use Rattle.cl_names.specs.Escape.{escaped_text, four_digits}
use Rattle.cl_classfile.specs.declared.entry.Entry.{Entry}
use Rattle.cl_classfile.specs.Pool.{at}
use Rattle.cl_classfile.specs.Files as files
use Rattle.cl_writer.specs.declared.item.Item.{Item}
use Rattle.cl_writer.specs.declared.item.Item.TheVariants.{Text, Class}
use Rattle.cl_writer.specs.declared.statement.ClassLine.{ClassLine}
use Rattle.cl_writer.specs.declared.statement.MemberLine.{MemberLine}
use Rattle.cl_writer.specs.Assemblies.{ListedClass, version_of}
use Rattle.cl_writer.specs.Items.{same_item, index_from, index_of, index, with_item, class_wanted, line_wanted, wanted_items, all_wanted, items_of}
use Rattle.cl_writer.specs.Described.{entry_of, member_of, super_index, described_file}
use Rattle.cl_writer.specs.Listings.{printed_name, printed_type, printed_super, class_lines, version_line, implements_line, member_line, listing_of, super_text, class_text, implements_text, member_text, listed_lines}
use Rattle.cl_writer.proofs.Indexed.{same_says, same_self, index_more, some_is}
use Rattle.std.specs.Option.{option_or}

-- ---- what is wanted stands

abbrev Stands : List Item → Item → Type 0
Stands items item = is_some (index_of items item) ≡ true

or_first : (o p : Option ℕ) → is_some o ≡ true → is_some (option_or o p) ≡ true
or_first None p e = absurd cc
or_first (Some n) p e = refl

or_second : (o : Option ℕ) (n : ℕ) → is_some (option_or o (Some n)) ≡ true
or_second None n = refl
or_second (Some m) n = refl

still : (items : List Item) (item q : Item) → Stands items q → Stands (with_item items item) q
still items item q h = by (is_some (index_of items item))
  where
    by : (b : Bool) → Stands (cond b items (items ++ item ∷ [])) q
    by true = h
    by false = ap is_some (index_more 1 (1 + length items) items item q refl) ∙ or_first (index_of items q) (cond (same_item q item) (Some (1 + length items)) None) h

enters : (items : List Item) (item : Item) → Stands (with_item items item) item
enters items item = by (is_some (index_of items item)) refl
  where
    by : (b : Bool) → is_some (index_of items item) ≡ b → Stands (cond b items (items ++ item ∷ [])) item
    by true e = e
    by false e =
        ap is_some (index_more 1 (1 + length items) items item item refl ∙ ap (λ t. option_or (index_of items item) (cond t (Some (1 + length items)) None)) (same_self item))
        ∙ or_second (index_of items item) (1 + length items)

stays : (ws items : List Item) (q : Item) → Stands items q → Stands (fold with_item items ws) q
stays [] items q h = h
stays (w ∷ ws) items q h = stays ws (with_item items w) q (still items w q h)

all_stand : (ws items : List Item) → AllByRecursion (Stands (fold with_item items ws)) ws
all_stand [] items = tt
all_stand (w ∷ ws) items = (stays ws (with_item items w) w (enters items w), all_stand ws (with_item items w))

split : {A : Type 0} (P : A → Type 0) (xs ys : List A) → AllByRecursion P (xs ++ ys) → AllByRecursion P xs × AllByRecursion P ys
split P [] ys h = (tt, h)
split P (x ∷ xs) ys h = let t = split P xs ys h.1 in ((h.0, t.0), t.1)

each : {A B : Type 0} (P : B → Type 0) (f : A → List B) (xs : List A) → AllByRecursion P (flat_map f xs) → AllByRecursion (λ x. AllByRecursion P (f x)) xs
each P f [] h = tt
each P f (x ∷ xs) h = let t = split P (f x) (flat_map f xs) h in (t.0, each P f xs t.1)

-- ---- where it stands

record IsPlace (n : ℕ) (xs : List Item) (q : Item) (k : ℕ) : Type 0 where
  pub before : ℕ
  pub is : k ≡ n + before
  pub there : slice_get xs before ≡ Some q

place : (n : ℕ) (xs : List Item) (q : Item) (k : ℕ) → index_from n xs q ≡ Some k → IsPlace n xs q k
place n [] q k e = absurd cc
place n (x ∷ xs) q k e = by (place (n + 1) xs q k) (same_item q x) refl
  where
    by : (index_from (n + 1) xs q ≡ Some k → IsPlace (n + 1) xs q k) → (b : Bool) → same_item q x ≡ b → IsPlace n (x ∷ xs) q k
    by later true same = let f : n ≡ k = same_Some _ _ (rw same at e) in record { before = 0; is = omega arith; there = ap Some (sym (same_says q x same)) }
    by later false same =
        let g : IsPlace (n + 1) xs q k = later (rw same at e) in
        let i : k ≡ n + 1 + g.before = g.is in
        record { before = suc g.before; is = omega arith; there = g.there }

abbrev pool_of : List Item → List Entry
pool_of items = map (entry_of items) items

record HasIndex (items : List Item) (item : Item) : Type 0 where
  pub before : ℕ
  pub is : index items item ≡ suc before
  pub there : at (pool_of items) (index items item) ≡ Some (entry_of items item)

there : (items : List Item) (item : Item) → Stands items item → HasIndex items item
there items item h =
    let s = some_is (index_of items item) h in
    let p : IsPlace 1 items item s.0 = place 1 items item s.0 s.1 in
    let i : s.0 ≡ 1 + p.before = p.is in
    let j : s.0 ≡ suc p.before = omega arith in
    let k : index items item ≡ suc p.before = ap (λ o. unwrap_or o 0) s.1 ∙ j in
    record { before = p.before; is = k; there = ap (at (pool_of items)) k ∙ slice_get-map (entry_of items) items p.before ∙ ap (option_map (entry_of items)) p.there }

-- ---- what is printed

module _ (items : List Item) where
  text_named : (text : List ℕ) → Stands items (Text text) → files.text_at (pool_of items) (index items (Text text)) ≡ Some text
  text_named text h = ap files.text_of (there items (Text text) h).there

  class_named : (name : List ℕ) → AllByRecursion (Stands items) (class_wanted name) → printed_type (pool_of items) (index items (Class name)) ≡ escaped_text name
  unfolding printed_type
  class_named name h = ap printed_name (ap (files.type_of (pool_of items)) (there items (Class name) h.1.0).there ∙ text_named name h.0)

  not_zero : (n k : ℕ) → n ≡ suc k → (n == 0) ≡ false
  not_zero n k e = grind (arith, nat_tests)

  super_named : (name : Option (List ℕ)) → AllByRecursion (Stands items) (flat_map class_wanted (option_to_list name)) → printed_super (pool_of items) (super_index items name) ≡ super_text name
  super_named None h = refl
  super_named (Some name) h =
      let i : HasIndex items (Class name) = there items (Class name) h.1.0 in
      ap (λ b. cond b (codes "-") (printed_type (pool_of items) (index items (Class name)))) (not_zero _ _ i.is) ∙ class_named name (h.0, (h.1.0, tt))

  interfaces_named : (names : List (List ℕ)) → AllByRecursion (λ n. AllByRecursion (Stands items) (class_wanted n)) names
      → flat_map (implements_line (pool_of items)) (map (λ n. index items (Class n)) names) ≡ flat_map implements_text names
  interfaces_named [] h = refl
  interfaces_named (n ∷ ns) h =
      ap (λ t. (codes "implements " ++ t ++ 10 ∷ []) ++ flat_map (implements_line (pool_of items)) (map (λ m. index items (Class m)) ns)) (class_named n h.0)
      ∙ ap (λ t. implements_text n ++ t) (interfaces_named ns h.1)

  member_named : (word : List ℕ) (line : MemberLine) → AllByRecursion (Stands items) (line_wanted line) → member_line word (pool_of items) (member_of items line) ≡ member_text word line
  member_named word line h =
      ap (λ t. word ++ four_digits line.flags ++ codes " " ++ printed_name t ++ codes " " ++ printed_name (files.text_at (pool_of items) (index items (Text line.descriptor))) ++ 10 ∷ []) (text_named line.name h.0)
      ∙ ap (λ t. word ++ four_digits line.flags ++ codes " " ++ escaped_text line.name ++ codes " " ++ printed_name t ++ 10 ∷ []) (text_named line.descriptor h.1.0)

  members_named : (word : List ℕ) (lines : List MemberLine) → AllByRecursion (λ l. AllByRecursion (Stands items) (line_wanted l)) lines
      → flat_map (member_line word (pool_of items)) (map (member_of items) lines) ≡ flat_map (member_text word) lines
  members_named word [] h = refl
  members_named word (l ∷ ls) h =
      ap (λ t. t ++ flat_map (member_line word (pool_of items)) (map (member_of items) ls)) (member_named word l h.0)
      ∙ ap (λ t. member_text word l ++ t) (members_named word ls h.1)

  class_line_named : (line : ClassLine) → AllByRecursion (Stands items) (class_wanted line.name) → AllByRecursion (Stands items) (flat_map class_wanted (option_to_list line.superclass))
      → codes "class " ++ four_digits line.flags ++ codes " " ++ printed_type (pool_of items) (index items (Class line.name)) ++ codes " " ++ printed_super (pool_of items) (super_index items line.superclass) ++ 10 ∷ [] ≡ class_text line
  class_line_named line h s =
      ap (λ t. codes "class " ++ four_digits line.flags ++ codes " " ++ t ++ codes " " ++ printed_super (pool_of items) (super_index items line.superclass) ++ 10 ∷ []) (class_named line.name h)
      ∙ ap (λ t. codes "class " ++ four_digits line.flags ++ codes " " ++ escaped_text line.name ++ codes " " ++ t ++ 10 ∷ []) (super_named line.superclass s)

-- the listing of what lines describe has these lines
pub printed_so : (l : ListedClass) → listing_of (described_file l) ≡ listed_lines l
printed_so l =
    let items = items_of l in
    let P : Item → Type 0 = Stands items in
    let refs = split P (flat_map wanted_items l.references) _ (all_stand (all_wanted l) l.references) in
    let class = split P (class_wanted l.class.name) _ refs.1 in
    let above = split P (flat_map class_wanted (option_to_list l.class.superclass)) _ class.1 in
    let interfaces = split P (flat_map class_wanted l.interfaces) _ above.1 in
    let members = split P (flat_map line_wanted l.fields) (flat_map line_wanted l.methods) interfaces.1 in
    joined (class_lines (described_file l)) (class_text l.class ++ version_line (version_of l)) _ _ _ _ _ _
    (ap (λ t. t ++ version_line (version_of l)) (class_line_named items l.class class.0 above.0))
    (interfaces_named items l.interfaces (each P class_wanted l.interfaces interfaces.0))
    (members_named items (codes "field ") l.fields (each P line_wanted l.fields members.0))
    (members_named items (codes "method ") l.methods (each P line_wanted l.methods members.1))
  where
    joined : (a a' b b' c c' d d' : List ℕ) → a ≡ a' → b ≡ b' → c ≡ c' → d ≡ d' → a ++ b ++ c ++ d ≡ a' ++ b' ++ c' ++ d'
    joined a a' b b' c c' d d' p q r s = rw (p, q, r, s) refl

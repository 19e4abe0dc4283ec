-- Where entries stand in a list, and what a map tells of it.
use Rattle.std.proofs.Common.{◌≡◌, ℕ, ◌+◌, ◌<◌, Bool, true, false, cond, ℤ, List, [], ◌∷◌, ◌++◌, length, Option, Some, None, is_some, refl, sym, ap, subst, ◌∙◌, arith}
use Rattle.std.specs.Ordering.{int_eq}
use Rattle.std.specs.Cmp.Lexicographic.{bytes_decides}
use Rattle.std.proofs.lemmas.Bool.Decides.{Decides-int_eq}
use Rattle.cl_writer.specs.declared.item.MemberKind.{MemberKind}
use Rattle.cl_writer.specs.declared.item.MemberKind.TheVariants as kinds
use Rattle.cl_writer.specs.declared.item.MemberName.{MemberName}
use Rattle.cl_writer.specs.declared.item.Item.{Item}
use Rattle.cl_writer.specs.declared.item.Item.TheVariants.{Text, Integer, Class, NameAndType, Member}
use Rattle.std.proofs.lemmas.List.{length_push}
use Rattle.indexmap.specs.IndexMap.{IndexMap, get}
use Rattle.cl_classfile.specs.Files.{same_name}
use Rattle.cl_writer.specs.Items.{same_kind, same_member, same_item, index_from, index_of, ItemsAreIndexed}
use Rattle.std.proofs.lemmas.Bool.{and_parts, and_from}
use Rattle.std.proofs.lemmas.Option.{same_Some}
use Rattle.std.specs.Option.{option_or}

-- ---- equal entries are the same

pub int_says : (a b : ℤ) → int_eq a b ≡ true → a ≡ b
int_says a b e = (Decides-int_eq a b).0 e

kind_says : (k l : MemberKind) → same_kind k l ≡ true → k ≡ l
kind_says kinds.Field kinds.Field e = refl
kind_says kinds.Field kinds.Method e = absurd cc
kind_says kinds.Field kinds.InterfaceMethod e = absurd cc
kind_says kinds.Method kinds.Field e = absurd cc
kind_says kinds.Method kinds.Method e = refl
kind_says kinds.Method kinds.InterfaceMethod e = absurd cc
kind_says kinds.InterfaceMethod kinds.Field e = absurd cc
kind_says kinds.InterfaceMethod kinds.Method e = absurd cc
kind_says kinds.InterfaceMethod kinds.InterfaceMethod e = refl

member_says : (m n : MemberName) → same_member m n ≡ true → m ≡ n
member_says m n e =
    let s = and_parts _ _ e in
    let t = and_parts _ _ s.1 in
    let x : m.class ≡ n.class = (bytes_decides m.class n.class).0 s.0 in
    let y : m.name ≡ n.name = (bytes_decides m.name n.name).0 t.0 in
    let z : m.descriptor ≡ n.descriptor = (bytes_decides m.descriptor n.descriptor).0 t.1 in
    λ i. record { class = x i; name = y i; descriptor = z i }

pub same_says : (a b : Item) → same_item a b ≡ true → a ≡ b
same_says (Text a1) (Text a2) e = ap Text ((bytes_decides a1 a2).0 e)
same_says (Text a1) (Integer i2) e = absurd cc
same_says (Text a1) (Class a2) e = absurd cc
same_says (Text a1) (NameAndType a2 b2) e = absurd cc
same_says (Text a1) (Member k2 m2) e = absurd cc
same_says (Integer i1) (Text a2) e = absurd cc
same_says (Integer i1) (Integer i2) e = ap Integer (int_says i1 i2 e)
same_says (Integer i1) (Class a2) e = absurd cc
same_says (Integer i1) (NameAndType a2 b2) e = absurd cc
same_says (Integer i1) (Member k2 m2) e = absurd cc
same_says (Class a1) (Text a2) e = absurd cc
same_says (Class a1) (Integer i2) e = absurd cc
same_says (Class a1) (Class a2) e = ap Class ((bytes_decides a1 a2).0 e)
same_says (Class a1) (NameAndType a2 b2) e = absurd cc
same_says (Class a1) (Member k2 m2) e = absurd cc
same_says (NameAndType a1 b1) (Text a2) e = absurd cc
same_says (NameAndType a1 b1) (Integer i2) e = absurd cc
same_says (NameAndType a1 b1) (Class a2) e = absurd cc
same_says (NameAndType a1 b1) (NameAndType a2 b2) e = let t = and_parts _ _ e in let x : a1 ≡ a2 = (bytes_decides a1 a2).0 t.0 in let y : b1 ≡ b2 = (bytes_decides b1 b2).0 t.1 in cc
same_says (NameAndType a1 b1) (Member k2 m2) e = absurd cc
same_says (Member k1 m1) (Text a2) e = absurd cc
same_says (Member k1 m1) (Integer i2) e = absurd cc
same_says (Member k1 m1) (Class a2) e = absurd cc
same_says (Member k1 m1) (NameAndType a2 b2) e = absurd cc
same_says (Member k1 m1) (Member k2 m2) e = let t = and_parts _ _ e in let x : k1 ≡ k2 = kind_says k1 k2 t.0 in let y : m1 ≡ m2 = member_says m1 m2 t.1 in cc

kind_self : (k : MemberKind) → same_kind k k ≡ true
kind_self kinds.Field = refl
kind_self kinds.Method = refl
kind_self kinds.InterfaceMethod = refl

text_self : (a : List ℕ) → same_name a a ≡ true
text_self a = (bytes_decides a a).1 refl

pub int_self : (a : ℤ) → int_eq a a ≡ true
int_self a = (Decides-int_eq a a).1 refl

pub same_self : (a : Item) → same_item a a ≡ true
same_self (Text a) = text_self a
same_self (Integer i) = int_self i
same_self (Class a) = text_self a
same_self (NameAndType a b) = and_from _ _ (text_self a) (text_self b)
same_self (Member k m) = and_from _ _ (kind_self k) (and_from _ _ (text_self m.class) (and_from _ _ (text_self m.name) (text_self m.descriptor)))

-- ---- one entry more

cond_else : (b : Bool) (n : ℕ) (o p : Option ℕ) → option_or (cond b (Some n) o) p ≡ cond b (Some n) (option_or o p)
cond_else true n o p = refl
cond_else false n o p = refl

pub index_more : (n m : ℕ) (xs : List Item) (y q : Item) → m ≡ n + length xs → index_from n (xs ++ y ∷ []) q ≡ option_or (index_from n xs q) (cond (same_item q y) (Some m) None)
index_more n m [] y q e = let same : m ≡ n = omega arith in rw same refl
index_more n m (x ∷ xs) y q e =
    let later : index_from (n + 1) (xs ++ y ∷ []) q ≡ option_or (index_from (n + 1) xs q) (cond (same_item q y) (Some m) None) = index_more (n + 1) m xs y q (omega arith) in
    ap (λ o. cond (same_item q x) (Some n) o) later ∙ sym (cond_else (same_item q x) n (index_from (n + 1) xs q) (cond (same_item q y) (Some m) None))

nothing_else : (o : Option ℕ) → option_or o None ≡ o
nothing_else None = refl
nothing_else (Some n) = refl

first_else : (n : ℕ) (o p : Option ℕ) → o ≡ Some n → option_or o p ≡ o
first_else n None p e = absurd cc
first_else n (Some m) p e = refl

second_else : (o p : Option ℕ) → o ≡ None → option_or o p ≡ p
second_else None p e = refl
second_else (Some n) p e = absurd cc

-- the entry stands already
pub stays : (items : List Item) (item q : Item) (n : ℕ) (o : Option ℕ) → index_of items item ≡ Some n → o ≡ index_of items q → o ≡ index_of (items ++ item ∷ []) q
stays items item q n o there e = e ∙ sym (index_more 1 (1 + length items) items item q refl ∙ by (same_item q item) refl)
  where
    by : (b : Bool) → same_item q item ≡ b → option_or (index_of items q) (cond (same_item q item) (Some (1 + length items)) None) ≡ index_of items q
    by true same = first_else n _ _ (ap (index_of items) (same_says q item same) ∙ there)
    by false same = rw same (nothing_else (index_of items q))

-- the entry is new
pub enters : (items : List Item) (item q : Item) (m : ℕ) (o : Option ℕ) → index_of items item ≡ None → o ≡ index_of items q → m ≡ 1 + length items → cond (same_item item q) (Some m) o ≡ index_of (items ++ item ∷ []) q
enters items item q m o none e count = by (same_item item q) refl ∙ sym (index_more 1 m items item q count)
  where
    none_else : (b : Bool) → same_item q item ≡ b → same_item item q ≡ false → o ≡ option_or (index_of items q) (cond (same_item q item) (Some m) None)
    none_else true same other = let here : item ≡ q = sym (same_says q item same) in absurd (false_true (sym other ∙ subst (λ x. same_item item x ≡ true) here (same_self item)))
      where
        false_true : false ≡ true → ⊥
        false_true h = cc
    none_else false same other = rw same (e ∙ sym (nothing_else (index_of items q)))

    by : (b : Bool) → same_item item q ≡ b → cond (same_item item q) (Some m) o ≡ option_or (index_of items q) (cond (same_item q item) (Some m) None)
    by true same =
        let here : item ≡ q = same_says item q same in
        let self : same_item q item ≡ true = subst (λ x. same_item x item ≡ true) here (same_self item) in
        let absent : index_of items q ≡ None = ap (index_of items) (sym here) ∙ none in
        rw (same, self) (sym (second_else (index_of items q) (Some m) absent))
    by false same = rw same (none_else (same_item q item) refl same)

pub within : (n : ℕ) (xs : List Item) (q : Item) (k : ℕ) → index_from n xs q ≡ Some k → k < n + length xs
within n [] q k e = absurd cc
within n (x ∷ xs) q k e = by (within (n + 1) xs q k) (same_item q x) refl
  where
    by : (index_from (n + 1) xs q ≡ Some k → k < n + 1 + length xs) → (b : Bool) → same_item q x ≡ b → k < n + length (x ∷ xs)
    by later true same = let f : n ≡ k = same_Some _ _ (rw same at e) in omega arith
    by later false same = let g : k < n + 1 + length xs = later (rw same at e) in omega arith

pub some_is : (o : Option ℕ) → is_some o ≡ true → (n : ℕ) × (o ≡ Some n)
some_is None e = absurd cc
some_is (Some n) e = (n, refl)

none_is : (o : Option ℕ) → is_some o ≡ false → o ≡ None
none_is None e = refl
none_is (Some n) e = absurd cc

-- ---- the map, with an entry more

module _ {S : Type 0} (old new : IndexMap Item ℕ S) (items pushed : List Item) (item copy : Item) (m : ℕ) (b : Bool) (indexed : ItemsAreIndexed items old) (grown : pushed ≡ items ++ item ∷ []) (copied : copy ≡ item) (tested : b ≡ is_some (get same_item old copy)) where
  known : is_some (index_of items item) ≡ b
  known = sym (tested ∙ ap is_some (indexed copy) ∙ ap (λ i. is_some (index_of items i)) copied)

  pub with_stayed : b ≡ true → ItemsAreIndexed pushed old
  with_stayed e q =
      let there = some_is (index_of items item) (known ∙ e) in
      rw grown (stays items item q there.0 (get same_item old q) there.1 (indexed q))

  pub with_entered : b ≡ false → m ≡ length pushed → ((q : Item) → get same_item new q ≡ cond (same_item copy q) (Some m) (get same_item old q)) → ItemsAreIndexed pushed new
  with_entered e count updated q =
      let counted : m ≡ 1 + length items = count ∙ ap length grown ∙ length_push items item ∙ one_more (length items) in
      rw grown (updated q ∙ ap (λ i. cond (same_item i q) (Some m) (get same_item old q)) copied ∙ enters items item q m (get same_item old q) (none_is (index_of items item) (known ∙ e)) (indexed q) counted)
    where
      one_more : (n : ℕ) → n + 1 ≡ 1 + n
      one_more n = omega arith

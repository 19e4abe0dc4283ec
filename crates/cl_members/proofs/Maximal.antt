-- Maximally specific methods, by the classes that stand above what offers the method.
use Rattle.std.proofs.Common.{◌≡◌, Bool, not, ◌||◌, List, [], ◌∷◌, map, refl, sym, ap, ◌∙◌}
use Rattle.std.specs.Prelude.{filter, Option, Some, None, option_map, option_and_then}
use Rattle.std.specs.Option.{option_or}
use Rattle.std.specs.List.{list_any}
use Rattle.std.proofs.lemmas.List.Folds.{list_any-append}
use Rattle.cl_model.specs.declared.class.Class.{Class}
use Rattle.cl_model.specs.Classes.{same_class, is_among}
use Rattle.cl_model.specs.Lineages.{Kin, classes, superinterfaces, is_maximal, first, only, from_superinterfaces, implements, offers}
use Rattle.cl_classfile.specs.Files.{Key}
use Rattle.cl_hierarchy.specs.Rows.{Rowed}
use Rattle.cl_hierarchy.specs.Lineages.{Lined, kin_at, kin_of}
use Rattle.cl_hierarchy.specs.Several.{superinterfaces_of_any}
use Rattle.cl_members.specs.Members.{method_in}
use Rattle.cl_members.proofs.Lists.{filter_map_is, filter_same, map_map, option_map_map}

pub any_is : (ks : List Kin) (c : Class) → is_among (superinterfaces_of_any ks) c ≡ list_any (λ k. is_among (classes (superinterfaces k)) c) ks
any_is [] c = refl
any_is (k ∷ ks) c =
    list_any-append (same_class c) (classes (superinterfaces k)) (superinterfaces_of_any ks) ∙ ap (λ (b : Bool). is_among (classes (superinterfaces k)) c || b) (any_is ks c)

-- those whose class stands above none of them are the maximally specific ones
pub maximal_is : (ks : List Kin) → filter (λ k. not (is_among (superinterfaces_of_any ks) k.class)) ks ≡ filter (is_maximal ks) ks
maximal_is ks = filter_same (λ k. not (is_among (superinterfaces_of_any ks) k.class)) (is_maximal ks) (λ k. ap not (any_is ks k.class)) ks

-- ---- from rows to classes

-- the superinterfaces that offer the method, by the key that texts are, if they are one
abbrev pub offered : Option Key → Kin → List Kin
offered key k = filter (λ a. offers (method_in key a.file)) (superinterfaces k)

-- of these the maximally specific ones that implement it
abbrev pub implemented : Option Key → List Kin → List Kin
implemented key ks = filter (λ a. implements (method_in key a.file)) (filter (is_maximal ks) ks)

-- the lookup's end
abbrev end_of : Option Key → List Kin → Option Kin
end_of key ks = option_or (only (implemented key ks)) (first ks)

-- nothing is offered by what is no key
none_offered : (ks : List Kin) → filter (λ a. offers (method_in None a.file)) ks ≡ []
none_offered [] = refl
none_offered (k ∷ ks) = none_offered ks

end_is : (key : Option Key) (k : Kin) → end_of key (offered key k) ≡ option_and_then (from_superinterfaces k) key
end_is None k = ap (end_of None) (none_offered (superinterfaces k))
end_is (Some key) k = refl

module _ {R : Type 0} (f : R → Kin) where
  -- what the code leaves of the rows that offer the method is the maximally specific ones that implement it
  pub left_is : (key : Option Key) (k : Kin) (rows : List R) (among : Class → Bool) → map f rows ≡ offered key k → ((x : Class) → among x ≡ is_among (superinterfaces_of_any (map f rows)) x)
      → map f (filter (λ r. implements (method_in key (f r).file)) (filter (λ r. not (among (f r).class)) rows)) ≡ implemented key (offered key k)
  left_is key k rows among made told =
      filter_map_is f (λ a. implements (method_in key a.file)) (filter (λ r. not (among (f r).class)) rows)
      ∙ ap (filter (λ a. implements (method_in key a.file))) (
      filter_map_is f (λ a. not (among a.class)) rows
      ∙ filter_same (λ a. not (among a.class)) (λ a. not (is_among (superinterfaces_of_any (map f rows)) a.class)) (λ a. ap not (told a.class)) (map f rows)
      ∙ maximal_is (map f rows)
      ∙ ap (λ (ks : List Kin). filter (is_maximal ks) ks) made
      )

-- the first and the only one, without where they lie
first_is : {R : Type 0} (f : R → Kin) (rows : List R) → option_map f (first rows) ≡ first (map f rows)
first_is f [] = refl
first_is f (r ∷ rows) = refl

only_is : {R : Type 0} (f : R → Kin) (rows : List R) → option_map f (only rows) ≡ only (map f rows)
only_is f [] = refl
only_is f (r ∷ []) = refl
only_is f (r ∷ q ∷ rows) = refl

either_is : {R : Type 0} (f : R → Kin) (a b : Option R) → option_map f (option_or a b) ≡ option_or (option_map f a) (option_map f b)
either_is f None b = refl
either_is f (Some a) b = refl

-- the lookup's end, of rows
pub owner_is : {R : Type 0} (f : R → Kin) (key : Option Key) (k : Kin) (there left : List R) → map f there ≡ offered key k → map f left ≡ implemented key (offered key k)
    → option_map f (option_or (only left) (first there)) ≡ option_and_then (from_superinterfaces k) key
owner_is f key k there left o l =
    either_is f (only left) (first there)
    ∙ ap (λ (x : Option Kin). option_or x (option_map f (first there))) (only_is f left ∙ ap only l)
    ∙ ap (option_or (only (implemented key (offered key k)))) (first_is f there ∙ ap first o)
    ∙ end_is key k

-- the same of what the code has of them
pub finished : {R : Type 0} (v : R → Rowed) (l : Lined) (key : Option Key) (o other : Option R) (left there : List R) → option_map v o ≡ option_or (only (map v left)) (option_map v other)
    → option_map v other ≡ first (map v there) → map (λ r. kin_at l (v r)) there ≡ offered key (kin_of l)
    → map (λ r. kin_at l (v r)) left ≡ implemented key (offered key (kin_of l)) → option_map (λ r. kin_at l (v r)) o ≡ option_and_then (from_superinterfaces (kin_of l)) key
finished v l key o other left there e f there_are left_are =
    option_map_map v (kin_at l) o
    ∙ ap (option_map (kin_at l)) (e ∙ ap (option_or (only (map v left))) f)
    ∙ owner_is (kin_at l) key (kin_of l) (map v there) (map v left) (sym (map_map v (kin_at l) there) ∙ there_are) (sym (map_map v (kin_at l) left) ∙ left_are)

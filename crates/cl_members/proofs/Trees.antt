-- The order of field lookup: that each class is kept at its first place alone changes nothing.
use Rattle.std.proofs.Common.{◌≡◌, Bool, true, false, ◌||◌, if◌then◌else◌, List, [], ◌∷◌, ◌++◌, Option, Some, None, is_some, refl, sym, ap, subst, ◌∙◌}
use Rattle.std.specs.Prelude.{find}
use Rattle.std.specs.Option.{option_or}
use Rattle.std.specs.List.{AllByRecursion}
use Rattle.cl_classfile.specs.Files.{Key, member}
use Rattle.cl_model.specs.declared.class.Class.{Class}
use Rattle.cl_model.specs.Classes.{same_class, is_among}
use Rattle.cl_model.specs.Lineages.{Forest, Bare, Tree, Kin, alone, field_among, lookup_field, once_after}
use Rattle.cl_model.proofs.Ancestors.{same_self}
use Rattle.cl_model.proofs.Closed.{all_left}
use Rattle.cl_model.proofs.Complete.{is_class}
use Rattle.cl_model.proofs.Derivations.{all_map}
use Rattle.cl_model.proofs.Derived.{all_both}
use Rattle.cl_hierarchy.specs.Rows.{Rowed}
use Rattle.cl_hierarchy.specs.Trees.{MayComeAfter, SupersBefore, forest, in_front, kin_named, kin_under, kins_after, kins, interfaces_in, superclass_in}
use Rattle.cl_hierarchy.specs.Lineages.{Lined, IsInOrder, kin_of, upwards, field_order}
use Rattle.cl_hierarchy.proofs.Ancestry.{keeps}
use Rattle.cl_members.proofs.Lists.{find_append, or_assoc}
use Rattle.std.proofs.lemmas.Option.{same_Some}

-- ---- field lookup goes through the tree from the front

tree_step : (key : Key) (k : Kin) (others : Forest) (b : Bool) → is_some (member k.file.fields key) ≡ b
    → field_among key k.interfaces ≡ find (λ a. is_some (member a.file.fields key)) (upwards k.interfaces)
    → field_among key k.superclass ≡ find (λ a. is_some (member a.file.fields key)) (upwards k.superclass)
    → field_among key others ≡ find (λ a. is_some (member a.file.fields key)) (upwards others)
    → field_among key (Tree k.class k.file k.superclass k.interfaces others) ≡ find (λ a. is_some (member a.file.fields key)) (upwards (Tree k.class k.file k.superclass k.interfaces others))
tree_step key k others true e ints sup rest = rw e refl
tree_step key k others false e ints sup rest =
    let p : Kin → Bool = λ a. is_some (member a.file.fields key) in
    let above : find p (upwards k.interfaces ++ upwards k.superclass) ≡ option_or (field_among key k.interfaces) (field_among key k.superclass) =
    find_append p (upwards k.interfaces) (upwards k.superclass) ∙ ap (λ (o : Option Kin). option_or o (find p (upwards k.superclass))) (sym ints) ∙ ap (option_or (field_among key k.interfaces)) (sym sup) in
    let all : find p ((upwards k.interfaces ++ upwards k.superclass) ++ upwards others) ≡ option_or (field_among key k.interfaces) (option_or (field_among key k.superclass) (field_among key others)) =
    find_append p (upwards k.interfaces ++ upwards k.superclass) (upwards others)
    ∙ ap (λ (o : Option Kin). option_or o (find p (upwards others))) above
    ∙ ap (option_or (option_or (field_among key k.interfaces) (field_among key k.superclass))) (sym rest)
    ∙ or_assoc (field_among key k.interfaces) (field_among key k.superclass) (field_among key others) in
    rw e (sym all)

among_is : (key : Key) (f : Forest) → field_among key f ≡ find (λ a. is_some (member a.file.fields key)) (upwards f)
among_is key Bare = refl
among_is key (Tree c f sup ints others) =
    tree_step key (record { class = c; file = f; superclass = sup; interfaces = ints }) others (is_some (member f.fields key)) refl (among_is key ints) (among_is key sup) (among_is key others)

-- ---- each class once

module _ (p : Kin → Bool) (q : Class → Bool) where
  -- what stands for a class tells what holds of it
  abbrev Tells : Kin → Type 0
  Tells x = p x ≡ q x.class

  -- nothing that was seen passes
  abbrev NoneOf : List Class → Type 0
  NoneOf seen = (c : Class) → is_among seen c ≡ true → q c ≡ false

  one_more : (seen : List Class) (d : Class) → NoneOf seen → q d ≡ false → NoneOf (d ∷ seen)
  one_more seen d none e c h = at (same_class c d) refl h
    where
      at : (b : Bool) → same_class c d ≡ b → (b || is_among seen c) ≡ true → q c ≡ false
      at true s f = ap q (is_class c d s) ∙ e
      at false s f = none c f

  skip : (x : Kin) (xs : List Kin) → p x ≡ false → find p (x ∷ xs) ≡ find p xs
  skip x xs e = rw e refl

  kept : (x : Kin) (xs ys : List Kin) (b : Bool) → p x ≡ b → (p x ≡ false → find p ys ≡ find p xs) → find p (x ∷ ys) ≡ find p (x ∷ xs)
  kept x xs ys true e rest = rw e refl
  kept x xs ys false e rest = rw e (rest e)

  either : (seen : List Class) (x : Kin) (xs : List Kin) (b : Bool) → (b ≡ true → find p (once_after seen xs) ≡ find p (x ∷ xs)) → (b ≡ false → find p (x ∷ once_after (x.class ∷ seen) xs) ≡ find p (x ∷ xs))
      → find p (if b then once_after seen xs else x ∷ once_after (x.class ∷ seen) xs) ≡ find p (x ∷ xs)
  either seen x xs true f g = f refl
  either seen x xs false f g = g refl

  once_finds : (seen : List Class) (xs : List Kin) → NoneOf seen → AllByRecursion Tells xs → find p (once_after seen xs) ≡ find p xs
  once_finds seen [] none all = refl
  once_finds seen (x ∷ xs) none all =
      either seen x xs (is_among seen x.class) (λ e. once_finds seen xs none all.1 ∙ sym (skip x xs (all.0 ∙ none x.class e)))
      (λ e. kept x xs (once_after (x.class ∷ seen) xs) (p x) refl (λ f. once_finds (x.class ∷ seen) xs (one_more seen x.class none (sym all.0 ∙ f)) all.1))

-- ---- a class stands for one kin of a lineage

abbrev Told : List Kin → Kin → Type 0
Told ks x = kin_named ks x.class ≡ Some x

-- all above what is known is known
abbrev Closed : List Kin → Type 0
Closed known = (c : Class) (k : Kin) → kin_named known c ≡ Some k → AllByRecursion (Told known) (upwards (alone k))

front_told : (known : List Kin) → Closed known → (c : Class) (rest : Forest) (o : Option Kin) → kin_named known c ≡ o → AllByRecursion (Told known) (upwards rest) → AllByRecursion (Told known) (upwards (in_front o rest))
front_told known closed c rest None e all = all
front_told known closed c rest (Some k) e all =
    let above = closed c k e in
    (above.0, all_both (Told known) (upwards k.interfaces ++ upwards k.superclass) (upwards rest) (all_left (Told known) (upwards k.interfaces ++ upwards k.superclass) [] above.1) all)

forest_told : (known : List Kin) → Closed known → (cs : List Class) → AllByRecursion (Told known) (upwards (forest known cs))
forest_told known closed [] = tt
forest_told known closed (c ∷ cs) = front_told known closed c (forest known cs) (kin_named known c) refl (forest_told known closed cs)

grow : (known : List Kin) (r : Rowed) → Closed known → MayComeAfter known r → Closed (kin_under known r ∷ known)
grow known r closed after c k e = at (same_class c r.class) refl e
  where
    stays : (x : Kin) → Told known x → Told (kin_under known r ∷ known) x
    stays x t = keeps known r x.class x after.is_new t

    self : Told (kin_under known r ∷ known) (kin_under known r)
    self = rw (same_self r.class) refl

    above : AllByRecursion (Told (kin_under known r ∷ known)) (upwards (alone (kin_under known r)))
    above = (
      self,
      all_both (Told (kin_under known r ∷ known)) (upwards (kin_under known r).interfaces ++ upwards (kin_under known r).superclass) [] (
          all_both (Told (kin_under known r ∷ known)) (upwards (kin_under known r).interfaces) (upwards (kin_under known r).superclass)
          (all_map (Told known) (Told (kin_under known r ∷ known)) stays (upwards (forest known (interfaces_in r))) (forest_told known closed (interfaces_in r)))
          (all_map (Told known) (Told (kin_under known r ∷ known)) stays (upwards (forest known (superclass_in r))) (forest_told known closed (superclass_in r)))
          ) tt,
    )

    at : (b : Bool) → same_class c r.class ≡ b → (if b then Some (kin_under known r) else kin_named known c) ≡ Some k → AllByRecursion (Told (kin_under known r ∷ known)) (upwards (alone k))
    at true s f = subst (λ (x : Kin). AllByRecursion (Told (kin_under known r ∷ known)) (upwards (alone x))) (same_Some (kin_under known r) k f) above
    at false s f = all_map (Told known) (Told (kin_under known r ∷ known)) stays (upwards (alone k)) (closed c k f)

closed_after : (known : List Kin) (rs : List Rowed) → Closed known → SupersBefore known rs → Closed (kins_after known rs)
closed_after known [] closed h = closed
closed_after known (r ∷ rs) closed h = closed_after (kin_under known r ∷ known) rs (grow known r closed h.0) h.1

told_in : (l : Lined) → IsInOrder l → AllByRecursion (Told (kin_of l ∷ kins l.above)) (upwards (alone (kin_of l)))
told_in l order =
    let before : Closed (kins l.above) = closed_after [] l.above (λ c k e. absurd cc) order.above in
    grow (kins l.above) l.own before order.own l.own.class (kin_of l) (rw (same_self l.own.class) refl)

-- ---- so field lookup is the first class of the order that declares the field

holds : (Kin → Bool) → Option Kin → Bool
holds p None = false
holds p (Some k) = p k

told_tells : (p : Kin → Bool) (ks xs : List Kin) → AllByRecursion (Told ks) xs → AllByRecursion (Tells p (λ c. holds p (kin_named ks c))) xs
unfolding holds
told_tells p ks [] all = tt
told_tells p ks (x ∷ xs) all = (sym (ap (holds p) all.0), told_tells p ks xs all.1)

pub field_lookup : (l : Lined) → IsInOrder l → (key : Key) → find (λ a. is_some (member a.file.fields key)) (field_order (kin_of l)) ≡ lookup_field (kin_of l) key
field_lookup l order key =
    let p : Kin → Bool = λ a. is_some (member a.file.fields key) in
    once_finds p (λ c. holds p (kin_named (kin_of l ∷ kins l.above) c)) [] (upwards (alone (kin_of l))) (λ c e. absurd cc)
    (told_tells p (kin_of l ∷ kins l.above) (upwards (alone (kin_of l))) (told_in l order))
    ∙ sym (among_is key (alone (kin_of l)))

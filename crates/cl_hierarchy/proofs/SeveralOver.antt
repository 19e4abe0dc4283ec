-- The superinterfaces of several classes, by one pass through rows, from the last to the first.
use Rattle.std.proofs.Common.{◌≡◌, ◌∙◌, Bool, true, false, ◌&&◌, ◌||◌, if◌then◌else◌, List, [], ◌∷◌, ◌++◌, append-nil, append_assoc, Option, Some, None, is_some, map, refl, sym, ap, subst}
use Rattle.std.specs.List.{AllByRecursion, list_any}
use Rattle.std.proofs.lemmas.List.{map_push}
use Rattle.std.proofs.lemmas.List.Folds.{list_any-append}
use Rattle.cl_model.specs.declared.class.Class.{Class}
use Rattle.cl_model.specs.Classes.{is_among, same_class}
use Rattle.cl_model.specs.Lineages.{Forest, Kin, classes, once_after, preorder, superinterfaces}
use Rattle.cl_model.proofs.Complete.{is_class}
use Rattle.cl_hierarchy.specs.Lineages.{IsRowIn}
use Rattle.cl_hierarchy.specs.Rows.{Rowed}
use Rattle.cl_hierarchy.specs.Several.{Gains, if_left, superinterfaces_of_any}
use Rattle.cl_hierarchy.specs.Trees.{AllKnown, SupersBefore, forest, in_front, interfaces_in, kin_named, kin_under, kins, superclass_in}
use Rattle.cl_hierarchy.proofs.Ancestry.{kins_push, row_kin, same_turned}
use Rattle.cl_hierarchy.proofs.Climbs.{before_split, placed_row}
use Rattle.cl_hierarchy.proofs.Joining.{none_more, or_assoc}
use Rattle.cl_hierarchy.proofs.Listed.{kin_is}
use Rattle.cl_hierarchy.proofs.Tours.{among_both, classes_both}

-- ---- of some classes those that are among others, and what one of them passes

-- one of the classes that is among some passes a test
abbrev pub any_of : (Class → Bool) → List Class → List Class → Bool
any_of p some cs = list_any (λ c. is_among some c && p c) cs

any_none : (p : Class → Bool) (cs : List Class) → any_of p [] cs ≡ false
any_none p [] = refl
any_none p (c ∷ cs) = any_none p cs

parted : (a b p x y : Bool) → ((a || b) && p) || (x || y) ≡ ((a && p) || x) || ((b && p) || y)
parted true true true x y = refl
parted true true false x y = refl
parted true false true x y = refl
parted true false false x y = refl
parted false true true true y = refl
parted false true true false y = refl
parted false true false x y = refl
parted false false p x y = refl

-- what joins the classes adds what one of these passes
any_joined : (p : Class → Bool) (old more new cs : List Class) → Gains old more new → any_of p new cs ≡ (any_of p old cs || any_of p more cs)
any_joined p old more new [] h = refl
any_joined p old more new (c ∷ cs) h =
    ap (λ (b : Bool). (b && p c) || any_of p new cs) (h c)
    ∙ ap (λ (b : Bool). ((is_among old c || is_among more c) && p c) || b) (any_joined p old more new cs h)
    ∙ parted (is_among old c) (is_among more c) (p c) (any_of p old cs) (any_of p more cs)

absorbed : (a b : Bool) → (b || (a && b)) ≡ b
absorbed true true = refl
absorbed true false = refl
absorbed false true = refl
absorbed false false = refl

any_one : (p : Class → Bool) (d : Class) (cs : List Class) → any_of p (d ∷ []) cs ≡ (is_among cs d && p d)
any_one p d [] = refl
any_one p d (c ∷ cs) =
    ap (λ (b : Bool). ((same_class c d || false) && p c) || b) (any_one p d cs) ∙ at (same_class c d) refl
    ∙ ap (λ (b : Bool). (b || is_among cs d) && p d) (same_turned c d)
  where
    at : (b : Bool) → same_class c d ≡ b → (((b || false) && p c) || (is_among cs d && p d)) ≡ ((b || is_among cs d) && p d)
    at true e = ap (λ (x : Class). p x || (is_among cs d && p d)) (is_class c d e) ∙ absorbed (is_among cs d) (p d)
    at false e = refl

-- the classes and the others may change places
any_turned : (p : Class → Bool) (some cs : List Class) → any_of p some cs ≡ any_of p cs some
any_turned p [] cs = any_none p cs
any_turned p (d ∷ ds) cs =
    any_joined p (d ∷ []) ds (d ∷ ds) cs (λ c. among_both (d ∷ []) ds c)
    ∙ ap (λ (b : Bool). b || any_of p ds cs) (any_one p d cs)
    ∙ ap (λ (b : Bool). (is_among cs d && p d) || b) (any_turned p ds cs)

-- each of some classes is among these
abbrev AreIn : List Class → List Class → Type 0
AreIn cs some = AllByRecursion (λ (c : Class). is_among cs c ≡ true) some

any_all : (p : Class → Bool) (some cs : List Class) → AreIn cs some → any_of p cs some ≡ list_any p some
any_all p [] cs all = refl
any_all p (d ∷ ds) cs all = ap (λ (b : Bool). (b && p d) || any_of p cs ds) all.0 ∙ ap (λ (b : Bool). p d || b) (any_all p ds cs all.1)

any_in : (p : Class → Bool) (some cs : List Class) → AreIn cs some → any_of p some cs ≡ list_any p some
any_in p some cs all = any_turned p some cs ∙ any_all p some cs all

-- ---- each class once

once_same : (seen : List Class) (ks : List Kin) (c : Class) → (is_among seen c || is_among (classes (once_after seen ks)) c) ≡ (is_among seen c || is_among (classes ks) c)
once_same seen [] c = refl
once_same seen (k ∷ ks) c = at (once_same seen ks c) (once_same (k.class ∷ seen) ks c) (is_among seen k.class) refl (same_class c k.class) refl
  where
    at : (is_among seen c || is_among (classes (once_after seen ks)) c) ≡ (is_among seen c || is_among (classes ks) c)
        → ((same_class c k.class || is_among seen c) || is_among (classes (once_after (k.class ∷ seen) ks)) c) ≡ ((same_class c k.class || is_among seen c) || is_among (classes ks) c)
        → (b : Bool) → is_among seen k.class ≡ b → (s : Bool) → same_class c k.class ≡ s
        → (is_among seen c || is_among (classes (if b then once_after seen ks else k ∷ once_after (k.class ∷ seen) ks)) c) ≡ (is_among seen c || (s || is_among (classes ks) c))
    at same more true e true f =
        let here : is_among seen c ≡ true = subst (λ (x : Class). is_among seen x ≡ true) (sym (is_class c k.class f)) e in
        ap (λ (b : Bool). b || is_among (classes (once_after seen ks)) c) here ∙ sym (ap (λ (b : Bool). b || true) here)
    at same more true e false f = same
    at same more false e true f = ap (λ (b : Bool). is_among seen c || (b || is_among (classes (once_after (k.class ∷ seen) ks)) c)) f
    at same more false e false f =
        ap (λ (b : Bool). is_among seen c || (b || is_among (classes (once_after (k.class ∷ seen) ks)) c)) f
        ∙ subst (λ (b : Bool). ((b || is_among seen c) || is_among (classes (once_after (k.class ∷ seen) ks)) c) ≡ ((b || is_among seen c) || is_among (classes ks) c)) f more

-- ---- superinterfaces of a class, by those of its direct supertypes

-- a class is among the superinterfaces of one, if there is one
abbrev over_kin : Option Kin → Class → Bool
over_kin None c = false
over_kin (Some k) c = is_among (classes (superinterfaces k)) c

-- the same, where that is found by its class
abbrev pub over : List Kin → Class → Class → Bool
over known c d = over_kin (kin_named known d) c

over_is : (k : Kin) (c : Class) → is_among (classes (superinterfaces k)) c ≡ (is_among (classes (preorder k.interfaces true)) c || is_among (classes (preorder k.superclass false)) c)
over_is k c =
    once_same [] (preorder k.interfaces true ++ preorder k.superclass false) c
    ∙ ap (λ (cs : List Class). is_among cs c) (classes_both (preorder k.interfaces true) (preorder k.superclass false))
    ∙ among_both (classes (preorder k.interfaces true)) (classes (preorder k.superclass false)) c

-- a class that comes in front of others
in_front_of : (k : Kin) (others : Forest) (wanted : Bool) (c : Class)
    → is_among (classes (preorder (in_front (Some k) others) wanted)) c ≡ ((wanted && same_class c k.class) || (is_among (classes (superinterfaces k)) c || is_among (classes (preorder others wanted)) c))
in_front_of k others wanted c = at wanted
  where
    behind : (w : Bool) → is_among (classes (preorder k.interfaces true ++ preorder k.superclass false ++ preorder others w)) c ≡ (is_among (classes (superinterfaces k)) c || is_among (classes (preorder others w)) c)
    behind w =
        ap (λ (cs : List Class). is_among cs c) (classes_both (preorder k.interfaces true ++ preorder k.superclass false) (preorder others w))
        ∙ among_both (classes (preorder k.interfaces true ++ preorder k.superclass false)) (classes (preorder others w)) c
        ∙ ap (λ (b : Bool). b || is_among (classes (preorder others w)) c) (sym (once_same [] (preorder k.interfaces true ++ preorder k.superclass false) c))

    at : (w : Bool) → is_among (classes (preorder (in_front (Some k) others) w)) c ≡ ((w && same_class c k.class) || (is_among (classes (superinterfaces k)) c || is_among (classes (preorder others w)) c))
    at true = ap (λ (b : Bool). same_class c k.class || b) (behind true)
    at false = behind false

gathered : (w s a o l : Bool) → ((w && s) || (o || ((w && a) || l))) ≡ ((w && (s || a)) || (o || l))
gathered true true a o l = refl
gathered true false true true l = refl
gathered true false true false l = refl
gathered true false false o l = refl
gathered false s a o l = refl

-- what classes that are known bring, each itself where it is wanted
brought : (known : List Kin) (cs : List Class) (wanted : Bool) (c : Class) → AllKnown known cs → is_among (classes (preorder (forest known cs) wanted)) c ≡ ((wanted && is_among cs c) || list_any (over known c) cs)
brought known [] true c all = refl
brought known [] false c all = refl
brought known (d ∷ ds) wanted c all = at (brought known ds wanted c all.1) (kin_named known d) refl all.0
  where
    at : is_among (classes (preorder (forest known ds) wanted)) c ≡ ((wanted && is_among ds c) || list_any (over known c) ds) → (o : Option Kin) → kin_named known d ≡ o → is_some o ≡ true
        → is_among (classes (preorder (in_front (kin_named known d) (forest known ds)) wanted)) c ≡ ((wanted && (same_class c d || is_among ds c)) || (over_kin (kin_named known d) c || list_any (over known c) ds))
    at more None e s = absurd cc
    at more (Some k) e s =
        ap (λ (o : Option Kin). is_among (classes (preorder (in_front o (forest known ds)) wanted)) c) e
        ∙ in_front_of k (forest known ds) wanted c
        ∙ ap (λ (x : Class). (wanted && same_class c x) || (is_among (classes (superinterfaces k)) c || is_among (classes (preorder (forest known ds) wanted)) c)) (kin_is known d k e).same
        ∙ ap (λ (b : Bool). (wanted && same_class c d) || (is_among (classes (superinterfaces k)) c || b)) more
        ∙ gathered wanted (same_class c d) (is_among ds c) (is_among (classes (superinterfaces k)) c) (list_any (over known c) ds)
        ∙ ap (λ (o : Option Kin). (wanted && (same_class c d || is_among ds c)) || (over_kin o c || list_any (over known c) ds)) (sym e)

-- the superinterfaces of the class of a row: the direct ones, and those of all direct supertypes
over_row : (rows : List Rowed) (r : Rowed) (c : Class) → SupersBefore [] rows → IsRowIn rows r
    → over (kins rows) c r.class ≡ (is_among (interfaces_in r) c || list_any (over (kins rows) c) (interfaces_in r ++ superclass_in r))
over_row rows r c ordered i =
    let k = row_kin [] rows r.class r ordered i in
    ap (λ (o : Option Kin). over_kin o c) k.kin
    ∙ over_is (kin_under (kins rows) r) c
    ∙ ap (λ (b : Bool). b || is_among (classes (preorder (forest (kins rows) (superclass_in r)) false)) c) (brought (kins rows) (interfaces_in r) true c k.interfaces)
    ∙ ap (λ (b : Bool). (is_among (interfaces_in r) c || list_any (over (kins rows) c) (interfaces_in r)) || b) (brought (kins rows) (superclass_in r) false c k.superclass)
    ∙ or_assoc (is_among (interfaces_in r) c) (list_any (over (kins rows) c) (interfaces_in r)) (list_any (over (kins rows) c) (superclass_in r))
    ∙ ap (λ (b : Bool). is_among (interfaces_in r) c || b) (sym (list_any-append (over (kins rows) c) (interfaces_in r) (superclass_in r)))

-- those of any of the classes of rows
over_any : {A : Type 0} (v : A → Rowed) (rows : List Rowed) (xs : List A) (c : Class) → SupersBefore [] rows → AllByRecursion (λ x. IsRowIn rows (v x)) xs
    → is_among (superinterfaces_of_any (map (λ x. kin_under (kins rows) (v x)) xs)) c ≡ list_any (over (kins rows) c) (map (λ x. (v x).class) xs)
over_any v rows [] c ordered all = refl
over_any v rows (x ∷ xs) c ordered all =
    let k = row_kin [] rows (v x).class (v x) ordered all.0 in
    among_both (classes (superinterfaces (kin_under (kins rows) (v x)))) (superinterfaces_of_any (map (λ y. kin_under (kins rows) (v y)) xs)) c
    ∙ ap (λ (o : Option Kin). over_kin o c || is_among (superinterfaces_of_any (map (λ y. kin_under (kins rows) (v y)) xs)) c) (sym k.kin)
    ∙ ap (λ (b : Bool). over (kins rows) c (v x).class || b) (over_any v rows xs c ordered all.1)

-- ---- what is known is among the rows

known_in : (known : List Kin) (d : Class) → is_some (kin_named known d) ≡ true → is_among (classes known) d ≡ true
known_in [] d e = absurd cc
known_in (k ∷ known) d e = at (λ f. known_in known d f) (same_class d k.class) refl e
  where
    at : (is_some (kin_named known d) ≡ true → is_among (classes known) d ≡ true) → (b : Bool) → same_class d k.class ≡ b → is_some (if b then Some k else kin_named known d) ≡ true → (b || is_among (classes known) d) ≡ true
    at further true s f = refl
    at further false s f = further f

all_in : (known : List Kin) (cs : List Class) → AllKnown known cs → AreIn (classes known) cs
all_in known [] all = tt
all_in known (c ∷ cs) all = (known_in known c all.0, all_in known cs all.1)

both_in : (all xs ys : List Class) → AreIn all xs → AreIn all ys → AreIn all (xs ++ ys)
both_in all [] ys f g = g
both_in all (x ∷ xs) ys f g = (f.0, both_in all xs ys f.1 g)

rows_in : {A : Type 0} (v : A → Rowed) (rows : List Rowed) (xs : List A) → SupersBefore [] rows → AllByRecursion (λ x. IsRowIn rows (v x)) xs → AreIn (classes (kins rows)) (map (λ x. (v x).class) xs)
rows_in v rows [] ordered all = tt
rows_in v rows (x ∷ xs) ordered all =
    let k = row_kin [] rows (v x).class (v x) ordered all.0 in
    (known_in (kins rows) (v x).class (ap (λ (o : Option Kin). is_some o) k.kin), rows_in v rows xs ordered all.1)

-- ---- the pass

-- what is wanted is what was found, with what stands over the classes that are left, as far as their
-- rows are
pub record IsPassed (rows : List Rowed) (goal : Class → Bool) (front : List Rowed) (found left : List Class) : Type 0 where
  pub later : List Rowed
  pub split : rows ≡ front ++ later
  pub told : (c : Class) → goal c ≡ (is_among found c || any_of (over (kins rows) c) left (classes (kins front)))

-- at first all rows are
pub first_pass : {A : Type 0} (v : A → Rowed) (rows : List Rowed) (xs : List A) (none found left : List Class) → SupersBefore [] rows → AllByRecursion (λ x. IsRowIn rows (v x)) xs → none ≡ [] → found ≡ [] → Gains none (map (λ x. (v x).class) xs) left
    → IsPassed rows (λ c. is_among (superinterfaces_of_any (map (λ x. kin_under (kins rows) (v x)) xs)) c) rows found left
first_pass v rows xs none found left ordered all empty nothing joined = record {
  later = [];
  split = sym (append-nil rows);
  told = λ c.
      over_any v rows xs c ordered all
      ∙ sym (any_in (over (kins rows) c) (map (λ x. (v x).class) xs) (classes (kins rows)) (rows_in v rows xs ordered all))
      ∙ ap (λ (b : Bool). b || any_of (over (kins rows) c) (map (λ x. (v x).class) xs) (classes (kins rows))) (sym (any_none (over (kins rows) c) (classes (kins rows))))
      ∙ sym (any_joined (over (kins rows) c) [] (map (λ x. (v x).class) xs) left (classes (kins rows)) (subst (λ (cs : List Class). Gains cs (map (λ x. (v x).class) xs) left) empty joined))
      ∙ ap (λ (cs : List Class). is_among cs c || any_of (over (kins rows) c) left (classes (kins rows))) (sym nothing);
}

moved : (f i n a : Bool) → (f || ((i || n) || a)) ≡ ((f || i) || (a || n))
moved true i n a = refl
moved false true n a = refl
moved false false true true = refl
moved false false true false = refl
moved false false false true = refl
moved false false false false = refl

module _ (rows : List Rowed) (goal : Class → Bool) (front : List Rowed) (r : Rowed) (found left : List Class) (ordered : SupersBefore [] rows) (h : IsPassed rows goal (front ++ r ∷ []) found left) where
  split_at : rows ≡ front ++ r ∷ h.later
  split_at = h.split ∙ append_assoc front (r ∷ []) h.later

  told_at : (c : Class) (b : Bool) → is_among left r.class ≡ b
      → goal c ≡ (is_among found c || ((b && over (kins rows) c r.class) || any_of (over (kins rows) c) left (classes (kins front))))
  told_at c b e =
      h.told c
      ∙ ap (λ (ks : List Kin). is_among found c || any_of (over (kins rows) c) left (classes ks)) (kins_push [] front r)
      ∙ ap (λ (x : Bool). is_among found c || ((x && over (kins rows) c r.class) || any_of (over (kins rows) c) left (classes (kins front)))) e

  supers_in : AreIn (classes (kins front)) (interfaces_in r ++ superclass_in r)
  supers_in =
      let parts = before_split [] front (r ∷ h.later) (subst (λ (rs : List Rowed). SupersBefore [] rs) split_at ordered) in
      both_in (classes (kins front)) (interfaces_in r) (superclass_in r) (all_in (kins front) (interfaces_in r) parts.1.0.interfaces) (all_in (kins front) (superclass_in r) parts.1.0.superclass)

  -- a row is looked at where its class is left
  pub pass_row : (found-now left-now : List Class) → Gains found (if_left left r.class (interfaces_in r)) found-now → Gains left (if_left left r.class (interfaces_in r ++ superclass_in r)) left-now → IsPassed rows goal front found-now left-now
  pass_row found-now left-now f l = record { later = r ∷ h.later; split = split_at; told = λ c. at c (is_among left r.class) refl (f c) l }
    where
      at : (c : Class) (b : Bool) → is_among left r.class ≡ b → is_among found-now c ≡ (is_among found c || is_among (if b then interfaces_in r else []) c) → Gains left (if b then interfaces_in r ++ superclass_in r else []) left-now
          → goal c ≡ (is_among found-now c || any_of (over (kins rows) c) left-now (classes (kins front)))
      at c true e more up =
          let n = list_any (over (kins rows) c) (interfaces_in r ++ superclass_in r) in
          let a = any_of (over (kins rows) c) left (classes (kins front)) in
          told_at c true e
          ∙ ap (λ (b : Bool). is_among found c || (b || a)) (over_row rows r c ordered (placed_row rows front r ordered (record { later = h.later; split = split_at })))
          ∙ moved (is_among found c) (is_among (interfaces_in r) c) n a
          ∙ ap (λ (b : Bool). (is_among found c || is_among (interfaces_in r) c) || (a || b)) (sym (any_in (over (kins rows) c) (interfaces_in r ++ superclass_in r) (classes (kins front)) supers_in))
          ∙ ap (λ (b : Bool). (is_among found c || is_among (interfaces_in r) c) || b) (sym (any_joined (over (kins rows) c) left (interfaces_in r ++ superclass_in r) left-now (classes (kins front)) up))
          ∙ ap (λ (b : Bool). b || any_of (over (kins rows) c) left-now (classes (kins front))) (sym more)
      at c false e more up =
          let a = any_of (over (kins rows) c) left (classes (kins front)) in
          told_at c false e
          ∙ ap (λ (b : Bool). b || a) (none_more (is_among found c) ∙ sym more)
          ∙ ap (λ (b : Bool). is_among found-now c || b) (none_more a ∙ ap (λ (b : Bool). a || b) (sym (any_none (over (kins rows) c) (classes (kins front)))) ∙ sym (any_joined (over (kins rows) c) left [] left-now (classes (kins front)) up))

-- ---- the same of what the code has of them

pub pass_in : {A : Type 0} (v : A → Rowed) (rows : List Rowed) (goal : Class → Bool) (rest earlier : List A) (x : A) (r : Rowed) (found left found-now left-now : List Class) → SupersBefore [] rows → rest ≡ earlier ++ x ∷ [] → r ≡ v x → IsPassed rows goal (map v rest) found left
    → Gains found (if_left left r.class (interfaces_in r)) found-now → Gains left (if_left left r.class (interfaces_in r ++ superclass_in r)) left-now → IsPassed rows goal (map v earlier) found-now left-now
pass_in {A} v rows goal rest earlier x r found left found-now left-now ordered e is h over up =
    pass_row rows goal (map v earlier) r found left ordered
    (subst (λ (rs : List Rowed). IsPassed rows goal rs found left) (ap (λ (xs : List A). map v xs) e ∙ map_push v earlier x ∙ ap (λ (y : Rowed). map v earlier ++ y ∷ []) (sym is)) h)
    found-now left-now over up

-- ---- the end

pub none_wanted : {A : Type 0} (kin : A → Kin) (xs : List A) (found : List Class) → xs ≡ [] → found ≡ [] → (c : Class) → is_among found c ≡ is_among (superinterfaces_of_any (map kin xs)) c
none_wanted {A} kin xs found none empty c = ap (λ (cs : List Class). is_among cs c) empty ∙ ap (λ (ys : List A). is_among (superinterfaces_of_any (map kin ys)) c) (sym none)

-- at last none is
pub passed : (rows : List Rowed) (goal : Class → Bool) (front : List Rowed) (found left : List Class) → front ≡ [] → IsPassed rows goal front found left → (c : Class) → is_among found c ≡ goal c
passed rows goal front found left none h c =
    sym (h.told c ∙ ap (λ (rs : List Rowed). is_among found c || any_of (over (kins rows) c) left (classes (kins rs))) none ∙ sym (none_more (is_among found c)))

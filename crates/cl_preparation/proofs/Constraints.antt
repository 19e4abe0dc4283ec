-- What the rows of a lineage impose is what its tree does.
use Rattle.std.proofs.Common.{◌≡◌, ◌<◌, ◌+◌, ℕ, Bool, true, false, not, ◌&&◌, ◌||◌, if◌then◌else◌, List, [], ◌∷◌, ◌++◌, map, filter, length, Option, Some, None, refl, ap, sym, ◌∙◌, get_or, take, append-nil, append_assoc, arith}
use Rattle.std.specs.Prelude.{option_map, is_some, find, flat_map}
use Rattle.std.specs.List.{list_any}
use Rattle.std.proofs.lemmas.Bool.{or_parts}
use Rattle.std.proofs.lemmas.List.{map_more, map_push, take-map, take_all, take_more}
use Rattle.std.proofs.lemmas.Grind.{flat_map-append}
use Rattle.cl_classfile.specs.Files.{Key, Member, file_of, is_interface}
use Rattle.cl_model.specs.declared.class.Class.{Class}
use Rattle.cl_model.specs.Lineages.{Kin, is_offered, method_of, superclasses, superinterfaces}
use Rattle.cl_model.specs.Preparation.{constraints_of, equals_of, equals_with, for_declared, for_inherited, inherited_from, overridden_superclasses, takes_part, with_inherited}
use Rattle.cl_model.specs.States.{Need}
use Rattle.cl_model.specs.declared.need.Equality.{Equality}
use Rattle.cl_hierarchy.specs.Imposed.{equal_need, needs_of}
use Rattle.cl_hierarchy.specs.Rows.{Rowed}
use Rattle.cl_hierarchy.specs.Lineages.{Lined, kin_at, kin_of}
use Rattle.cl_preparation.specs.Relatives.{bare, first_loader, of_superclasses}
use Rattle.cl_preparation.specs.Walks.{is_overridden, opened_by, overridden_by_package}
use Rattle.cl_preparation.proofs.Reached.{any_map, overridden_is_by_package}

-- ---- one more of a list

-- an equality more, of the next name
pub pushed_equality : {A : Type 0} (f : A → Need) (names : List A) (all : List Need) (i : ℕ) (n : A) (first : List Need) (done after : List Equality) (e : Equality) → map f names ≡ all → i < length names → n ≡ get_or names i n → equal_need e ≡ f n
    → needs_of done ≡ first ++ take i all → after ≡ done ++ e ∷ [] → needs_of after ≡ first ++ take (i + 1) all
pushed_equality f names all i n first done after e is h at made before more =
    ap needs_of more ∙ map_push equal_need done e ∙ ap (λ ns. ns ++ equal_need e ∷ []) before ∙ append_assoc first (take i all) (equal_need e ∷ [])
    ∙ ap (λ ns. first ++ ns) (
    ap (λ ns. take i ns ++ equal_need e ∷ []) (sym is) ∙ ap (λ ns. ns ++ equal_need e ∷ []) (take-map f i names) ∙ ap (λ m. map f (take i names) ++ m ∷ []) (made ∙ ap f at)
    ∙ sym (map_more f names i n h) ∙ sym (take-map f (i + 1) names) ∙ ap (take (i + 1)) is
    )

-- each name has given one
pub pushed_all : {A : Type 0} (f : A → Need) (names : List A) (all first now : List Need) → map f names ≡ all → now ≡ first ++ take (length names) all → now ≡ first ++ all
pushed_all f names all first now is e =
    e ∙ ap (λ ns. first ++ ns) (ap (take (length names)) (sym is) ∙ take-map f (length names) names ∙ ap (map f) (take_all (length names) names (omega arith)) ∙ is)

-- what each item gives, after what stood before
pub pushed_more : {A B : Type 0} (f : A → List B) (xs : List A) (i : ℕ) (x : A) (first done after : List B) → i < length xs → x ≡ get_or xs i x
    → done ≡ first ++ flat_map f (take i xs) → after ≡ done ++ f x → after ≡ first ++ flat_map f (take (i + 1) xs)
pushed_more f xs i x first done after h at before more =
    more ∙ ap (λ ys. ys ++ f x) before ∙ append_assoc first (flat_map f (take i xs)) (f x)
    ∙ ap (λ ys. first ++ (flat_map f (take i xs) ++ ys)) (sym (append-nil (f x)))
    ∙ ap (λ ys. first ++ ys) (sym (flat_map-append f (take i xs) (x ∷ [])))
    ∙ ap (λ y. first ++ flat_map f (take i xs ++ y ∷ [])) at
    ∙ ap (λ ys. first ++ flat_map f ys) (sym (take_more xs i x h))

-- ---- rows and the tree

both_taken : (key : Key) (loader : ℕ) (l : Lined) (r : Rowed) (xs ys : List Kin) (b : Bool) → equals_with key loader xs ≡ equals_with key loader ys
    → equals_with key loader (if b then kin_at l r ∷ xs else xs) ≡ equals_with key loader (if b then bare r ∷ ys else ys)
both_taken key loader l r xs ys true e = ap (λ ns. equals_of key loader r.class.loader ++ ns) e
both_taken key loader l r xs ys false e = e

module _ {A : Type 0} (row : A → Rowed) (l : Lined) where
  walk_bare : (key : Key) (loader : ℕ) (opened : List Class) (rs : List A) → equals_with key loader (overridden_by_package key opened (map (λ r. kin_at l (row r)) rs)) ≡ equals_with key loader (overridden_by_package key opened (map (λ r. bare (row r)) rs))
  walk_bare key loader opened [] = refl
  walk_bare key loader opened (r ∷ rs) =
      let after : List Class = opened_by key opened (bare (row r)) in
      both_taken key loader l (row r) (overridden_by_package key after (map (λ r. kin_at l (row r)) rs)) (overridden_by_package key after (map (λ r. bare (row r)) rs)) (is_overridden key opened (bare (row r))) (walk_bare key loader after rs)

  filter_bare : (key : Key) (loader : ℕ) (rs : List A) → equals_with key loader (filter (takes_part key) (map (λ r. kin_at l (row r)) rs)) ≡ equals_with key loader (filter (takes_part key) (map (λ r. bare (row r)) rs))
  filter_bare key loader [] = refl
  filter_bare key loader (r ∷ rs) =
      both_taken key loader l (row r) (filter (takes_part key) (map (λ r. kin_at l (row r)) rs)) (filter (takes_part key) (map (λ r. bare (row r)) rs)) (takes_part key (bare (row r))) (filter_bare key loader rs)

  -- whether one of the rows does tells whether one of the tree does
  pub any_above : (kins_of : Kin → List Kin) (key : Key) (rs : List A) (found : Bool) → map (λ r. kin_at l (row r)) rs ≡ kins_of (kin_of l) → found ≡ list_any (λ r. takes_part key (bare (row r))) rs → found ≡ list_any (takes_part key) (kins_of (kin_of l))
  any_above kins_of key rs found are told = told ∙ sym (any_map (takes_part key) (λ r. kin_at l (row r)) rs) ∙ ap (list_any (takes_part key)) are

-- ---- the first half

-- what a method imposes, where it takes part
abbrev halves : Kin → Key → Bool → List Need → List Need
halves c key part with_superclasses =
    if part
    then (if is_interface c.file then [] else with_superclasses) ++ equals_with key c.class.loader (filter (takes_part key) (superinterfaces c))
    else []

-- one that takes part imposes what the two walks find
declared_some : {A : Type 0} (row : A → Rowed) (l : Lined) (above over : List A) (m : Member) → map (λ r. kin_at l (row r)) above ≡ superclasses (kin_of l) → map (λ r. kin_at l (row r)) over ≡ superinterfaces (kin_of l) → true ≡ takes_part m.key (bare l.own)
    → of_superclasses l.own (map (λ r. bare (row r)) above) m.key ++ equals_with m.key l.own.class.loader (filter (takes_part m.key) (map (λ r. bare (row r)) over)) ≡ for_declared (kin_of l) m
declared_some row l above over m above_are over_are part =
    let key : Key = m.key in
    let loader : ℕ = l.own.class.loader in
    let firsts : equals_with key loader (overridden_by_package key (l.own.class ∷ []) (map (λ r. bare (row r)) above)) ≡ equals_with key loader (overridden_superclasses key (kin_of l)) =
    sym (walk_bare row l key loader (l.own.class ∷ []) above) ∙ ap (λ (ks : List Kin). equals_with key loader (overridden_by_package key (l.own.class ∷ []) ks)) above_are
    ∙ ap (equals_with key loader) (sym (overridden_is_by_package key (kin_of l) (sym part))) in
    let seconds : equals_with key loader (filter (takes_part key) (map (λ r. bare (row r)) over)) ≡ equals_with key loader (filter (takes_part key) (superinterfaces (kin_of l))) =
    sym (filter_bare row l key loader over) ∙ ap (λ (ks : List Kin). equals_with key loader (filter (takes_part key) ks)) over_are in
    ap (λ (ns : List Need). (if is_interface (kin_of l).file then [] else ns) ++ equals_with key loader (filter (takes_part key) (map (λ r. bare (row r)) over))) firsts
    ∙ ap (λ (ns : List Need). (if is_interface (kin_of l).file then [] else equals_with key loader (overridden_superclasses key (kin_of l))) ++ ns) seconds
    ∙ ap (λ (b : Bool). halves (kin_of l) key b (equals_with key loader (overridden_superclasses key (kin_of l)))) part

-- it is added in two steps
pub declared_pushed : {A : Type 0} (row : A → Rowed) (l : Lined) (own : Rowed) (above over : List A) (m : Member) (k key : Key) (old middle new : List Need) (loader : ℕ)
    → map (λ r. kin_at l (row r)) above ≡ superclasses (kin_of l) → map (λ r. kin_at l (row r)) over ≡ superinterfaces (kin_of l) → own ≡ l.own → k ≡ m.key → key ≡ k → true ≡ takes_part k (bare own) → loader ≡ own.class.loader
    → middle ≡ old ++ of_superclasses own (map (λ r. bare (row r)) above) key → new ≡ middle ++ equals_with key loader (filter (takes_part key) (map (λ r. bare (row r)) over)) → new ≡ old ++ for_declared (kin_of l) m
declared_pushed row l own above over m k key old middle new loader above_are over_are mine ke kk part le first second =
    let taken : Rowed → Key → List Need = λ r x. of_superclasses r (map (λ r. bare (row r)) above) x in
    let kept : ℕ → Key → List Need = λ n x. equals_with x n (filter (takes_part x) (map (λ r. bare (row r)) over)) in
    second ∙ ap (λ ns. ns ++ kept loader key) first ∙ append_assoc old (taken own key) (kept loader key)
    ∙ ap (λ (n : ℕ). old ++ (taken own key ++ kept n key)) (le ∙ ap (λ (r : Rowed). r.class.loader) mine)
    ∙ ap (λ (r : Rowed). old ++ (taken r key ++ kept l.own.class.loader key)) mine
    ∙ ap (λ (x : Key). old ++ (taken l.own x ++ kept l.own.class.loader x)) (kk ∙ ke)
    ∙ ap (λ ns. old ++ ns)
    (declared_some row l above over m above_are over_are (part ∙ ap (λ (r : Rowed). takes_part k (bare r)) mine ∙ ap (λ (x : Key). takes_part x (bare l.own)) ke))

-- where no class above takes part, none is overridden
walked_past : (key : Key) (opened : List Class) (k : Kin) (ks : List Kin) (part : Bool) → takes_part key k ≡ part → (part || list_any (takes_part key) ks) ≡ false → ((others : List Class) → list_any (takes_part key) ks ≡ false → overridden_by_package key others ks ≡ []) → overridden_by_package key opened (k ∷ ks) ≡ []
walked_past key opened k ks true e none rest = absurd cc
walked_past key opened k ks false e none rest = rw e (rest opened none)

walked_none : (key : Key) (opened : List Class) (ks : List Kin) → list_any (takes_part key) ks ≡ false → overridden_by_package key opened ks ≡ []
walked_none key opened [] none = refl
walked_none key opened (k ∷ ks) none = walked_past key opened k ks (takes_part key k) refl none (λ others more. walked_none key others ks more)

filter_past : (p : Kin → Bool) (k : Kin) (ks : List Kin) (b : Bool) → p k ≡ b → (b || list_any p ks) ≡ false → (list_any p ks ≡ false → filter p ks ≡ []) → filter p (k ∷ ks) ≡ []
filter_past p k ks true e none rest = absurd cc
filter_past p k ks false e none rest = rw e (rest none)

filter_none : (p : Kin → Bool) (ks : List Kin) → list_any p ks ≡ false → filter p ks ≡ []
filter_none p [] none = refl
filter_none p (k ∷ ks) none = filter_past p k ks (p k) refl none (λ more. filter_none p ks more)

nothing_either : (b : Bool) (ns : List Need) → ns ≡ [] → (if b then [] else ns) ++ [] ≡ []
nothing_either true ns e = refl
nothing_either false ns e = rw e refl

alone : (l : Lined) (m : Member) → list_any (takes_part m.key) (superclasses (kin_of l)) ≡ false → list_any (takes_part m.key) (superinterfaces (kin_of l)) ≡ false → for_declared (kin_of l) m ≡ []
alone l m above over = by_test (takes_part m.key (kin_of l)) refl
  where
    all : List Need
    all = equals_with m.key l.own.class.loader (overridden_superclasses m.key (kin_of l))

    first : takes_part m.key (kin_of l) ≡ true → all ≡ []
    first part = ap (equals_with m.key l.own.class.loader) (overridden_is_by_package m.key (kin_of l) part ∙ walked_none m.key (l.own.class ∷ []) (superclasses (kin_of l)) above)

    by_test : (b : Bool) → takes_part m.key (kin_of l) ≡ b → for_declared (kin_of l) m ≡ []
    by_test false e = ap (λ (b : Bool). halves (kin_of l) m.key b all) e
    by_test true e =
        ap (λ (b : Bool). halves (kin_of l) m.key b all) e
        ∙ ap (λ (ks : List Kin). (if is_interface (kin_of l).file then [] else all) ++ equals_with m.key l.own.class.loader ks) (filter_none (takes_part m.key) (superinterfaces (kin_of l)) over)
        ∙ nothing_either (is_interface (kin_of l).file) all (first e)

-- a method of which no class above has one that takes part imposes nothing
pub declared_alone : (l : Lined) (m : Member) (key : Key) (over : Bool) (old : List Need) → key ≡ m.key → over ≡ (list_any (takes_part key) (superclasses (kin_of l)) || list_any (takes_part key) (superinterfaces (kin_of l))) → over ≡ false
    → old ≡ old ++ for_declared (kin_of l) m
declared_alone l m key over old same told none =
    let both = or_parts (list_any (takes_part m.key) (superclasses (kin_of l))) (list_any (takes_part m.key) (superinterfaces (kin_of l)))
    (ap (λ (k : Key). list_any (takes_part k) (superclasses (kin_of l)) || list_any (takes_part k) (superinterfaces (kin_of l))) (sym same) ∙ sym told ∙ none) in
    sym (append-nil old) ∙ ap (λ ns. old ++ ns) (sym (alone l m both.0 both.1))

-- ---- the second half

first_found : {A : Type 0} (row : A → Rowed) (l : Lined) (r : A) (o : Option Kin) (p : Option A) (b : Bool) → option_map (λ a. a.class.loader) o ≡ option_map (λ a. (row a).class.loader) p
    → option_map (λ (a : Kin). a.class.loader) (if b then Some (kin_at l (row r)) else o) ≡ option_map (λ (a : A). (row a).class.loader) (if b then Some r else p)
first_found row l r o p true e = refl
first_found row l r o p false e = e

found_bare : {A : Type 0} (row : A → Rowed) (key : Key) (l : Lined) (rs : List A) → option_map (λ a. a.class.loader) (find (is_offered key) (map (λ r. kin_at l (row r)) rs)) ≡ first_loader row key rs
found_bare row key l [] = refl
found_bare row key l (r ∷ rs) =
    first_found row l r (find (is_offered key) (map (λ r. kin_at l (row r)) rs)) (find (λ a. is_offered key (bare (row a))) rs) (is_offered key (bare (row r))) (found_bare row key l rs)

-- equalities of a loader, if there is one, with that of a superinterface
abbrev with_loader : Key → Rowed → Option ℕ → List Need
with_loader key j None = []
with_loader key j (Some loader) = equals_of key loader j.class.loader

with_found : (key : Key) (j : Rowed) (o : Option Kin) → with_inherited key (bare j) o ≡ with_loader key j (option_map (λ a. a.class.loader) o)
with_found key j None = refl
with_found key j (Some a) = refl

module _ {A : Type 0} (row : A → Rowed) (l : Lined) (above : List A) (above_are : map (λ r. kin_at l (row r)) above ≡ superclasses (kin_of l)) (own j : Rowed) (m : Member) (k : Key) (mine : own ≡ l.own) (same : k ≡ m.key) where
  -- what the method of a superinterface imposes, if it takes part and the class declares none like it
  abbrev if_inherited : Bool → List Need
  if_inherited b = if b then with_loader m.key j (first_loader row m.key above) else []

  imposed : (part has : Bool) → part ≡ takes_part k (bare j) → has ≡ is_some (method_of (bare own) k) → if_inherited (part && not has) ≡ for_inherited (kin_of l) (bare j) m
  imposed part has tp declares =
      ap (λ (b : Bool). if_inherited (b && not has)) (tp ∙ ap (λ (x : Key). takes_part x (bare j)) same)
      ∙ ap (λ (b : Bool). if_inherited (takes_part m.key (bare j) && not b)) (declares ∙ ap (λ (r : Rowed). is_some (method_of (bare r) k)) mine ∙ ap (λ (x : Key). is_some (method_of (bare l.own) x)) same)
      ∙ ap (λ (ns : List Need). if takes_part m.key (bare j) && not (is_some (method_of (bare l.own) m.key)) then ns else [])
      (ap (with_loader m.key j) (sym (found_bare row m.key l above) ∙ ap (λ (ks : List Kin). option_map (λ a. a.class.loader) (find (is_offered m.key) ks)) above_are)
      ∙ sym (with_found m.key j (inherited_from (kin_of l) m.key)))

  -- the nearest superclass that declares one is found
  pub inherited_pushed : (o : Option ℕ) (x loader : ℕ) (key : Key) (old new : List Need) → true ≡ takes_part k (bare j) → false ≡ is_some (method_of (bare own) k) → o ≡ first_loader row k above → o ≡ Some x → key ≡ k → loader ≡ j.class.loader
      → new ≡ old ++ equals_of key x loader → new ≡ old ++ for_inherited (kin_of l) (bare j) m
  inherited_pushed o x loader key old new tp declares found some kk le more =
      more ∙ ap (λ (y : ℕ). old ++ equals_of key x y) le ∙ ap (λ (y : Key). old ++ equals_of y x j.class.loader) (kk ∙ same)
      ∙ ap (λ (y : Option ℕ). old ++ with_loader m.key j y) (sym some ∙ found ∙ ap (λ (y : Key). first_loader row y above) same)
      ∙ ap (λ ns. old ++ ns) (imposed true false tp declares)

  -- none is found
  pub inherited_none : (o : Option ℕ) (old : List Need) → true ≡ takes_part k (bare j) → false ≡ is_some (method_of (bare own) k) → o ≡ first_loader row k above → o ≡ None → old ≡ old ++ for_inherited (kin_of l) (bare j) m
  inherited_none o old tp declares found none =
      sym (append-nil old) ∙ ap (λ (y : Option ℕ). old ++ with_loader m.key j y) (sym none ∙ found ∙ ap (λ (y : Key). first_loader row y above) same)
      ∙ ap (λ ns. old ++ ns) (imposed true false tp declares)

-- each superinterface, as a row and in the tree
each_bare : {A : Type 0} (row : A → Rowed) (l : Lined) (rs : List A)
    → flat_map (λ r. flat_map (for_inherited (kin_of l) (bare (row r))) (bare (row r)).file.methods) rs ≡ flat_map (λ (j : Kin). flat_map (for_inherited (kin_of l) j) j.file.methods) (map (λ r. kin_at l (row r)) rs)
each_bare row l [] = refl
each_bare row l (r ∷ rs) = ap (λ ns. flat_map (for_inherited (kin_of l) (bare (row r))) (file_of (row r).file).methods ++ ns) (each_bare row l rs)

pub interfaces_are : {A : Type 0} (row : A → Rowed) (l : Lined) (over : List A) → map (λ r. kin_at l (row r)) over ≡ superinterfaces (kin_of l)
    → flat_map (λ r. flat_map (for_inherited (kin_of l) (bare (row r))) (bare (row r)).file.methods) over ≡ flat_map (λ (j : Kin). flat_map (for_inherited (kin_of l) j) j.file.methods) (superinterfaces (kin_of l))
interfaces_are row l over over_are = each_bare row l over ∙ ap (flat_map (λ (j : Kin). flat_map (for_inherited (kin_of l) j) j.file.methods)) over_are

-- ---- the whole list

pub both_halves : (c : Kin) (first middle new : List Need) → first ≡ [] → middle ≡ first ++ flat_map (for_declared c) c.file.methods
    → new ≡ middle ++ (if is_interface c.file then [] else flat_map (λ (j : Kin). flat_map (for_inherited c j) j.file.methods) (superinterfaces c)) → new ≡ constraints_of c
both_halves c first middle new empty one two =
    two ∙ ap (λ ns. ns ++ (if is_interface c.file then [] else flat_map (λ (j : Kin). flat_map (for_inherited c j) j.file.methods) (superinterfaces c))) (one ∙ ap (λ ns. ns ++ flat_map (for_declared c) c.file.methods) empty)

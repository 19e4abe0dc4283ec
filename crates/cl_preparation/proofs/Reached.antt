-- Overriding through third methods is told by run-time packages, and one walk over the superclasses finds it.
use Rattle.std.proofs.Common.{◌≡◌, inl, inr, ℕ, zero, suc, Bool, true, false, ◌&&◌, ◌||◌, if◌then◌else◌, List, [], ◌∷◌, ◌++◌, map, filter, length, refl, ap, sym, ◌∙◌}
use Rattle.std.specs.List.{list_any}
use Rattle.std.specs.Prelude.{nat_eq, ◌==◌}
use Rattle.std.specs.Cmp.Lexicographic.{pointwise, nat_list_eq_equiv}
use Rattle.std.proofs.lemmas.Cmp.{nat_eq_equiv}
use Rattle.cl_names.specs.Kind.{package_of}
use Rattle.std.proofs.lemmas.Bool.{or_left, or_right, or_cases}
use Rattle.cl_classfile.specs.Files.{Key}
use Rattle.cl_model.specs.Lineages.{Kin, superclasses}
use Rattle.cl_model.specs.declared.class.Class.{Class}
use Rattle.cl_model.specs.Classes.{same_package}
use Rattle.cl_model.specs.Preparation.{Split, shifted_split, splits, takes_part, overrides_directly, overrides_over, overrides, overridden_superclasses}
use Rattle.cl_preparation.specs.Walks.{is_open, opens, opens_to, overrides_by_package, is_in_package, is_overridden, opened_by, overridden_by_package}

-- ---- tests

both : (a b : Bool) → a ≡ true → b ≡ true → (a && b) ≡ true
both true b h k = k
both false b h k = absurd cc

first_of_both : (a b : Bool) → (a && b) ≡ true → a ≡ true
first_of_both true b h = refl
first_of_both false b h = absurd cc

second_of_both : (a b : Bool) → (a && b) ≡ true → b ≡ true
second_of_both true b h = h
second_of_both false b h = absurd cc

alike : (a b : Bool) → (a ≡ true → b ≡ true) → (b ≡ true → a ≡ true) → a ≡ b
alike true b f g = sym (f refl)
alike false true f g = g refl
alike false false f g = refl

pub any_map : {X Y : Type 0} (p : Y → Bool) (f : X → Y) (xs : List X) → list_any p (map f xs) ≡ list_any (λ x. p (f x)) xs
any_map p f [] = refl
any_map p f (x ∷ xs) = ap (λ (b : Bool). p (f x) || b) (any_map p f xs)

any_more : {X : Type 0} (p q : X → Bool) → ((x : X) → p x ≡ true → q x ≡ true) → (xs : List X) → list_any p xs ≡ true → list_any q xs ≡ true
any_more p q f [] h = h
any_more p q f (x ∷ xs) h = elim (or_cases (p x) (list_any p xs) h) as (λ _. (q x || list_any q xs) ≡ true) [
  | inl k ↦ or_left (q x) (list_any q xs) (f x k)
  | inr k ↦ or_right (q x) (list_any q xs) (any_more p q f xs k)
]

-- ---- a class between taken or passed over

reaches : Key → Kin → List Kin → Kin → Bool
reaches key c [] a = overrides_directly key c a
reaches key c (s ∷ more) a = reaches key c more a || (overrides_directly key c s && reaches key s more a)

-- a place of a list that passes a test
record Placed (P : Split → Bool) (ks : List Kin) : Type 0 where
  split : Split
  whole : ks ≡ split.before ++ split.at ∷ split.after
  passes : P split ≡ true

placed : (P : Split → Bool) (ks : List Kin) → list_any P (splits ks) ≡ true → Placed P ks
placed P [] h = absurd cc
placed P (k ∷ ks) h =
    elim (or_cases (P (record { before = []; at = k; after = ks })) (list_any P (map (shifted_split k) (splits ks))) h) as (λ _. Placed P (k ∷ ks)) [
      | inl here ↦ record { split = record { before = []; at = k; after = ks }; whole = refl; passes = here }
      | inr there ↦
          let p : Placed (λ s. P (shifted_split k s)) ks = placed (λ s. P (shifted_split k s)) ks (sym (any_map P (shifted_split k) (splits ks)) ∙ there) in
          record { split = shifted_split k p.split; whole = ap (λ (xs : List Kin). k ∷ xs) p.whole; passes = p.passes }
    ]

reaches_directly : (key : Key) (c : Kin) (between : List Kin) (a : Kin) → overrides_directly key c a ≡ true → reaches key c between a ≡ true
unfolding reaches
reaches_directly key c [] a h = h
reaches_directly key c (s ∷ more) a h = or_left (reaches key c more a) (overrides_directly key c s && reaches key s more a) (reaches_directly key c more a h)

reaches_through : (key : Key) (c : Kin) (before : List Kin) (t : Kin) (after : List Kin) (a : Kin) → reaches key c before t ≡ true → reaches key t after a ≡ true → reaches key c (before ++ t ∷ after) a ≡ true
unfolding reaches
reaches_through key c [] t after a h k = or_right (reaches key c after a) (overrides_directly key c t && reaches key t after a) (both (overrides_directly key c t) (reaches key t after a) h k)
reaches_through key c (b ∷ bs) t after a h k =
    let rest : List Kin = bs ++ t ∷ after in
    elim (or_cases (reaches key c bs t) (overrides_directly key c b && reaches key b bs t) h) as (λ _. (reaches key c rest a || (overrides_directly key c b && reaches key b rest a)) ≡ true) [
      | inl past ↦ or_left (reaches key c rest a) (overrides_directly key c b && reaches key b rest a) (reaches_through key c bs t after a past k)
      | inr taken ↦ or_right (reaches key c rest a) (overrides_directly key c b && reaches key b rest a)
          (both (overrides_directly key c b) (reaches key b rest a)
          (first_of_both (overrides_directly key c b) (reaches key b bs t) taken)
          (reaches_through key b bs t after a (second_of_both (overrides_directly key c b) (reaches key b bs t) taken) k))
    ]

-- what is overridden through third methods is reached
over_reaches : (key : Key) (n : ℕ) (c : Kin) (between : List Kin) (a : Kin) → overrides_over key n c between a ≡ true → reaches key c between a ≡ true
over_reaches key zero c between a h = reaches_directly key c between a h
over_reaches key (suc n) c between a h =
    let P : Split → Bool = λ s. overrides_over key n c s.before s.at && overrides_over key n s.at s.after a in
    elim (or_cases (overrides_directly key c a) (list_any P (splits between)) h) as (λ _. reaches key c between a ≡ true) [
      | inl direct ↦ reaches_directly key c between a direct
      | inr third ↦
          let p : Placed P between = placed P between third in
          let s : Split = p.split in
          rw p.whole (reaches_through key c s.before s.at s.after a
          (over_reaches key n c s.before s.at (first_of_both (overrides_over key n c s.before s.at) (overrides_over key n s.at s.after a) p.passes))
          (over_reaches key n s.at s.after a (second_of_both (overrides_over key n c s.before s.at) (overrides_over key n s.at s.after a) p.passes)))
    ]

-- more of the classes between may count
over_more : (key : Key) (n : ℕ) (c : Kin) (between : List Kin) (a : Kin) → overrides_over key n c between a ≡ true → overrides_over key (suc n) c between a ≡ true
over_more key zero c between a h = or_left (overrides_directly key c a) (list_any (λ s. overrides_directly key c s.at && overrides_directly key s.at a) (splits between)) h
over_more key (suc n) c between a h =
    let P : Split → Bool = λ s. overrides_over key n c s.before s.at && overrides_over key n s.at s.after a in
    let Q : Split → Bool = λ s. overrides_over key (suc n) c s.before s.at && overrides_over key (suc n) s.at s.after a in
    elim (or_cases (overrides_directly key c a) (list_any P (splits between)) h) as (λ _. (overrides_directly key c a || list_any Q (splits between)) ≡ true) [
      | inl direct ↦ or_left (overrides_directly key c a) (list_any Q (splits between)) direct
      | inr third ↦ or_right (overrides_directly key c a) (list_any Q (splits between))
          (any_more P Q (λ s k. both (overrides_over key (suc n) c s.before s.at) (overrides_over key (suc n) s.at s.after a)
          (over_more key n c s.before s.at (first_of_both (overrides_over key n c s.before s.at) (overrides_over key n s.at s.after a) k))
          (over_more key n s.at s.after a (second_of_both (overrides_over key n c s.before s.at) (overrides_over key n s.at s.after a) k)))
          (splits between) third)
    ]

-- one more class stands between
over_past : (key : Key) (n : ℕ) (c s : Kin) (between : List Kin) (a : Kin) → overrides_over key n c between a ≡ true → overrides_over key n c (s ∷ between) a ≡ true
over_past key zero c s between a h = h
over_past key (suc n) c s between a h =
    let P : Split → Bool = λ t. overrides_over key n c t.before t.at && overrides_over key n t.at t.after a in
    let d : Bool = overrides_directly key c a in
    elim (or_cases d (list_any P (splits between)) h) as (λ _. (d || list_any P (splits (s ∷ between))) ≡ true) [
      | inl direct ↦ or_left d (list_any P (splits (s ∷ between))) direct
      | inr third ↦ or_right d (list_any P (splits (s ∷ between)))
          (or_right (P (record { before = []; at = s; after = between })) (list_any P (map (shifted_split s) (splits between)))
          (any_map P (shifted_split s) (splits between)
          ∙ any_more P (λ t. P (shifted_split s t)) (λ t k. both (overrides_over key n c (s ∷ t.before) t.at) (overrides_over key n t.at t.after a)
          (over_past key n c s t.before t.at (first_of_both (overrides_over key n c t.before t.at) (overrides_over key n t.at t.after a) k))
          (second_of_both (overrides_over key n c t.before t.at) (overrides_over key n t.at t.after a) k))
          (splits between) third))
    ]

-- with no class between
over_next : (key : Key) (n : ℕ) (c a : Kin) → overrides_directly key c a ≡ true → overrides_over key n c [] a ≡ true
over_next key zero c a h = h
over_next key (suc n) c a h = or_left (overrides_directly key c a) false h

-- what is reached is overridden through third methods
reaches_over : (key : Key) (c : Kin) (between : List Kin) (a : Kin) → reaches key c between a ≡ true → overrides key c between a ≡ true
unfolding reaches
reaches_over key c [] a h = h
reaches_over key c (s ∷ more) a h =
    let n : ℕ = length more in
    let P : Split → Bool = λ t. overrides_over key n c t.before t.at && overrides_over key n t.at t.after a in
    let d : Bool = overrides_directly key c a in
    elim (or_cases (reaches key c more a) (overrides_directly key c s && reaches key s more a) h) as (λ _. overrides_over key (suc n) c (s ∷ more) a ≡ true) [
      | inl past ↦ over_past key (suc n) c s more a (over_more key n c more a (reaches_over key c more a past))
      | inr taken ↦ or_right d (list_any P (splits (s ∷ more)))
          (or_left (P (record { before = []; at = s; after = more })) (list_any P (map (shifted_split s) (splits more)))
          (both (overrides_over key n c [] s) (overrides_over key n s more a)
          (over_next key n c s (first_of_both (overrides_directly key c s) (reaches key s more a) taken))
          (reaches_over key s more a (second_of_both (overrides_directly key c s) (reaches key s more a) taken))))
    ]

-- ---- packages

-- two classes of the package of a third are of one package
package_through : (a b c : Class) → same_package b c ≡ true → same_package a b ≡ true → same_package a c ≡ true
package_through a b c h k =
    let pa : List ℕ = package_of a.name in
    let pb : List ℕ = package_of b.name in
    let pc : List ℕ = package_of c.name in
    both (a.loader == c.loader) (pointwise nat_eq pa pc)
    (nat_eq_equiv.congr a.loader b.loader c.loader (first_of_both (a.loader == b.loader) (pointwise nat_eq pa pb) k) ∙ first_of_both (b.loader == c.loader) (pointwise nat_eq pb pc) h)
    (nat_list_eq_equiv.congr pa pb pc (second_of_both (a.loader == b.loader) (pointwise nat_eq pa pb) k) ∙ second_of_both (b.loader == c.loader) (pointwise nat_eq pb pc) h)

-- c takes part, a, and a class s between; a is open, and s; a is of the package of c, s of that of c, a of that of s; another opens to a
absorbed : (c a s oa os ac sc st x : Bool) → (sc ≡ true → st ≡ true → ac ≡ true)
    → (((c && a) && (oa || (ac || x))) || (((c && s) && (os || sc)) && ((s && a) && (oa || (st || x))))) ≡ ((c && a) && (oa || (ac || (((s && os) && st) || x))))
absorbed false a s oa os ac sc st x f = refl
absorbed true false false oa os ac sc st x f = refl
absorbed true false true oa true ac sc st x f = refl
absorbed true false true oa false ac true st x f = refl
absorbed true false true oa false ac false st x f = refl
absorbed true true s true os ac sc st x f = refl
absorbed true true s false os true sc st x f = refl
absorbed true true false false os false sc st true f = refl
absorbed true true false false os false sc st false f = refl
absorbed true true true false true false sc true true f = refl
absorbed true true true false true false sc true false f = refl
absorbed true true true false true false sc false true f = refl
absorbed true true true false true false sc false false f = refl
absorbed true true true false false false sc st true f = refl
absorbed true true true false false false true true false f = absurd (let e : false ≡ true = f refl refl in cc)
absorbed true true true false false false true false false f = refl
absorbed true true true false false false false st false f = refl

reaches_by_package : (key : Key) (c : Kin) (between : List Kin) (a : Kin) → reaches key c between a ≡ overrides_by_package key c between a
unfolding reaches
reaches_by_package key c [] a = ap (λ (b : Bool). (takes_part key c && takes_part key a) && (is_open key a || b)) (off (same_package a.class c.class))
  where
    off : (b : Bool) → b ≡ (b || false)
    off true = refl
    off false = refl
reaches_by_package key c (s ∷ more) a =
    ap (λ (b : Bool). b || (overrides_directly key c s && reaches key s more a)) (reaches_by_package key c more a)
    ∙ ap (λ (b : Bool). overrides_by_package key c more a || (overrides_directly key c s && b)) (reaches_by_package key s more a)
    ∙ absorbed (takes_part key c) (takes_part key a) (takes_part key s) (is_open key a) (is_open key s)
    (same_package a.class c.class) (same_package s.class c.class) (same_package a.class s.class) (list_any (opens_to key a) more)
    (package_through a.class s.class c.class)

-- whether the method of a class overrides that of a superclass is told by packages
pub overrides_is_by_package : (key : Key) (c : Kin) (between : List Kin) (a : Kin) → overrides key c between a ≡ overrides_by_package key c between a
overrides_is_by_package key c between a =
    alike (overrides key c between a) (reaches key c between a) (over_reaches key (length between) c between a) (reaches_over key c between a)
    ∙ reaches_by_package key c between a

-- ---- the walk

kept_at : (k : Kin) (s : Split) (b : Bool) (xs ys : List Split) → map (λ t. t.at) xs ≡ map (λ t. t.at) ys → map (λ t. t.at) (if b then shifted_split k s ∷ xs else xs) ≡ map (λ t. t.at) (if b then s ∷ ys else ys)
kept_at k s true xs ys h = ap (λ (zs : List Kin). s.at ∷ zs) h
kept_at k s false xs ys h = h

filter_map_at : (p : Split → Bool) (k : Kin) (ss : List Split) → map (λ s. s.at) (filter p (map (shifted_split k) ss)) ≡ map (λ s. s.at) (filter (λ s. p (shifted_split k s)) ss)
filter_map_at p k [] = refl
filter_map_at p k (s ∷ ss) = kept_at k s (p (shifted_split k s)) (filter p (map (shifted_split k) ss)) (filter (λ t. p (shifted_split k t)) ss) (filter_map_at p k ss)

filter_same : (p q : Split → Bool) → ((s : Split) → p s ≡ q s) → (ss : List Split) → filter p ss ≡ filter q ss
filter_same p q f [] = refl
filter_same p q f (s ∷ ss) = ap (λ (b : Bool). if b then s ∷ filter p ss else filter p ss) (f s) ∙ ap (λ (xs : List Split). if q s then s ∷ xs else xs) (filter_same p q f ss)

-- a place's class is overridden, where the packages of these classes and of those before it that open were opened
is_found : Key → List Class → Split → Bool
is_found key opened s = takes_part key s.at && (is_open key s.at || (is_in_package opened s.at.class || list_any (opens_to key s.at) s.before))

found_shifted : (key : Key) (opened : List Class) (k : Kin) (s : Split) → is_found key opened (shifted_split k s) ≡ is_found key (opened_by key opened k) s
unfolding is_found
found_shifted key opened k s = ap (λ (b : Bool). takes_part key s.at && (is_open key s.at || b)) (taken (opens key k))
  where
    regroup : (a b c : Bool) → (a || (b || c)) ≡ ((b || a) || c)
    regroup true true c = refl
    regroup true false c = refl
    regroup false true c = refl
    regroup false false c = refl

    taken : (o : Bool) → (is_in_package opened s.at.class || ((o && same_package s.at.class k.class) || list_any (opens_to key s.at) s.before))
        ≡ (is_in_package (if o then k.class ∷ opened else opened) s.at.class || list_any (opens_to key s.at) s.before)
    taken true = regroup (is_in_package opened s.at.class) (same_package s.at.class k.class) (list_any (opens_to key s.at) s.before)
    taken false = refl

first_found : (key : Key) (opened : List Class) (k : Kin) (ks : List Kin) → is_found key opened (record { before = []; at = k; after = ks }) ≡ is_overridden key opened k
unfolding is_found
first_found key opened k ks = ap (λ (b : Bool). takes_part key k && (is_open key k || b)) (off (is_in_package opened k.class))
  where
    off : (b : Bool) → (b || false) ≡ b
    off true = refl
    off false = refl

walk_step : (first : Split) (j : Bool) (rest : List Split) (others : List Kin) → map (λ s. s.at) rest ≡ others → map (λ s. s.at) (if j then first ∷ rest else rest) ≡ (if j then first.at ∷ others else others)
walk_step first true rest others h = ap (λ (xs : List Kin). first.at ∷ xs) h
walk_step first false rest others h = h

walk_filters : (key : Key) (opened : List Class) (ks : List Kin) → map (λ s. s.at) (filter (is_found key opened) (splits ks)) ≡ overridden_by_package key opened ks
walk_filters key opened [] = refl
walk_filters key opened (k ∷ ks) =
    let first : Split = record { before = []; at = k; after = ks } in
    let p : Split → Bool = is_found key opened in
    let others : List Kin = overridden_by_package key (opened_by key opened k) ks in
    walk_step first (p first) (filter p (map (shifted_split k) (splits ks))) others
    (filter_map_at p k (splits ks)
    ∙ ap (λ (ss : List Split). map (λ s. s.at) ss) (filter_same (λ s. p (shifted_split k s)) (is_found key (opened_by key opened k)) (found_shifted key opened k) (splits ks))
    ∙ walk_filters key (opened_by key opened k) ks)
    ∙ ap (λ (j : Bool). if j then k ∷ others else others) (first_found key opened k ks)

-- the superclasses whose method that of a class overrides are those that the walk keeps
pub overridden_is_by_package : (key : Key) (c : Kin) → takes_part key c ≡ true → overridden_superclasses key c ≡ overridden_by_package key (c.class ∷ []) (superclasses c)
unfolding is_found
overridden_is_by_package key c part =
    ap (λ (ss : List Split). map (λ s. s.at) ss) (filter_same (λ s. overrides key c s.before s.at) (is_found key (c.class ∷ [])) told (splits (superclasses c)))
    ∙ walk_filters key (c.class ∷ []) (superclasses c)
  where
    off : (b : Bool) → b ≡ (b || false)
    off true = refl
    off false = refl

    told : (s : Split) → overrides key c s.before s.at ≡ is_found key (c.class ∷ []) s
    told s =
        overrides_is_by_package key c s.before s.at
        ∙ ap (λ (b : Bool). (b && takes_part key s.at) && (is_open key s.at || (same_package s.at.class c.class || list_any (opens_to key s.at) s.before))) part
        ∙ ap (λ (b : Bool). takes_part key s.at && (is_open key s.at || (b || list_any (opens_to key s.at) s.before))) (off (same_package s.at.class c.class))

-- Which loaders the equalities of a reference or of a preparation name: those of the classes of the lineages (JVMS SE 8, 5.3.4, 5.4.2, 5.4.3).
use Rattle.std.proofs.Common.{◌≡◌, ℕ, zero, suc, Bool, true, false, cond, if◌then◌else◌, List, [], ◌∷◌, ◌++◌, map, Option, Some, None, Ok, inl, inr, refl, sym, ap, subst, is_some}
use Rattle.std.specs.Prelude.{nat_le, filter, find, flat_map, IfSome, slice_get}
use Rattle.std.specs.Option.{option_or}
use Rattle.std.specs.List.{AllByRecursion}
use Rattle.cl_classfile.specs.Files.{Name, Key, Member, Reference, ToClass, ToField, ToMethod, ToInterfaceMethod, is_interface, member}
use Rattle.cl_model.specs.declared.class.Class.{Class}
use Rattle.cl_model.specs.declared.need.Equality.{Equality}
use Rattle.cl_model.specs.Classes.{Error, NoSuchField, NoSuchMethod, is_among}
use Rattle.cl_model.specs.Lineages.{Forest, Bare, Tree, Kin, upward, preorder, once_after, superclasses, superinterfaces, alone, field_among, lookup_field, lookup_method, lookup_interface_method, from_superinterfaces, offering_superinterfaces, maximally_specific, is_default, is_offered, is_maximal, is_public_instance, first, only, field_of, method_of}
use Rattle.cl_model.specs.Preparation.{Split, splits, shifted_split, overrides, overridden_superclasses, takes_part, class_names, equals_of, equals_with, for_declared, for_inherited, inherited_from, with_inherited, constraints_of}
use Rattle.cl_model.specs.States.{Need, Entry, Equal, Verdict, IsField, IsMethod}
use Rattle.cl_model.specs.Works.{Work, Made, end_with, need, or_fail, unless_wrong, ◌>>=◌}
use Rattle.cl_model.specs.Plans.{class_verdict, resolve_found, resolve_field, resolve_method, resolve_in}
use Rattle.cl_model.proofs.Bind.{pieces, some_same, ok_same, ok_not_err}
use Rattle.cl_hierarchy.specs.Imposed.{needs_of}
use Rattle.cl_hierarchy.specs.Lineages.{Lined, kin_of, rows_in}
use Rattle.cl_hierarchy.specs.Rows.{Rowed}
use Rattle.cl_hierarchy.specs.Trees.{forest, in_front, kin_named, kin_under, kins_after, superclass_in, interfaces_in}
use Rattle.cl_findings.proofs.Stood.{mapped}

-- ---- lists

module _ {A : Type 0} (Q : A → Type 0) where
  both : (xs ys : List A) → AllByRecursion Q xs → AllByRecursion Q ys → AllByRecursion Q (xs ++ ys)
  both [] ys h k = k
  both (x ∷ xs) ys h k = (h.0, both xs ys h.1 k)

  either : (b : Bool) (xs ys : List A) → AllByRecursion Q xs → AllByRecursion Q ys → AllByRecursion Q (if b then xs else ys)
  either true xs ys h k = h
  either false xs ys h k = k

  filtered : (p : A → Bool) (xs : List A) → AllByRecursion Q xs → AllByRecursion Q (filter p xs)
  filtered p [] h = tt
  filtered p (x ∷ xs) h = by_test (p x) (filtered p xs h.1)
    where
      by_test : (b : Bool) → AllByRecursion Q (filter p xs) → AllByRecursion Q (cond b (x ∷ filter p xs) (filter p xs))
      by_test true k = (h.0, k)
      by_test false k = k

  found : (p : A → Bool) (xs : List A) → AllByRecursion Q xs → IfSome (find p xs) Q
  found p [] h = tt
  found p (x ∷ xs) h = by_test (p x) (found p xs h.1)
    where
      by_test : (b : Bool) → IfSome (find p xs) Q → IfSome (if b then Some x else find p xs) Q
      by_test true k = h.0
      by_test false k = k

  one_or : (o p : Option A) → IfSome o Q → IfSome p Q → IfSome (option_or o p) Q
  one_or None p h k = k
  one_or (Some x) p h k = h

  at : (xs : List A) (k : ℕ) (x : A) → AllByRecursion Q xs → slice_get xs k ≡ Some x → Q x
  at [] k x h e = absurd cc
  at (y ∷ xs) zero x h e = subst Q (some_same y x e) h.0
  at (y ∷ xs) (suc k) x h e = at xs k x h.1 e

flat : {A B : Type 0} (Q : A → Type 0) (R : B → Type 0) (f : A → List B) (xs : List A) → ((x : A) → Q x → AllByRecursion R (f x)) → AllByRecursion Q xs → AllByRecursion R (flat_map f xs)
flat Q R f [] each h = tt
flat Q R f (x ∷ xs) each h = both R (f x) (flat_map f xs) (each x h.0) (flat Q R f xs each h.1)

-- of each whatever it is
flat_any : {A B : Type 0} (R : B → Type 0) (f : A → List B) (xs : List A) → ((x : A) → AllByRecursion R (f x)) → AllByRecursion R (flat_map f xs)
flat_any R f [] each = tt
flat_any R f (x ∷ xs) each = both R (f x) (flat_map f xs) (each x) (flat_any R f xs each)

-- ---- lineages

-- the loader of each class of these, and of all that stands above them, has the property
abbrev AllIn : (ℕ → Type 0) → Forest → Type 0
AllIn P Bare = Unit {0}
AllIn P (Tree c f sup ints others) = P c.loader × AllIn P sup × AllIn P ints × AllIn P others

-- the same of one class
pub record HasAll (P : ℕ → Type 0) (k : Kin) : Type 0 where
  pub own : P k.class.loader
  pub superclass : AllIn P k.superclass
  pub interfaces : AllIn P k.interfaces

-- the loaders that a need names, if it is an equality
abbrev pub Names : (ℕ → Type 0) → Need → Type 0
Names P (Entry loader name place) = Unit {0}
Names P (Equal name a b) = P a × P b

module _ (P : ℕ → Type 0) where
  up : (f : Forest) → AllIn P f → AllByRecursion (HasAll P) (upward f)
  up Bare h = tt
  up (Tree c f sup ints others) h = (record { own = h.0; superclass = h.1; interfaces = h.2 }, up sup h.1)

  pre : (f : Forest) (wanted : Bool) → AllIn P f → AllByRecursion (HasAll P) (preorder f wanted)
  pre Bare wanted h = tt
  pre (Tree c f sup ints others) wanted h =
      let k : Kin = record { class = c; file = f; superclass = sup; interfaces = ints } in
      let own : List Kin = if wanted then k ∷ [] else [] in
      both (HasAll P) (own ++ preorder ints true ++ preorder sup false) (preorder others wanted)
      (both (HasAll P) (own ++ preorder ints true) (preorder sup false)
      (both (HasAll P) own (preorder ints true) (either (HasAll P) wanted (k ∷ []) [] (record { own = h.0; superclass = h.1; interfaces = h.2 }, tt) tt) (pre ints true h.2)) (pre sup false h.1))
      (pre others wanted h.3)

  once_each : (seen : List Class) (ks : List Kin) → AllByRecursion (HasAll P) ks → AllByRecursion (HasAll P) (once_after seen ks)
  once_each seen [] h = tt
  once_each seen (k ∷ ks) h = by_test (is_among seen k.class) (once_each seen ks h.1) (once_each (k.class ∷ seen) ks h.1)
    where
      by_test : (b : Bool) → AllByRecursion (HasAll P) (once_after seen ks) → AllByRecursion (HasAll P) (once_after (k.class ∷ seen) ks) → AllByRecursion (HasAll P) (if b then once_after seen ks else k ∷ once_after (k.class ∷ seen) ks)
      by_test true old new = old
      by_test false old new = (h.0, new)

  above : (k : Kin) → HasAll P k → AllByRecursion (HasAll P) (superclasses k)
  above k h = up k.superclass h.superclass

  over : (k : Kin) → HasAll P k → AllByRecursion (HasAll P) (superinterfaces k)
  over k h =
      once_each [] (preorder k.interfaces true ++ preorder k.superclass false)
      (both (HasAll P) (preorder k.interfaces true) (preorder k.superclass false) (pre k.interfaces true h.interfaces) (pre k.superclass false h.superclass))

  split_each : (ks : List Kin) → AllByRecursion (HasAll P) ks → AllByRecursion (λ s. HasAll P s.at) (splits ks)
  split_each [] h = tt
  split_each (k ∷ ks) h = (h.0, mapped (λ s. HasAll P s.at) (shifted_split k) (splits ks) (split_each ks h.1))

  -- ---- preparation

  named : (a b : ℕ) (ns : List Name) → P a → P b → AllByRecursion (Names P) (map (λ n. if nat_le a b then Equal n a b else Equal n b a) ns)
  named a b [] pa pb = tt
  named a b (n ∷ ns) pa pb = (by_test (nat_le a b), named a b ns pa pb)
    where
      by_test : (c : Bool) → Names P (if c then Equal n a b else Equal n b a)
      by_test true = (pa, pb)
      by_test false = (pb, pa)

  pub equals : (key : Key) (a b : ℕ) → P a → P b → AllByRecursion (Names P) (equals_of key a b)
  equals key a b pa pb = named a b (class_names key.descriptor) pa pb

  with_each : (key : Key) (loader : ℕ) (ks : List Kin) → P loader → AllByRecursion (HasAll P) ks → AllByRecursion (Names P) (equals_with key loader ks)
  with_each key loader ks p h = flat (HasAll P) (Names P) (λ k. equals_of key loader k.class.loader) ks (λ k q. equals key loader k.class.loader p q.own) h

  overridden_each : (key : Key) (c : Kin) → HasAll P c → AllByRecursion (HasAll P) (overridden_superclasses key c)
  overridden_each key c h =
      mapped (HasAll P) (λ (s : Split). s.at) (filter (λ s. overrides key c s.before s.at) (splits (superclasses c)))
      (filtered (λ (s : Split). HasAll P s.at) (λ s. overrides key c s.before s.at) (splits (superclasses c)) (split_each (superclasses c) (above c h)))

  declared : (c : Kin) (m : Member) → HasAll P c → AllByRecursion (Names P) (for_declared c m)
  declared c m h =
      let sups = if is_interface c.file then [] else equals_with m.key c.class.loader (overridden_superclasses m.key c) in
      let ints = equals_with m.key c.class.loader (filter (takes_part m.key) (superinterfaces c)) in
      either (Names P) (takes_part m.key c) (sups ++ ints) []
      (both (Names P) sups ints (either (Names P) (is_interface c.file) [] _ tt (with_each m.key c.class.loader (overridden_superclasses m.key c) h.own (overridden_each m.key c h)))
      (with_each m.key c.class.loader (filter (takes_part m.key) (superinterfaces c)) h.own (filtered (HasAll P) (takes_part m.key) (superinterfaces c) (over c h))))
      tt

  through_inherited : (key : Key) (j : Kin) (o : Option Kin) → P j.class.loader → IfSome o (HasAll P) → AllByRecursion (Names P) (with_inherited key j o)
  through_inherited key j None p h = tt
  through_inherited key j (Some a) p h = equals key a.class.loader j.class.loader h.own p

  inherited : (c j : Kin) (m : Member) → HasAll P c → HasAll P j → AllByRecursion (Names P) (for_inherited c j m)
  inherited c j m h k = either (Names P) _ (with_inherited m.key j (inherited_from c m.key)) [] (through_inherited m.key j (inherited_from c m.key) k.own (found (HasAll P) _ (superclasses c) (above c h))) tt

  pub constraints : (c : Kin) → HasAll P c → AllByRecursion (Names P) (constraints_of c)
  constraints c h =
      let own = flat_map (for_declared c) c.file.methods in
      let more = flat_map (λ j. flat_map (for_inherited c j) j.file.methods) (superinterfaces c) in
      both (Names P) own (if is_interface c.file then [] else more) (flat_any (Names P) (for_declared c) c.file.methods (λ m. declared c m h))
      (either (Names P) (is_interface c.file) [] more tt
      (flat (HasAll P) (Names P) (λ j. flat_map (for_inherited c j) j.file.methods) (superinterfaces c) (λ j k. flat_any (Names P) (for_inherited c j) j.file.methods (λ m. inherited c j m h k)) (over c h)))

  -- ---- references

  abbrev AllNamed : {A : Type 0} → Made A → Type 0
  AllNamed m = AllByRecursion (Names P) m.needs

  bound : {A B : Type 0} (w : Work A) (f : A → Work B) (m : Made B) → (w >>= f) ≡ Some m → ((x : Made A) → w ≡ Some x → AllNamed x) → ((x : Made A) (a : A) (y : Made B) → w ≡ Some x → x.ends ≡ Ok a → f a ≡ Some y → AllNamed y) → AllNamed m
  bound w f m e first next = elim (pieces w f m m.ends e refl) [
    | inl b ↦ subst (AllByRecursion (Names P)) (sym b.needs) (both (Names P) b.first.needs b.second.needs (first b.first b.made) (next b.first b.value b.second b.made b.ended b.next))
    | inr s ↦ subst (AllByRecursion (Names P)) (sym s.2.needs) (first s.2.first s.2.made)
  ]

  of_done : {A : Type 0} (a : A) (m : Made A) → end_with a ≡ Some m → AllNamed m
  of_done a m e = subst AllNamed (some_same _ m e) tt

  of_unless : (o : Option Error) (m : Made (Unit {0})) → unless_wrong o ≡ Some m → AllNamed m
  of_unless None m e = subst AllNamed (some_same _ m e) tt
  of_unless (Some x) m e = subst AllNamed (some_same _ m e) tt

  of_fail : {A : Type 0} (e : Error) (o : Option A) (m : Made A) → or_fail e o ≡ Some m → AllNamed m
  of_fail e None m h = subst AllNamed (some_same _ m h) tt
  of_fail e (Some a) m h = subst AllNamed (some_same _ m h) tt

  of_need : (ns : List Need) (m : Made (Unit {0})) → AllByRecursion (Names P) ns → need ns ≡ Some m → AllNamed m
  of_need ns m h e = subst AllNamed (some_same _ m e) h

  -- what a work that fails or not ends in
  ends_in : {A : Type 0} (e : Error) (o : Option A) (m : Made A) (a : A) → or_fail e o ≡ Some m → m.ends ≡ Ok a → o ≡ Some a
  ends_in e None m a h k = let same = some_same _ m h in absurd (ok_not_err a e m.ends k (sym (ap (λ (x : Made _). x.ends) same)))
  ends_in e (Some b) m a h k = let same = some_same _ m h in ap (λ x. Some x) (ok_same b a m.ends (sym (ap (λ (x : Made _). x.ends) same)) k)

  some_has : (o : Option Kin) (k : Kin) → IfSome o (HasAll P) → o ≡ Some k → HasAll P k
  some_has o k h e = subst (λ (p : Option Kin). IfSome p (HasAll P)) e h

  of_found : (d c owner : Kin) (m : Option Member) (key : Key) (v : Verdict) (w : Made Verdict) → P d.class.loader → P owner.class.loader → resolve_found d c owner m key v ≡ Some w → AllNamed w
  of_found d c owner m key v w pd po e =
      bound _ _ w e (λ x h. of_unless _ x h)
      (λ x a y h k l. bound (need (equals_of key owner.class.loader d.class.loader)) (λ b. end_with v) y l (λ z i. of_need _ z (equals key owner.class.loader d.class.loader po pd) i) (λ z b u i j n. of_done v u n))

  fields : (key : Key) (f : Forest) → AllIn P f → IfSome (field_among key f) (HasAll P)
  fields key Bare h = tt
  fields key (Tree c f sup ints others) h =
      by_test (is_some (member f.fields key)) (one_or (HasAll P) (field_among key ints) _ (fields key ints h.2) (one_or (HasAll P) (field_among key sup) (field_among key others) (fields key sup h.1) (fields key others h.3)))
    where
      rest : Option Kin
      rest = option_or (field_among key ints) (option_or (field_among key sup) (field_among key others))

      by_test : (b : Bool) → IfSome rest (HasAll P) → IfSome (if b then Some (record { class = c; file = f; superclass = sup; interfaces = ints }) else rest) (HasAll P)
      by_test true k = record { own = h.0; superclass = h.1; interfaces = h.2 }
      by_test false k = k

  first_has : (ks : List Kin) → AllByRecursion (HasAll P) ks → IfSome (first ks) (HasAll P)
  first_has [] h = tt
  first_has (k ∷ ks) h = h.0

  only_has : (ks : List Kin) → AllByRecursion (HasAll P) ks → IfSome (only ks) (HasAll P)
  only_has [] h = tt
  only_has (k ∷ []) h = h.0
  only_has (k ∷ l ∷ ks) h = tt

  from_above : (k : Kin) (key : Key) → HasAll P k → IfSome (from_superinterfaces k key) (HasAll P)
  from_above k key h =
      let offered = filtered (HasAll P) (is_offered key) (superinterfaces k) (over k h) in
      let most = filtered (HasAll P) (is_maximal (offering_superinterfaces k key)) (offering_superinterfaces k key) offered in
      one_or (HasAll P) (only (filter (is_default key) (maximally_specific k key))) (first (offering_superinterfaces k key)) (only_has _ (filtered (HasAll P) (is_default key) (maximally_specific k key) most)) (first_has (offering_superinterfaces k key) offered)

  methods : (interface : Bool) (k : Kin) (key : Key) → HasAll P k → IfSome (if interface then lookup_interface_method k key else lookup_method k key) (HasAll P)
  methods true k key h =
      one_or (HasAll P) _ _ (found (HasAll P) (λ a. is_some (method_of a key)) (k ∷ []) (h, tt))
      (one_or (HasAll P) _ _ (found (HasAll P) (is_public_instance key) (superclasses k) (above k h)) (from_above k key h))
  methods false k key h = one_or (HasAll P) _ _ (found (HasAll P) (λ a. is_some (method_of a key)) (k ∷ superclasses k) (h, above k h)) (from_above k key h)

  of_field : (d c : Kin) (key : Key) (m : Made Verdict) → HasAll P d → HasAll P c → resolve_field d key c ≡ Some m → AllNamed m
  of_field d c key m hd hc e =
      bound (or_fail (NoSuchField c.class) (lookup_field c key)) _ m e (λ x h. of_fail _ (lookup_field c key) x h)
      (λ x owner y h k l.
      of_found d c owner (field_of owner key) key (IsField owner.class key) y hd.own
      (some_has (lookup_field c key) owner (fields key (alone c) (hc.own, hc.superclass, hc.interfaces, tt)) (ends_in _ (lookup_field c key) x owner h k)).own l)

  of_method : (interface : Bool) (d c : Kin) (key : Key) (m : Made Verdict) → HasAll P d → HasAll P c → resolve_method interface d key c ≡ Some m → AllNamed m
  of_method interface d c key m hd hc e =
      let o = if interface then lookup_interface_method c key else lookup_method c key in
      bound _ _ m e (λ x h. of_unless _ x h)
      (λ x a y h k l.
      bound (or_fail (NoSuchMethod c.class) o) _ y l (λ z i. of_fail _ o z i)
      (λ z owner u i j n. of_found d c owner (method_of owner key) key (IsMethod owner.class key) u hd.own (some_has o owner (methods interface c key hc) (ends_in _ o z owner i j)).own n))

  pub referred : (d c : Kin) (r : Reference) (m : Made Verdict) → HasAll P d → HasAll P c → resolve_in d r c ≡ Some m → AllByRecursion (Names P) m.needs
  referred d c (ToClass t) m hd hc e = of_done (class_verdict t.dims c.class) m e
  referred d c (ToField t key) m hd hc e = of_field d c key m hd hc e
  referred d c (ToMethod t key) m hd hc e = of_method false d c key m hd hc e
  referred d c (ToInterfaceMethod t key) m hd hc e = of_method true d c key m hd hc e

  -- ---- rows

  in_forest : (known : List Kin) (cs : List Class) → AllByRecursion (HasAll P) known → AllIn P (forest known cs)
  in_forest known [] h = tt
  in_forest known (c ∷ cs) h = by_found (kin_named known c) (found (HasAll P) _ known h) (in_forest known cs h)
    where
      by_found : (o : Option Kin) → IfSome o (HasAll P) → AllIn P (forest known cs) → AllIn P (in_front o (forest known cs))
      by_found None k rest = rest
      by_found (Some k) q rest = (q.own, q.superclass, q.interfaces, rest)

  under : (known : List Kin) (r : Rowed) → AllByRecursion (HasAll P) known → P r.class.loader → HasAll P (kin_under known r)
  under known r h p = record { own = p; superclass = in_forest known (superclass_in r) h; interfaces = in_forest known (interfaces_in r) h }

  all_kins : (known : List Kin) (rows : List Rowed) → AllByRecursion (HasAll P) known → AllByRecursion (λ r. P r.class.loader) rows → AllByRecursion (HasAll P) (kins_after known rows)
  all_kins known [] h rows = h
  all_kins known (r ∷ rs) h rows = all_kins (kin_under known r ∷ known) rs (under known r h rows.0, h) rows.1

  rows_split : (above : List Rowed) (own : Rowed) → AllByRecursion (λ r. P r.class.loader) (above ++ own ∷ []) → AllByRecursion (λ r. P r.class.loader) above × P own.class.loader
  rows_split [] own h = (tt, h.0)
  rows_split (r ∷ rs) own h = let k = rows_split rs own h.1 in ((h.0, k.0), k.1)

  pub lined : (l : Lined) → AllByRecursion (λ r. P r.class.loader) (rows_in l) → HasAll P (kin_of l)
  lined l h = let k = rows_split l.above l.own h in under _ l.own (all_kins [] l.above tt k.0) k.1

  -- the equality at a place of such a list
  pub named_at : (es : List Equality) (k : ℕ) (e : Equality) → AllByRecursion (Names P) (needs_of es) → slice_get es k ≡ Some e → P e.one × P e.other
  named_at [] k e h g = absurd cc
  named_at (x ∷ es) zero e h g = subst (λ (y : Equality). P y.one × P y.other) (some_same x e g) h.0
  named_at (x ∷ es) (suc k) e h g = named_at es k e h.1 g

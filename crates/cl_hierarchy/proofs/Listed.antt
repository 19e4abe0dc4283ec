-- The rows that a tour lists in the order of a lineage are that lineage.
use Rattle.std.proofs.Common.{◌≡◌, ◌∙◌, ◌-◌, inl, inr, Bool, true, false, ◌||◌, if◌then◌else◌, List, [], ◌∷◌, ◌++◌, Option, Some, None, append_assoc, append-nil, is_some, length, map, reverse, slice_get, refl, sym, ap, subst}
use Rattle.std.proofs.lemmas.Bool.{or_parts, or_from}
use Rattle.std.specs.List.{AllByRecursion}
use Rattle.std.proofs.lemmas.List.{map_push}
use Rattle.std.proofs.lemmas.Grind.{reverse_onto}
use mathlib.Core.List.{map-map}
use Rattle.cl_model.specs.declared.class.Class.{Class}
use Rattle.cl_model.specs.Content.{Content}
use Rattle.cl_model.specs.Classes.{is_among, same_class}
use Rattle.cl_model.specs.Lineages.{Forest, Bare, Tree, Kin, alone, classes, lineage, once, once_after, postorder}
use Rattle.cl_model.proofs.Ancestors.{Within, after_all, after_both, among_first, within_all, within_both}
use Rattle.cl_model.proofs.Complete.{is_class, or_true}
use Rattle.cl_config.specs.Views.{Configured}
use Rattle.cl_hierarchy.specs.declared.tour.TourOrder.TheVariants as orders
use Rattle.cl_hierarchy.specs.Rows.{Rowed}
use Rattle.cl_hierarchy.specs.Tours.{stops, listed_at}
use Rattle.cl_hierarchy.specs.Trees.{AllKnown, SupersBefore, forest, in_front, interfaces_in, kin_named, kin_under, kins, kins_after, superclass_in}
use Rattle.cl_hierarchy.specs.Lineages.{IsInOrder, IsLined, IsLineageOf, IsRowIn, IsWithinConfig, Lined, kin_of, row_of}
use Rattle.cl_hierarchy.specs.RowTables.{AreRows, AreRowsAfter, IsMadeOf}
use Rattle.cl_hierarchy.proofs.Ancestry.{IsRowKin, kin_stays, kins_push, row_kin}
use Rattle.cl_hierarchy.proofs.Climbs.{before_split}
use Rattle.cl_hierarchy.proofs.Ends.{all_pop, last_of}
use Rattle.cl_hierarchy.proofs.RowTables.{made, supers_before}
use Rattle.cl_hierarchy.proofs.Tours.{classes_both, lineage_listed, within_join, within_right}
use Rattle.std.proofs.lemmas.Option.{same_Some}

-- ---- classes among others

pub within_cons : (c : Class) (cs zs : List Class) → is_among zs c ≡ true → Within cs zs → Within (c ∷ cs) zs
within_cons c cs zs h f = λ x e. elim (or_true (same_class x c) (is_among cs x) e) [
  | inl s ↦ subst (λ (y : Class). is_among zs y ≡ true) (sym (is_class x c s)) h
  | inr i ↦ f x i
]

within_later : (c : Class) (cs zs : List Class) → Within cs zs → Within cs (c ∷ zs)
within_later c cs zs h = λ x e. within_right (c ∷ []) zs x (h x e)

not_among : (cs zs : List Class) (c : Class) → Within cs zs → is_among zs c ≡ false → is_among cs c ≡ false
not_among cs zs c h e = at (is_among cs c) refl
  where
    at : (b : Bool) → is_among cs c ≡ b → b ≡ false
    at true i = sym (h c i) ∙ e
    at false i = refl

-- ---- the definitions' order has each class once, after its direct supertypes

-- the classes of a list
abbrev pub roots : Forest → List Class
roots Bare = []
roots (Tree c f sup ints others) = c ∷ roots others

-- the direct supertypes of a class are among these
record Over (before : List Class) (k : Kin) : Type 0 where
  superclass : Within (roots k.superclass) before
  interfaces : Within (roots k.interfaces) before

abbrev Steps : List Class → List Kin → Type 0
Steps before [] = Unit {0}
Steps before (k ∷ ks) = Over before k × Steps (k.class ∷ before) ks

abbrev Fresh : List Class → List Kin → Type 0
Fresh before [] = Unit {0}
Fresh before (k ∷ ks) = (is_among before k.class ≡ false) × Over before k × Fresh (k.class ∷ before) ks

steps_more : (cs zs : List Class) (ks : List Kin) → Within cs zs → Steps cs ks → Steps zs ks
steps_more cs zs [] h s = tt
steps_more cs zs (k ∷ ks) h s =
    (record { superclass = λ c e. h c (s.0.superclass c e); interfaces = λ c e. h c (s.0.interfaces c e) }, steps_more (k.class ∷ cs) (k.class ∷ zs) ks (within_both cs zs k.class h) s.1)

steps_both : (before : List Class) (xs ys : List Kin) → Steps before xs → Steps (after_all before xs) ys → Steps before (xs ++ ys)
steps_both before [] ys s t = t
steps_both before (x ∷ xs) ys s t = (s.0, steps_both (x.class ∷ before) xs ys s.1 t)

forest_steps : (before : List Class) (f : Forest) → Steps before (postorder f) × Within (roots f) (after_all before (postorder f))
forest_steps before Bare = (tt, λ c h. absurd cc)
forest_steps before (Tree c f sup ints rest) =
    let k : Kin = record { class = c; file = f; superclass = sup; interfaces = ints } in
    let up = forest_steps before sup in
    let middle = after_all before (postorder sup) in
    let over = forest_steps middle ints in
    let end = after_all middle (postorder ints) in
    let beside = forest_steps (c ∷ end) rest in
    let both : after_all before (postorder sup ++ postorder ints) ≡ end = after_both before (postorder sup) (postorder ints) in
    let whole : after_all before ((postorder sup ++ postorder ints) ++ (k ∷ postorder rest)) ≡ after_all (c ∷ end) (postorder rest) =
    after_both before (postorder sup ++ postorder ints) (k ∷ postorder rest) ∙ ap (λ (x : List Class). after_all (c ∷ x) (postorder rest)) both in
    let above : Over end k = record { superclass = λ x e. within_all middle middle (postorder ints) (λ y i. i) x (up.1 x e); interfaces = over.1 } in (
      steps_both before (postorder sup ++ postorder ints) (k ∷ postorder rest) (steps_both before (postorder sup) (postorder ints) up.0 over.0)
          (subst (λ (x : List Class). Steps x (k ∷ postorder rest)) (sym both) (above, beside.0)),
      subst (λ (x : List Class). Within (c ∷ roots rest) x) (sym whole)
          (within_cons c (roots rest) (after_all (c ∷ end) (postorder rest)) (within_all (c ∷ end) (c ∷ end) (postorder rest) (λ x e. e) c (among_first end c)) beside.1),
    )

once_fresh : (seen : List Class) (ks : List Kin) → Steps seen ks → Fresh seen (once_after seen ks)
once_fresh seen [] s = tt
once_fresh seen (k ∷ ks) s =
    at (λ e. once_fresh seen ks (steps_more (k.class ∷ seen) seen ks (within_cons k.class seen seen e (λ x i. i)) s.1)) (once_fresh (k.class ∷ seen) ks s.1) (is_among seen k.class) refl
  where
    at : (is_among seen k.class ≡ true → Fresh seen (once_after seen ks)) → Fresh (k.class ∷ seen) (once_after (k.class ∷ seen) ks)
        → (b : Bool) → is_among seen k.class ≡ b → Fresh seen (if b then once_after seen ks else k ∷ once_after (k.class ∷ seen) ks)
    at same more true e = same e
    at same more false e = (e, s.0, more)

lineage_fresh : (k : Kin) → Fresh [] (lineage k)
lineage_fresh k = let steps = forest_steps [] (alone k) in once_fresh [] (postorder (alone k)) steps.0

-- ---- kins by their classes

kin_there : (ks : List Kin) (c : Class) → is_among (classes ks) c ≡ true → is_some (kin_named ks c) ≡ true
kin_there [] c h = absurd cc
kin_there (k ∷ ks) c h = at (kin_there ks c) (same_class c k.class) h
  where
    at : (is_among (classes ks) c ≡ true → is_some (kin_named ks c) ≡ true) → (b : Bool) → (b || is_among (classes ks) c) ≡ true → is_some (if b then Some k else kin_named ks c) ≡ true
    at further true i = refl
    at further false i = further i

kin_absent : (ks : List Kin) (c : Class) → is_among (classes ks) c ≡ false → kin_named ks c ≡ None
kin_absent [] c h = refl
kin_absent (k ∷ ks) c h = at (kin_absent ks c) (same_class c k.class) h
  where
    at : (is_among (classes ks) c ≡ false → kin_named ks c ≡ None) → (b : Bool) → (b || is_among (classes ks) c) ≡ false → (if b then Some k else kin_named ks c) ≡ None
    at further true i = absurd cc
    at further false i = further i

absent_kin : (ks : List Kin) (c : Class) → kin_named ks c ≡ None → is_among (classes ks) c ≡ false
absent_kin [] c h = refl
absent_kin (k ∷ ks) c h = at (absent_kin ks c) (same_class c k.class) h
  where
    at : (kin_named ks c ≡ None → is_among (classes ks) c ≡ false) → (b : Bool) → (if b then Some k else kin_named ks c) ≡ None → (b || is_among (classes ks) c) ≡ false
    at further true i = absurd cc
    at further false i = further i

pub record IsNamed (ks : List Kin) (c : Class) (k : Kin) : Type 0 where
  pub same : k.class ≡ c
  pub among : is_among (classes ks) c ≡ true

pub kin_is : (ks : List Kin) (c : Class) (k : Kin) → kin_named ks c ≡ Some k → IsNamed ks c k
kin_is [] c k h = absurd cc
kin_is (x ∷ ks) c k h = at (kin_is ks c k) (same_class c x.class) refl h
  where
    at : (kin_named ks c ≡ Some k → IsNamed ks c k) → (b : Bool) → same_class c x.class ≡ b → (if b then Some x else kin_named ks c) ≡ Some k → IsNamed (x ∷ ks) c k
    at further true s i = record { same = ap (λ (y : Kin). y.class) (sym (same_Some x k i)) ∙ sym (is_class c x.class s); among = ap (λ (b : Bool). b || is_among (classes ks) c) s }
    at further false s i = let n = further i in record { same = n.same; among = within_right (x.class ∷ []) (classes ks) c n.among }

roots_are : (known : List Kin) (cs : List Class) → AllKnown known cs → Within cs (roots (forest known cs))
roots_are known [] all = λ c e. absurd cc
roots_are known (c ∷ cs) all = at (roots_are known cs all.1) (kin_named known c) refl all.0
  where
    at : Within cs (roots (forest known cs)) → (o : Option Kin) → kin_named known c ≡ o → is_some o ≡ true → Within (c ∷ cs) (roots (in_front o (forest known cs)))
    at more None e s = absurd cc
    at more (Some k) e s =
        subst (λ (x : Class). Within (c ∷ cs) (x ∷ roots (forest known cs))) (sym (kin_is known c k e).same) (within_both cs (roots (forest known cs)) c more)

all_known : (ks : List Kin) (cs : List Class) → Within cs (classes ks) → AllKnown ks cs
all_known ks [] h = tt
all_known ks (c ∷ cs) h = (kin_there ks c (h c (among_first cs c)), all_known ks cs (λ x e. h x (within_right (c ∷ []) cs x e)))

-- ---- kins among others

abbrev pub Part : List Kin → List Kin → Type 0
Part ks known = (c : Class) (k : Kin) → kin_named ks c ≡ Some k → kin_named known c ≡ Some k

pub part_more : (ks known : List Kin) (k : Kin) → Part ks known → kin_named known k.class ≡ Some k → Part (k ∷ ks) known
part_more ks known k part e = λ c x h. at c x (same_class c k.class) refl h
  where
    at : (c : Class) (x : Kin) (b : Bool) → same_class c k.class ≡ b → (if b then Some k else kin_named ks c) ≡ Some x → kin_named known c ≡ Some x
    at c x true s f = subst (λ (y : Class). kin_named known y ≡ Some x) (sym (is_class c k.class s)) (e ∙ f)
    at c x false s f = part c x f

part_forest : (ks known : List Kin) (cs : List Class) → Part ks known → AllKnown ks cs → forest ks cs ≡ forest known cs
part_forest ks known [] part all = refl
part_forest ks known (c ∷ cs) part all = at (part_forest ks known cs part all.1) (kin_named ks c) refl all.0
  where
    at : forest ks cs ≡ forest known cs → (o : Option Kin) → kin_named ks c ≡ o → is_some o ≡ true → in_front (kin_named ks c) (forest ks cs) ≡ in_front (kin_named known c) (forest known cs)
    at more None e s = absurd cc
    at more (Some k) e s =
        ap (λ (o : Option Kin). in_front o (forest ks cs)) (e ∙ sym (part c k e)) ∙ ap (λ (f : Forest). in_front (kin_named known c) f) more

pub part_kin : (ks known : List Kin) (r : Rowed) → Part ks known → AllKnown ks (superclass_in r) → AllKnown ks (interfaces_in r) → kin_under ks r ≡ kin_under known r
part_kin ks known r part up over =
    let made_of : Forest → Forest → Kin = λ sup ints. record { class = r.class; file = (kin_under ks r).file; superclass = sup; interfaces = ints } in
    ap (λ (f : Forest). made_of f (forest ks (interfaces_in r))) (part_forest ks known (superclass_in r) part up)
    ∙ ap (λ (f : Forest). made_of (forest known (superclass_in r)) f) (part_forest ks known (interfaces_in r) part over)

-- ---- rows that are listed in that order

record Stands (known ks : List Kin) (listed : List Rowed) : Type 0 where
  before : SupersBefore ks listed
  tree : reverse (kins_after ks listed) ≡ reverse ks ++ map (kin_under known) listed

pub reverse_first : (k : Kin) (ks : List Kin) → reverse (k ∷ ks) ≡ reverse ks ++ k ∷ []
reverse_first k ks = reverse_onto ks k []

stand : (rows : List Rowed) → SupersBefore [] rows → (ks : List Kin) (listed : List Rowed) → Part ks (kins rows) → AllByRecursion (IsRowIn rows) listed → Fresh (classes ks) (map (kin_under (kins rows)) listed) → Stands (kins rows) ks listed
stand rows ordered ks [] part all fresh = record { before = tt; tree = sym (append-nil (reverse ks)) }
stand rows ordered ks (r ∷ listed) part all fresh =
    let known : List Kin = kins rows in
    let k : Kin = kin_under known r in
    let is : IsRowKin known r.class r = row_kin [] rows r.class r ordered all.0 in
    let up : AllKnown ks (superclass_in r) = all_known ks (superclass_in r) (λ c e. fresh.1.superclass c (roots_are known (superclass_in r) is.superclass c e)) in
    let over : AllKnown ks (interfaces_in r) = all_known ks (interfaces_in r) (λ c e. fresh.1.interfaces c (roots_are known (interfaces_in r) is.interfaces c e)) in
    let same : kin_under ks r ≡ k = part_kin ks known r part up over in
    let rest : Stands known (k ∷ ks) listed = stand rows ordered (k ∷ ks) listed (part_more ks known k part is.kin) all.1 fresh.2 in
    record {
      before = (record { is_new = kin_absent ks r.class fresh.0; superclass = up; interfaces = over }, subst (λ (x : Kin). SupersBefore (x ∷ ks) listed) (sym same) rest.before);
      tree =
          ap (λ (x : Kin). reverse (kins_after (x ∷ ks) listed)) same ∙ rest.tree ∙ ap (λ (xs : List Kin). xs ++ map (kin_under known) listed) (reverse_first k ks)
          ∙ append_assoc (reverse ks) (k ∷ []) (map (kin_under known) listed);
    }

-- ---- no class stands above itself

abbrev pub above_classes : Kin → List Class
above_classes k = classes (postorder k.superclass ++ postorder k.interfaces)

abbrev Holds : List Kin → Type 0
Holds known = (c : Class) (k : Kin) → kin_named known c ≡ Some k → Within (above_classes k) (classes known)

forest_within : (known : List Kin) (cs : List Class) → Holds known → Within (classes (postorder (forest known cs))) (classes known)
forest_within known [] h = λ c e. absurd cc
forest_within known (c ∷ cs) h = at (forest_within known cs h) (kin_named known c) refl
  where
    at : Within (classes (postorder (forest known cs))) (classes known) → (o : Option Kin) → kin_named known c ≡ o → Within (classes (postorder (in_front o (forest known cs)))) (classes known)
    at more None e = more
    at more (Some k) e =
        let n = kin_is known c k e in
        subst (λ (xs : List Class). Within xs (classes known)) (sym (classes_both (postorder k.superclass ++ postorder k.interfaces) (k ∷ postorder (forest known cs)))) (
        within_join (above_classes k) (k.class ∷ classes (postorder (forest known cs))) (classes known) (h c k e)
        (within_cons k.class (classes (postorder (forest known cs))) (classes known) (subst (λ (x : Class). is_among (classes known) x ≡ true) (sym n.same) n.among) more)
        )

under_within : (known : List Kin) (r : Rowed) → Holds known → Within (above_classes (kin_under known r)) (classes known)
under_within known r h =
    let up = postorder (forest known (superclass_in r)) in
    let over = postorder (forest known (interfaces_in r)) in
    subst (λ (xs : List Class). Within xs (classes known)) (sym (classes_both up over)) (
    within_join (classes up) (classes over) (classes known) (forest_within known (superclass_in r) h) (forest_within known (interfaces_in r) h)
    )

holds_more : (known : List Kin) (r : Rowed) → Holds known → Holds (kin_under known r ∷ known)
holds_more known r h = λ c k e. at c k (same_class c r.class) e
  where
    at : (c : Class) (k : Kin) (b : Bool) → (if b then Some (kin_under known r) else kin_named known c) ≡ Some k → Within (above_classes k) (r.class ∷ classes known)
    at c k true f =
        subst (λ (x : Kin). Within (above_classes x) (r.class ∷ classes known)) (same_Some (kin_under known r) k f)
        (within_later r.class (above_classes (kin_under known r)) (classes known) (under_within known r h))
    at c k false f = within_later r.class (above_classes k) (classes known) (h c k f)

no_circle : (known : List Kin) (rs : List Rowed) (c : Class) (row : Rowed) → Holds known → SupersBefore known rs → row_of rs c ≡ Some row → is_among (above_classes (kin_under (kins_after known rs) row)) c ≡ false
no_circle known [] c row holds h e = absurd cc
no_circle known (r ∷ rs) c row holds h e =
    at (λ f. no_circle (kin_under known r ∷ known) rs c row (holds_more known r holds) h.1 f) (same_class r.class c) refl e
  where
    final : List Kin
    final = kins_after (kin_under known r ∷ known) rs

    here : is_among (above_classes (kin_under final r)) r.class ≡ false
    here =
        ap (λ (k : Kin). is_among (above_classes k) r.class) (kin_stays known (r ∷ rs) r h h.0.superclass h.0.interfaces)
        ∙ not_among (above_classes (kin_under known r)) (classes known) r.class (under_within known r holds) (absent_kin known r.class h.0.is_new)

    at : (row_of rs c ≡ Some row → is_among (above_classes (kin_under final row)) c ≡ false) → (b : Bool) → same_class r.class c ≡ b → (if b then Some r else row_of rs c) ≡ Some row
        → is_among (above_classes (kin_under final row)) c ≡ false
    at further true s f =
        subst (λ (x : Rowed). is_among (above_classes (kin_under final x)) c ≡ false) (same_Some r row f)
        (subst (λ (x : Class). is_among (above_classes (kin_under final r)) x ≡ false) (is_class r.class c s) here)
    at further false s f = further f

-- ---- the last of a lineage is its own class

once_last : (seen : List Class) (ks : List Kin) (k : Kin) → is_among seen k.class ≡ false → is_among (classes ks) k.class ≡ false → once_after seen (ks ++ k ∷ []) ≡ once_after seen ks ++ k ∷ []
once_last seen [] k s e = ap (λ (b : Bool). if b then [] else k ∷ []) s
once_last seen (x ∷ ks) k s e =
    let parts = or_parts (same_class k.class x.class) (is_among (classes ks) k.class) e in
    at (once_last seen ks k s parts.1) (once_last (x.class ∷ seen) ks k (or_from (same_class k.class x.class) (is_among seen k.class) parts.0 s) parts.1) (is_among seen x.class)
  where
    at : once_after seen (ks ++ k ∷ []) ≡ once_after seen ks ++ k ∷ [] → once_after (x.class ∷ seen) (ks ++ k ∷ []) ≡ once_after (x.class ∷ seen) ks ++ k ∷ []
        → (b : Bool) → (if b then once_after seen (ks ++ k ∷ []) else x ∷ once_after (x.class ∷ seen) (ks ++ k ∷ [])) ≡ (if b then once_after seen ks else x ∷ once_after (x.class ∷ seen) ks) ++ k ∷ []
    at same more true = same
    at same more false = ap (λ (ys : List Kin). x ∷ ys) more

pub same_last : (xs ys : List Kin) (x y : Kin) → xs ++ x ∷ [] ≡ ys ++ y ∷ [] → x ≡ y
same_last xs ys x y e = same_Some x y (sym (last_of xs x) ∙ ap (λ (zs : List Kin). slice_get zs (length zs - 1)) e ∙ last_of ys y)

-- ---- rows within the configuration, and lineages where a content is told

row_within : (told : Option Content) (config : Configured) (earlier rows : List Rowed) (c : Class) (r : Rowed) → AreRowsAfter told config earlier rows → row_of rows c ≡ Some r → IsWithinConfig config r
row_within told config earlier [] c r h e = absurd cc
row_within told config earlier (x ∷ rows) c r h e = at (λ f. row_within told config (earlier ++ x ∷ []) rows c r h.1 f) (same_class x.class c) e
  where
    at : (row_of rows c ≡ Some r → IsWithinConfig config r) → (b : Bool) → (if b then Some x else row_of rows c) ≡ Some r → IsWithinConfig config r
    at further true f = subst (λ (y : Rowed). IsWithinConfig config y) (same_Some x r f) h.0.within
    at further false f = further f

all_within : (told : Option Content) (config : Configured) (rows xs : List Rowed) → AreRows told config rows → AllByRecursion (IsRowIn rows) xs → AllByRecursion (IsWithinConfig config) xs
all_within told config rows [] h all = tt
all_within told config rows (x ∷ xs) h all = (row_within told config [] rows x.class x h all.0, all_within told config rows xs h all.1)

is_lineage : (told : Option Content) (config : Configured) (rows above : List Rowed) (own : Rowed) (c : Class) → AreRows told config rows → kin_named (kins rows) c ≡ Some (kin_under (kins above) own)
    → IsLineageOf told (record { config = config; above = above; own = own })
is_lineage None config rows above own c h e = tt
is_lineage (Some content) config rows above own c h e = made config content rows c (kin_under (kins above) own) h e

-- ---- what was listed is the lineage of the class

-- rows of a table in the order of the lineage of one of them
pub record AreListed (rows : List Rowed) (start : Rowed) (listed : List Rowed) : Type 0 where
  pub all : AllByRecursion (IsRowIn rows) listed
  pub order : map (kin_under (kins rows)) listed ≡ lineage (kin_under (kins rows) start)

-- the last of the lineage of a row is its own class
pub lineage_ends : (rows : List Rowed) (c : Class) (start : Rowed) → SupersBefore [] rows → row_of rows c ≡ Some start
    → lineage (kin_under (kins rows) start) ≡ once (postorder (kin_under (kins rows) start).superclass ++ postorder (kin_under (kins rows) start).interfaces) ++ kin_under (kins rows) start ∷ []
lineage_ends rows c start ordered e =
    let k : Kin = kin_under (kins rows) start in
    let first : IsRowKin (kins rows) c start = row_kin [] rows c start ordered e in
    let apart : is_among (above_classes k) k.class ≡ false =
    subst (λ (x : Class). is_among (above_classes k) x ≡ false) (sym first.same) (no_circle [] rows c start (λ x y i. absurd cc) ordered e) in
    once_last [] (postorder k.superclass ++ postorder k.interfaces) k refl apart

-- the rows of a lineage, the own one last, and what tree they make
pub record IsListedOrder (rows : List Rowed) (start : Rowed) (l : Lined) : Type 0 where
  pub order : IsInOrder l
  pub kin : kin_of l ≡ kin_under (kins rows) l.own
  pub own_kin : kin_under (kins rows) l.own ≡ kin_under (kins rows) start

pub listed_order : (config : Configured) (rows : List Rowed) (c : Class) (start : Rowed) (above : List Rowed) (own : Rowed) → SupersBefore [] rows → row_of rows c ≡ Some start → AreListed rows start (above ++ own ∷ [])
    → IsListedOrder rows start (record { config = config; above = above; own = own })
listed_order config rows c start above own ordered e t =
    let known : List Kin = kins rows in
    let k : Kin = kin_under known start in
    let l : Lined = record { config = config; above = above; own = own } in
    let ends = lineage_ends rows c start ordered e in
    let pushed : map (kin_under known) (above ++ own ∷ []) ≡ map (kin_under known) above ++ kin_under known own ∷ [] = map_push (kin_under known) above own in
    let own_kin : kin_under known own ≡ k =
    same_last (map (kin_under known) above) (once (postorder k.superclass ++ postorder k.interfaces)) (kin_under known own) k (sym pushed ∙ t.order ∙ ends) in
    let stands : Stands known [] (above ++ own ∷ []) =
    stand rows ordered [] (above ++ own ∷ []) (λ x y i. absurd cc) t.all (subst (λ (ks : List Kin). Fresh [] ks) (sym t.order) (lineage_fresh k)) in
    let tree : reverse (kin_of l ∷ kins above) ≡ map (kin_under known) (above ++ own ∷ []) = ap (λ (ks : List Kin). reverse ks) (sym (kins_push [] above own)) ∙ stands.tree in
    let same : kin_of l ≡ kin_under known own =
    same_last (reverse (kins above)) (map (kin_under known) above) (kin_of l) (kin_under known own) (sym (reverse_first (kin_of l) (kins above)) ∙ tree ∙ pushed) in
    let parts = before_split [] above (own ∷ []) stands.before in
    record {
      order = record { above = parts.0; own = parts.1.0; ordered = tree ∙ t.order ∙ ap (λ (x : Kin). lineage x) (sym (same ∙ own_kin)) };
      kin = same;
      own_kin = own_kin;
    }

-- what is made of them
pub record IsLineageMade (told : Option Content) (config : Configured) (rows : List Rowed) (c : Class) (l : Lined) : Type 0 where
  pub lined : IsLined told l
  pub made : IsMadeOf config rows c l

pub lineage_made : (told : Option Content) (config : Configured) (rows : List Rowed) (c : Class) (start : Rowed) (above : List Rowed) (own : Rowed) → AreRows told config rows → row_of rows c ≡ Some start → AreListed rows start (above ++ own ∷ [])
    → IsLineageMade told config rows c (record { config = config; above = above; own = own })
lineage_made told config rows c start above own h e t =
    let ordered : SupersBefore [] rows = supers_before told config rows h in
    let l : Lined = record { config = config; above = above; own = own } in
    let first : IsRowKin (kins rows) c start = row_kin [] rows c start ordered e in
    let is = listed_order config rows c start above own ordered e t in
    let named : kin_named (kins rows) c ≡ Some (kin_of l) = first.kin ∙ ap (λ (x : Kin). Some x) (sym (is.kin ∙ is.own_kin)) in
    let own_class : own.class ≡ c = ap (λ (x : Kin). x.class) is.own_kin ∙ first.same in
    let last : IsRowIn rows own = (all_pop (IsRowIn rows) above own t.all).1 in
    record {
      lined = record {
        order = is.order;
        lineage = is_lineage told config rows above own c h named;
        within = all_within told config rows (above ++ own ∷ []) h t.all;
      };
      made = record { config_is = refl; own_is = subst (λ (x : Class). row_of rows x ≡ Some own) own_class last; kin_is = named; rows_are = t.all };
    }

-- ---- the same of what lies behind them in memory

pub all_forth : {A B : Type 0} (f : A → B) (P : B → Type 0) (xs : List A) → AllByRecursion (λ x. P (f x)) xs → AllByRecursion P (map f xs)
all_forth f P [] h = tt
all_forth f P (x ∷ xs) h = (h.0, all_forth f P xs h.1)

pub listed_in : {A : Type 0} (v : A → Rowed) (rows : List Rowed) (start : Rowed) (items : List A) → map (λ x. kin_under (kins rows) (v x)) items ≡ once (listed_at orders.Lineage (stops orders.Lineage (alone (kin_under (kins rows) start)) true))
    → AllByRecursion (λ x. IsRowIn rows (v x)) items → AreListed rows start (map v items)
listed_in v rows start items e all = record {
  all = all_forth v (IsRowIn rows) items all;
  order = map-map (kin_under (kins rows)) v items ∙ e ∙ ap (λ (ks : List Kin). once ks) (lineage_listed (alone (kin_under (kins rows) start)) true);
}

pub listed_made : {A : Type 0} (v : A → Rowed) (told : Option Content) (config : Configured) (rows : List Rowed) (held : Configured) (c : Class) (start : Rowed) (items rest : List A) (x : A) → AreRows told config rows → held ≡ config → row_of rows c ≡ Some start
    → AreListed rows start (map v items) → items ≡ rest ++ x ∷ [] → IsLineageMade told config rows c (record { config = held; above = map v rest; own = v x })
listed_made {A} v told config rows held c start items rest x h same e t split =
    subst (λ (k : Configured). IsLineageMade told config rows c (record { config = k; above = map v rest; own = v x })) (sym same) (
    lineage_made told config rows c start (map v rest) (v x) h e (subst (λ (rs : List Rowed). AreListed rows start rs) (ap (λ (xs : List A). map v xs) split ∙ map_push v rest x) t)
    )

-- the row of a class is that of its own class
pub row_in : (told : Option Content) (config : Configured) (rows : List Rowed) (c : Class) (start : Rowed) → AreRows told config rows → row_of rows c ≡ Some start → IsRowIn rows start
row_in told config rows c start h e =
    let is = row_kin [] rows c start (supers_before told config rows h) e in
    subst (λ (x : Class). row_of rows x ≡ Some start) (sym is.same) e

-- something was listed
pub nothing_listed : (rows : List Rowed) (c : Class) (start : Rowed) → SupersBefore [] rows → row_of rows c ≡ Some start → AreListed rows start [] → ⊥
nothing_listed rows c start ordered e t =
    let k : Kin = kin_under (kins rows) start in
    nothing (once (postorder k.superclass ++ postorder k.interfaces)) k (t.order ∙ lineage_ends rows c start ordered e)
  where
    nothing : (xs : List Kin) (k : Kin) → (let none : List Kin = [] in none) ≡ xs ++ k ∷ [] → ⊥
    nothing [] k e = absurd cc
    nothing (x ∷ xs) k e = absurd cc

pub listed_some : {A : Type 0} (v : A → Rowed) (told : Option Content) (config : Configured) (rows : List Rowed) (c : Class) (start : Rowed) (items : List A) → AreRows told config rows → row_of rows c ≡ Some start → AreListed rows start (map v items) → length items ≡ 0 → ⊥
listed_some v told config rows c start [] h e t n = nothing_listed rows c start (supers_before told config rows h) e t
listed_some v told config rows c start (x ∷ items) h e t n = absurd cc

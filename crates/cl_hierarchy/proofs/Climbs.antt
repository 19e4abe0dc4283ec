-- A climb from superclass to superclass through rows.
use Rattle.std.proofs.Common.{◌≡◌, ◌∙◌, Bool, true, false, ◌||◌, if◌then◌else◌, List, [], ◌∷◌, ◌++◌, Option, Some, None, map, append_assoc, append-nil, refl, sym, ap, subst}
use Rattle.std.specs.List.{AllByRecursion}
use Rattle.std.proofs.lemmas.List.{map_push}
use mathlib.Core.List.{map-map}
use Rattle.cl_model.specs.declared.class.Class.{Class}
use Rattle.cl_model.specs.Classes.{is_among, same_class}
use Rattle.cl_model.specs.Lineages.{Bare, Forest, Kin, Tree, classes, first, superclasses, upward}
use Rattle.cl_model.proofs.Ancestors.{same_self}
use Rattle.cl_hierarchy.specs.Lineages.{IsInOrder, IsRowIn, Lined, kin_at, kin_of, row_of, rows_in}
use Rattle.cl_hierarchy.specs.Places.{IsPlace}
use Rattle.cl_hierarchy.specs.Rows.{Rowed}
use Rattle.cl_hierarchy.specs.Trees.{SupersBefore, forest, kin_named, kin_under, kins, kins_after, superclass_in}
use Rattle.cl_hierarchy.proofs.Ancestry.{kin_stays, row_kin}
use Rattle.cl_hierarchy.proofs.Ends.{all_push}
use Rattle.std.proofs.lemmas.Option.{same_Some}

-- ---- parts of rows in order

pub before_split : (known : List Kin) (xs ys : List Rowed) → SupersBefore known (xs ++ ys) → SupersBefore known xs × SupersBefore (kins_after known xs) ys
before_split known [] ys h = (tt, h)
before_split known (x ∷ xs) ys h = let parts = before_split (kin_under known x ∷ known) xs ys h.1 in ((h.0, parts.0), parts.1)

pub kins_both : (known : List Kin) (xs ys : List Rowed) → kins_after known (xs ++ ys) ≡ kins_after (kins_after known xs) ys
kins_both known [] ys = refl
kins_both known (x ∷ xs) ys = kins_both (kin_under known x ∷ known) xs ys

-- the kin of a row is that of it among all rows
pub placed_kin : (rows earlier : List Rowed) (r : Rowed) → SupersBefore [] rows → IsPlace rows earlier r → kin_under (kins rows) r ≡ kin_under (kins earlier) r
placed_kin rows earlier r h p =
    let parts = before_split [] earlier (r ∷ p.later) (subst (λ (rs : List Rowed). SupersBefore [] rs) p.split h) in
    ap (λ (rs : List Rowed). kin_under (kins rs) r) p.split
    ∙ ap (λ (ks : List Kin). kin_under ks r) (kins_both [] earlier (r ∷ p.later))
    ∙ kin_stays (kins earlier) (r ∷ p.later) r parts.1 parts.1.0.superclass parts.1.0.interfaces

-- the row that stands at a place is its class's
row_found : (known : List Kin) (earlier later : List Rowed) (r : Rowed) → SupersBefore known (earlier ++ r ∷ later) → row_of (earlier ++ r ∷ later) r.class ≡ Some r
row_found known [] later r h = rw (same_self r.class) refl
row_found known (x ∷ earlier) later r h = at (row_found (kin_under known x ∷ known) earlier later r h.1) (same_class x.class r.class) refl
  where
    parts : SupersBefore (kin_under known x ∷ known) earlier × SupersBefore (kins_after (kin_under known x ∷ known) earlier) (r ∷ later)
    parts = before_split (kin_under known x ∷ known) earlier (r ∷ later) h.1

    at : row_of (earlier ++ r ∷ later) r.class ≡ Some r → (b : Bool) → same_class x.class r.class ≡ b → (if b then Some x else row_of (earlier ++ r ∷ later) r.class) ≡ Some r
    at further true s =
        absurd (
        let there = row_kin known (x ∷ earlier) r.class x (h.0, parts.0) (rw s refl) in
        let gone : kin_named (kins_after (kin_under known x ∷ known) earlier) r.class ≡ None = parts.1.0.is_new in
        let kin = there.kin in
        cc
        )
    at further false s = further

pub placed_row : (rows earlier : List Rowed) (r : Rowed) → SupersBefore [] rows → IsPlace rows earlier r → IsRowIn rows r
placed_row rows earlier r h p =
    ap (λ (rs : List Rowed). row_of rs r.class) p.split ∙ row_found [] earlier p.later r (subst (λ (rs : List Rowed). SupersBefore [] rs) p.split h)

-- rows beside them leave a class's row
pub row_more : (xs ys : List Rowed) (c : Class) (r : Rowed) → row_of xs c ≡ Some r → row_of (xs ++ ys) c ≡ Some r
row_more [] ys c r e = absurd cc
row_more (x ∷ xs) ys c r e = at (row_more xs ys c r) (same_class x.class c) e
  where
    at : (row_of xs c ≡ Some r → row_of (xs ++ ys) c ≡ Some r) → (b : Bool) → (if b then Some x else row_of xs c) ≡ Some r → (if b then Some x else row_of (xs ++ ys) c) ≡ Some r
    at further true f = f
    at further false f = further f

pub rows_more : {A : Type 0} (f : A → Rowed) (xs ys : List Rowed) (rs : List A) → AllByRecursion (λ a. IsRowIn xs (f a)) rs → AllByRecursion (λ a. IsRowIn (xs ++ ys) (f a)) rs
rows_more f xs ys [] h = tt
rows_more f xs ys (r ∷ rs) h = (row_more xs ys (f r).class (f r) h.0, rows_more f xs ys rs h.1)

last_new : (ys : List Rowed) (r : Rowed) → row_of ys r.class ≡ None → row_of (ys ++ r ∷ []) r.class ≡ Some r
last_new [] r f = rw (same_self r.class) refl
last_new (y ∷ ys) r f = both (last_new ys r) (same_class y.class r.class) f
  where
    both : (row_of ys r.class ≡ None → row_of (ys ++ r ∷ []) r.class ≡ Some r) → (b : Bool) → (if b then Some y else row_of ys r.class) ≡ None → (if b then Some y else row_of (ys ++ r ∷ []) r.class) ≡ Some r
    both further true f = absurd cc
    both further false f = further f

-- the last of these is its class's row
pub last_row : (known : List Kin) (xs : List Rowed) (r : Rowed) → SupersBefore known xs → kin_named (kins_after known xs) r.class ≡ None → row_of (xs ++ r ∷ []) r.class ≡ Some r
last_row known xs r h e = at (row_of xs r.class) refl
  where
    at : (o : Option Rowed) → row_of xs r.class ≡ o → row_of (xs ++ r ∷ []) r.class ≡ Some r
    at None f = last_new xs r f
    at (Some x) f = absurd (let there = (row_kin known xs r.class x h f).kin in cc)

-- the own row of a lineage is its class's
pub own_row : (l inside : Lined) → inside ≡ l → IsInOrder inside → IsRowIn (rows_in l) inside.own
own_row l inside same h = ap (λ (x : Lined). row_of (rows_in x) inside.own.class) (sym same) ∙ last_row [] inside.above inside.own h.above h.own.is_new

-- ---- climbs

-- the first above, and what stands above that
pub upward_first : (f : Forest) (k : Kin) → Some k ≡ first (upward f) → upward f ≡ k ∷ upward k.superclass
upward_first Bare k e = absurd cc
upward_first (Tree c f sup ints others) k e = ap (λ (x : Kin). x ∷ upward x.superclass) (same_Some (record { class = c; file = f; superclass = sup; interfaces = ints }) k (sym e))

pub upward_none : (f : Forest) → None ≡ first (upward f) → upward f ≡ []
upward_none Bare e = refl
upward_none (Tree c f sup ints others) e = absurd cc

-- the nearest superclass of the class of a lineage
pub nearest : (l inside : Lined) (rows earlier : List Rowed) (under r : Rowed) → inside ≡ l → IsInOrder inside → rows ≡ inside.above → under ≡ inside.own → Some (kin_under (kins earlier) r) ≡ first (upward (forest (kins rows) (superclass_in under)))
    → IsPlace rows earlier r → Some (kin_at l r) ≡ first (superclasses (kin_of l))
nearest l inside rows earlier under r same h above own e p =
    let place : IsPlace inside.above earlier r = subst (λ (rs : List Rowed). IsPlace rs earlier r) above p in
    ap (λ (x : Lined). Some (kin_at x r)) (sym same)
    ∙ ap (λ (k : Kin). Some k) (placed_kin inside.above earlier r h.above place)
    ∙ e
    ∙ ap (λ (rs : List Rowed). first (upward (forest (kins rs) (superclass_in under)))) above
    ∙ ap (λ (u : Rowed). first (upward (forest (kins inside.above) (superclass_in u)))) own
    ∙ ap (λ (x : Lined). first (superclasses (kin_of x))) same

pub nearest_row : (l inside : Lined) (rows earlier : List Rowed) (r : Rowed) → inside ≡ l → IsInOrder inside → rows ≡ inside.above → IsPlace rows earlier r → IsRowIn (rows_in l) r
nearest_row l inside rows earlier r same h above p =
    let place : IsPlace inside.above earlier r = subst (λ (rs : List Rowed). IsPlace rs earlier r) above p in
    subst (λ (x : Lined). IsRowIn (rows_in x) r) same (row_more inside.above (inside.own ∷ []) r.class r (placed_row inside.above earlier r h.above place))

pub above_next : (f : Forest) (k : Kin) (c : Class) → Some k ≡ first (upward f) → same_class c k.class ≡ false → is_among (classes (upward k.superclass)) c ≡ is_among (classes (upward f)) c
above_next f k c e s = sym (ap (λ (ks : List Kin). is_among (classes ks) c) (upward_first f k e) ∙ ap (λ (b : Bool). b || is_among (classes (upward k.superclass)) c) s)

-- these were found, and what is wanted of the rest is left
pub record Climbs (rows : List Rowed) (superclass : List Class) (found rest : List Rowed) (wanted : List Class) : Type 0 where
  pub later : List Rowed
  pub split : rows ≡ rest ++ later
  pub kins_are : map (kin_under (kins rows)) found ++ upward (forest (kins rest) wanted) ≡ upward (forest (kins rows) superclass)
  pub rows_are : AllByRecursion (IsRowIn rows) found

pub begun : (rows found : List Rowed) (superclass : List Class) → found ≡ [] → Climbs rows superclass found rows superclass
begun rows found superclass e =
    subst (λ (rs : List Rowed). Climbs rows superclass rs rows superclass) (sym e) (record { later = []; split = sym (append-nil rows); kins_are = refl; rows_are = tt })

pub goes_on : (rows : List Rowed) (superclass : List Class) (found rest : List Rowed) (wanted : List Class) (earlier : List Rowed) (r : Rowed) → SupersBefore [] rows → Climbs rows superclass found rest wanted
    → Some (kin_under (kins earlier) r) ≡ first (upward (forest (kins rest) wanted)) → IsPlace rest earlier r → Climbs rows superclass (found ++ r ∷ []) earlier (superclass_in r)
goes_on rows superclass found rest wanted earlier r ordered h e p =
    let split : rows ≡ earlier ++ (r ∷ (p.later ++ h.later)) = h.split ∙ ap (λ (rs : List Rowed). rs ++ h.later) p.split ∙ append_assoc earlier (r ∷ p.later) h.later in
    let place : IsPlace rows earlier r = record { later = p.later ++ h.later; split = split } in
    let k : Kin = kin_under (kins earlier) r in
    let up : List Kin = upward (forest (kins earlier) (superclass_in r)) in
    record {
      later = r ∷ (p.later ++ h.later);
      split = split;
      kins_are =
          ap (λ (ks : List Kin). ks ++ up) (map_push (kin_under (kins rows)) found r)
          ∙ append_assoc (map (kin_under (kins rows)) found) (kin_under (kins rows) r ∷ []) up
          ∙ ap (λ (x : Kin). map (kin_under (kins rows)) found ++ (x ∷ up)) (placed_kin rows earlier r ordered place)
          ∙ ap (λ (ks : List Kin). map (kin_under (kins rows)) found ++ ks) (sym (upward_first (forest (kins rest) wanted) k e))
          ∙ h.kins_are;
      rows_are = all_push (IsRowIn rows) found r h.rows_are (placed_row rows earlier r ordered place);
    }

pub ends : (rows : List Rowed) (superclass : List Class) (found rest : List Rowed) (wanted : List Class) → Climbs rows superclass found rest wanted → None ≡ first (upward (forest (kins rest) wanted)) → map (kin_under (kins rows)) found ≡ upward (forest (kins rows) superclass)
ends rows superclass found rest wanted h e =
    sym (append-nil (map (kin_under (kins rows)) found))
    ∙ ap (λ (ks : List Kin). map (kin_under (kins rows)) found ++ ks) (sym (upward_none (forest (kins rest) wanted) e))
    ∙ h.kins_are

-- the same of what lies behind them in memory
pub all_back : {A B : Type 0} (f : A → B) (P : B → Type 0) (xs : List A) → AllByRecursion P (map f xs) → AllByRecursion (λ x. P (f x)) xs
all_back f P [] h = tt
all_back f P (x ∷ xs) h = (h.0, all_back f P xs h.1)

-- ---- the same of lists of what rows lie behind

pub goes_on_in : {A : Type 0} (v : A → Rowed) (rows found new rest earlier : List A) (row clone : A) (under last : Rowed) (superclass : List Class) → SupersBefore [] (map v rows)
    → Climbs (map v rows) superclass (map v found) (map v rest) (superclass_in last) → under ≡ last → Some (kin_under (kins (map v earlier)) (v row)) ≡ first (upward (forest (kins (map v rest)) (superclass_in under)))
    → IsPlace (map v rest) (map v earlier) (v row) → new ≡ found ++ clone ∷ [] → v clone ≡ v row → Climbs (map v rows) superclass (map v new) (map v earlier) (superclass_in (v row))
goes_on_in {A} v rows found new rest earlier row clone under last superclass ordered h same e p pushed cloned =
    let on =
    goes_on (map v rows) superclass (map v found) (map v rest) (superclass_in last) (map v earlier) (v row) ordered h
    (e ∙ ap (λ (u : Rowed). first (upward (forest (kins (map v rest)) (superclass_in u)))) same) p in
    let now : map v found ++ v row ∷ [] ≡ map v new =
    ap (λ (r : Rowed). map v found ++ r ∷ []) (sym cloned) ∙ sym (map_push v found clone) ∙ ap (λ (xs : List A). map v xs) (sym pushed) in
    subst (λ (rs : List Rowed). Climbs (map v rows) superclass rs (map v earlier) (superclass_in (v row))) now on

pub ends_in : {A : Type 0} (v : A → Rowed) (rows found rest : List A) (under last : Rowed) (superclass : List Class) → Climbs (map v rows) superclass (map v found) (map v rest) (superclass_in last) → under ≡ last
    → None ≡ first (upward (forest (kins (map v rest)) (superclass_in under))) → map (λ x. kin_under (kins (map v rows)) (v x)) found ≡ upward (forest (kins (map v rows)) superclass)
ends_in v rows found rest under last superclass h same e =
    sym (map-map (kin_under (kins (map v rows))) v found)
    ∙ ends (map v rows) superclass (map v found) (map v rest) (superclass_in last) h (e ∙ ap (λ (u : Rowed). first (upward (forest (kins (map v rest)) (superclass_in u)))) same)

pub rows_in_all : {A : Type 0} (v : A → Rowed) (l inside : Lined) (rows : List Rowed) → inside ≡ l → rows ≡ inside.above → (rs : List A) → AllByRecursion (λ x. IsRowIn rows (v x)) rs → AllByRecursion (λ x. IsRowIn (rows_in l) (v x)) rs
rows_in_all v l inside rows same above rs h =
    subst (λ (x : Lined). AllByRecursion (λ a. IsRowIn (rows_in x) (v a)) rs) same
    (rows_more v inside.above (inside.own ∷ []) rs (subst (λ (ys : List Rowed). AllByRecursion (λ a. IsRowIn ys (v a)) rs) above h))

-- the superclass is another class, and what is above it is left
pub reaches_on : (rest earlier : List Rowed) (under last r d : Rowed) (x c : Class) (b all : Bool) → under ≡ last → Some (kin_under (kins earlier) r) ≡ first (upward (forest (kins rest) (superclass_in under)))
    → x ≡ d.class → d ≡ r → b ≡ same_class c x → b ≡ false → is_among (classes (upward (forest (kins rest) (superclass_in last)))) c ≡ all
    → is_among (classes (upward (forest (kins earlier) (superclass_in r)))) c ≡ all
reaches_on rest earlier under last r d x c b all same e of is told other h =
    let k : Kin = kin_under (kins earlier) r in
    let apart : same_class c k.class ≡ false = ap (λ (y : Class). same_class c y) (sym (of ∙ ap (λ (z : Rowed). z.class) is)) ∙ sym told ∙ other in
    above_next (forest (kins rest) (superclass_in last)) k c (e ∙ ap (λ (u : Rowed). first (upward (forest (kins rest) (superclass_in u)))) same) apart ∙ h

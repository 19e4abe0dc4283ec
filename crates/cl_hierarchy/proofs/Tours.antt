-- What a tour lists, and what is left of it from step to step.
use Rattle.std.proofs.Common.{◌≡◌, ◌∙◌, ◌⊎◌, inl, inr, Bool, true, false, ◌||◌, if◌then◌else◌, List, [], ◌∷◌, ◌++◌, Some, append_assoc, append-nil, map, refl, sym, ap, subst}
use Rattle.std.proofs.lemmas.Bool.{or_left, or_right}
use Rattle.std.proofs.lemmas.List.{map_push}
use Rattle.cl_model.specs.declared.class.Class.{Class}
use Rattle.cl_model.specs.Classes.{same_class, is_among}
use Rattle.cl_model.specs.Lineages.{Forest, Bare, Tree, Kin, alone, classes, once_after, once, postorder, preorder, superinterfaces}
use Rattle.cl_model.proofs.Ancestors.{Within, among_first}
use Rattle.cl_model.proofs.Complete.{is_class, or_true}
use Rattle.cl_hierarchy.specs.declared.tour.TourOrder.{TourOrder}
use Rattle.cl_hierarchy.specs.declared.tour.TourOrder.TheVariants as orders
use Rattle.cl_hierarchy.specs.Lineages.{field_order, upwards}
use Rattle.cl_hierarchy.specs.Rows.{Rowed}
use Rattle.cl_hierarchy.specs.Trees.{kin_named, kin_under}
use Rattle.cl_hierarchy.specs.Tours.{Comes, Finishes, Stop, between, inner, stops, lists, listed_at, up_first, wants_up, with_class, with_row}

-- ---- the orders of the definitions

pub listed_both : (o : TourOrder) (xs ys : List Stop) → listed_at o (xs ++ ys) ≡ listed_at o xs ++ listed_at o ys
listed_both o [] ys = refl
listed_both o (s ∷ xs) ys = ap (λ (ks : List Kin). lists o s ++ ks) (listed_both o xs ys) ∙ sym (append_assoc (lists o s) (listed_at o xs) (listed_at o ys))

pub lineage_listed : (f : Forest) (wanted : Bool) → listed_at orders.Lineage (stops orders.Lineage f wanted) ≡ postorder f
lineage_listed Bare wanted = refl
lineage_listed (Tree c f sup ints others) wanted =
    let k : Kin = record { class = c; file = f; superclass = sup; interfaces = ints } in
    let rest : List Kin = k ∷ listed_at orders.Lineage (stops orders.Lineage others wanted) in
    listed_both orders.Lineage (stops orders.Lineage sup true ++ stops orders.Lineage ints true) (Finishes k ∷ stops orders.Lineage others wanted)
    ∙ ap (λ (x : List Kin). x ++ rest) (listed_both orders.Lineage (stops orders.Lineage sup true) (stops orders.Lineage ints true))
    ∙ ap (λ (x : List Kin). (x ++ listed_at orders.Lineage (stops orders.Lineage ints true)) ++ rest) (lineage_listed sup true)
    ∙ ap (λ (x : List Kin). (postorder sup ++ x) ++ rest) (lineage_listed ints true)
    ∙ ap (λ (x : List Kin). (postorder sup ++ postorder ints) ++ (k ∷ x)) (lineage_listed others wanted)

pub fields_listed : (f : Forest) → listed_at orders.Fields (stops orders.Fields f true) ≡ upwards f
fields_listed Bare = refl
fields_listed (Tree c f sup ints others) =
    let k : Kin = record { class = c; file = f; superclass = sup; interfaces = ints } in
    let rest : List Kin = listed_at orders.Fields (stops orders.Fields others true) in
    ap (λ (x : List Kin). k ∷ x) (
    listed_both orders.Fields (stops orders.Fields ints true ++ stops orders.Fields sup true) (Finishes k ∷ stops orders.Fields others true)
    ∙ ap (λ (x : List Kin). x ++ rest) (listed_both orders.Fields (stops orders.Fields ints true) (stops orders.Fields sup true))
    ∙ ap (λ (x : List Kin). (x ++ listed_at orders.Fields (stops orders.Fields sup true)) ++ rest) (fields_listed ints)
    ∙ ap (λ (x : List Kin). (upwards ints ++ x) ++ rest) (fields_listed sup)
    ∙ ap (λ (x : List Kin). (upwards ints ++ upwards sup) ++ x) (fields_listed others)
    )

pub over_listed : (f : Forest) (wanted : Bool) → listed_at orders.Superinterfaces (stops orders.Superinterfaces f wanted) ≡ preorder f wanted
over_listed Bare wanted = refl
over_listed (Tree c f sup ints others) wanted =
    let k : Kin = record { class = c; file = f; superclass = sup; interfaces = ints } in
    let first : List Kin = if wanted then k ∷ [] else [] in
    let rest : List Kin = listed_at orders.Superinterfaces (stops orders.Superinterfaces others wanted) in
    ap (λ (x : List Kin). first ++ x) (
    listed_both orders.Superinterfaces (stops orders.Superinterfaces ints true ++ stops orders.Superinterfaces sup false) (Finishes k ∷ stops orders.Superinterfaces others wanted)
    ∙ ap (λ (x : List Kin). x ++ rest) (listed_both orders.Superinterfaces (stops orders.Superinterfaces ints true) (stops orders.Superinterfaces sup false))
    ∙ ap (λ (x : List Kin). (x ++ listed_at orders.Superinterfaces (stops orders.Superinterfaces sup false)) ++ rest) (over_listed ints true)
    ∙ ap (λ (x : List Kin). (preorder ints true ++ x) ++ rest) (over_listed sup false)
    ∙ ap (λ (x : List Kin). (preorder ints true ++ preorder sup false) ++ x) (over_listed others wanted)
    )
    ∙ sym (append_assoc first (preorder ints true ++ preorder sup false) (preorder others wanted))
    ∙ ap (λ (x : List Kin). x ++ preorder others wanted) (sym (append_assoc first (preorder ints true) (preorder sup false)))

pub superinterfaces_listed : (k : Kin) → once (listed_at orders.Superinterfaces (stops orders.Superinterfaces (alone k) false)) ≡ superinterfaces k
superinterfaces_listed k = ap (λ (x : List Kin). once x) (over_listed (alone k) false ∙ append-nil (preorder k.interfaces true ++ preorder k.superclass false))

pub field_order_listed : (k : Kin) → once (listed_at orders.Fields (stops orders.Fields (alone k) true)) ≡ field_order k
field_order_listed k = ap (λ (x : List Kin). once x) (fields_listed (alone k))

-- ---- classes among others

pub among_both : (xs ys : List Class) (c : Class) → is_among (xs ++ ys) c ≡ (is_among xs c || is_among ys c)
among_both [] ys c = refl
among_both (x ∷ xs) ys c = at (among_both xs ys c) (same_class c x)
  where
    at : is_among (xs ++ ys) c ≡ (is_among xs c || is_among ys c) → (b : Bool) → (b || is_among (xs ++ ys) c) ≡ ((b || is_among xs c) || is_among ys c)
    at more true = refl
    at more false = more

pub classes_both : (xs ys : List Kin) → classes (xs ++ ys) ≡ classes xs ++ classes ys
classes_both [] ys = refl
classes_both (x ∷ xs) ys = ap (λ (cs : List Class). x.class ∷ cs) (classes_both xs ys)

pub within_left : (xs ys : List Class) → Within xs (xs ++ ys)
within_left xs ys = λ c h. among_both xs ys c ∙ or_left (is_among xs c) (is_among ys c) h

pub within_right : (xs ys : List Class) → Within ys (xs ++ ys)
within_right xs ys = λ c h. among_both xs ys c ∙ or_right (is_among xs c) (is_among ys c) h

pub within_join : (xs ys zs : List Class) → Within xs zs → Within ys zs → Within (xs ++ ys) zs
within_join xs ys zs f g = λ c h. elim (or_true (is_among xs c) (is_among ys c) (sym (among_both xs ys c) ∙ h)) [
  | inl e ↦ f c e
  | inr e ↦ g c e
]

within_more : (xs ys zs : List Class) → Within ys zs → Within (xs ++ ys) (xs ++ zs)
within_more xs ys zs h = within_join xs ys (xs ++ zs) (within_left xs zs) (λ c e. within_right xs zs c (h c e))

-- a class that joins others
pub with_grows : (seen : List Class) (c : Class) → Within seen (with_class seen c)
with_grows seen c = at (is_among seen c)
  where
    at : (b : Bool) → Within seen (if b then seen else seen ++ c ∷ [])
    at true = λ x h. h
    at false = within_left seen (c ∷ [])

pub with_has : (seen : List Class) (c : Class) → is_among (with_class seen c) c ≡ true
with_has seen c = at (is_among seen c) refl
  where
    at : (b : Bool) → is_among seen c ≡ b → is_among (if b then seen else seen ++ c ∷ []) c ≡ true
    at true e = e
    at false e = within_right seen (c ∷ []) c (among_first [] c)

-- a class among these is among those before, or the one that joined them
pub with_either : (seen : List Class) (c x : Class) → is_among (with_class seen c) x ≡ true → (is_among seen x ≡ true) ⊎ (x ≡ c)
with_either seen c x h = at (is_among seen c) h
  where
    last : (b : Bool) → same_class x c ≡ b → (b || false) ≡ true → x ≡ c
    last true e i = is_class x c e
    last false e i = absurd cc

    at : (b : Bool) → is_among (if b then seen else seen ++ c ∷ []) x ≡ true → (is_among seen x ≡ true) ⊎ (x ≡ c)
    at true i = inl i
    at false i = elim (or_true (is_among seen x) (is_among (c ∷ []) x) (sym (among_both seen (c ∷ []) x) ∙ i)) [ inl e ↦ inl e | inr e ↦ inr (last (same_class x c) refl e) ]

pub with_one : (seen zs : List Class) (c : Class) → Within seen zs → is_among zs c ≡ true → Within (with_class seen c) zs
with_one seen zs c h k = at (is_among seen c)
  where
    alone_in : Within (c ∷ []) zs
    alone_in = λ x e. elim (or_true (same_class x c) false e) [
      | inl s ↦ subst (λ (y : Class). is_among zs y ≡ true) (sym (is_class x c s)) k
      | inr s ↦ absurd cc
    ]

    at : (b : Bool) → Within (if b then seen else seen ++ c ∷ []) zs
    at true = h
    at false = within_join seen (c ∷ []) zs h alone_in

with_front : (seen : List Class) (c : Class) → Within (c ∷ seen) (with_class seen c)
with_front seen c = λ x h. elim (or_true (same_class x c) (is_among seen x) h) [
  | inl s ↦ subst (λ (y : Class). is_among (with_class seen c) y ≡ true) (sym (is_class x c s)) (with_has seen c)
  | inr e ↦ with_grows seen c x e
]

-- ---- each class once

bool_same : (a b : Bool) → (a ≡ true → b ≡ true) → (b ≡ true → a ≡ true) → a ≡ b
bool_same true true f g = refl
bool_same true false f g = sym (f refl)
bool_same false true f g = g refl
bool_same false false f g = refl

pub once_same : (xs ys : List Class) (ks : List Kin) → Within xs ys → Within ys xs → once_after xs ks ≡ once_after ys ks
once_same xs ys [] f g = refl
once_same xs ys (k ∷ ks) f g =
    ap (λ (b : Bool). if b then once_after xs ks else k ∷ once_after (k.class ∷ xs) ks) (bool_same (is_among xs k.class) (is_among ys k.class) (f k.class) (g k.class))
    ∙ at (once_same xs ys ks f g) (once_same (k.class ∷ xs) (k.class ∷ ys) ks (within_more (k.class ∷ []) xs ys f) (within_more (k.class ∷ []) ys xs g)) (is_among ys k.class)
  where
    at : once_after xs ks ≡ once_after ys ks → once_after (k.class ∷ xs) ks ≡ once_after (k.class ∷ ys) ks
        → (b : Bool) → (if b then once_after xs ks else k ∷ once_after (k.class ∷ xs) ks) ≡ (if b then once_after ys ks else k ∷ once_after (k.class ∷ ys) ks)
    at same more true = same
    at same more false = ap (λ (x : List Kin). k ∷ x) more

-- what was seen is listed no more
pub once_skips : (seen : List Class) (ks rest : List Kin) → Within (classes ks) seen → once_after seen (ks ++ rest) ≡ once_after seen rest
once_skips seen [] rest h = refl
once_skips seen (k ∷ ks) rest h =
    ap (λ (b : Bool). if b then once_after seen (ks ++ rest) else k ∷ once_after (k.class ∷ seen) (ks ++ rest)) (h k.class (among_first (classes ks) k.class))
    ∙ once_skips seen ks rest (λ c e. h c (or_right (same_class c k.class) (is_among (classes ks) c) e))

-- ---- a class is finished when all above it was listed

abbrev IsClosed : TourOrder → List Class → Stop → Type 0
IsClosed o seen (Comes k wanted) = Unit {0}
IsClosed o seen (Finishes k) = Within (classes (listed_at o (inner o k))) seen

abbrev pub Closed : TourOrder → List Class → List Stop → Type 0
Closed o seen [] = Unit {0}
Closed o seen (s ∷ ss) = IsClosed o seen s × Closed o (classes (lists o s) ++ seen) ss

is_closed_more : (o : TourOrder) (xs ys : List Class) (s : Stop) → Within xs ys → IsClosed o xs s → IsClosed o ys s
is_closed_more o xs ys (Comes k wanted) f h = tt
is_closed_more o xs ys (Finishes k) f h = λ c e. f c (h c e)

pub closed_more : (o : TourOrder) (xs ys : List Class) (ss : List Stop) → Within xs ys → Closed o xs ss → Closed o ys ss
closed_more o xs ys [] f h = tt
closed_more o xs ys (s ∷ ss) f h =
    (is_closed_more o xs ys s f h.0, closed_more o (classes (lists o s) ++ xs) (classes (lists o s) ++ ys) ss (within_more (classes (lists o s)) xs ys f) h.1)

-- what is listed at a stop and then at others
listed_then : (o : TourOrder) (s : Stop) (xs : List Stop) (seen : List Class) → Within (classes (listed_at o (s ∷ xs)) ++ seen) (classes (listed_at o xs) ++ (classes (lists o s) ++ seen))
listed_then o s xs seen =
    let a = classes (lists o s) in
    let b = classes (listed_at o xs) in
    subst (λ (w : List Class). Within (w ++ seen) (b ++ (a ++ seen))) (sym (classes_both (lists o s) (listed_at o xs))) (
    within_join (a ++ b) seen (b ++ (a ++ seen)) (within_join a b (b ++ (a ++ seen)) (λ c e. within_right b (a ++ seen) c (within_left a seen c e)) (within_left b (a ++ seen)))
    (λ c e. within_right b (a ++ seen) c (within_right a seen c e))
    )

listed_back : (o : TourOrder) (s : Stop) (xs : List Stop) (seen : List Class) → Within (classes (listed_at o xs) ++ (classes (lists o s) ++ seen)) (classes (listed_at o (s ∷ xs)) ++ seen)
listed_back o s xs seen =
    let a = classes (lists o s) in
    let b = classes (listed_at o xs) in
    subst (λ (w : List Class). Within (b ++ (a ++ seen)) (w ++ seen)) (sym (classes_both (lists o s) (listed_at o xs))) (
    within_join b (a ++ seen) ((a ++ b) ++ seen) (λ c e. within_left (a ++ b) seen c (within_right a b c e))
    (within_join a seen ((a ++ b) ++ seen) (λ c e. within_left (a ++ b) seen c (within_left a b c e)) (within_right (a ++ b) seen))
    )

closed_both : (o : TourOrder) (seen : List Class) (xs ys : List Stop) → Closed o seen xs → Closed o (classes (listed_at o xs) ++ seen) ys → Closed o seen (xs ++ ys)
closed_both o seen [] ys h g = g
closed_both o seen (s ∷ xs) ys h g =
    (h.0, closed_both o (classes (lists o s) ++ seen) xs ys h.1 (closed_more o (classes (listed_at o (s ∷ xs)) ++ seen) (classes (listed_at o xs) ++ (classes (lists o s) ++ seen)) ys (listed_then o s xs seen) g))

pub closed_rest : (o : TourOrder) (seen : List Class) (xs ys : List Stop) → Closed o seen (xs ++ ys) → Closed o (classes (listed_at o xs) ++ seen) ys
closed_rest o seen [] ys h = h
closed_rest o seen (s ∷ xs) ys h =
    closed_more o (classes (listed_at o xs) ++ (classes (lists o s) ++ seen)) (classes (listed_at o (s ∷ xs)) ++ seen) ys (listed_back o s xs seen) (closed_rest o (classes (lists o s) ++ seen) xs ys h.1)

closed_between : (o : TourOrder) (up over : List Stop) (seen : List Class) → ((s : List Class) → Closed o s up) → ((s : List Class) → Closed o s over) → Closed o seen (between o up over)
closed_between o up over seen f g = at (up_first o)
  where
    at : (b : Bool) → Closed o seen (if b then up ++ over else over ++ up)
    at true = closed_both o seen up over (f seen) (g (classes (listed_at o up) ++ seen))
    at false = closed_both o seen over up (g seen) (f (classes (listed_at o over) ++ seen))

pub closed_stops : (o : TourOrder) (f : Forest) (wanted : Bool) (seen : List Class) → Closed o seen (stops o f wanted)
closed_stops o Bare wanted seen = tt
closed_stops o (Tree c f sup ints others) wanted seen =
    let k : Kin = record { class = c; file = f; superclass = sup; interfaces = ints } in
    let first : List Class = classes (lists o (Comes k wanted)) ++ seen in
    let above : List Class = classes (listed_at o (inner o k)) in (
      tt,
      closed_both o first (inner o k) (Finishes k ∷ stops o others wanted)
          (closed_between o (stops o sup (wants_up o)) (stops o ints true) first (λ s. closed_stops o sup (wants_up o) s) (λ s. closed_stops o ints true s))
          (within_left above first, closed_stops o others wanted (classes (lists o (Finishes k)) ++ (above ++ first))),
    )

-- ---- what was listed, and what is left

-- the rows that were listed, the classes that were, those that are finished, and the stops that are left
pub record Goes (o : TourOrder) (known : List Kin) (goal : List Kin) (listed : List Rowed) (seen finished : List Class) (rest : List Stop) : Type 0 where
  pub goes : map (kin_under known) listed ++ once_after seen (listed_at o rest) ≡ goal
  pub ready : Closed o seen rest
  pub done : (k : Kin) → kin_named known k.class ≡ Some k → is_among finished k.class ≡ true → Within (classes (listed_at o (inner o k ++ Finishes k ∷ []))) seen

pub goes_first : (o : TourOrder) (known : List Kin) (f : Forest) (wanted : Bool) → Goes o known (once (listed_at o (stops o f wanted))) [] [] [] (stops o f wanted)
goes_first o known f wanted = record { goes = refl; ready = closed_stops o f wanted []; done = λ k e h. absurd cc }

module _ (o : TourOrder) (known goal : List Kin) (listed : List Rowed) (seen finished : List Class) where
  list_goes : (r : Rowed) (ks : List Kin) (b : Bool) → is_among seen r.class ≡ b
      → map (kin_under known) (if b then listed else listed ++ r ∷ []) ++ once_after (if b then seen else seen ++ r.class ∷ []) ks
      ≡ map (kin_under known) listed ++ (if b then once_after seen ks else kin_under known r ∷ once_after (r.class ∷ seen) ks)
  list_goes r ks true e = refl
  list_goes r ks false e =
      let listed_now : List Kin = map (kin_under known) listed in
      let behind : List Class = seen ++ r.class ∷ [] in
      let is_with : with_class seen r.class ≡ behind = ap (λ (b : Bool). if b then seen else seen ++ r.class ∷ []) e in
      ap (λ (x : List Kin). x ++ once_after behind ks) (map_push (kin_under known) listed r)
      ∙ append_assoc listed_now (kin_under known r ∷ []) (once_after behind ks)
      ∙ ap (λ (x : List Kin). listed_now ++ kin_under known r ∷ x) (
      once_same behind (r.class ∷ seen) ks
      (within_join seen (r.class ∷ []) (r.class ∷ seen) (within_right (r.class ∷ []) seen) (within_left (r.class ∷ []) seen))
      (subst (λ (cs : List Class). Within (r.class ∷ seen) cs) is_with (with_front seen r.class))
      )

  pub goes_list : (r : Rowed) (s : Stop) (rest : List Stop) → lists o s ≡ kin_under known r ∷ [] → Goes o known goal listed seen finished (s ∷ rest)
      → Goes o known goal (with_row seen listed r) (with_class seen r.class) finished rest
  goes_list r s rest e h = record {
    goes =
        list_goes r (listed_at o rest) (is_among seen r.class) refl
        ∙ sym (ap (λ (x : List Kin). map (kin_under known) listed ++ once_after seen (x ++ listed_at o rest)) e) ∙ h.goes;
    ready =
        closed_more o (r.class ∷ seen) (with_class seen r.class) rest (with_front seen r.class)
        (subst (λ (x : List Kin). Closed o (classes x ++ seen) rest) e h.ready.1);
    done = λ k n l c i. with_grows seen r.class c (h.done k n l c i);
  }

  pub goes_on : (s : Stop) (rest : List Stop) → lists o s ≡ [] → Goes o known goal listed seen finished (s ∷ rest) → Goes o known goal listed seen finished rest
  goes_on s rest e h = record {
    goes = sym (ap (λ (x : List Kin). map (kin_under known) listed ++ once_after seen (x ++ listed_at o rest)) e) ∙ h.goes;
    ready = subst (λ (x : List Kin). Closed o (classes x ++ seen) rest) e h.ready.1;
    done = h.done;
  }

  pub goes_past : (xs rest : List Stop) → Within (classes (listed_at o xs)) seen → Goes o known goal listed seen finished (xs ++ rest) → Goes o known goal listed seen finished rest
  goes_past xs rest w h = record {
    goes =
        ap (λ (x : List Kin). map (kin_under known) listed ++ x) (sym (ap (λ (y : List Kin). once_after seen y) (listed_both o xs rest) ∙ once_skips seen (listed_at o xs) (listed_at o rest) w))
        ∙ h.goes;
    ready = closed_more o (classes (listed_at o xs) ++ seen) seen rest (within_join (classes (listed_at o xs)) seen seen w (λ c e. e)) (closed_rest o seen xs rest h.ready);
    done = h.done;
  }

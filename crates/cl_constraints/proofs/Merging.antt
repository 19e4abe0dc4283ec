-- What the groups of one name say of joined loaders and their homes once two loaders are joined.
use Rattle.std.proofs.Common.{◌≡◌, ◌⊎◌, inl, inr, ℕ, Bool, true, false, ◌==◌, ◌&&◌, ◌||◌, not, List, [], ◌∷◌, ◌++◌, Option, Some, None, filter, refl, sym, ap, ◌↔◌, ◌∙◌, subst, eq-eqb}
use Rattle.std.specs.List.{list_any}
use Rattle.std.specs.Option.{option_or}
use Rattle.std.proofs.lemmas.Bool.{and_from, and_left, and_parts, and_right, eqb-true, or_cases, or_from, or_left, or_right}
use Rattle.std.proofs.lemmas.List.Folds.{list_any-append}
use Rattle.std.specs.Prelude.{if◌then◌else◌, Result, Ok, Err, OnOk, OnErr}
use Rattle.cl_constraints.specs.declared.record.Entered.{Entered}
use Rattle.cl_constraints.specs.Records.{home_in}
use Rattle.cl_constraints.specs.Groups.{Joint, Grouped, group_of, has_both, AreJoined, AreApart, HasItsHome, HaveHomes, IsGrouped, joined_class, IsClassOf, members, without, joint_of, merged_groups}
use Rattle.cl_model.specs.Probes.{is_in}
use Rattle.cl_model.specs.States.{Divides}
use Rattle.cl_constraints.specs.Singles.{Joins}
use Rattle.cl_constraints.proofs.Grouping.{class_shared, divides_by, in_group, joined_member, members_joined, shared_found}

-- a group that neither loader is in
abbrev pub is_clear : ℕ → ℕ → Joint → Bool
is_clear a b g = not (is_in g.loaders a) && not (is_in g.loaders b)

-- the groups that stay
abbrev pub kept : ℕ → ℕ → List Joint → List Joint
kept a b gs = filter (is_clear a b) gs

-- what passes in what stays passed before
any_kept : (f : Joint → Bool) (a b : ℕ) (gs : List Joint) → list_any f (kept a b gs) ≡ true → list_any f gs ≡ true
any_kept f a b [] h = h
any_kept f a b (g ∷ gs) h = at (is_clear a b g) (λ k. any_kept f a b gs k) h
  where
    at : (c : Bool) → (list_any f (kept a b gs) ≡ true → list_any f gs ≡ true) → list_any f (if c then g ∷ kept a b gs else kept a b gs) ≡ true → (f g || list_any f gs) ≡ true
    at true ih h = elim (or_cases (f g) (list_any f (kept a b gs)) h) as (λ _. (f g || list_any f gs) ≡ true) [ inl k ↦ or_left (f g) (list_any f gs) k | inr k ↦ or_right (f g) (list_any f gs) (ih k) ]
    at false ih h = or_right (f g) (list_any f gs) (ih h)

-- what fails before fails in what stays
none_kept : (f : Joint → Bool) (a b : ℕ) (gs : List Joint) → list_any f gs ≡ false → list_any f (kept a b gs) ≡ false
none_kept f a b gs h = at (list_any f (kept a b gs)) refl
  where
    at : (c : Bool) → list_any f (kept a b gs) ≡ c → list_any f (kept a b gs) ≡ false
    at true k = let t : list_any f gs ≡ true = any_kept f a b gs k in let z : false ≡ true = sym h ∙ t in absurd cc
    at false k = k

kept_apart : (a b : ℕ) (gs : List Joint) → AreApart gs → AreApart (kept a b gs)
kept_apart a b [] h = tt
kept_apart a b (g ∷ gs) h = at (is_clear a b g) (kept_apart a b gs h.1)
  where
    at : (c : Bool) → AreApart (kept a b gs) → AreApart (if c then g ∷ kept a b gs else kept a b gs)
    at true ih = (λ x k. none_kept (λ other. is_in other.loaders x) a b gs (h.0 x k), ih)
    at false ih = ih

kept_homes : (rs : List Entered) (a b : ℕ) (gs : List Joint) → HaveHomes rs gs → HaveHomes rs (kept a b gs)
kept_homes rs a b [] h = tt
kept_homes rs a b (g ∷ gs) h = at (is_clear a b g) (kept_homes rs a b gs h.1)
  where
    at : (c : Bool) → HaveHomes rs (kept a b gs) → HaveHomes rs (if c then g ∷ kept a b gs else kept a b gs)
    at true ih = (h.0, ih)
    at false ih = ih

-- a group that stays has neither loader
kept_clear : (a b : ℕ) (gs : List Joint) → (list_any (λ g. is_in g.loaders a) (kept a b gs) ≡ false) × (list_any (λ g. is_in g.loaders b) (kept a b gs) ≡ false)
kept_clear a b [] = (refl, refl)
kept_clear a b (g ∷ gs) = at (is_in g.loaders a) (is_in g.loaders b) refl refl (kept_clear a b gs)
  where
    at : (p q : Bool) → is_in g.loaders a ≡ p → is_in g.loaders b ≡ q → (list_any (λ g. is_in g.loaders a) (kept a b gs) ≡ false) × (list_any (λ g. is_in g.loaders b) (kept a b gs) ≡ false) → (list_any (λ g. is_in g.loaders a) (if not p && not q then g ∷ kept a b gs else kept a b gs) ≡ false) × (list_any (λ g. is_in g.loaders b) (if not p && not q then g ∷ kept a b gs else kept a b gs) ≡ false)
    at true q i j ih = ih
    at false true i j ih = ih
    at false false i j ih = (rw i ih.0, rw j ih.1)

-- a loader that is in no group shares none, on either side
none_shared_back : (gs : List Joint) (a b : ℕ) → list_any (λ g. is_in g.loaders b) gs ≡ false → has_both gs a b ≡ false
none_shared_back [] a b h = refl
none_shared_back (g ∷ gs) a b h = at (is_in g.loaders a) (is_in g.loaders b) (list_any (λ g. is_in g.loaders b) gs) (none_shared_back gs a b) h
  where
    at : (x y z : Bool) → (z ≡ false → has_both gs a b ≡ false) → (y || z) ≡ false → ((x && y) || has_both gs a b) ≡ false
    at x true z k h = absurd cc
    at true false z k h = k h
    at false false z k h = k h

-- a loader of a group that stays shares none with a loader that was taken out
kept_shares : (a b c x : ℕ) (gs : List Joint) → AreApart gs → ((g : Joint) → is_clear a b g ≡ true → is_in g.loaders c ≡ false) → list_any (λ g. is_in g.loaders x) (kept a b gs) ≡ true → has_both gs c x ≡ false
kept_shares a b c x [] apart clear h = refl
kept_shares a b c x (g ∷ gs) apart clear h = at (is_clear a b g) refl (is_in g.loaders x) refl (kept_shares a b c x gs apart.1 clear) h
  where
    at : (p : Bool) → is_clear a b g ≡ p → (q : Bool) → is_in g.loaders x ≡ q → (list_any (λ g. is_in g.loaders x) (kept a b gs) ≡ true → has_both gs c x ≡ false) → list_any (λ g. is_in g.loaders x) (if p then g ∷ kept a b gs else kept a b gs) ≡ true → ((is_in g.loaders c && is_in g.loaders x) || has_both gs c x) ≡ false
    at true i true j ih h = or_from (is_in g.loaders c && is_in g.loaders x) (has_both gs c x) (and_left (is_in g.loaders c) (is_in g.loaders x) (clear g i)) (none_shared_back gs c x (apart.0 x j))
    at true i false j ih h =
        let tail : list_any (λ g. is_in g.loaders x) (kept a b gs) ≡ true = elim (or_cases (is_in g.loaders x) (list_any (λ g. is_in g.loaders x) (kept a b gs)) h) as (λ _. list_any (λ g. is_in g.loaders x) (kept a b gs) ≡ true) [ inl k ↦ (let z : false ≡ true = sym j ∙ k in absurd cc) | inr k ↦ k ] in
        or_from (is_in g.loaders c && is_in g.loaders x) (has_both gs c x) (and_right (is_in g.loaders c) (is_in g.loaders x) j) (ih tail)
    at false i true j ih h =
        let there : list_any (λ g. is_in g.loaders x) gs ≡ true = any_kept (λ g. is_in g.loaders x) a b gs h in
        let z : false ≡ true = sym (apart.0 x j) ∙ there in absurd cc
    at false i false j ih h = or_from (is_in g.loaders c && is_in g.loaders x) (has_both gs c x) (and_right (is_in g.loaders c) (is_in g.loaders x) j) (ih h)

clear_first : (a b : ℕ) (g : Joint) → is_clear a b g ≡ true → is_in g.loaders a ≡ false
clear_first a b g h = at (is_in g.loaders a) h
  where
    at : (p : Bool) → (not p && not (is_in g.loaders b)) ≡ true → p ≡ false
    at true h = absurd cc
    at false h = refl

clear_second : (a b : ℕ) (g : Joint) → is_clear a b g ≡ true → is_in g.loaders b ≡ false
clear_second a b g h = at (is_in g.loaders b) (and_parts (not (is_in g.loaders a)) (not (is_in g.loaders b)) h).1
  where
    at : (p : Bool) → not p ≡ true → p ≡ false
    at true h = absurd cc
    at false h = refl

-- so it is joined to neither
kept_unjoined : (a b c x : ℕ) (gs : List Joint) → AreApart gs → ((g : Joint) → is_clear a b g ≡ true → is_in g.loaders c ≡ false) → list_any (λ g. is_in g.loaders c) (kept a b gs) ≡ false → list_any (λ g. is_in g.loaders x) (kept a b gs) ≡ true → AreJoined gs c x → ⊥
kept_unjoined a b c x gs apart clear none h (inl e) =
    let t : list_any (λ g. is_in g.loaders c) (kept a b gs) ≡ true = subst (λ (z : ℕ). list_any (λ g. is_in g.loaders z) (kept a b gs) ≡ true) (sym e) h in
    let z : false ≡ true = sym none ∙ t in absurd cc
kept_unjoined a b c x gs apart clear none h (inr s) = let z : false ≡ true = sym (kept_shares a b c x gs apart clear h) ∙ s in absurd cc

-- what is among the members of the two is joined to one of them
merged_has : (gs : List Joint) (a b x : ℕ) → AreApart gs → is_in (members gs a ++ members gs b) x ≡ true → AreJoined gs a x ⊎ AreJoined gs b x
merged_has gs a b x apart h =
    elim (or_cases (is_in (members gs a) x) (is_in (members gs b) x) (sym (list_any-append (λ l. l == x) (members gs a) (members gs b)) ∙ h)) as (λ _. AreJoined gs a x ⊎ AreJoined gs b x) [
      | inl k ↦ inl (members_joined gs a x apart k)
      | inr k ↦ inr (members_joined gs b x apart k)
    ]

has_merged : (gs : List Joint) (a b x : ℕ) → AreApart gs → AreJoined gs a x ⊎ AreJoined gs b x → is_in (members gs a ++ members gs b) x ≡ true
has_merged gs a b x apart (inl j) = list_any-append (λ l. l == x) (members gs a) (members gs b) ∙ or_left (is_in (members gs a) x) (is_in (members gs b) x) (joined_member gs a x apart j)
has_merged gs a b x apart (inr j) = list_any-append (λ l. l == x) (members gs a) (members gs b) ∙ or_right (is_in (members gs a) x) (is_in (members gs b) x) (joined_member gs b x apart j)

-- ---- being joined is symmetric and transitive

shared_back : (gs : List Joint) (a b : ℕ) → has_both gs a b ≡ has_both gs b a
shared_back [] a b = refl
shared_back (g ∷ gs) a b = at (is_in g.loaders a) (is_in g.loaders b) (shared_back gs a b)
  where
    at : (x y : Bool) → has_both gs a b ≡ has_both gs b a → ((x && y) || has_both gs a b) ≡ ((y && x) || has_both gs b a)
    at true true e = refl
    at true false e = e
    at false true e = e
    at false false e = e

grouped_back : (gs : List Joint) (a b : ℕ) → AreJoined gs a b → AreJoined gs b a
grouped_back gs a b (inl e) = inl (sym e)
grouped_back gs a b (inr s) = inr (shared_back gs b a ∙ s)

found_shares : (gs : List Joint) (l a b : ℕ) (g : Joint) → group_of gs l ≡ Some g → is_in g.loaders a ≡ true → is_in g.loaders b ≡ true → has_both gs a b ≡ true
found_shares [] l a b g h i j = absurd cc
found_shares (x ∷ gs) l a b g h i j = at (is_in x.loaders l) (λ k. found_shares gs l a b g k i j) h
  where
    at : (p : Bool) → (group_of gs l ≡ Some g → has_both gs a b ≡ true) → (if p then Some x else group_of gs l) ≡ Some g → ((is_in x.loaders a && is_in x.loaders b) || has_both gs a b) ≡ true
    at true ih h =
        let e : x ≡ g = cc in
        or_left (is_in x.loaders a && is_in x.loaders b) (has_both gs a b) (and_from (is_in x.loaders a) (is_in x.loaders b) (ap (λ (z : Joint). is_in z.loaders a) e ∙ i) (ap (λ (z : Joint). is_in z.loaders b) e ∙ j))
    at false ih h = or_right (is_in x.loaders a && is_in x.loaders b) (has_both gs a b) (ih h)

grouped_then : (gs : List Joint) (a b c : ℕ) → AreApart gs → AreJoined gs a b → AreJoined gs b c → AreJoined gs a c
grouped_then gs a b c apart (inl e) k = subst (λ (z : ℕ). AreJoined gs z c) (sym e) k
grouped_then gs a b c apart (inr s) (inl e) = inr (subst (λ (z : ℕ). has_both gs a z ≡ true) e s)
grouped_then gs a b c apart (inr s) (inr t) = at (group_of gs b) refl (shared_found gs b a apart) (shared_found gs b c apart)
  where
    at : (o : Option Joint) → group_of gs b ≡ o → has_both gs b a ≡ in_group o a → has_both gs b c ≡ in_group o c → AreJoined gs a c
    at None e i j = let z : false ≡ true = sym j ∙ t in absurd cc
    at (Some g) e i j = inr (found_shares gs b a c g e (sym i ∙ shared_back gs b a ∙ s) (sym j ∙ t))

-- ---- what joining two loaders makes

-- a group with a loader that is joined to neither stays
kept_shared : (a b x y : ℕ) (gs : List Joint) → has_both gs x y ≡ true → has_both gs a x ≡ false → has_both gs b x ≡ false → has_both (kept a b gs) x y ≡ true
kept_shared a b x y [] h i j = h
kept_shared a b x y (g ∷ gs) h i j = at (is_in g.loaders a) (is_in g.loaders b) (is_in g.loaders x) refl (kept_shared a b x y gs) h i j
  where
    at : (p q r : Bool) → is_in g.loaders x ≡ r → (has_both gs x y ≡ true → has_both gs a x ≡ false → has_both gs b x ≡ false → has_both (kept a b gs) x y ≡ true) → ((r && is_in g.loaders y) || has_both gs x y) ≡ true → ((p && r) || has_both gs a x) ≡ false → ((q && r) || has_both gs b x) ≡ false → has_both (if not p && not q then g ∷ kept a b gs else kept a b gs) x y ≡ true
    at true q true e ih h i j = absurd cc
    at false true true e ih h i j = absurd cc
    at false false true e ih h i j =
        elim (or_cases (is_in g.loaders y) (has_both gs x y) h) as (λ _. ((is_in g.loaders x && is_in g.loaders y) || has_both (kept a b gs) x y) ≡ true) [
          | inl k ↦ or_left (is_in g.loaders x && is_in g.loaders y) (has_both (kept a b gs) x y) (and_from (is_in g.loaders x) (is_in g.loaders y) e k)
          | inr k ↦ or_right (is_in g.loaders x && is_in g.loaders y) (has_both (kept a b gs) x y) (ih k i j)
        ]
    at true q false e ih h i j = ih h i (or_tail q (has_both gs b x) j)
      where
        or_tail : (q z : Bool) → ((q && false) || z) ≡ false → z ≡ false
        or_tail true z k = k
        or_tail false z k = k
    at false true false e ih h i j = ih h i j
    at false false false e ih h i j = or_right (is_in g.loaders x && is_in g.loaders y) (has_both (kept a b gs) x y) (ih h i j)

shared_merged : (v : Grouped) (a b x y : ℕ) → is_in (members v.groups a ++ members v.groups b) x ≡ true → is_in (members v.groups a ++ members v.groups b) y ≡ true → AreJoined (merged_groups v a b) x y
shared_merged v a b x y h k =
    let all = members v.groups a ++ members v.groups b in
    inr (list_any-append (λ g. is_in g.loaders x && is_in g.loaders y) (kept a b v.groups) (record { home = option_or (joined_class v a) (joined_class v b); loaders = all } ∷ [])
    ∙ or_right (has_both (kept a b v.groups) x y) ((is_in all x && is_in all y) || false) (or_left (is_in all x && is_in all y) false (and_from (is_in all x) (is_in all y) h k)))

unshared : (gs : List Joint) (a b x : ℕ) → AreApart gs → is_in (members gs a ++ members gs b) x ≡ false → (has_both gs a x ≡ false) × (has_both gs b x ≡ false)
unshared gs a b x apart h = (at a (has_both gs a x) refl (λ s. has_merged gs a b x apart (inl (inr s))), at b (has_both gs b x) refl (λ s. has_merged gs a b x apart (inr (inr s))))
  where
    at : (l : ℕ) (p : Bool) → has_both gs l x ≡ p → (has_both gs l x ≡ true → is_in (members gs a ++ members gs b) x ≡ true) → has_both gs l x ≡ false
    at l true e k = let z : false ≡ true = sym h ∙ k e in absurd cc
    at l false e k = e

pub merged_from : (v : Grouped) (a b x y : ℕ) → IsGrouped v → AreJoined (merged_groups v a b) x y → Joins (λ p q. AreJoined v.groups p q) a b x y
merged_from v a b x y ok (inl e) = inl (inl e)
merged_from v a b x y ok (inr s) =
    elim (or_cases (has_both (kept a b v.groups) x y) ((is_in all x && is_in all y) || false) (sym (list_any-append (λ g. is_in g.loaders x && is_in g.loaders y) (kept a b v.groups) (record { home = option_or (joined_class v a) (joined_class v b); loaders = all } ∷ [])) ∙ s)) as (λ _. Joins (λ p q. AreJoined v.groups p q) a b x y) [
      | inl k ↦ inl (inr (any_kept (λ g. is_in g.loaders x && is_in g.loaders y) a b v.groups k))
      | inr k ↦ elim (or_cases (is_in all x && is_in all y) false k) as (λ _. Joins (λ p q. AreJoined v.groups p q) a b x y) [
        | inl q ↦ both (merged_has v.groups a b x ok.apart (and_parts (is_in all x) (is_in all y) q).0) (merged_has v.groups a b y ok.apart (and_parts (is_in all x) (is_in all y) q).1)
        | inr q ↦ absurd cc
      ]
    ]
  where
    all : List ℕ
    all = members v.groups a ++ members v.groups b

    J : ℕ → ℕ → Type 0
    J p q = AreJoined v.groups p q

    both : J a x ⊎ J b x → J a y ⊎ J b y → Joins J a b x y
    both (inl i) (inl j) = inl (grouped_then v.groups x a y ok.apart (grouped_back v.groups a x i) j)
    both (inl i) (inr j) = inr (inl (grouped_back v.groups a x i, j))
    both (inr i) (inl j) = inr (inr (grouped_back v.groups b x i, j))
    both (inr i) (inr j) = inl (grouped_then v.groups x b y ok.apart (grouped_back v.groups b x i) j)

pub merged_to : (v : Grouped) (a b x y : ℕ) → IsGrouped v → Joins (λ p q. AreJoined v.groups p q) a b x y → AreJoined (merged_groups v a b) x y
merged_to v a b x y ok (inr (inl j)) = shared_merged v a b x y (has_merged v.groups a b x ok.apart (inl (grouped_back v.groups x a j.0))) (has_merged v.groups a b y ok.apart (inr j.1))
merged_to v a b x y ok (inr (inr j)) = shared_merged v a b x y (has_merged v.groups a b x ok.apart (inr (grouped_back v.groups x b j.0))) (has_merged v.groups a b y ok.apart (inl j.1))
merged_to v a b x y ok (inl (inl e)) = inl e
merged_to v a b x y ok (inl (inr s)) = at (is_in all x) refl
  where
    all : List ℕ
    all = members v.groups a ++ members v.groups b

    along : AreJoined v.groups a x ⊎ AreJoined v.groups b x → AreJoined v.groups a y ⊎ AreJoined v.groups b y
    along (inl i) = inl (grouped_then v.groups a x y ok.apart i (inr s))
    along (inr i) = inr (grouped_then v.groups b x y ok.apart i (inr s))

    at : (p : Bool) → is_in all x ≡ p → AreJoined (merged_groups v a b) x y
    at true e = shared_merged v a b x y e (has_merged v.groups a b y ok.apart (along (merged_has v.groups a b x ok.apart e)))
    at false e =
        let none = unshared v.groups a b x ok.apart e in
        inr (list_any-append (λ g. is_in g.loaders x && is_in g.loaders y) (kept a b v.groups) (record { home = option_or (joined_class v a) (joined_class v b); loaders = all } ∷ [])
        ∙ or_left (has_both (kept a b v.groups) x y) ((is_in all x && is_in all y) || false) (kept_shared a b x y v.groups s none.0 none.1))

pub merged_joined : (v : Grouped) (a b x y : ℕ) → IsGrouped v → AreJoined (merged_groups v a b) x y ↔ Joins (λ p q. AreJoined v.groups p q) a b x y
merged_joined v a b x y ok = (merged_from v a b x y ok, merged_to v a b x y ok)

apart_push : (gs : List Joint) (n : Joint) → AreApart gs → ((x : ℕ) → list_any (λ g. is_in g.loaders x) gs ≡ true → is_in n.loaders x ≡ false) → AreApart (gs ++ n ∷ [])
apart_push [] n apart new = (λ x h. refl, tt)
apart_push (g ∷ gs) n apart new = (
  λ x h. list_any-append (λ g. is_in g.loaders x) gs (n ∷ []) ∙ or_from (list_any (λ g. is_in g.loaders x) gs) (is_in n.loaders x || false) (apart.0 x h) (or_from (is_in n.loaders x) false (new x (or_left (is_in g.loaders x) (list_any (λ g. is_in g.loaders x) gs) h)) refl),
  apart_push gs n apart.1 (λ x h. new x (or_right (is_in g.loaders x) (list_any (λ g. is_in g.loaders x) gs) h)),
)

homes_push : (rs : List Entered) (gs : List Joint) (n : Joint) → HaveHomes rs gs → HasItsHome rs n → HaveHomes rs (gs ++ n ∷ [])
homes_push rs [] n old new = (new, tt)
homes_push rs (g ∷ gs) n old new = (old.0, homes_push rs gs n old.1 new)

-- the home of the new group
merged_home : (v : Grouped) (a b : ℕ) (p q : Option ℕ) → IsGrouped v → IsClassOf v a p → IsClassOf v b q → (Divides (λ x. home_in v.records x) (λ x y. AreJoined v.groups x y) a b → ⊥) → HasItsHome v.records (record { home = option_or p q; loaders = members v.groups a ++ members v.groups b })
merged_home v a b p q ok ca cb fits =
    record {
      every = λ x place i e. every p q ca cb x place (merged_has v.groups a b x ok.apart i) e;
      some = λ place e. some p q ca cb place e;
    }
  where
    same : (m n : ℕ) → IsClassOf v a (Some m) → IsClassOf v b (Some n) → m ≡ n
    same m n cm cn = at (m == n) refl
      where
        at : (z : Bool) → (m == n) ≡ z → m ≡ n
        at true k = eqb-true m n k
        at false k = absurd (fits (divides_by v a b m n cm cn (λ s. (let t : (m == n) ≡ true = eq-eqb m n s in let z : false ≡ true = sym k ∙ t in absurd cc))))

    every : (p q : Option ℕ) → IsClassOf v a p → IsClassOf v b q → (x place : ℕ) → AreJoined v.groups a x ⊎ AreJoined v.groups b x → home_in v.records x ≡ Some place → option_or p q ≡ Some place
    every None q cp cq x place (inl j) e = let z : None ≡ Some place = cp.every x place j e in absurd cc
    every None q cp cq x place (inr j) e = cq.every x place j e
    every (Some m) q cp cq x place (inl j) e = cp.every x place j e
    every (Some m) None cp cq x place (inr j) e = let z : None ≡ Some place = cq.every x place j e in absurd cc
    every (Some m) (Some n) cp cq x place (inr j) e = ap (λ (z : ℕ). Some z) (same m n cp cq) ∙ cq.every x place j e

    some : (p q : Option ℕ) → IsClassOf v a p → IsClassOf v b q → (place : ℕ) → option_or p q ≡ Some place → (l : ℕ) × (is_in (members v.groups a ++ members v.groups b) l ≡ true) × (home_in v.records l ≡ Some place)
    some None q cp cq place e = let f = cq.some place e in (f.0, has_merged v.groups a b f.0 ok.apart (inr f.1), f.2)
    some (Some m) q cp cq place e = let f = cp.some place e in (f.0, has_merged v.groups a b f.0 ok.apart (inl f.1), f.2)

pub merged_grouped : (v : Grouped) (a b : ℕ) → IsGrouped v → (Divides (λ x. home_in v.records x) (λ x y. AreJoined v.groups x y) a b → ⊥) → IsGrouped (record { records = v.records; groups = merged_groups v a b })
merged_grouped v a b ok fits =
    record {
      apart = apart_push (kept a b v.groups) (record { home = option_or (joined_class v a) (joined_class v b); loaders = all }) (kept_apart a b v.groups ok.apart) outside;
      homes = homes_push v.records (kept a b v.groups) (record { home = option_or (joined_class v a) (joined_class v b); loaders = all }) (kept_homes v.records a b v.groups ok.homes) (merged_home v a b (joined_class v a) (joined_class v b) ok (class_shared v a (joined_class v a) ok refl) (class_shared v b (joined_class v b) ok refl) fits);
    }
  where
    all : List ℕ
    all = members v.groups a ++ members v.groups b

    neither : (x : ℕ) → list_any (λ g. is_in g.loaders x) (kept a b v.groups) ≡ true → AreJoined v.groups a x ⊎ AreJoined v.groups b x → ⊥
    neither x h (inl j) = kept_unjoined a b a x v.groups ok.apart (clear_first a b) (kept_clear a b v.groups).0 h j
    neither x h (inr j) = kept_unjoined a b b x v.groups ok.apart (clear_second a b) (kept_clear a b v.groups).1 h j

    outside : (x : ℕ) → list_any (λ g. is_in g.loaders x) (kept a b v.groups) ≡ true → is_in all x ≡ false
    outside x h = at (is_in all x) refl
      where
        at : (p : Bool) → is_in all x ≡ p → is_in all x ≡ false
        at true e = absurd (neither x h (merged_has v.groups a b x ok.apart e))
        at false e = e

-- what stands after a group was put in place of two, or was not
pub joined_grouped : {A B : Type 0} (v : Grouped) (a b : ℕ) (joint : Joint) (gs : List Joint) (r : Result A B) → IsGrouped v → (Divides (λ x. home_in v.records x) (λ x y. AreJoined v.groups x y) a b → ⊥) → joint ≡ joint_of v a b → OnOk r (gs ≡ without a b v.groups ++ joint ∷ []) → OnErr r (gs ≡ v.groups) → IsGrouped (record { records = v.records; groups = gs })
joined_grouped v a b joint gs (Ok x) ok fits is done same = rw (done, is) (merged_grouped v a b ok fits)
joined_grouped v a b joint gs (Err e) ok fits is done same = rw same ok

pub joined_joins : {A B : Type 0} (v : Grouped) (a b : ℕ) (joint : Joint) (gs : List Joint) (r : Result A B) → IsGrouped v → joint ≡ joint_of v a b → OnOk r (gs ≡ without a b v.groups ++ joint ∷ []) → OnOk r ((x y : ℕ) → AreJoined gs x y ↔ Joins (λ p q. AreJoined v.groups p q) a b x y)
joined_joins v a b joint gs (Ok x) ok is done = λ x y. rw (done, is) (merged_joined v a b x y ok)
joined_joins v a b joint gs (Err e) ok is done = tt

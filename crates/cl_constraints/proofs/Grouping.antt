-- What the groups of one name say of joined loaders and their homes.
use Rattle.std.proofs.Common.{◌≡◌, ◌≢◌, ◌⊎◌, inl, inr, ℕ, Bool, true, false, ◌==◌, ◌&&◌, ◌||◌, List, [], ◌∷◌, ◌++◌, Option, Some, None, map, refl, sym, ap, ◌↔◌, ◌∙◌, subst, eq-eqb}
use Rattle.std.specs.Bool.{FalseIff}
use Rattle.std.specs.List.{list_any}
use Rattle.std.proofs.lemmas.Bool.{and_from, eqb-true, or_left, or_right}
use Rattle.std.specs.Prelude.{if◌then◌else◌}
use Rattle.cl_constraints.specs.declared.record.Entered.{Entered}
use Rattle.cl_constraints.specs.Records.{home_in}
use Rattle.cl_constraints.specs.Groups.{Joint, Grouped, group_of, has_both, AreJoined, AreApart, HasItsHome, HaveHomes, IsGrouped, home_or, joined_class, IsClassOf, loaders_or, members, with_home}
use Rattle.cl_model.specs.Probes.{is_in}
use Rattle.cl_model.specs.States.{Differs, Divides}
use Rattle.cl_constraints.proofs.Recording.{home_elsewhere, home_here}

-- a loader that is in no group shares none
pub none_shared : (gs : List Joint) (a b : ℕ) → list_any (λ g. is_in g.loaders a) gs ≡ false → has_both gs a b ≡ false
none_shared [] a b h = refl
none_shared (g ∷ gs) a b h = at (is_in g.loaders a) (list_any (λ g. is_in g.loaders a) gs) (none_shared gs a b) h
  where
    at : (x y : Bool) → (y ≡ false → has_both gs a b ≡ false) → (x || y) ≡ false → ((x && is_in g.loaders b) || has_both gs a b) ≡ false
    at true y k h = absurd cc
    at false y k h = k h

-- whether the group that was found has a loader
abbrev pub in_group : Option Joint → ℕ → Bool
in_group None loader = false
in_group (Some g) loader = is_in g.loaders loader

-- two loaders share a group where the one's group has the other
pub shared_found : (gs : List Joint) (a b : ℕ) → AreApart gs → has_both gs a b ≡ in_group (group_of gs a) b
shared_found [] a b h = refl
shared_found (g ∷ gs) a b h = at (is_in g.loaders a) (λ k. none_shared gs a b (h.0 a k)) (shared_found gs a b h.1)
  where
    or_false : (x y : Bool) → y ≡ false → (x || y) ≡ x
    or_false true y k = refl
    or_false false y k = k

    at : (x : Bool) → (x ≡ true → has_both gs a b ≡ false) → has_both gs a b ≡ in_group (group_of gs a) b → ((x && is_in g.loaders b) || has_both gs a b) ≡ in_group (if x then Some g else group_of gs a) b
    at true k ih = or_false (is_in g.loaders b) (has_both gs a b) (k refl)
    at false k ih = ih

-- the group that was found has the loader
pub found_has : (gs : List Joint) (a : ℕ) (g : Joint) → group_of gs a ≡ Some g → is_in g.loaders a ≡ true
found_has [] a g h = absurd cc
found_has (x ∷ gs) a g h = at (is_in x.loaders a) refl (λ k. found_has gs a g k) h
  where
    at : (b : Bool) → is_in x.loaders a ≡ b → (group_of gs a ≡ Some g → is_in g.loaders a ≡ true) → (if b then Some x else group_of gs a) ≡ Some g → is_in g.loaders a ≡ true
    at true k ih h = let e : x ≡ g = cc in subst (λ (y : Joint). is_in y.loaders a ≡ true) e k
    at false k ih h = ih h

-- it has its home
pub found_home : (rs : List Entered) (gs : List Joint) (a : ℕ) (g : Joint) → HaveHomes rs gs → group_of gs a ≡ Some g → HasItsHome rs g
found_home rs [] a g hs h = absurd cc
found_home rs (x ∷ gs) a g hs h = at (is_in x.loaders a) (λ k. found_home rs gs a g hs.1 k) h
  where
    at : (b : Bool) → (group_of gs a ≡ Some g → HasItsHome rs g) → (if b then Some x else group_of gs a) ≡ Some g → HasItsHome rs g
    at true ih h = let e : x ≡ g = cc in subst (λ (y : Joint). HasItsHome rs y) e hs.0
    at false ih h = ih h

-- a loader is among itself alone
pub alone : (a b : ℕ) → is_in (a ∷ []) b ≡ true → a ≡ b
alone a b h = at (a == b) (λ k. eqb-true a b k) h
  where
    at : (x : Bool) → (x ≡ true → a ≡ b) → (x || false) ≡ true → a ≡ b
    at true k h = k refl
    at false k h = absurd cc

pub itself : (a : ℕ) → is_in (a ∷ []) a ≡ true
itself a = rw (eq-eqb a a refl) refl

-- the members of a loader are those that are joined with it
pub members_joined : (gs : List Joint) (a b : ℕ) → AreApart gs → is_in (members gs a) b ≡ true → AreJoined gs a b
members_joined gs a b apart h = at (group_of gs a) refl (shared_found gs a b apart) h
  where
    at : (o : Option Joint) → group_of gs a ≡ o → has_both gs a b ≡ in_group o b → is_in (loaders_or a o) b ≡ true → AreJoined gs a b
    at None e s h = inl (alone a b h)
    at (Some g) e s h = inr (s ∙ h)

pub joined_member : (gs : List Joint) (a b : ℕ) → AreApart gs → AreJoined gs a b → is_in (members gs a) b ≡ true
joined_member gs a b apart h = at (group_of gs a) refl (shared_found gs a b apart) h
  where
    at : (o : Option Joint) → group_of gs a ≡ o → has_both gs a b ≡ in_group o b → AreJoined gs a b → is_in (loaders_or a o) b ≡ true
    at None e s (inl k) = subst (λ (x : ℕ). is_in (a ∷ []) x ≡ true) k (itself a)
    at None e s (inr k) = let z : false ≡ true = sym s ∙ k in absurd cc
    at (Some g) e s (inl k) = subst (λ (x : ℕ). is_in g.loaders x ≡ true) k (found_has gs a g e)
    at (Some g) e s (inr k) = sym s ∙ k

-- the class of a loader is one that something joined with it records
pub class_founded : (v : Grouped) (a p : ℕ) → IsGrouped v → joined_class v a ≡ Some p → (b : ℕ) × AreJoined v.groups a b × (home_in v.records b ≡ Some p)
class_founded v a p ok h = at (group_of v.groups a) refl h
  where
    at : (o : Option Joint) → group_of v.groups a ≡ o → home_or (home_in v.records a) o ≡ Some p → (b : ℕ) × AreJoined v.groups a b × (home_in v.records b ≡ Some p)
    at None e h = (a, inl refl, h)
    at (Some g) e h =
        let found = (found_home v.records v.groups a g ok.homes e).some p h in
        (found.0, inr (shared_found v.groups a found.0 ok.apart ∙ ap (λ (o : Option Joint). in_group o found.0) e ∙ found.1), found.2)

-- and it is what all of them record
pub class_of_joined : (v : Grouped) (a b p : ℕ) → IsGrouped v → AreJoined v.groups a b → home_in v.records b ≡ Some p → joined_class v a ≡ Some p
class_of_joined v a b p ok j h = at (group_of v.groups a) refl (shared_found v.groups a b ok.apart) j
  where
    at : (o : Option Joint) → group_of v.groups a ≡ o → has_both v.groups a b ≡ in_group o b → AreJoined v.groups a b → home_or (home_in v.records a) o ≡ Some p
    at None e s (inl k) = ap (λ (x : ℕ). home_in v.records x) k ∙ h
    at None e s (inr k) = let z : false ≡ true = sym s ∙ k in absurd cc
    at (Some g) e s (inl k) = (found_home v.records v.groups a g ok.homes e).every b p (subst (λ (x : ℕ). is_in g.loaders x ≡ true) k (found_has v.groups a g e)) h
    at (Some g) e s (inr k) = (found_home v.records v.groups a g ok.homes e).every b p (sym s ∙ k) h

pub class_shared : (v : Grouped) (a : ℕ) (class : Option ℕ) → IsGrouped v → class ≡ joined_class v a → IsClassOf v a class
class_shared v a class ok e =
    record {
      every = λ other place j h. e ∙ class_of_joined v a other place ok j h;
      some = λ place h. class_founded v a place ok (sym e ∙ h);
    }

-- what two loaders' classes say of whether joining them would divide records
pub divides_by : (v : Grouped) (a b p q : ℕ) → IsClassOf v a (Some p) → IsClassOf v b (Some q) → p ≢ q → Divides (λ x. home_in v.records x) (λ x y. AreJoined v.groups x y) a b
divides_by v a b p q ca cb ne =
    let one = ca.some p refl in
    let other = cb.some q refl in
    record { one = one.0; place = p; joined = one.1; recorded_there = one.2; differs = record { other = other.0; other_place = q; joined = other.1; recorded_there = other.2; differ = ne } }

pub same_class : (v : Grouped) (a b p q : ℕ) → IsClassOf v a (Some p) → IsClassOf v b (Some q) → Divides (λ x. home_in v.records x) (λ x y. AreJoined v.groups x y) a b → p ≢ q
same_class v a b p q ca cb d e =
    let one : Some p ≡ Some d.place = ca.every d.one d.place d.joined d.recorded_there in
    let other : Some q ≡ Some d.differs.other_place = cb.every d.differs.other d.differs.other_place d.differs.joined d.differs.recorded_there in
    let same : d.place ≡ d.differs.other_place = cc in
    d.differs.differ same

-- the comparison of two loaders' classes tells whether they agree
pub agreeing : (v : Grouped) (a b p q : ℕ) (same : Bool) → same ≡ (p == q) → IsClassOf v a (Some p) → IsClassOf v b (Some q) → FalseIff same (Divides (λ x. home_in v.records x) (λ x y. AreJoined v.groups x y) a b)
agreeing v a b p q true e ca cb = λ d. same_class v a b p q ca cb d (eqb-true p q (sym e))
agreeing v a b p q false e ca cb = divides_by v a b p q ca cb (λ k. let t : (p == q) ≡ true = eq-eqb p q k in let z : false ≡ true = e ∙ t in absurd cc)

-- ---- a record is entered

-- noting a home changes no group's loaders
pub with_home_has : (l h x : ℕ) (g : Joint) → is_in (with_home l h g).loaders x ≡ is_in g.loaders x
with_home_has l h x g = at (is_in g.loaders l)
  where
    at : (b : Bool) → is_in (if b then record g { home = Some h } else g).loaders x ≡ is_in g.loaders x
    at true = refl
    at false = refl

pub homed_any : (l h x : ℕ) (gs : List Joint) → list_any (λ g. is_in g.loaders x) (map (with_home l h) gs) ≡ list_any (λ g. is_in g.loaders x) gs
homed_any l h x [] = refl
homed_any l h x (g ∷ gs) = let e = with_home_has l h x g in let r = homed_any l h x gs in cc

pub homed_shared : (l h a b : ℕ) (gs : List Joint) → has_both (map (with_home l h) gs) a b ≡ has_both gs a b
homed_shared l h a b [] = refl
homed_shared l h a b (g ∷ gs) = let p = with_home_has l h a g in let q = with_home_has l h b g in let r = homed_shared l h a b gs in cc

pub homed_apart : (l h : ℕ) (gs : List Joint) → AreApart gs → AreApart (map (with_home l h) gs)
homed_apart l h [] apart = tt
homed_apart l h (g ∷ gs) apart = (λ x k. homed_any l h x gs ∙ apart.0 x (sym (with_home_has l h x g) ∙ k), homed_apart l h gs apart.1)

pub homed_joined : (l h a b : ℕ) (gs : List Joint) → AreJoined (map (with_home l h) gs) a b ↔ AreJoined gs a b
homed_joined l h a b gs = (
  λ (j : AreJoined (map (with_home l h) gs) a b). elim j as (λ _. AreJoined gs a b) [ inl k ↦ inl k | inr k ↦ inr (sym (homed_shared l h a b gs) ∙ k) ],
  λ (j : AreJoined gs a b). elim j as (λ _. AreJoined (map (with_home l h) gs) a b) [ inl k ↦ inl k | inr k ↦ inr (homed_shared l h a b gs ∙ k) ],
)

-- a record's loader and its home
abbrev pub by_loader : Entered → ℕ
by_loader r = r.loader

abbrev pub its_home : Entered → ℕ
its_home r = r.home

-- the records with one more
abbrev pub entry : ℕ → ℕ → Entered
entry l h = record { loader = l; home = h }

abbrev pub entered : List Entered → ℕ → ℕ → List Entered
entered rs l h = rs ++ entry l h ∷ []

-- what a record is, by its loader
pub home_by : (rs : List Entered) (l h x p : ℕ) → home_in rs l ≡ None → home_in (entered rs l h) x ≡ Some p → ((x ≡ l) × (h ≡ p)) ⊎ ((x ≢ l) × (home_in rs x ≡ Some p))
home_by rs l h x p fresh e = at (x == l) refl
  where
    at : (b : Bool) → (x == l) ≡ b → ((x ≡ l) × (h ≡ p)) ⊎ ((x ≢ l) × (home_in rs x ≡ Some p))
    at true k =
        let same : x ≡ l = eqb-true x l k in
        let here : home_in (entered rs l h) x ≡ Some h = subst (λ (y : ℕ). home_in (entered rs l h) y ≡ Some h) (sym same) (home_here by_loader its_home rs (entry l h) fresh) in
        inl (same, cc)
    at false k =
        let ne : x ≢ l = λ s. (let t : (x == l) ≡ true = eq-eqb x l s in let z : false ≡ true = cc in absurd cc) in
        inr (ne, sym (home_elsewhere by_loader its_home rs (entry l h) x ne) ∙ e)

pub has_home_entered : (rs : List Entered) (l h : ℕ) (g : Joint) → home_in rs l ≡ None → HasItsHome rs g → ((x p : ℕ) → is_in g.loaders l ≡ true → is_in g.loaders x ≡ true → home_in rs x ≡ Some p → p ≡ h) → HasItsHome (entered rs l h) (with_home l h g)
has_home_entered rs l h g fresh old agree = at (is_in g.loaders l) refl
  where
    at : (b : Bool) → is_in g.loaders l ≡ b → HasItsHome (entered rs l h) (if b then record g { home = Some h } else g)
    at true k =
        record {
          every = λ x p i e. elim (home_by rs l h x p fresh e) as (λ _. Some h ≡ Some p) [ inl y ↦ ap (λ (z : ℕ). Some z) y.1 | inr y ↦ ap (λ (z : ℕ). Some z) (sym (agree x p k i y.1)) ];
          some = λ p e. (l, k, home_here by_loader its_home rs (entry l h) fresh ∙ e);
        }
    at false k =
        record {
          every = λ x p i e. elim (home_by rs l h x p fresh e) as (λ _. g.home ≡ Some p) [
            | inl y ↦ (let t : is_in g.loaders l ≡ true = subst (λ (z : ℕ). is_in g.loaders z ≡ true) y.0 i in let z : false ≡ true = sym k ∙ t in absurd cc)
            | inr y ↦ old.every x p i y.1
          ];
          some = λ p e.
              let found = old.some p e in
              let ne : found.0 ≢ l = λ s. (let t : home_in rs l ≡ Some p = subst (λ (z : ℕ). home_in rs z ≡ Some p) s found.2 in let z : None ≡ Some p = sym fresh ∙ t in absurd cc) in
              (found.0, found.1, home_elsewhere by_loader its_home rs (entry l h) found.0 ne ∙ found.2);
        }

pub have_homes_entered : (rs : List Entered) (l h : ℕ) (gs : List Joint) → home_in rs l ≡ None → HaveHomes rs gs → ((x p : ℕ) → has_both gs l x ≡ true → home_in rs x ≡ Some p → p ≡ h) → HaveHomes (entered rs l h) (map (with_home l h) gs)
have_homes_entered rs l h [] fresh old agree = tt
have_homes_entered rs l h (g ∷ gs) fresh old agree = (
  has_home_entered rs l h g fresh old.0 (λ x p i j e. agree x p (or_left (is_in g.loaders l && is_in g.loaders x) (has_both gs l x) (and_from (is_in g.loaders l) (is_in g.loaders x) i j)) e),
  have_homes_entered rs l h gs fresh old.1 (λ x p s e. agree x p (or_right (is_in g.loaders l && is_in g.loaders x) (has_both gs l x) s) e),
)

-- what fits agrees with what is joined
pub fits_agrees : (v : Grouped) (l h : ℕ) → (Differs (λ x. home_in v.records x) (λ x y. AreJoined v.groups x y) l h → ⊥) → (x p : ℕ) → has_both v.groups l x ≡ true → home_in v.records x ≡ Some p → p ≡ h
fits_agrees v l h fits x p s e = at (h == p) refl
  where
    at : (b : Bool) → (h == p) ≡ b → p ≡ h
    at true k = sym (eqb-true h p k)
    at false k = absurd (fits (record { other = x; other_place = p; joined = inr s; recorded_there = e; differ = λ q. (let t : (h == p) ≡ true = eq-eqb h p q in let z : false ≡ true = sym k ∙ t in absurd cc) }))

pub entered_grouped : (v : Grouped) (l h : ℕ) → IsGrouped v → home_in v.records l ≡ None → (Differs (λ x. home_in v.records x) (λ x y. AreJoined v.groups x y) l h → ⊥) → IsGrouped (record { records = entered v.records l h; groups = map (with_home l h) v.groups })
entered_grouped v l h ok fresh fits =
    record {
      apart = homed_apart l h v.groups ok.apart;
      homes = have_homes_entered v.records l h v.groups fresh ok.homes (fits_agrees v l h fits);
    }

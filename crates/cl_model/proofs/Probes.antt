-- A home is the first of the loaders that are asked whose own content has the name, and of those that are probed.
use Rattle.std.proofs.Common.{◌≡◌, ℕ, zero, suc, Bool, true, false, ◌==◌, ◌||◌, if◌then◌else◌, List, [], ◌∷◌, length, Option, Some, None, option_map, refl, sym, ap, subst, ◌∙◌, slice_get}
use Rattle.std.specs.Prelude.{nat_lt, find, option_and_then, flat_map, unwrap_or}
use Rattle.std.specs.Option.{option_or}
use Rattle.std.specs.List.{AllByRecursion}
use Rattle.std.proofs.lemmas.List.Folds.{find-append}
use Rattle.std.proofs.lemmas.Bool.{eqb-true}
use Rattle.std.proofs.lemmas.Cmp.{nat_eq_equiv}
use Rattle.std.proofs.lemmas.Bool.Decides.{nat_tests}
use Rattle.std.proofs.Common.{arith}
use Rattle.cl_classfile.specs.Files.{Name}
use Rattle.cl_model.specs.Homes.{World, WorldLoader, Order, ParentFirst, ChildFirst, own_home, first_home, in_order, home_without_import, decisive, home_by_earlier, home_below, home, is_java, is_loader}
use Rattle.cl_model.specs.Probes.{in_turn, route_at, route_below, route_from, route, is_in, first_places, probes, has_own, EachOnce}
use Rattle.cl_model.proofs.Homes.{first_is_loader}
use Rattle.cl_model.proofs.Derived.{all_both}

-- ---- each at its first place alone

-- none of these is found
abbrev Passed : (ℕ → Bool) → List ℕ → Type 0
Passed hit seen = (n : ℕ) → is_in seen n ≡ true → hit n ≡ false

passed_more : (hit : ℕ → Bool) (seen : List ℕ) (x : ℕ) → Passed hit seen → hit x ≡ false → Passed hit (x ∷ seen)
passed_more hit seen x passed h n k = at (x == n) refl k
  where
    at : (b : Bool) → (x == n) ≡ b → (b || is_in seen n) ≡ true → hit n ≡ false
    at true e k = subst (λ (y : ℕ). hit y ≡ false) (eqb-true x n e) h
    at false e k = passed n k

find_firsts : (hit : ℕ → Bool) (seen xs : List ℕ) → Passed hit seen → find hit (first_places seen xs) ≡ find hit xs
find_firsts hit seen [] passed = refl
find_firsts hit seen (x ∷ xs) passed = at (find_firsts hit seen xs passed) (λ h. find_firsts hit (x ∷ seen) xs (passed_more hit seen x passed h)) (is_in seen x) refl
  where
    met : (hit x ≡ false → find hit (first_places (x ∷ seen) xs) ≡ find hit xs) → (b : Bool) → hit x ≡ b → (if b then Some x else find hit (first_places (x ∷ seen) xs)) ≡ (if b then Some x else find hit xs)
    met ih true h = refl
    met ih false h = ih h

    at : find hit (first_places seen xs) ≡ find hit xs → (hit x ≡ false → find hit (first_places (x ∷ seen) xs) ≡ find hit xs)
        → (b : Bool) → is_in seen x ≡ b → find hit (if b then first_places seen xs else x ∷ first_places (x ∷ seen) xs) ≡ (if hit x then Some x else find hit xs)
    at same more true e = same ∙ ap (λ (b : Bool). if b then Some x else find hit xs) (sym (passed x e))
    at same more false e = met more (hit x) refl

-- ---- the search

turn_finds : (hit : ℕ → Bool) (o : Order) (above own : Option ℕ) (way rest : List ℕ) → above ≡ find hit way → own ≡ find hit rest → in_order o above own ≡ find hit (in_turn o way rest)
turn_finds hit ParentFirst above own way rest e f = rw (e, f) (sym (find-append hit way rest))
turn_finds hit ChildFirst above own way rest e f = rw (e, f) (sym (find-append hit rest way))

first_finds : (hit : ℕ → Bool) (homes : ℕ → Option ℕ) (earlier : ℕ → List ℕ) → ((p : ℕ) → homes p ≡ find hit (earlier p)) → (ps : List ℕ) → first_home homes ps ≡ find hit (flat_map earlier ps)
first_finds hit homes earlier h [] = refl
first_finds hit homes earlier h (p ∷ ps) =
    ap (λ (o : Option ℕ). option_or o (first_home homes ps)) (h p)
    ∙ ap (λ (o : Option ℕ). option_or (find hit (earlier p)) o) (first_finds hit homes earlier h ps)
    ∙ sym (find-append hit (earlier p) (flat_map earlier ps))

at_finds : (w : World) (name : Name) (homes : ℕ → Option ℕ) (routes : ℕ → List ℕ) (n : ℕ) (l : WorldLoader) (d : Option ℕ) → ((m : ℕ) → homes m ≡ find (has_own w name) (routes m))
    → elim d [ Some target ↦ homes target | None ↦ home_without_import w name homes n l ] ≡ find (has_own w name) (elim d [ Some target ↦ routes target | None ↦ in_turn l.order (flat_map routes l.parents) (n ∷ []) ])
at_finds w name homes routes n l (Some target) same = same target
at_finds w name homes routes n l None same =
    turn_finds (has_own w name) l.order (first_home homes l.parents) (own_home w n name) (flat_map routes l.parents) (n ∷ []) (first_finds (has_own w name) homes routes same l.parents) refl

routed_finds : (w : World) (name : Name) (homes : ℕ → Option ℕ) (routes : ℕ → List ℕ) (n : ℕ) (o : Option WorldLoader) → ((m : ℕ) → homes m ≡ find (has_own w name) (routes m))
    → option_and_then (home_by_earlier w name homes n) o ≡ find (has_own w name) (unwrap_or (option_map (route_at name routes n) o) [])
routed_finds w name homes routes n None same = refl
routed_finds w name homes routes n (Some l) same = at_finds w name homes routes n l (decisive l.imports name) same

below_finds : (w : World) (name : Name) (n loader : ℕ) → home_below w name n loader ≡ find (has_own w name) (route_below w.loaders name n loader)
below_finds w name zero loader = refl
below_finds w name (suc n) loader = at (λ m. below_finds w name n m) (loader == n)
  where
    at : ((m : ℕ) → home_below w name n m ≡ find (has_own w name) (route_below w.loaders name n m)) → (b : Bool)
        → (elim b [ true ↦ option_and_then (home_by_earlier w name (home_below w name n) n) (slice_get w.loaders n) | false ↦ home_below w name n loader ])
        ≡ find (has_own w name) (elim b [ true ↦ unwrap_or (option_map (route_at name (route_below w.loaders name n) n) (slice_get w.loaders n)) [] | false ↦ route_below w.loaders name n loader ])
    at same true = routed_finds w name (home_below w name n) (route_below w.loaders name n) n (slice_get w.loaders n) same
    at same false = same loader

pub home_is_on_route : (w : World) (loader : ℕ) (name : Name) → home w loader name ≡ find (has_own w name) (route w.loaders loader name)
home_is_on_route w loader name = at (is_java name)
  where
    first : (b : Bool) → (if b then own_home w 0 name else None) ≡ find (has_own w name) (if b then 0 ∷ [] else [])
    first true = refl
    first false = refl

    at : (b : Bool) → (elim b [ true ↦ if is_loader w loader then own_home w 0 name else None | false ↦ home_below w name (suc loader) loader ])
        ≡ find (has_own w name) (elim b [ true ↦ if is_loader w loader then 0 ∷ [] else [] | false ↦ route_from w.loaders name loader ])
    at true = first (is_loader w loader)
    at false = below_finds w name (suc loader) loader

pub home_is_probed : (w : World) (loader : ℕ) (name : Name) → home w loader name ≡ find (has_own w name) (probes w loader name)
home_is_probed w loader name = home_is_on_route w loader name ∙ sym (find_firsts (has_own w name) [] (route w.loaders loader name) (λ n h. absurd cc))

-- ---- no loader is probed twice

firsts_avoid : (seen xs : List ℕ) (n : ℕ) → is_in seen n ≡ true → is_in (first_places seen xs) n ≡ false
firsts_avoid seen [] n h = refl
firsts_avoid seen (x ∷ xs) n h = at (firsts_avoid seen xs n h) (λ k. firsts_avoid (x ∷ seen) xs n k) (is_in seen x) refl
  where
    other : ((((x == n) || is_in seen n) ≡ true) → is_in (first_places (x ∷ seen) xs) n ≡ false) → (b : Bool) → (x == n) ≡ b → is_in seen x ≡ false → (b || is_in (first_places (x ∷ seen) xs) n) ≡ false
    other ih true e k = absurd (let same : is_in seen x ≡ true = subst (λ (y : ℕ). is_in seen y ≡ true) (sym (eqb-true x n e)) h in cc)
    other ih false e k = ih (subst (λ (b : Bool). (b || is_in seen n) ≡ true) (sym e) h)

    at : is_in (first_places seen xs) n ≡ false → ((((x == n) || is_in seen n) ≡ true) → is_in (first_places (x ∷ seen) xs) n ≡ false)
        → (b : Bool) → is_in seen x ≡ b → is_in (if b then first_places seen xs else x ∷ first_places (x ∷ seen) xs) n ≡ false
    at same ih true e = same
    at same ih false e = other ih (x == n) refl e

firsts_once : (seen xs : List ℕ) → EachOnce (first_places seen xs)
firsts_once seen [] = tt
firsts_once seen (x ∷ xs) = at (firsts_once seen xs) (firsts_once (x ∷ seen) xs) (is_in seen x)
  where
    at : EachOnce (first_places seen xs) → EachOnce (first_places (x ∷ seen) xs) → (b : Bool) → EachOnce (if b then first_places seen xs else x ∷ first_places (x ∷ seen) xs)
    at same more true = same
    at same more false = (firsts_avoid (x ∷ seen) xs x (ap (λ (b : Bool). b || is_in seen x) (nat_eq_equiv.refl x)), more)

pub probed_once : (w : World) (loader : ℕ) (name : Name) → EachOnce (probes w loader name)
probed_once w loader name = firsts_once [] (route w.loaders loader name)

-- ---- what is probed is a loader

abbrev AreLoaders : World → List ℕ → Type 0
AreLoaders w ns = AllByRecursion (λ (n : ℕ). is_loader w n ≡ true) ns

firsts_are : (w : World) (seen xs : List ℕ) → AreLoaders w xs → AreLoaders w (first_places seen xs)
firsts_are w seen [] h = tt
firsts_are w seen (x ∷ xs) h = at (firsts_are w seen xs h.1) (firsts_are w (x ∷ seen) xs h.1) (is_in seen x)
  where
    at : AreLoaders w (first_places seen xs) → AreLoaders w (first_places (x ∷ seen) xs) → (b : Bool) → AreLoaders w (if b then first_places seen xs else x ∷ first_places (x ∷ seen) xs)
    at same more true = same
    at same more false = (h.0, more)

flat_are : {A : Type 0} (w : World) (f : A → List ℕ) (xs : List A) → ((x : A) → AreLoaders w (f x)) → AreLoaders w (flat_map f xs)
flat_are w f [] h = tt
flat_are w f (x ∷ xs) h = all_both (λ (n : ℕ). is_loader w n ≡ true) (f x) (flat_map f xs) (h x) (flat_are w f xs h)

turn_are : (w : World) (o : Order) (above own : List ℕ) → AreLoaders w above → AreLoaders w own → AreLoaders w (in_turn o above own)
turn_are w ParentFirst above own h k = all_both (λ (n : ℕ). is_loader w n ≡ true) above own h k
turn_are w ChildFirst above own h k = all_both (λ (n : ℕ). is_loader w n ≡ true) own above k h

loader_is : {A : Type 0} (xs : List A) (n : ℕ) (x : A) → slice_get xs n ≡ Some x → nat_lt n (length xs) ≡ true
loader_is [] n x h = absurd cc
loader_is (y ∷ ys) zero x h = grind (arith, nat_tests)
loader_is (y ∷ ys) (suc n) x h = let k : nat_lt n (length ys) ≡ true = loader_is ys n x h in grind (arith, nat_tests)

at_are : (w : World) (routes : ℕ → List ℕ) (n : ℕ) (l : WorldLoader) (d : Option ℕ) → ((m : ℕ) → AreLoaders w (routes m)) → is_loader w n ≡ true
    → AreLoaders w (elim d [ Some target ↦ routes target | None ↦ in_turn l.order (flat_map routes l.parents) (n ∷ []) ])
at_are w routes n l (Some target) are own = are target
at_are w routes n l None are own = turn_are w l.order (flat_map routes l.parents) (n ∷ []) (flat_are w routes l.parents are) (own, tt)

routed_are : (w : World) (name : Name) (routes : ℕ → List ℕ) (n : ℕ) (o : Option WorldLoader) → slice_get w.loaders n ≡ o → ((m : ℕ) → AreLoaders w (routes m)) → AreLoaders w (unwrap_or (option_map (route_at name routes n) o) [])
routed_are w name routes n None e are = tt
routed_are w name routes n (Some l) e are = at_are w routes n l (decisive l.imports name) are (loader_is w.loaders n l e)

below_are : (w : World) (name : Name) (n loader : ℕ) → AreLoaders w (route_below w.loaders name n loader)
below_are w name zero loader = tt
below_are w name (suc n) loader = at (λ m. below_are w name n m) (loader == n)
  where
    at : ((m : ℕ) → AreLoaders w (route_below w.loaders name n m)) → (b : Bool)
        → AreLoaders w (elim b [ true ↦ unwrap_or (option_map (route_at name (route_below w.loaders name n) n) (slice_get w.loaders n)) [] | false ↦ route_below w.loaders name n loader ])
    at are true = routed_are w name (route_below w.loaders name n) n (slice_get w.loaders n) refl are
    at are false = are loader

route_are : (w : World) (loader : ℕ) (name : Name) → AreLoaders w (route w.loaders loader name)
route_are w loader name = at (is_java name)
  where
    first : (b : Bool) → is_loader w loader ≡ b → AreLoaders w (if b then 0 ∷ [] else [])
    first true e = (first_is_loader w loader e, tt)
    first false e = tt

    at : (b : Bool) → AreLoaders w (elim b [ true ↦ if is_loader w loader then 0 ∷ [] else [] | false ↦ route_from w.loaders name loader ])
    at true = first (is_loader w loader) refl
    at false = below_are w name (suc loader) loader

pub probes_are_loaders : (w : World) (loader : ℕ) (name : Name) → AllByRecursion (λ (n : ℕ). is_loader w n ≡ true) (probes w loader name)
probes_are_loaders w loader name = firsts_are w [] (route w.loaders loader name) (route_are w loader name)

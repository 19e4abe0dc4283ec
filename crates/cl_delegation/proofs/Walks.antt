-- The walk over the loaders.
use Rattle.std.proofs.Common.{◌≡◌, ◌≢◌, ℕ, zero, suc, ◌<◌, ◌≤◌, ◌==◌, Bool, true, false, not, List, [], ◌∷◌, ◌++◌, length, take, Some, refl, sym, ap, subst, ◌∙◌, arith, slice_get, append-nil}
use Rattle.std.specs.List.{flat_map, AllByRecursion}
use Rattle.std.specs.Prelude.{All}
use Rattle.std.proofs.Math.ListN.{set, get_or}
use Rattle.std.proofs.Math.Seq.{take-suc}
use Rattle.std.proofs.lemmas.Bool.{eqb-true}
use Rattle.std.proofs.lemmas.Bool.Decides.{nat_tests}
use Rattle.std.proofs.lemmas.Grind.{flat_map-append}
use Rattle.std.proofs.lemmas.List.{length-set, get_or-set_other, take_all}
use Rattle.std.proofs.lemmas.List.Elements.{recursion_from_All}
use Rattle.std.proofs.lemmas.List.Sums.{fold-append}
use Rattle.std.proofs.lemmas.Option.{slice_get-get_or, slice_get_within}
use Rattle.cl_classfile.specs.Files.{Name}
use Rattle.cl_model.specs.Probes.{route_from}
use Rattle.cl_config.specs.Views.{Configured}
use Rattle.cl_config.specs.Loaders.{loaders_in}
use Rattle.cl_delegation.specs.Walks.{with_one, added, own, AllIn, AreMarked, AreDone, IsLoaderWalk}
use Rattle.cl_delegation.proofs.Added.{all_stay, all_there, nothing_more}

-- the first so many parents were asked, each by its whole search
pub record IsSoFar (c : Configured) (name : Name) (parents : List ℕ) (i : ℕ) (before route : List ℕ) (seen full : List Bool) : Type 0 where
  pub walk : IsLoaderWalk c name route seen full
  pub way : route ≡ added before (flat_map (route_from (loaders_in c) name) (take i parents))

-- none was asked
pub begins : (c : Configured) (name : Name) (ps route : List ℕ) (seen full : List Bool) → IsLoaderWalk c name route seen full → IsSoFar c name ps 0 route route seen full
begins c name ps route seen full w = record { walk = w; way = refl }

-- one parent more
pub one_more : (c : Configured) (name : Name) (parents : List ℕ) (i : ℕ) (before route new : List ℕ) (seen full more fuller : List Bool) (p : ℕ) → i < length parents → p ≡ get_or parents i 0 → IsSoFar c name parents i before route seen full → IsLoaderWalk c name new more fuller
    → new ≡ added route (route_from (loaders_in c) name p) → IsSoFar c name parents (suc i) before new more fuller
one_more c name parents i before route new seen full more fuller p lt is so walk way = record {
  walk = walk;
  way =
      way ∙ ap (λ (r : List ℕ). added r (routes p)) so.way
      ∙ sym (fold-append with_one before (flat_map routes (take i parents)) (routes p))
      ∙ ap (added before) (sym (extended p is));
}
  where
    routes : ℕ → List ℕ
    routes = route_from (loaders_in c) name

    extended : (q : ℕ) → q ≡ get_or parents i 0 → flat_map routes (take (suc i) parents) ≡ flat_map routes (take i parents) ++ routes q
    extended q e =
        ap (flat_map routes) (take-suc parents i 0 lt) ∙ flat_map-append routes (take i parents) (get_or parents i 0 ∷ [])
        ∙ ap (λ (w : List ℕ). flat_map routes (take i parents) ++ w) (append-nil (routes (get_or parents i 0)) ∙ ap routes (sym e))

-- all parents were asked, and the own content before them or behind
pub all_asked : (c : Configured) (name : Name) (n : ℕ) (parents before first route last : List ℕ) (child : Bool) (i : ℕ) (seen full : List Bool)
    → route_from (loaders_in c) name n ≡ (own child n ++ flat_map (route_from (loaders_in c) name) parents) ++ own (not child) n → length parents ≤ i
    → first ≡ added before (own child n) → IsSoFar c name parents i first route seen full → last ≡ added route (own (not child) n) → last ≡ added before (route_from (loaders_in c) name n)
all_asked c name n parents before first route last child i seen full turn all begun so ends =
    ends
    ∙ ap (λ (r : List ℕ). added r (own (not child) n)) (so.way ∙ ap (λ (ps : List ℕ). added first (flat_map routes ps)) (take_all i parents all) ∙ ap (λ (r : List ℕ). added r (flat_map routes parents)) begun ∙ sym (fold-append with_one before (own child n) (flat_map routes parents)))
    ∙ sym (fold-append with_one before (own child n ++ flat_map routes parents) (own (not child) n))
    ∙ ap (added before) (sym turn)
  where
    routes : ℕ → List ℕ
    routes = route_from (loaders_in c) name

-- what was asked goes on being asked
goes_on : (c : Configured) (name : Name) (route xs new : List ℕ) (full : List Bool) → AreDone c name route full → new ≡ added route xs → AreDone c name new full
goes_on c name route xs new full done is n e = subst (λ (r : List ℕ). AllIn r (route_from (loaders_in c) name n)) (sym is) (all_stay route xs (route_from (loaders_in c) name n) (done n e))

-- one loader was asked
pub asks_on : (c : Configured) (name : Name) (route new : List ℕ) (seen more full fuller : List Bool) (n : ℕ) (wanted : Bool) → IsLoaderWalk c name route seen full → new ≡ added route (own wanted n) → AreMarked new more → length more ≡ length seen → fuller ≡ full
    → IsLoaderWalk c name new more fuller
asks_on c name route new seen more full fuller n wanted w is asked wide same = record {
  wide = wide ∙ w.wide;
  deep = ap length same ∙ w.deep;
  asked = asked;
  done = subst (λ (f : List Bool). AreDone c name new f) (sym same) (goes_on c name route (own wanted n) new full w.done is);
}

-- one loader more is marked
pub closed : (c : Configured) (name : Name) (route : List ℕ) (seen full : List Bool) (n : ℕ) → n < length full → IsLoaderWalk c name route seen full → AllIn route (route_from (loaders_in c) name n) → IsLoaderWalk c name route seen (set full n true)
closed c name route seen full n lt w there = record {
  wide = w.wide;
  deep = length-set full n true ∙ w.deep;
  asked = w.asked;
  done = λ m e. at m (n == m) refl e;
}
  where
    at : (m : ℕ) (b : Bool) → (n == m) ≡ b → slice_get (set full n true) m ≡ Some true → AllIn route (route_from (loaders_in c) name m)
    at m true e h = subst (λ (k : ℕ). AllIn route (route_from (loaders_in c) name k)) (eqb-true n m e) there
    at m false e h =
        let other : m ≢ n = λ k. absurd (grind (arith, nat_tests)) in
        let within : m < length full = omega (arith, slice_get_within (set full n true) m true h, length-set full n true) in
        let left : Some (get_or (set full n true) m true) ≡ Some true = sym (slice_get-get_or (set full n true) m true (omega (arith, within, length-set full n true))) ∙ h in
        w.done m (slice_get-get_or full m true within ∙ ap (λ (b : Bool). Some b) (sym (get_or-set_other full n m true true other)) ∙ left)

-- where a loader is marked its whole search is over
pub over : (c : Configured) (name : Name) (route : List ℕ) (seen full : List Bool) (n : ℕ) (b : Bool) → IsLoaderWalk c name route seen full → n < length c.loaders → b ≡ get_or full n b → b ≡ true → route ≡ added route (route_from (loaders_in c) name n)
over c name route seen full n b w lt is true_is = sym (nothing_more route (route_from (loaders_in c) name n) (w.done n (slice_get-get_or full n b (omega (arith, lt, w.deep)) ∙ ap (λ (c : Bool). Some c) (sym is ∙ true_is))))

-- each parent is earlier
pub parent_below : (n i : ℕ) (ps : List ℕ) → All (λ p. p < n) ps → i < length ps → get_or ps i 0 < n
parent_below n i ps h lt = at i ps (recursion_from_All (λ (p : ℕ). p < n) ps h) lt
  where
    at : (i : ℕ) (ps : List ℕ) → AllByRecursion (λ p. p < n) ps → i < length ps → get_or ps i 0 < n
    at i [] h lt = absurd (omega arith)
    at zero (p ∷ ps) h lt = h.0
    at (suc i) (p ∷ ps) h lt = at i ps h.1 (omega arith)

-- all of a loader's search was asked
pub all_of : (before route way : List ℕ) → route ≡ added before way → AllIn route way
all_of before route way e = subst (λ (r : List ℕ). AllIn r way) (sym e) (all_there before way)

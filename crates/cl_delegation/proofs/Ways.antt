-- One step of the route that a configuration gives.
use Rattle.std.proofs.Common.{◌≡◌, ℕ, zero, suc, ◌<◌, ◌==◌, nat_eq, Bool, true, false, cond, not, List, [], ◌∷◌, ◌++◌, map, length, Option, Some, None, option_map, refl, sym, ap, subst, ◌∙◌, arith, append-nil}
use Rattle.std.specs.Prelude.{find, flat_map, slice_get, All, IfSome, unwrap_or}
use Rattle.std.specs.List.{AllByRecursion}
use Rattle.std.proofs.lemmas.List.Elements.{recursion_from_All}
use Rattle.std.specs.List.{starts_with}
use Rattle.std.proofs.lemmas.Bool.Decides.{nat_tests}
use Rattle.std.proofs.lemmas.Option.{slice_get-map}
use Rattle.cl_classfile.specs.Files.{Name}
use Rattle.cl_model.specs.Homes.{decisive, Import}
use Rattle.cl_model.specs.Homes as homes
use Rattle.cl_config.specs.declared.order.Order.{Order}
use Rattle.cl_config.specs.declared.order.Order.TheVariants.{ParentFirst, ChildFirst}
use Rattle.cl_config.specs.Views.{Configured, Loader}
use Rattle.cl_config.specs.Loaders.{world_order, world_loader, loaders_in}
use Rattle.cl_model.specs.Probes.{in_turn, route_at, route_below, route_from}
use Rattle.cl_delegation.specs.Walks.{is_child_first, own}

here : (n : ℕ) → (n == n) ≡ true
here n = grind (arith, nat_tests)

at_case : (ls : List homes.WorldLoader) (name : Name) (n : ℕ) (b : Bool) → b ≡ true
    → (elim b [ true ↦ unwrap_or (option_map (route_at name (route_below ls name n) n) (slice_get ls n)) [] | false ↦ route_below ls name n n ]) ≡ unwrap_or (option_map (route_at name (route_below ls name n) n) (slice_get ls n)) []
at_case ls name n true e = refl
at_case ls name n false e = absurd cc

-- the route at a place
at_place : (ls : List homes.WorldLoader) (name : Name) (n : ℕ) → route_from ls name n ≡ unwrap_or (option_map (route_at name (route_below ls name n) n) (slice_get ls n)) []
at_place ls name n = at_case ls name n (n == n) (here n)

-- the route at a loader
at_loader : (ls : List homes.WorldLoader) (name : Name) (n : ℕ) (l : homes.WorldLoader) → slice_get ls n ≡ Some l → route_from ls name n ≡ route_at name (route_below ls name n) n l
at_loader ls name n l is = at_place ls name n ∙ ap (λ o. unwrap_or (option_map (route_at name (route_below ls name n) n) o) []) is

-- the routes at earlier loaders do not depend on the later ones
settle : (ls : List homes.WorldLoader) (name : Name) (n p : ℕ) (b : Bool) → p < suc n → (p == n) ≡ b → (p < n → route_below ls name n p ≡ route_from ls name p)
    → (elim b [ true ↦ unwrap_or (option_map (route_at name (route_below ls name n) n) (slice_get ls n)) [] | false ↦ route_below ls name n p ]) ≡ route_from ls name p
settle ls name n p true lt e earlier =
    let same : n ≡ p = grind (arith, nat_tests) in
    subst (λ (k : ℕ). unwrap_or (option_map (route_at name (route_below ls name k) k) (slice_get ls k)) [] ≡ route_from ls name p) (sym same) (sym (at_place ls name p))
settle ls name n p false lt e earlier = let less : p < n = grind (arith, nat_tests) in earlier less

settled : (ls : List homes.WorldLoader) (name : Name) (n p : ℕ) → p < n → route_below ls name n p ≡ route_from ls name p
settled ls name zero p lt = absurd (omega arith)
settled ls name (suc n) p lt = settle ls name n p (p == n) lt refl (λ less. settled ls name n p less)

placed : (f : Loader → homes.WorldLoader) (ls : List Loader) (n : ℕ) (l : Loader) → slice_get ls n ≡ Some l → slice_get (map f ls) n ≡ Some (f l)
placed f ls n l is = slice_get-map f ls n ∙ ap (option_map f) is

decided : (routes : ℕ → List ℕ) (rest : List ℕ) (d : Option ℕ) (t : ℕ) → d ≡ Some t → elim d [ Some target ↦ routes target | None ↦ rest ] ≡ routes t
decided routes rest None t e = absurd cc
decided routes rest (Some u) t e = let same : u ≡ t = cc in ap routes same

not_decided : (routes : ℕ → List ℕ) (rest : List ℕ) (d : Option ℕ) → d ≡ None → elim d [ Some target ↦ routes target | None ↦ rest ] ≡ rest
not_decided routes rest None e = refl
not_decided routes rest (Some u) e = absurd cc

-- an import decides
pub by_import : (c : Configured) (name : Name) (n : ℕ) (l : Loader) (m : Import) → slice_get c.loaders n ≡ Some l → find (λ m. starts_with nat_eq name m.prefix) l.imports ≡ Some m → m.target < n
    → route_from (loaders_in c) name n ≡ route_from (loaders_in c) name m.target
by_import c name n l m is found lt =
    let e : decisive (world_loader l).imports name ≡ Some m.target = ap (option_map (λ (m : Import). m.target)) found in
    at_loader (loaders_in c) name n (world_loader l) (placed world_loader c.loaders n l is) ∙ decided (route_below (loaders_in c) name n) _ (decisive (world_loader l).imports name) m.target e ∙ settled (loaders_in c) name n m.target lt

all_settled : (ls : List homes.WorldLoader) (name : Name) (n : ℕ) (ps : List ℕ) → AllByRecursion (λ p. p < n) ps → flat_map (route_below ls name n) ps ≡ flat_map (route_from ls name) ps
all_settled ls name n [] h = refl
all_settled ls name n (p ∷ ps) h = ap (λ (way : List ℕ). way ++ flat_map (route_below ls name n) ps) (settled ls name n p h.0) ∙ ap (λ (way : List ℕ). route_from ls name p ++ way) (all_settled ls name n ps h.1)

-- no import decides
undecided : (c : Configured) (name : Name) (n : ℕ) (l : Loader) → slice_get c.loaders n ≡ Some l → find (λ m. starts_with nat_eq name m.prefix) l.imports ≡ None → AllByRecursion (λ p. p < n) l.parents
    → route_from (loaders_in c) name n ≡ in_turn (world_order l.order) (flat_map (route_from (loaders_in c) name) l.parents) (n ∷ [])
undecided c name n l is none below =
    let e : decisive (world_loader l).imports name ≡ None = ap (option_map (λ (m : Import). m.target)) none in
    at_loader (loaders_in c) name n (world_loader l) (placed world_loader c.loaders n l is) ∙ not_decided (route_below (loaders_in c) name n) _ (decisive (world_loader l).imports name) e
    ∙ ap (λ (way : List ℕ). in_turn (world_order l.order) way (n ∷ [])) (all_settled (loaders_in c) name n l.parents below)

-- ---- what is found among things of which P holds

pick : {A : Type 0} (P : A → Type 0) (b : Bool) (y x : A) (rest : Option A) → P y → (rest ≡ Some x → P x) → cond b (Some y) rest ≡ Some x → P x
pick P true y x rest here later e = let same : y ≡ x = cc in subst P same here
pick P false y x rest here later e = later e

pub find_in : {A : Type 0} (P : A → Type 0) (p : A → Bool) (xs : List A) (x : A) → AllByRecursion P xs → find p xs ≡ Some x → P x
find_in P p [] x t e = absurd cc
find_in P p (y ∷ ys) x t e = pick P (p y) y x (find p ys) t.0 (λ later. find_in P p ys x t.1 later) e

-- the loader of a decisive import is an earlier one
pub target_below : (n : ℕ) (name : Name) (ms : List Import) (m : Import) → All (λ m. m.target < n) ms → find (λ m. starts_with nat_eq name m.prefix) ms ≡ Some m → m.target < n
target_below n name ms m below found = find_in (λ (m : Import). m.target < n) (λ m. starts_with nat_eq name m.prefix) ms m (recursion_from_All (λ (m : Import). m.target < n) ms below) found

-- ---- the same, of what the readers of a configuration say

loader_in : (ls : List Loader) (n : ℕ) → n < length ls → (l : Loader) × (slice_get ls n ≡ Some l)
loader_in [] n lt = absurd (omega arith)
loader_in (l ∷ ls) zero lt = (l, refl)
loader_in (l ∷ ls) (suc n) lt = loader_in ls n (omega arith)

says : {A : Type 0} (field : Loader → A) (a : A) (o : Option Loader) (l : Loader) → o ≡ Some l → IfSome o (λ l. a ≡ field l) → a ≡ field l
says field a None l e h = absurd cc
says field a (Some m) l e h = let same : m ≡ l = cc in h ∙ ap field same

finds : (name : Name) (ms ns : List Import) (o : Option Import) → ms ≡ ns → find (λ m. starts_with nat_eq name m.prefix) ms ≡ o → find (λ m. starts_with nat_eq name m.prefix) ns ≡ o
finds name ms ns o e h = subst (λ (ks : List Import). find (λ m. starts_with nat_eq name m.prefix) ks ≡ o) e h

pub said_import : (c : Configured) (name : Name) (n : ℕ) (ms : List Import) (m : Import) → n < length c.loaders → IfSome (slice_get c.loaders n) (λ l. ms ≡ l.imports) → find (λ m. starts_with nat_eq name m.prefix) ms ≡ Some m → m.target < n
    → route_from (loaders_in c) name n ≡ route_from (loaders_in c) name m.target
said_import c name n ms m lt imports found below =
    let l = loader_in c.loaders n lt in
    by_import c name n l.0 m l.1 (finds name ms l.0.imports (Some m) (says (λ (l : Loader). l.imports) ms (slice_get c.loaders n) l.0 l.1 imports) found) below

-- no import decides: the parents' searches, and the own content before them or behind
pub said_parents : (c : Configured) (name : Name) (n : ℕ) (ms : List Import) (ps : List ℕ) (child : Bool) → n < length c.loaders → IfSome (slice_get c.loaders n) (λ l. ms ≡ l.imports) → find (λ m. starts_with nat_eq name m.prefix) ms ≡ None
    → IfSome (slice_get c.loaders n) (λ l. ps ≡ l.parents) → All (λ p. p < n) ps → IfSome (slice_get c.loaders n) (λ l. child ≡ is_child_first l.order)
    → route_from (loaders_in c) name n ≡ (own child n ++ flat_map (route_from (loaders_in c) name) ps) ++ own (not child) n
said_parents c name n ms ps child lt imports none parents below order =
    let l = loader_in c.loaders n lt in
    let undecides = finds name ms l.0.imports None (says (λ (l : Loader). l.imports) ms (slice_get c.loaders n) l.0 l.1 imports) none in
    let same : ps ≡ l.0.parents = says (λ (l : Loader). l.parents) ps (slice_get c.loaders n) l.0 l.1 parents in
    let earlier : AllByRecursion (λ p. p < n) l.0.parents = subst (λ (qs : List ℕ). AllByRecursion (λ p. p < n) qs) same (recursion_from_All (λ (p : ℕ). p < n) ps below) in
    undecided c name n l.0 l.1 undecides earlier
    ∙ ap (λ (qs : List ℕ). in_turn (world_order l.0.order) (flat_map (route_from (loaders_in c) name) qs) (n ∷ [])) (sym same)
    ∙ turned l.0.order child (flat_map (route_from (loaders_in c) name) ps) (says (λ (l : Loader). is_child_first l.order) child (slice_get c.loaders n) l.0 l.1 order)
  where
    turned : (o : Order) (b : Bool) (above : List ℕ) → b ≡ is_child_first o → in_turn (world_order o) above (n ∷ []) ≡ (own b n ++ above) ++ own (not b) n
    turned ParentFirst true above e = absurd cc
    turned ParentFirst false above e = refl
    turned ChildFirst true above e = sym (append-nil (n ∷ above))
    turned ChildFirst false above e = absurd cc

-- Each loader of a configuration leads to earlier ones.
use Rattle.std.proofs.Common.{◌≡◌, ℕ, zero, suc, ◌+◌, ◌<◌, Bool, true, false, nat_lt, cond, List, [], ◌∷◌, ◌++◌, length, map, Option, Some, None, Result, Ok, Err, refl, sym, ap, subst, ◌∙◌, arith, append-nil, length-append}
use Rattle.std.specs.Prelude.{All, slice_get}
use Rattle.std.proofs.lemmas.Bool.Decides.{nat_tests}
use Rattle.std.proofs.lemmas.List.Elements.{All-push, All-nil}
use Rattle.cl_config.specs.declared.fault.ConfigFault.{ConfigFault}
use Rattle.cl_config.specs.declared.fault.ConfigFault.TheVariants.{LaterLoader}
use Rattle.cl_config.specs.Steps.{◌>>=◌}
use Rattle.cl_config.specs.Fields.{list_from}
use Rattle.cl_config.specs.Entries.{Entry, EntryImport}
use Rattle.cl_model.specs.Homes.{Import}
use Rattle.cl_config.specs.Views.{Loader, loader_named}
use Rattle.cl_config.specs.Configs.{earlier, earlier_named, parents_of, import_of, imports_of, loader_of, loaders_of, LeadsBelow, AllLeadBelow}

-- two steps that succeed
pub record Bound {A B : Type 0} (r : Result A ConfigFault) (f : A → Result B ConfigFault) (y : B) : Type 0 where
  pub x : A
  pub first : r ≡ Ok x
  pub second : f x ≡ Ok y

bound : {A B : Type 0} (r : Result A ConfigFault) (f : A → Result B ConfigFault) (y : B) → (r >>= f) ≡ Ok y → Bound r f y
bound (Ok x) f y h = record { x = x; first = refl; second = h }
bound (Err e) f y h = absurd cc

earlier_picked : (i q p : ℕ) (b : Bool) → nat_lt q i ≡ b → cond b (Ok q) (Err (LaterLoader i)) ≡ Ok p → p < i
earlier_picked i q p true lt h = let same : q ≡ p = cc in rw (← same) (grind (arith, nat_tests))
earlier_picked i q p false lt h = absurd cc

earlier_below : (i p : ℕ) (place : Option ℕ) → earlier i place ≡ Ok p → p < i
earlier_below i p None h = absurd cc
earlier_below i p (Some q) h = earlier_picked i q p (nat_lt q i) refl h

named_below : (names : List (List ℕ)) (i : ℕ) (name : List ℕ) (p : ℕ) → earlier_named names i name ≡ Ok p → p < i
named_below names i name p h = earlier_below i p (loader_named names name) h

parents_below : (names : List (List ℕ)) (i : ℕ) (front ps : List ℕ) (ns : List (List ℕ)) → All (λ p. p < i) front
    → list_from (λ before. earlier_named names i) front ns ≡ Ok ps → All (λ p. p < i) ps
unfolding list_from
parents_below names i front ps [] below h = let same : front ≡ ps = cc in rw (← same) below
parents_below names i front ps (n ∷ ns) below h =
    let b = bound (earlier_named names i n) _ ps h in
    parents_below names i (front ++ b.x ∷ []) ps ns (All-push (λ (p : ℕ). p < i) front b.x below (named_below names i n b.x b.first)) b.second

import_below : (names : List (List ℕ)) (i : ℕ) (e : EntryImport) (m : Import) → import_of names i e ≡ Ok m → m.target < i
unfolding import_of
import_below names i e m h =
    let b = bound (earlier_named names i e.from) _ m h in
    let same : b.x ≡ m.target = ap (λ (r : Result Import ConfigFault). elim r [ Ok m ↦ m.target | Err f ↦ 0 ]) b.second in
    rw (← same) (named_below names i e.from b.x b.first)

imports_below : (names : List (List ℕ)) (i : ℕ) (front ms : List Import) (es : List EntryImport) → All (λ m. m.target < i) front
    → list_from (λ before. import_of names i) front es ≡ Ok ms → All (λ m. m.target < i) ms
unfolding list_from
imports_below names i front ms [] below h = let same : front ≡ ms = cc in rw (← same) below
imports_below names i front ms (e ∷ es) below h =
    let b = bound (import_of names i e) _ ms h in
    imports_below names i (front ++ b.x ∷ []) ms es (All-push (λ (m : Import). m.target < i) front b.x below (import_below names i e b.x b.first)) b.second

-- a loader that is read leads to earlier ones, and has the name of what it is read from
record IsRead (i : ℕ) (e : Entry) (l : Loader) : Type 0 where
  leads : LeadsBelow i l
  name : l.name ≡ e.name

is_read : (names : List (List ℕ)) (i : ℕ) (e : Entry) (l : Loader) → loader_of names i e ≡ Ok l → IsRead i e l
unfolding loader_of
is_read names i e l h =
    let p = bound (parents_of names i e.parents) _ l h in
    let m = bound (imports_of names i e.imports) _ l p.second in
    let is : record { name = e.name; dir = e.dir; parents = p.x; order = e.order; imports = m.x } ≡ l = cc in
    subst (λ (l : Loader). IsRead i e l) is (record {
      leads = record { parents = parents_below names i [] p.x e.parents (All-nil (λ (p : ℕ). p < i)) p.first; imports = imports_below names i [] m.x e.imports (All-nil (λ (m : Import). m.target < i)) m.first };
      name = refl;
    })

one_more : (i : ℕ) (front : List Loader) (l : Loader) → AllLeadBelow i front → LeadsBelow (i + length front) l → AllLeadBelow i (front ++ l ∷ [])
one_more i [] l below leads = (subst (λ (n : ℕ). LeadsBelow n l) (omega arith) leads, tt)
one_more i (f ∷ front) l below leads = (below.0, one_more (i + 1) front l below.1 (subst (λ (n : ℕ). LeadsBelow n l) (omega arith) leads))

-- what is read is as long as what it is read from, has the same names, and leads to earlier loaders
pub record AreLoaders (front ls : List Loader) (es : List Entry) : Type 0 where
  pub count : length ls ≡ length front + length es
  pub names : map (λ l. l.name) ls ≡ map (λ l. l.name) front ++ map (λ e. e.name) es
  pub below : AllLeadBelow 0 ls

name_behind : (front : List Loader) (l : Loader) (e : Entry) (es : List Entry) → l.name ≡ e.name → map (λ l. l.name) (front ++ l ∷ []) ++ map (λ e. e.name) es ≡ map (λ l. l.name) front ++ map (λ e. e.name) (e ∷ es)
name_behind [] l e es same = ap (λ (n : List ℕ). n ∷ map (λ (e : Entry). e.name) es) same
name_behind (f ∷ front) l e es same = ap (λ (ns : List (List ℕ)). f.name ∷ ns) (name_behind front l e es same)

all_below : (names : List (List ℕ)) (front ls : List Loader) (es : List Entry) → AllLeadBelow 0 front
    → list_from (λ before. loader_of names (length before)) front es ≡ Ok ls → AreLoaders front ls es
unfolding list_from
all_below names front ls [] below h = let same : front ≡ ls = cc in rw (← same) (record { count = omega arith; names = sym (append-nil (map (λ (l : Loader). l.name) front)); below = below })
all_below names front ls (e ∷ es) below h =
    let b = bound (loader_of names (length front) e) _ ls h in
    let read = is_read names (length front) e b.x b.first in
    let leads : LeadsBelow (0 + length front) b.x = subst (λ (n : ℕ). LeadsBelow n b.x) (omega arith) read.leads in
    let more = all_below names (front ++ b.x ∷ []) ls es (one_more 0 front b.x below leads) b.second in
    record { count = omega (arith, more.count, length-append {A = Loader}); names = more.names ∙ name_behind front b.x e es read.name; below = more.below }

pub are_loaders : (entries : List Entry) (ls : List Loader) → loaders_of entries ≡ Ok ls → AreLoaders [] ls entries
are_loaders entries ls h = all_below (map (λ (e : Entry). e.name) entries) [] ls entries tt h

-- the loader at a place leads below it
pub below_at : (i n : ℕ) (ls : List Loader) (l : Loader) → AllLeadBelow i ls → slice_get ls n ≡ Some l → LeadsBelow (i + n) l
below_at i n [] l below h = absurd cc
below_at i zero (f ∷ ls) l below h = let same : f ≡ l = cc in rw (← same) (subst (λ (k : ℕ). LeadsBelow k f) (omega arith) below.0)
below_at i (suc n) (f ∷ ls) l below h = subst (λ (k : ℕ). LeadsBelow k l) (omega arith) (below_at (i + 1) n ls l below.1 h)

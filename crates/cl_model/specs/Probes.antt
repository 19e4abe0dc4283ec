-- The search for a name as a list of loaders: those that are asked, and each of them once (JVMS SE 8, 5.3.2).
use Rattle.std.specs.Prelude.{ℕ, zero, suc, Bool, true, false, ◌==◌, nat_lt, if◌then◌else◌, List, [], ◌∷◌, ◌++◌, length, Some, None, is_some, slice_get, flat_map, option_map, unwrap_or}
use Rattle.std.specs.List.{list_any}
use Rattle.cl_classfile.specs.Files.{Name}
use Rattle.cl_model.specs.Content.{content_at}
use Rattle.cl_model.specs.Once.{firsts, NoneTwice}
use Rattle.cl_model.specs.Homes.{World, WorldLoader, Order, ParentFirst, ChildFirst, decisive, is_java}

-- the loaders above and the loader itself, in its order (own choice of delegation, 5.3.2)
abbrev pub in_turn : Order → List ℕ → List ℕ → List ℕ
in_turn ParentFirst above own = above ++ own
in_turn ChildFirst above own = own ++ above

-- what is asked at one loader, by what is asked at earlier ones: for a name that an import decides what its target
-- asks, otherwise what the loaders above ask, and the loader itself (5.3.2)
abbrev pub route_at : Name → (ℕ → List ℕ) → ℕ → WorldLoader → List ℕ
route_at name earlier loader l = elim (decisive l.imports name) [
  | Some target ↦ earlier target
  | None ↦ in_turn l.order (flat_map earlier l.parents) (loader ∷ [])
]

-- the loaders that are asked at one of the first so many, none where there is no such loader (5.3.2)
abbrev pub route_below : List WorldLoader → Name → ℕ → ℕ → List ℕ
route_below ls name zero loader = []
route_below ls name (suc n) loader = elim (loader == n) [
  | true ↦ unwrap_or (option_map (route_at name (route_below ls name n) n) (slice_get ls n)) []
  | false ↦ route_below ls name n loader
]

-- the loaders that are asked for a name that is none of the platform's (5.3.2)
abbrev pub route_from : List WorldLoader → Name → ℕ → List ℕ
route_from ls name loader = route_below ls name (suc loader) loader

-- the loaders whose own content is asked for a name where this one is, in order, while each lacks it: of a `java/` name
-- the first loader alone (5.3.1, 5.3.2)
abbrev pub route : List WorldLoader → ℕ → Name → List ℕ
route ls loader name = elim (is_java name) [
  | true ↦ if nat_lt loader (length ls) then 0 ∷ [] else []
  | false ↦ route_from ls name loader
]

-- a number is one of these
abbrev pub is_in : List ℕ → ℕ → Bool
is_in ns n = list_any (λ m. m == n) ns

-- each number at its first place alone, after those that were seen
abbrev pub first_places : List ℕ → List ℕ → List ℕ
first_places seen ns = firsts (λ n. n) is_in seen ns

-- the loaders whose own content is probed where this one is asked for the name, in order and each once (5.3.1, 5.3.2)
abbrev pub probes : World → ℕ → Name → List ℕ
probes w loader name = first_places [] (route w.loaders loader name)

-- a loader's own content has the name (5.3.2)
abbrev pub has_own : World → Name → ℕ → Bool
has_own w name loader = is_some (content_at w.content loader name)

-- no number stands twice
abbrev pub EachOnce : List ℕ → Type 0
EachOnce ns = NoneTwice is_in ns

-- Loaders, what each has of its own, and the search for a name (JVMS SE 8, 5.3.2).
use Rattle.std.specs.Prelude.{ℕ, zero, suc, Bool, true, false, ◌==◌, nat_eq, nat_lt, if◌then◌else◌, List, [], ◌∷◌, length, codes, Option, Some, None, Result, is_some, slice_get, find, option_map, option_and_then}
use Rattle.std.specs.Option.{option_or}
use Rattle.std.specs.List.{starts_with}
use Rattle.cl_model.specs.Content.{Content, content_at}
use Rattle.cl_classfile.specs.Files.{Name, File, FileFault}

-- whether the loaders above are asked before a loader's own content (own choice: 5.3.2 leaves it to the loader)
pub data Order : Type 0 where
  ParentFirst : Order
  ChildFirst : Order

-- of names that begin with this prefix the search of that loader alone is made (own choice of
-- delegation, 5.3.2)
pub record Import : Type 0 where
  pub prefix : Name
  pub target : ℕ

-- a loader: whom it asks, when, and what it takes from where (5.3)
pub record WorldLoader : Type 0 where
  pub parents : List ℕ
  pub order : Order
  pub imports : List Import

-- what is given: the loaders, the first of which is numbered 0, their contents, and what bytes spell (5.3)
pub record World : Type 0 where
  pub loaders : List WorldLoader
  pub content : Content
  pub read : List ℕ → Result File FileFault

-- `java/`, with which names of the platform begin (own choice, 5.3.1)
abbrev pub java_prefix : Name
java_prefix = codes "java/"

-- names of the platform, which the first loader alone answers (own choice, 5.3.1)
abbrev pub is_java : Name → Bool
is_java name = starts_with nat_eq name java_prefix

-- a loader's number (loaders are numbered from 0)
abbrev pub is_loader : World → ℕ → Bool
is_loader w loader = nat_lt loader (length w.loaders)

-- the loader itself, where its own content has the name (5.3.1, 5.3.2)
abbrev pub own_home : World → ℕ → Name → Option ℕ
own_home w loader name = if is_some (content_at w.content loader name) then Some loader else None

-- where the first import whose prefix begins the name leads (own choice of delegation, 5.3.2)
abbrev pub decisive : List Import → Name → Option ℕ
decisive imports name = option_map (λ i. i.target)
    (find (λ i. starts_with nat_eq name i.prefix) imports)

-- the first of these loaders' homes (own choice of delegation, 5.3.2)
abbrev pub first_home : (ℕ → Option ℕ) → List ℕ → Option ℕ
first_home earlier [] = None
first_home earlier (p ∷ ps) = option_or (earlier p) (first_home earlier ps)

-- only absence leads on: bytes of any kind are the answer (own choice of delegation, 5.3.2)
abbrev pub in_order : Order → Option ℕ → Option ℕ → Option ℕ
in_order ParentFirst above own = option_or above own
in_order ChildFirst above own = option_or own above

-- without a decisive import: the loaders above and the own content, in order (5.3.2)
abbrev pub home_without_import : World → Name → (ℕ → Option ℕ) → ℕ → WorldLoader → Option ℕ
home_without_import w name earlier loader l = in_order l.order (first_home earlier l.parents)
    (own_home w loader name)

-- the home at one loader, by those at earlier ones (5.3.2)
abbrev pub home_by_earlier : World → Name → (ℕ → Option ℕ) → ℕ → WorldLoader → Option ℕ
home_by_earlier w name earlier loader l =
    elim (decisive l.imports name) [
      | Some target ↦ earlier target
      | None ↦ home_without_import w name earlier loader l
    ]

-- the homes at the first so many loaders (5.3.1, 5.3.2)
abbrev pub home_below : World → Name → ℕ → ℕ → Option ℕ
home_below w name zero loader = None
home_below w name (suc n) loader =
    elim (loader == n) [
      | true ↦ option_and_then (home_by_earlier w name (home_below w name n) n)
          (slice_get w.loaders n)
      | false ↦ home_below w name n loader
    ]

-- the loader whose own content answers where this one is asked for the name: of a `java/` name the first loader alone (5.3.1, 5.3.2)
abbrev pub home : World → ℕ → Name → Option ℕ
home w loader name =
    elim (is_java name) [
      | true ↦ if is_loader w loader then own_home w 0 name else None
      | false ↦ home_below w name (suc loader) loader
    ]

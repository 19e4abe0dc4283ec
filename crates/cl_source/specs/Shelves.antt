-- The contents of several loaders, each a list of names with their bytes, and how a content grows
-- (JVMS SE 8, 5.3).
use Rattle.std.specs.Prelude.{
  ◌≡◌,
  ℕ,
  ◌+◌,
  bytes_eq,
  List,
  [],
  ◌∷◌,
  ◌++◌,
  map,
  Option,
}
use Rattle.std.specs.Map.{lookup}
use Rattle.cl_model.specs.Content.{Stored, Content}

-- names with their bytes (5.3)
abbrev pub Shelved : Type 0
Shelved = List (List ℕ × List ℕ)

-- the bytes of a name on one shelf (5.3)
abbrev pub bytes_in : Shelved → List ℕ → Option (List ℕ)
bytes_in shelf name = lookup (λ key. bytes_eq key name) shelf

-- what a shelf of this loader tells (5.3)
abbrev pub content_of_shelf : ℕ → Shelved → Content
content_of_shelf loader shelf = map (λ e. record { loader = loader; name = e.0; bytes = e.1 }) shelf

-- what shelves tell, the first of this loader and each other of the next (5.3)
abbrev pub content_from : ℕ → List Shelved → Content
content_from loader [] = []
content_from loader (shelf ∷ shelves) =
    content_of_shelf loader shelf ++ content_from (loader + 1) shelves

-- one entry more, somewhere
pub record Inserts (old new : Content) (entry : Stored) : Type 0 where
  pub front : Content
  pub back : Content
  pub was : old ≡ front ++ back
  pub is : new ≡ front ++ entry ∷ back

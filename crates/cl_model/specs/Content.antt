-- What a source tells: the bytes that each loader's own content has for a name (JVMS SE 8, 5.3.2).
use Rattle.std.specs.Prelude.{◌≡◌, ◌⊎◌, ℕ, List, [], ◌∷◌, Option, Some, None, ◌&&◌, ◌==◌, nat_eq, if◌then◌else◌}
use Rattle.std.specs.Cmp.Lexicographic.{pointwise}

-- the bytes that a loader's own content has for a name (5.3)
pub record Stored : Type 0 where
  pub loader : ℕ
  pub name : List ℕ
  pub bytes : List ℕ

-- a finite map from loader and name to bytes: of several entries for one loader and name the first counts (5.3)
abbrev pub Content : Type 0
Content = List Stored

-- the bytes of a loader and name; what is absent is not in the map (5.3.1, 5.3.2)
abbrev pub content_at : Content → ℕ → List ℕ → Option (List ℕ)
content_at [] loader name = None
content_at (e ∷ es) loader name = if (e.loader == loader)
    && pointwise nat_eq e.name name then Some e.bytes else content_at es loader name

-- a naming tells just this content, or none
abbrev pub TellsContent : Option Content → Content → Type 0
TellsContent told content = (told ≡ None) ⊎ (told ≡ Some content)

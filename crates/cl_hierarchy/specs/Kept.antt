-- What a path keeps of its fields (JVMS SE 8, 5.3.5, steps 3 and 4).
use Rattle.std.specs.Prelude.{
  ◌≡◌,
  ℕ,
  ◌-◌,
  List,
  [],
  ◌∷◌,
  ◌++◌,
  length,
  map,
  Option,
  option_map,
  option_and_then,
  slice_get,
}
use Rattle.cl_model.specs.declared.class.Class.{Class}
use Rattle.cl_model.specs.Content.{Content}
use Rattle.cl_model.specs.Classes.{Above}
use Rattle.cl_model.specs.Frames.{wanted_supertype}
use Rattle.cl_config.specs.Views.{Configured}
use Rattle.cl_hierarchy.specs.Frames.{Framed, frame_of, with_definer}
use Rattle.cl_hierarchy.specs.Paths.{Pathed, IsPath, at_name}

-- what the request loads: the name of the first class, or what is looked for, while none is being
-- derived (5.3.5)
abbrev pub first_name : List Framed → List ℕ → List ℕ
first_name [] at = at
first_name (x ∷ xs) at = x.draft.class.name

-- the frames of a table
abbrev pub frames_in : List (Class × Framed) → List Framed
frames_in es = map (λ e. e.1) es

-- the path that these fields are: the table has each frame under its class
abbrev pub kept_path : Configured → ℕ → List ℕ → List (Class × Framed) → Pathed
kept_path c loader at es =
    record
    { config = c; loader = loader; name = first_name (frames_in es) at; frames = frames_in es }

-- each frame stands under its class, and the name that is looked for is at hand
pub record KeepsPath (told : Option Content) (c : Configured) (loader : ℕ) (at : List ℕ)
    (es : List (Class × Framed)) : Type 0 where
  pub path : IsPath told (kept_path c loader at es)
  pub keys : map (λ e. e.0) es ≡ map (λ e. e.1.draft.class) es
  pub at_name : at ≡ at_name (kept_path c loader at es)

-- the supertype that the last of these frames wants, if there is one and it wants any
-- (5.3.5, steps 3 and 4)
abbrev pub last_wants : List (Class × Framed) → Option Above
last_wants es =
    option_and_then (λ e. wanted_supertype (frame_of e.1)) (slice_get es (length es - 1))

-- the name of the supertype that is wanted next, once one that this loader defined is accepted
-- (5.3.5, steps 3 and 4)
abbrev pub name_after : Framed → ℕ → Option (List ℕ)
name_after x definer = option_map (λ a. a.name) (wanted_supertype (frame_of (with_definer x definer)))

-- the last of these frames accepted a supertype that this loader defined, and wants the next of
-- this name, if any is left (5.3.5, steps 3 and 4)
pub record LastAccepts (old new : List (Class × Framed)) (definer : ℕ) (next : Option (List ℕ))
    : Type 0 where
  pub before : List (Class × Framed)
  pub key : Class
  pub last : Framed
  pub split : old ≡ before ++ (key, last) ∷ []
  pub now : new ≡ before ++ (key, with_definer last definer) ∷ []
  pub wants : next ≡ name_after last definer

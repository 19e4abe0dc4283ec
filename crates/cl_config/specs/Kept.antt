-- What a configuration keeps beside its loaders.
use Rattle.std.specs.Prelude.{◌≡◌, ℕ, List}
use Rattle.cl_config.specs.Views.{Configured, names_of}
use Rattle.cl_config.specs.Configs.{IsConfig}
use Rattle.cl_config.specs.Flat.{flat_of}

-- the loaders' names and the one text of all that is said of them are at hand
pub record IsAtHand (c : Configured) (called : List (List ℕ)) (text : List ℕ) : Type 0 where
  pub config : IsConfig c
  pub names : called ≡ names_of c
  pub flat : text ≡ flat_of c

-- The keys of a table beside the members that it stands for.
use Rattle.std.proofs.Common.{◌≡◌, ℕ, Bool, ◌&&◌, List, [], ◌∷◌, refl, ap, string_bytes}
use Rattle.std.specs.List.{list_all}
use Rattle.std.specs.Map.{keys_of}
use Rattle.toml.specs.View.{members_view}
use Rattle.toml.proofs.Views.{Entry}
use Rattle.cl_config.specs.Fields.{has_only}

pub keys_are : (known : List ℕ → Bool) (es : List Entry) → list_all (λ k. known (string_bytes k)) (keys_of es) ≡ has_only known (members_view es)
keys_are known [] = refl
keys_are known (e ∷ es) = ap (λ b. known (string_bytes e.0) && b) (keys_are known es)

use Rattle.std.proofs.Common.{◌≡◌, ℕ, List, nat_eq, string_bytes}
use Rattle.std.specs.List.{list_any, list_all}
use Rattle.std.specs.Cmp.Lexicographic.{pointwise}
use Rattle.toml.specs.View.{table_view}
use Rattle.cl_config.specs.Fields.{has_only}
use Rattle.cl_config.proofs.fields.has_only.Given as goal

-- the keys that are left decide
abbrev pub invariant-loop-key : goal.invariant-loop-key
invariant-loop-key l =
    let known = λ (key : List ℕ). list_any (λ k. pointwise nat_eq key k.now) l.known in
    list_all (λ k. known (string_bytes k)) l.key-iterator ≡ has_only known (table_view l.table)

use Rattle.std.proofs.Common.{◌≡◌, ℕ, List, nat_eq, rules}
use Rattle.std.specs.List.{list_any}
use Rattle.std.specs.Cmp.Lexicographic.{pointwise}
use Rattle.std.specs.Map.{keys_of}
use Rattle.cl_config.proofs.Keys.{keys_are}
use Rattle.cl_config.proofs.fields.has_only.Goals as goal

pub loop-key-init : goal.loop-key-init
loop-key-init c =
    let known = λ (key : List ℕ). list_any (λ k. pointwise nat_eq key k.now) c.args.known.now in
    let all : c.into_iter-key-iterator.result ≡ keys_of c.args.table.now.entries = search rules in
    rw all (keys_are known c.args.table.now.entries)

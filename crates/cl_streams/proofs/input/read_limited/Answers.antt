use Rattle.std.proofs.Common.{◌≡◌, ℕ, ◌+◌, ◌≤◌, List, length, take, Option, Some, None, option_map, ◌∙◌, ap, arith}
use Rattle.std.proofs.lemmas.List.{length-take, take_all}
use Rattle.std.specs.Prelude.{IfSome}
use Rattle.cl_streams.proofs.input.read_limited.Goals as goal

-- fewer bytes than were asked for are all
within : (n : ℕ) (known : Option (List ℕ)) (bytes : List ℕ) → length bytes ≤ n → IfSome (option_map (take (n + 1)) known) (λ xs. bytes ≡ xs) → IfSome known (λ xs. bytes ≡ xs)
within n None bytes small is = tt
within n (Some xs) bytes small is =
    let short : length xs ≤ n = omega (arith, ap length is, length-take {A = ℕ} (n + 1) xs) in
    is ∙ take_all (n + 1) xs (omega arith)

pub returns-in-Ok-2-clause-ok : goal.returns-in-Ok-2-clause-ok
returns-in-Ok-2-clause-ok g c =
    let read = rw (c.take-limited.ensures.limit, c.take-limited.ensures.inner, c.in_ok-bytes.ensures.items) at c.in-Ok.ensures.bytes in
    let small : length c.read_to_end.new.buf.items ≤ c.args.most = omega arith in
    within c.args.most (g.I.Read.remaining c.args.input) c.read_to_end.new.buf.items small read

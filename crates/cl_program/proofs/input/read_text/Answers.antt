use Rattle.std.proofs.Common.{◌≤◌, length, arith}
use Rattle.std.proofs.lemmas.Str.{IsUtf8-string_bytes}
use Rattle.cl_program.specs.declared.limits.TheConstants.{MOST_INPUT_BYTES}
use Rattle.cl_program.proofs.input.read_text.Goals as goal

pub returns-in-Ok-clause-ok : goal.returns-in-Ok-clause-ok
returns-in-Ok-clause-ok g c =
    let small : length c.in_ok-bytes.bytes.items ≤ MOST_INPUT_BYTES = omega (arith, c.in_ok-bytes.ensures.small) in
    record { read = rw c.in-Ok.ensures.ok c.in_ok-bytes.ensures.ok; small = rw c.in-Ok.ensures.ok small; utf8 = IsUtf8-string_bytes c.in-Ok.text }

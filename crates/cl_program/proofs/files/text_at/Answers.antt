use Rattle.std.proofs.lemmas.Str.{IsUtf8-string_bytes}
use Rattle.cl_program.proofs.files.text_at.Goals as goal

pub returns-in-Ok-clause-ok : goal.returns-in-Ok-clause-ok
returns-in-Ok-clause-ok g c = record { content = rw c.in-Ok.ensures.ok c.in_ok-bytes.ensures.ok; utf8 = IsUtf8-string_bytes c.in-Ok.text }

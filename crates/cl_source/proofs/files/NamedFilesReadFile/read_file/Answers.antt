use Rattle.std.proofs.Common.{◌≡◌, ℕ, Option, Result, Ok, Err, IsErrAnd}
use Rattle.std.specs.Prelude.{⊤, Vec}
use Rattle.std.specs.declared.alloc.Global.{Global}
use Rattle.cl_source.specs.Seen.{FileOf, file_seen}
use Rattle.cl_source.proofs.Limits.{host_fails}
use Rattle.cl_streams.specs.declared.input.InputFault.{InputFault}
use Rattle.cl_source.proofs.files.NamedFilesReadFile.read_file.Goals as goal

host_failed : (most : ℕ) (r : Result (Option (Vec ℕ Global)) InputFault) (fault : InputFault) → IsErrAnd r (λ e. e ≡ fault) → FileOf (λ seen. ⊤) most (file_seen r)
host_failed most (Ok x) fault is = absurd is
host_failed most (Err e) fault is = host_fails most e

pub returns-in_err-read_bytes-in-Ok : goal.returns-in_err-read_bytes-in-Ok
returns-in_err-read_bytes-in-Ok c = host_failed c.args.most c.from_residual.result c.in_err-read_bytes-in-Ok.field-0.0 c.from_residual.ensures.1

pub returns-in-Err : goal.returns-in-Err
returns-in-Err c = c.answer_of.ensures c.args.most

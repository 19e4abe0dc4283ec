-- What a host may answer.
use Rattle.std.proofs.Common.{ℕ, ◌+◌, replicate, Err, arith}
use Rattle.std.proofs.lemmas.List.{length-replicate}
use Rattle.std.specs.Prelude.{⊤}
use Rattle.cl_streams.specs.declared.input.InputFault.{InputFault}
use Rattle.cl_streams.specs.declared.input.InputFault.TheVariants.{Unread, TooLarge, Memory}
use Rattle.cl_source.specs.Seen.{FileOf}

-- of a host nothing is known, so each fault may be
pub host_fails : (most : ℕ) (e : InputFault) → FileOf (λ seen. ⊤) most (Err e)
host_fails most Unread = tt
host_fails most Memory = tt
host_fails most TooLarge = record { bytes = replicate {A = ℕ} (most + 1) 0; given = tt; large = omega (arith, length-replicate {A = ℕ} (most + 1) 0) }

use Rattle.std.proofs.Common.{Some}
use Rattle.cl_program.proofs.bundles.serve.Given as goal

abbrev pub ghosts-serve_told : goal.ghosts-serve_told
ghosts-serve_told g a = record { told = Some a.source }

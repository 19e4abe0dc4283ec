use Rattle.std.proofs.Common.{◌≡◌, map, take, string_bytes}
use Rattle.cl_config.proofs.config.dirs_of.Given as goal

abbrev pub invariant-loop-loader : goal.invariant-loop-loader
invariant-loop-loader l = map string_bytes l.dirs.items ≡ map (λ m. m.dir) (take l.loader-index l.loaders)

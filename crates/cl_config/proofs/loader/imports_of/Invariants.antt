use Rattle.cl_config.specs.Configs.{import_of, imports_of}
use Rattle.cl_config.proofs.Each.{IsSoFar}
use Rattle.cl_config.proofs.loader.imports_of.Given as goal

abbrev pub invariant-loop-import : goal.invariant-loop-import
invariant-loop-import l = IsSoFar (λ before. import_of l.names l.i) l.items.items l.import-index l.imports (imports_of l.names l.i l.imports)

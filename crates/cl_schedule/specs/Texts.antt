-- The texts of faults of serving.
use Rattle.std.specs.Prelude.{List, ℕ, codes}
use Rattle.cl_schedule.specs.declared.serve.ServeFault.{ServeFault}
use Rattle.cl_schedule.specs.declared.serve.ServeFault.TheVariants.{Memory, Stray}

-- the text of why a script was not served
abbrev pub serve_text : ServeFault → List ℕ
serve_text Memory = codes "Z0 Memory"
serve_text Stray = codes "Z1 Stray"

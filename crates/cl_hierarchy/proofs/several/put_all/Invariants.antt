use Rattle.std.proofs.Common.{map, take}
use Rattle.cl_hierarchy.specs.Several.{Gains}
use Rattle.cl_hierarchy.proofs.several.put_all.Given as goal

abbrev pub invariant-loop-row : goal.invariant-loop-row
invariant-loop-row g l = Gains l.fn.classes.keys (map (λ r. r.value.class) (take l.row-index l.rows)) l.classes.keys

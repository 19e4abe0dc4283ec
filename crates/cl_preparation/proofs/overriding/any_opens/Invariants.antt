use Rattle.std.proofs.Common.{◌≡◌, false, map, take}
use Rattle.std.specs.List.{list_any}
use Rattle.cl_classfile.specs.Files.{method_of}
use Rattle.cl_preparation.specs.Relatives.{holds_of_key, bare}
use Rattle.cl_preparation.specs.Walks.{opens_to}
use Rattle.cl_preparation.proofs.overriding.any_opens.Given as goal

abbrev pub invariant-loop-row : goal.invariant-loop-row
invariant-loop-row g l =
    list_any (λ b. holds_of_key (method_of l.name l.descriptor) (λ key. opens_to key (bare l.above) (bare b))) (map (λ r. r.value) (take l.row-index l.between)) ≡ false

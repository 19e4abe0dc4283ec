use Rattle.std.proofs.Common.{◌≡◌, length, true}
use Rattle.cl_names.proofs.Levels.{parts_from}
use Rattle.cl_names.proofs.kind.has_class_form.Given as goal

abbrev pub invariant-loop-byte : goal.invariant-loop-byte
invariant-loop-byte l = parts_from l.fresh l.rest ≡ parts_from true l.text

abbrev pub decreases-loop-byte : goal.decreases-loop-byte
decreases-loop-byte l = length l.rest

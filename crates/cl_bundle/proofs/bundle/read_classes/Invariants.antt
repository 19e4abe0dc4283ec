use Rattle.std.proofs.Common.{map}
use Rattle.cl_config.specs.Views.{names_of}
use Rattle.cl_bundle.specs.Cuts.{cut_part}
use Rattle.cl_bundle.proofs.Storing.{IsStored}
use Rattle.cl_bundle.proofs.bundle.read_classes.Given as goal

abbrev pub invariant-loop-section : goal.invariant-loop-section
invariant-loop-section l = IsStored (names_of l.config) (map cut_part l.fn.classes.items) (map cut_part l.section-iterator.rest.items) l.source

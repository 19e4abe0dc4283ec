use Rattle.cl_classfile.proofs.Sharing.{AreBefore}
use Rattle.cl_classfile.proofs.raw.shared_of.Given as goal

abbrev pub invariant-loop-entry : goal.invariant-loop-entry
invariant-loop-entry l = AreBefore l.texts.items l.pool l.entry-index

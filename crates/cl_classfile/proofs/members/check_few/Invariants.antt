use Rattle.cl_classfile.specs.Checking.{keeps_member}
use Rattle.cl_classfile.proofs.MemberRows.{AreLookedAt}
use Rattle.cl_classfile.proofs.members.check_few.Given as goal

abbrev pub invariant-loop-i : goal.invariant-loop-i
invariant-loop-i l = AreLookedAt (keeps_member l.kind l.traits l.owner) l.pool l.members l.i

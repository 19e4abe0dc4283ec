use Rattle.std.proofs.Common.{List, take}
use Rattle.cl_classfile.specs.declared.entry.Entry.{Entry}
use Rattle.cl_classfile.specs.Checking.{keeps_member}
use Rattle.cl_classfile.specs.Indexes.{StandTo, has_place}
use Rattle.cl_classfile.specs.Numbers.{AreNoted, number_of}
use Rattle.cl_classfile.specs.Seen.{HasPairs}
use Rattle.cl_classfile.proofs.MemberRows.{AreLookedAt}
use Rattle.cl_classfile.proofs.members.check_members.Given as goal

abbrev pub invariant-loop-i : goal.invariant-loop-i
invariant-loop-i l =
    ((pool : List Entry) → AreNoted pool l.numbers l.members
    → AreLookedAt (keeps_member l.kind l.traits l.owner) pool l.members l.i × HasPairs pool (number_of pool l.numbers) (has_place l.places) (take l.i l.members))
    × StandTo l.numbers l.places l.members l.i

use Rattle.std.proofs.Common.{◌≡◌, length}
use Rattle.cl_classfile.specs.Mentions.{AreMentions, AreMet}
use Rattle.cl_classfile.proofs.mentions.mentions_of.Given as goal

abbrev pub invariant-loop-place : goal.invariant-loop-place
invariant-loop-place l = (length l.firsts.items ≡ l.place) × AreMentions l.pool l.interfaces l.firsts.items × AreMet l.pool l.interfaces l.place l.marks.items

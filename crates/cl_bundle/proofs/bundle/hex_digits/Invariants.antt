use Rattle.std.proofs.Common.{string_bytes}
use Rattle.cl_lines.specs.Lines.{stated_from, stated_lines}
use Rattle.cl_bundle.proofs.Digits.{IsJoined}
use Rattle.cl_bundle.proofs.bundle.hex_digits.Given as goal

abbrev pub invariant-loop-line : goal.invariant-loop-line
invariant-loop-line l = IsJoined (stated_lines l.body) (stated_from l.line-iterator.number l.line-iterator.text) (string_bytes l.digits)

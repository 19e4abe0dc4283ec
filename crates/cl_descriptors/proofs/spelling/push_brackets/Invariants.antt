use Rattle.std.proofs.Common.{◌≡◌, ◌++◌, replicate}
use Rattle.cl_descriptors.proofs.spelling.push_brackets.Given as goal

abbrev pub invariant-loop : goal.invariant-loop
invariant-loop l = l.text.items ≡ l.fn.text.items ++ replicate l.counter 91

use Rattle.cl_config.proofs.Pairs.{IsLeft}
use Rattle.cl_config.proofs.same.are_same.Given as goal

abbrev pub invariant-loop-request : goal.invariant-loop-request
invariant-loop-request l = IsLeft l.requests l.others l.request-iterator.a.rest.now l.request-iterator.b.rest.now

use Rattle.std.proofs.Common.{◌∙◌, sym, arith}
use Rattle.cl_source.proofs.Contents.{at_place, past_places}
use Rattle.cl_source.proofs.memory.find.Goals as goal

pub returns-in_err-get : goal.returns-in_err-get
returns-in_err-get c = rw c.from_residual.ensures (sym (past_places 0 c.from.result c.args.loader c.args.shelves.now c.args.name.now (omega arith) c.in_err-get.ensures.lookup.3))

pub returns : goal.returns
returns c =
    c.find.ensures ∙ sym (at_place 0 c.from.result c.args.loader c.args.shelves.now c.in_ok-get.field-0.now c.args.name.now (omega arith) c.in_ok-get.ensures.lookup.3.0 c.in_ok-get.ensures.lookup.1)

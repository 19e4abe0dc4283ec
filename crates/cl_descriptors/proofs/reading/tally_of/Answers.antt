use Rattle.std.proofs.Common.{◌<◌, List, length, sym, ap, ◌∙◌, arith}
use Rattle.std.specs.Prelude.{sum_by}
use Rattle.std.specs.List.{list_all}
use Rattle.cl_descriptors.specs.Types.{is_shallow}
use Rattle.cl_descriptors.specs.Units.{units_of_field}
use Rattle.cl_descriptors.specs.Pieces.{seen_type}
use Rattle.cl_descriptors.specs.declared.types.FieldType.{FieldType}
use Rattle.cl_descriptors.proofs.Loop.{counted_more, shorter, types-end, after-end}
use Rattle.cl_descriptors.proofs.reading.tally_of.Goals as goal

pub with-tally-requires-clause-room : goal.with-tally-requires-clause-room
with-tally-requires-clause-room c =
    let less : length c.in-Some.after.now < length c.loop-piece.rest.now = shorter c.loop-piece.rest.now (seen_type c.in-Some.piece) c.in-Some.after.now (sym c.in-Some.ensures) in
    omega arith

pub loop-piece-smaller : goal.loop-piece-smaller
loop-piece-smaller c = shorter c.loop-piece.rest.now (seen_type c.in-Some.piece) c.in-Some.after.now (sym c.in-Some.ensures)

pub loop-piece-preserved : goal.loop-piece-preserved
loop-piece-preserved c = counted_more c.args.bytes.now c.loop-piece.rest.now c.in-Some.after.now (seen_type c.in-Some.piece) c.loop-piece.invariant (sym c.in-Some.ensures) c.with-tally.ensures.count c.with-tally.ensures.units c.with-tally.ensures.shallow

pub returns-clause-units : goal.returns-clause-units
returns-clause-units c = c.loop-piece.invariant.units_are ∙ ap (λ (ts : List FieldType). sum_by units_of_field ts) (types-end c.args.bytes.now c.loop-piece.rest.now c.loop-piece.invariant.front c.loop-piece.invariant.passed (sym c.in_default.ensures))

pub returns-clause-shallow : goal.returns-clause-shallow
returns-clause-shallow c = c.loop-piece.invariant.shallow_is ∙ ap (λ (ts : List FieldType). list_all is_shallow ts) (types-end c.args.bytes.now c.loop-piece.rest.now c.loop-piece.invariant.front c.loop-piece.invariant.passed (sym c.in_default.ensures))

pub returns-clause-rest : goal.returns-clause-rest
returns-clause-rest c = after-end c.args.bytes.now c.loop-piece.rest.now c.loop-piece.invariant.front c.loop-piece.invariant.passed (sym c.in_default.ensures)

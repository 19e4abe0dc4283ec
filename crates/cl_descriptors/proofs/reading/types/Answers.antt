use Rattle.std.proofs.Common.{sym}
use Rattle.std.proofs.lemmas.Bool.{leb-true}
use Rattle.cl_descriptors.specs.Pieces.{seen_type}
use Rattle.cl_descriptors.proofs.Fields.{field}
use Rattle.cl_descriptors.proofs.Loop.{goes_on, shorter, next_is_shallow, types-end}
use Rattle.cl_descriptors.specs.declared.limits.TheConstants.{MOST_DIMENSIONS}
use Rattle.cl_descriptors.proofs.reading.types.Goals as goal

pub build-requires-clause-named : goal.build-requires-clause-named
build-requires-clause-named c = (field.takes c.loop-piece.rest.now (seen_type c.in-Some.piece, c.in-Some.after.now) (sym c.in-Some.ensures)).1

pub build-requires-clause-shallow : goal.build-requires-clause-shallow
build-requires-clause-shallow c = leb-true c.in-Some.piece.dims MOST_DIMENSIONS (next_is_shallow c.args.bytes.now c.loop-piece.rest.now c.in-Some.after.now c.loop-piece.types.items (seen_type c.in-Some.piece) c.requires c.loop-piece.invariant (sym c.in-Some.ensures))

pub loop-piece-smaller : goal.loop-piece-smaller
loop-piece-smaller c = shorter c.loop-piece.rest.now (seen_type c.in-Some.piece) c.in-Some.after.now (sym c.in-Some.ensures)

pub loop-piece-preserved : goal.loop-piece-preserved
loop-piece-preserved c =
    let more = goes_on c.args.bytes.now c.loop-piece.rest.now c.in-Some.after.now c.loop-piece.types.items (seen_type c.in-Some.piece) c.loop-piece.invariant (sym c.in-Some.ensures) in
    rw (c.in_ok-push.ensures.items, c.in_ok-build.ensures) more

pub returns : goal.returns
returns c = types-end c.args.bytes.now c.loop-piece.rest.now c.loop-piece.types.items c.loop-piece.invariant (sym c.in_default.ensures)

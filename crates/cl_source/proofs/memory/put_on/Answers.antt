use Rattle.std.proofs.Common.{◌∙◌, sym, ap, arith}
use Rattle.std.proofs.lemmas.Result.{on_ok_weaker}
use Rattle.cl_model.specs.Content.{content_at}
use Rattle.cl_source.proofs.Contents.{at_place, put_at, tells_more, not_err}
use Rattle.cl_source.proofs.memory.put_on.Goals as goal

pub put-requires : goal.put-requires
put-requires c =
    let room = not_err c.make_room.result c.is_err.result c.is_err.ensures.value c.if-is_err.false c.make_room.ensures.room in
    sym (at_place 0 c.from-place.result c.args.loader c.make_room.new.shelves.items c.index_mut-shelf.result.now c.args.name (omega arith) room c.index_mut-shelf.ensures.value)
    ∙ ap (λ content. content_at content c.args.loader c.args.name) c.make_room.ensures.same
    ∙ c.requires

pub returns-clause-ok : goal.returns-clause-ok
returns-clause-ok c =
    let room = not_err c.make_room.result c.is_err.result c.is_err.ensures.value c.if-is_err.false c.make_room.ensures.room in
    on_ok_weaker c.put.result
    (put_at c.from-place.result c.args.loader c.args.shelves.now.items c.make_room.new.shelves.items c.index_mut-shelf.result.now c.put.new.self c.args.name c.args.bytes.items (omega arith) room c.index_mut-shelf.ensures.value c.make_room.ensures.same)
    c.put.ensures.ok

pub returns-clause-told : goal.returns-clause-told
returns-clause-told c = on_ok_weaker c.put.result (tells_more _ _ c.args.loader c.args.name c.args.bytes.items c.requires) (returns-clause-ok c)

use Rattle.std.proofs.Common.{[], ◌∷◌, ◌++◌, ap, ◌∙◌}
use Rattle.cl_source.proofs.Contents.{put_in_room, not_err}
use Rattle.cl_source.proofs.shelf.Shelf.put.Goals as goal

pub returns-in-Ok-clause-ok : goal.returns-in-Ok-clause-ok
returns-in-Ok-clause-ok c =
    let room = not_err c.reserve.result c.is_err.result c.is_err.ensures.value c.if-is_err.false c.reserve.ensures.ok in
    let stored = put_in_room (λ b. b.value) c.reserve.new.self c.insert.new.self c.self.inside.entries.entries c.args.self.now c.args.name c.in-Ok.bytes c.insert.result c.self.view_is c.reserve.ensures.entries c.requires room c.insert.ensures.succeeds c.insert.ensures.entries in
    stored ∙ ap (λ b. c.args.self.now ++ (c.args.name, b) ∷ []) (c.in-Ok.ensures.ok ∙ c.from.ensures)

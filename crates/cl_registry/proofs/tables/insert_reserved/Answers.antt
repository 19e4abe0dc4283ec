use Rattle.std.proofs.Common.{◌<◌, ℕ, length, refl, subst, sym}
use Rattle.std.proofs.lemmas.Option.{slice_get_read}
use Rattle.cl_registry.proofs.Written.{row_put}
use Rattle.cl_registry.proofs.tables.insert_reserved.Goals as goal

pub returns-clause-put : goal.returns-clause-put
returns-clause-put g c =
    let there = slice_get_read c.args.tables.now.items _ c.loader.inside.0 c.index_mut.result.now refl (subst (λ (i : ℕ). i < length c.args.tables.now.items) (sym c.loader.view_is) c.requires.within) c.index_mut.ensures.value in
    row_put c.args.tables.now.items c.loader.inside.0 c.args.loader c.index_mut.result.now c.insert.new.self c.args.name c.args.row c.loader.view_is there c.in-Ok.ensures.updates.0

use Rattle.std.proofs.Common.{◌∙◌, refl, sym}
use Rattle.std.proofs.lemmas.Option.{slice_get_past, slice_get_read}
use Rattle.cl_hierarchy.proofs.Placings.{found_so, row_at_place, unnamed, unplaced}
use Rattle.cl_hierarchy.proofs.tour.interface_of.Goals as goal

pub returns-in-None : goal.returns-in-None
returns-in-None g c = unnamed (g.F.Finds.rows c.args.table.now) c.args.row.now c.deref.result.now c.args.place (c.deref.ensures ∙ c.file.ensures.file) c.in-None.ensures

pub returns-in-None-get : goal.returns-in-None-get
returns-in-None-get g c =
    unplaced (g.F.Finds.rows c.args.table.now) c.args.row.now c.interface_definers.result.now c.args.place c.interface_definers.ensures
    (sym (slice_get_past c.interface_definers.result.now c.args.place c.in-None-get.ensures.lookup.3))

pub returns-in-Some-get : goal.returns-in-Some-get
returns-in-Some-get g c =
    found_so _ _ _ c.find.result
    (row_at_place (g.F.Finds.rows c.args.table.now) c.args.row.now c.deref.result.now c.interface_definers.result.now c.args.place c.in-Some.name.now c.in-Some-get.loader.now (c.deref.ensures ∙ c.file.ensures.file) c.interface_definers.ensures c.in-Some.ensures
    (sym (slice_get_read c.interface_definers.result.now _ c.args.place c.in-Some-get.loader.now refl c.in-Some-get.ensures.lookup.3.0 c.in-Some-get.ensures.lookup.1)))
    c.find.ensures

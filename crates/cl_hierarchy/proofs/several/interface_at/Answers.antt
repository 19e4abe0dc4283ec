use Rattle.std.proofs.Common.{◌∙◌, ap, refl, sym}
use Rattle.std.proofs.lemmas.Option.{slice_get_past, slice_get_read}
use Rattle.cl_model.specs.declared.class.Class.{Class}
use Rattle.std.specs.Prelude.{Some}
use Rattle.cl_hierarchy.proofs.Placings.{class_at_place, class_unnamed, class_unplaced}
use Rattle.cl_hierarchy.proofs.several.interface_at.Goals as goal

pub returns-in-None : goal.returns-in-None
returns-in-None g c = class_unnamed c.args.row.now c.deref.result.now c.args.place (c.deref.ensures ∙ c.file.ensures.file) c.in-None.ensures

pub returns-in-None-get : goal.returns-in-None-get
returns-in-None-get g c =
    class_unplaced c.args.row.now c.interface_definers.result.now c.args.place c.interface_definers.ensures (sym (slice_get_past c.interface_definers.result.now c.args.place c.in-None-get.ensures.lookup.3))

pub returns-in_ok-class_of-in-Some-get : goal.returns-in_ok-class_of-in-Some-get
returns-in_ok-class_of-in-Some-get g c =
    ap (λ (d : Class). Some d) c.in_ok-class_of-in-Some-get.ensures
    ∙ class_at_place c.args.row.now c.deref.result.now c.interface_definers.result.now c.args.place c.in-Some.name.now c.in-Some-get.loader.now (c.deref.ensures ∙ c.file.ensures.file) c.interface_definers.ensures c.in-Some.ensures
    (sym (slice_get_read c.interface_definers.result.now _ c.args.place c.in-Some-get.loader.now refl c.in-Some-get.ensures.lookup.3.0 c.in-Some-get.ensures.lookup.1))

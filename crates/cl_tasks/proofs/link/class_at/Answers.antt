use Rattle.std.proofs.Common.{Some, None, length, refl}
use Rattle.std.proofs.lemmas.Option.{slice_get_past, slice_get_read}
use Rattle.cl_tasks.proofs.LinkLeads.{class_told}
use Rattle.cl_tasks.proofs.link.class_at.Goals as goal

pub returns-in-Some : goal.returns-in-Some
returns-in-Some g c =
    let got = c.in-Some.ensures.lookup in
    let at = slice_get_read c.above.result.now (length c.above.result.now) c.args.place c.in-Some.row.now refl got.3.0 got.1 in
    rw (class_told c.args.whole.now c.above.result.now c.args.place (Some c.in-Some.row.now) c.above.ensures.rows at, c.class.ensures.class, c.deref.ensures) refl

pub returns-in-None : goal.returns-in-None
returns-in-None g c =
    let at = slice_get_past c.above.result.now c.args.place c.in-None.ensures.lookup.3 in
    rw (class_told c.args.whole.now c.above.result.now c.args.place None c.above.ensures.rows at) c.class-in-None.ensures.class

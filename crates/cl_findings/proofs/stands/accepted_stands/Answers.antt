use Rattle.std.proofs.Common.{refl, sym}
use Rattle.std.proofs.lemmas.Option.{slice_get_read}
use Rattle.cl_model.specs.States.{Keeps}
use Rattle.cl_findings.proofs.Stood.{none_named, none_placed, both_there, tells_some}
use Rattle.cl_findings.proofs.stands.accepted_stands.Goals as goal

pub returns-in-None : goal.returns-in-None
returns-in-None g c = let e = rw c.draft.ensures at c.in-None.ensures.name in λ s held. none_named _ _ _ c.args.at (sym e)

pub returns-in-None-get : goal.returns-in-None-get
returns-in-None-get g c = let e = rw c.definers.ensures.definers at c.in-None-get.ensures.lookup in λ s held. none_placed _ _ _ c.args.at e.3

pub returns-in-Some-get : goal.returns-in-Some-get
returns-in-Some-get g c =
    let name = rw c.draft.ensures at c.in-Some.ensures.name in
    let look = rw c.definers.ensures.definers at c.in-Some-get.ensures.lookup in
    let at = slice_get_read c.args.frame.now.definers _ c.args.at c.in-Some-get.accepted.now refl look.3.0 look.1 in
    let eq = rw (c.class.ensures, c.draft-in-Some-get.ensures) at c.has.ensures in
    tells_some _ (λ s. Keeps s c.args.frame.now.draft.class.loader) _ _ c.has.result (both_there _ c.args.frame.now.definers c.args.at _ c.in-Some-get.accepted.now (sym name) at) eq

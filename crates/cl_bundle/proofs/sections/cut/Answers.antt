use Rattle.std.proofs.Common.{◌∙◌, refl}
use Rattle.std.proofs.lemmas.List.{map-append}
use Rattle.cl_bundle.specs.Cuts.{cut_part}
use Rattle.cl_bundle.proofs.Cutting.{cut_starts, cut_goes_on, cut_ends, cut_wrong, cut_err}
use Rattle.cl_bundle.proofs.sections.cut.Goals as goal

pub loop-end-init : goal.loop-end-init
loop-end-init c =
    let opened = rw c.new-lines.ensures at c.in_ok-take_config_line.ensures in
    rw c.new-classes.ensures.items (cut_starts c.args.text.now _ c.in_ok-config.field-0.end c.take_config_line.new.lines c.next_body.new.lines opened c.in_ok-config.ensures.body)

pub returns-in_err-body : goal.returns-in_err-body
returns-in_err-body c =
    let wrong = cut_wrong c.args.text.now _ _ _ _ _ c.loop-end.lines c.in_err-body.field-0.0 (rw c.in-Class.is at c.loop-end.invariant) c.in_err-body.ensures.body in
    cut_err c.args.text.now c.from_residual-in_err-body.result c.in_err-body.field-0.0 c.from_residual-in_err-body.ensures.1 wrong

pub loop-end-preserved : goal.loop-end-preserved
loop-end-preserved c =
    rw (c.in_ok-push.ensures, map-append cut_part c.loop-end.classes.items)
    (cut_goes_on c.args.text.now _ _ c.in-Class.line c.in-Class.loader c.in-Class.name c.in_ok-body.body.text.now c.in_ok-body.body.end c.loop-end.lines c.next_body-in-Class.new.lines
    (rw c.in-Class.is at c.loop-end.invariant) c.in_ok-body.ensures.body)

pub returns : goal.returns
returns c =
    cut_ends c.args.text.now _ _ c.loop-end.lines (rw c.in_default.is at c.loop-end.invariant) ∙ rw c.rest.ensures refl

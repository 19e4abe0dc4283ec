use Rattle.std.proofs.Common.{ℕ, List, ◌++◌, ap, ◌∙◌}
use Rattle.cl_bundle.proofs.Cutting.{body_found, body_goes_on, rest_is_less}
use Rattle.cl_bundle.proofs.sections.next_body.Goals as goal

pub returns-in-Some-2-clause-body : goal.returns-in-Some-2-clause-body
returns-in-Some-2-clause-body c =
    body_found c.rest-start.result.now c.before-text.result.now _ c.loop-line.lines _ _ c.in-Some-2.end c.loop-line.invariant c.in-Some.ensures.cut
    (c.before-text.ensures ∙ ap (λ (t : List ℕ). c.before-text.result.now ++ t) c.rest-here.ensures)
    (rw c.in-Some-2.is at c.in_ok-end.ensures)

pub loop-line-preserved : goal.loop-line-preserved
loop-line-preserved c =
    let line = rw c.in_default-2.is at c.in_ok-end.ensures in
    body_goes_on _ _ _ _ _ c.loop-line.invariant c.in-Some.ensures.cut (rest_is_less _ _ c.in-Some.ensures.cut.rest) line.0

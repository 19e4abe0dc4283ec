use Rattle.std.proofs.Common.{◌≤◌, arith, length, map}
use Rattle.std.proofs.lemmas.List.{length-map}
use Rattle.cl_model.specs.States.{AllMet}
use Rattle.cl_hierarchy.specs.Imposed.{Listed, needs_of}
use Rattle.cl_findings.proofs.Stood.{all_there, one_there, lists_to_met, met_to_lists}
use Rattle.cl_findings.proofs.stands.lists_stand.Goals as goal

pub returns-then-not-list_stands : goal.returns-then-not-list_stands
returns-then-not-list_stands g c = λ s held all.
    let es = map (λ e. e.value) c.args.lists.now in
    c.if-not-list_stands.ensures s held (one_there (λ (e : Listed). AllMet s (needs_of e.needs)) es c.loop-at.at (met_to_lists s es all))

pub returns : goal.returns
returns g c = λ s held.
    let es = map (λ e. e.value) c.args.lists.now in
    let many = length-map c.args.lists.now (λ e. e.value) in
    let e = c.loop-at-test.false in
    let le : length es ≤ c.loop-at.at = omega (arith, many, e) in
    lists_to_met s es (all_there (λ (e : Listed). AllMet s (needs_of e.needs)) es c.loop-at.at le (λ k lt. c.loop-at.invariant k lt s held))

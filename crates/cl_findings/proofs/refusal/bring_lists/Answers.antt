use Rattle.std.proofs.Common.{◌∙◌, ◌≤◌, ap, arith, length, map, Option, refl}
use Rattle.std.specs.Prelude.{option_map}
use Rattle.std.proofs.lemmas.List.{length-map}
use Rattle.std.proofs.lemmas.Option.{slice_get-map, slice_get_read}
use Rattle.cl_hierarchy.specs.Imposed.{IsListed}
use Rattle.cl_findings.proofs.Stood.{all_there, one_more_there}
use Rattle.cl_findings.proofs.refusal.bring_lists.Goals as goal

pub loop-at-preserved : goal.loop-at-preserved
loop-at-preserved g c =
    let listed = rw c.deref.ensures at c.needs.ensures.kept in
    let at = slice_get_read c.args.lists.now _ c.loop-at.at c.index-lists-at.result refl c.loop-at-test.true c.index-lists-at.is in
    one_more_there (IsListed g.T.Told.told) (map (λ e. e.value) c.args.lists.now) c.loop-at.at c.index-lists-at.result.value (slice_get-map (λ e. e.value) c.args.lists.now c.loop-at.at ∙ ap (λ (o : Option _). option_map (λ e. e.value) o) at) c.loop-at.invariant
    listed

pub returns : goal.returns
returns g c =
    let es = map (λ e. e.value) c.args.lists.now in
    let many = length-map c.args.lists.now (λ e. e.value) in
    let e = c.loop-at-test.false in
    let le : length es ≤ c.loop-at.at = omega (arith, many, e) in
    all_there (IsListed g.T.Told.told) es c.loop-at.at le (λ k lt. c.loop-at.invariant k lt)

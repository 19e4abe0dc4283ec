use Rattle.std.proofs.Common.{◌≡◌, ◌∙◌, [], ◌∷◌, ◌++◌, arith, length, map, ap, sym}
use Rattle.std.proofs.lemmas.Bool.{eqb-true}
use Rattle.std.proofs.lemmas.List.{nil_from_length}
use Rattle.cl_hierarchy.proofs.SeveralOver.{first_pass, none_wanted, pass_in, pass_row, passed}
use Rattle.cl_hierarchy.proofs.several.superinterface_classes.Goals as goal

pub returns-then-is_empty : goal.returns-then-is_empty
returns-then-is_empty g c =
    none_wanted _ c.args.some.now c.with_hasher-found.result.keys (nil_from_length _ (eqb-true _ _ (sym c.is_empty.ensures ∙ c.if-is_empty.true))) c.with_hasher-found.ensures.empty

pub loop-row-init : goal.loop-row-init
loop-row-init g c =
    pass_row (map (λ r. r.value) c.args.above.now ++ c.args.own.now ∷ []) _ (map (λ r. r.value) c.args.above.now) c.args.own.now c.with_hasher-found.result.keys c.put_all.new.classes.keys c.requires.ordered
    (first_pass (λ r. r.value) (map (λ r. r.value) c.args.above.now ++ c.args.own.now ∷ []) c.args.some.now c.with_hasher-left.result.keys c.with_hasher-found.result.keys c.put_all.new.classes.keys c.requires.ordered c.requires.inside c.with_hasher-left.ensures.empty
    c.with_hasher-found.ensures.empty c.in_ok-put_all.ensures)
    c.look_if.new.found.keys c.look_if.new.left.keys c.in_ok-look_if.ensures.found c.in_ok-look_if.ensures.left

pub loop-row-preserved : goal.loop-row-preserved
loop-row-preserved g c =
    pass_in (λ r. r.value) (map (λ r. r.value) c.args.above.now ++ c.args.own.now ∷ []) _ c.loop-row.rest.now c.in-Some.earlier.now c.in-Some.row.now c.deref.result.now c.loop-row.found.keys c.loop-row.left.keys c.look_if-in-Some.new.found.keys c.look_if-in-Some.new.left.keys c.requires.ordered
    c.in-Some.ensures.cases.0 c.deref.ensures c.loop-row.invariant c.in_ok-look_if-2.ensures.found c.in_ok-look_if-2.ensures.left

pub returns : goal.returns
returns g c =
    let e : length c.loop-row.rest.now ≡ 0 = omega (arith, c.in_default.ensures.cases) in
    passed (map (λ r. r.value) c.args.above.now ++ c.args.own.now ∷ []) _ (map (λ r. r.value) c.loop-row.rest.now) c.loop-row.found.keys c.loop-row.left.keys (ap (map (λ r. r.value)) (nil_from_length _ e)) c.loop-row.invariant

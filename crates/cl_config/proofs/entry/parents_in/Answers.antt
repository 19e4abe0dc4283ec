use Rattle.std.proofs.Common.{◌∙◌, ◌++◌, ◌∷◌, [], List, ℕ, refl, sym, ap}
use Rattle.std.proofs.lemmas.Result.{err_from_is_err_and}
use Rattle.cl_config.specs.Entries.{parent_at}
use Rattle.cl_config.proofs.Each.{each_is, goes_on, ends, is_done}
use Rattle.cl_config.proofs.entry.parents_in.Goals as goal

pub loop-value-init : goal.loop-value-init
loop-value-init c = rw (c.new-texts.ensures.items, c.new-seen.ensures) (record { count = refl; rest = each_is (parent_at c.args.wrong) [] c.args.values.now }, refl)

pub returns-in_err-parent_at : goal.returns-in_err-parent_at
returns-in_err-parent_at c =
    let p = err_from_is_err_and c.from_residual.result c.from_residual.ensures.1 in
    rw (p.1, p.2) (ends _ c.in_err-parent_at.field-0.0 _ _ _ c.value-item.result _ c.loop-value-test.true c.value-item.is (rw c.loop-value.invariant.1 at c.in_err-parent_at.ensures.parent) c.loop-value.invariant.0)

pub loop-value-preserved : goal.loop-value-preserved
loop-value-preserved c = (
  goes_on _ _ _ _ _ c.value-item.result c.in_ok-parent_at.field-0 _ c.loop-value-test.true c.value-item.is (rw c.loop-value.invariant.1 at c.in_ok-parent_at.ensures.parent) c.in_ok-push.ensures.items c.loop-value.invariant.0,
  c.in_ok-parent_at.ensures.seen ∙ ap (λ (ns : List (List ℕ)). ns ++ c.in_ok-parent_at.field-0 ∷ []) c.loop-value.invariant.1 ∙ sym c.in_ok-push.ensures.items,
)

pub returns : goal.returns
returns c = is_done _ _ _ _ _ c.loop-value-test.false c.loop-value.invariant.0

use Rattle.std.proofs.Common.{[], refl}
use Rattle.std.proofs.lemmas.Result.{err_from_is_err_and}
use Rattle.cl_config.specs.Entries.{import_at}
use Rattle.cl_config.proofs.Each.{each_is, goes_on, ends, is_done}
use Rattle.cl_config.proofs.entry.imports_in.Goals as goal

pub loop-value-init : goal.loop-value-init
loop-value-init c = rw c.new-links.ensures.items (record { count = refl; rest = each_is (λ before. import_at c.args.wrong) [] c.args.values.now })

pub returns-in_err-import_at : goal.returns-in_err-import_at
returns-in_err-import_at c =
    let p = err_from_is_err_and c.from_residual.result c.from_residual.ensures.1 in
    rw (p.1, p.2) (ends _ c.in_err-import_at.field-0.0 _ _ _ c.value-item.result _ c.loop-value-test.true c.value-item.is c.in_err-import_at.ensures c.loop-value.invariant)

pub loop-value-preserved : goal.loop-value-preserved
loop-value-preserved c = goes_on _ _ _ _ _ c.value-item.result c.in_ok-import_at.field-0 _ c.loop-value-test.true c.value-item.is c.in_ok-import_at.ensures c.in_ok-push.ensures.items c.loop-value.invariant

pub returns : goal.returns
returns c = is_done _ _ _ _ _ c.loop-value-test.false c.loop-value.invariant

use Rattle.std.proofs.lemmas.Result.{err_from_is_err_and}
use Rattle.cl_config.specs.declared.fault.ConfigError.TheVariants as errors
use Rattle.cl_config.proofs.Each.{goes_on, ends, is_done}
use Rattle.cl_config.proofs.loader.parents_of.Goals as goal

pub returns-in_err-earlier : goal.returns-in_err-earlier
returns-in_err-earlier c =
    let p = err_from_is_err_and c.from_residual-in_err-earlier.result c.from_residual-in_err-earlier.ensures.1 in
    rw (p.1, p.2) (ends _ (errors.Fault c.in_err-earlier.field-0.0) _ _ _ c.parent-item.result _ c.loop-parent-test.true c.parent-item.is (rw c.as_str.ensures at c.in_err-earlier.ensures) c.loop-parent.invariant)

pub loop-parent-preserved : goal.loop-parent-preserved
loop-parent-preserved c = goes_on _ _ _ _ _ c.parent-item.result c.in_ok-earlier.field-0 _ c.loop-parent-test.true c.parent-item.is (rw c.as_str.ensures at c.in_ok-earlier.ensures) c.in_ok-push.ensures.items c.loop-parent.invariant

pub returns : goal.returns
returns c = is_done _ _ _ _ _ c.loop-parent-test.false c.loop-parent.invariant

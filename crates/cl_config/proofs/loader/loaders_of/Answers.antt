use Rattle.std.proofs.Common.{◌∙◌, sym, arith}
use Rattle.std.proofs.lemmas.Result.{err_from_is_err_and}
use Rattle.cl_config.proofs.Each.{goes_on, ends, is_done}
use Rattle.cl_config.proofs.Below.{are_loaders}
use Rattle.cl_config.proofs.loader.loaders_of.Goals as goal

pub returns-in_err-loader-clause-read : goal.returns-in_err-loader-clause-read
returns-in_err-loader-clause-read c =
    let p = err_from_is_err_and c.from_residual.result c.from_residual.ensures.1 in
    rw (p.1, p.2) (ends _ c.in_err-loader.field-0.0 _ _ _ c.entry-item.result _ c.loop-entry-test.true c.entry-item.is (rw (c.requires.names, c.as_slice-before.ensures.value) at c.in_err-loader.ensures) c.loop-entry.invariant)

pub loop-entry-preserved : goal.loop-entry-preserved
loop-entry-preserved c = goes_on _ _ _ _ _ c.entry-item.result c.in_ok-loader.loader _ c.loop-entry-test.true c.entry-item.is (rw (c.requires.names, c.as_slice-before.ensures.value) at c.in_ok-loader.ensures) c.in_ok-push.ensures.items c.loop-entry.invariant

pub returns-clause-read : goal.returns-clause-read
returns-clause-read c = is_done _ _ _ _ _ c.loop-entry-test.false c.loop-entry.invariant

pub returns-clause-count : goal.returns-clause-count
returns-clause-count c =
    let are = are_loaders _ _ (is_done _ _ _ _ _ c.loop-entry-test.false c.loop-entry.invariant) in
    omega (arith, are.count)

pub returns-clause-below : goal.returns-clause-below
returns-clause-below c = (are_loaders _ _ (is_done _ _ _ _ _ c.loop-entry-test.false c.loop-entry.invariant)).below

pub returns-clause-names : goal.returns-clause-names
returns-clause-names c = (are_loaders _ _ (is_done _ _ _ _ _ c.loop-entry-test.false c.loop-entry.invariant)).names ∙ sym c.requires.names

use Rattle.std.proofs.lemmas.Result.{err_from_is_err_and}
use Rattle.cl_config.proofs.Each.{goes_on, ends, is_done}
use Rattle.cl_config.proofs.loader.imports_of.Goals as goal

pub returns-in_err-import_of : goal.returns-in_err-import_of
returns-in_err-import_of c =
    let p = err_from_is_err_and c.from_residual-in_err-import_of.result c.from_residual-in_err-import_of.ensures.1 in
    rw (p.1, p.2) (ends _ c.in_err-import_of.field-0.0 _ _ _ c.import-item.result _ c.loop-import-test.true c.import-item.is c.in_err-import_of.ensures c.loop-import.invariant)

pub loop-import-preserved : goal.loop-import-preserved
loop-import-preserved c = goes_on _ _ _ _ _ c.import-item.result c.in_ok-import_of.field-0 _ c.loop-import-test.true c.import-item.is c.in_ok-import_of.ensures c.in_ok-push.ensures.items c.loop-import.invariant

pub returns : goal.returns
returns c = is_done _ _ _ _ _ c.loop-import-test.false c.loop-import.invariant

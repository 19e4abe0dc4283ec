use Rattle.cl_model.proofs.Derived.{derive_yields}
use Rattle.cl_model.proofs.laws.derived_is_good.Goals as goal

pub returns : goal.returns
returns c w n path d m k h e = (derive_yields w n path d m k h e).0

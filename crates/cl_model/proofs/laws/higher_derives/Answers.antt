use Rattle.cl_model.proofs.Heights.{derive_reaches}
use Rattle.cl_model.proofs.laws.higher_derives.Goals as goal

pub returns : goal.returns
returns c w n path d m h = derive_reaches w n path d m h

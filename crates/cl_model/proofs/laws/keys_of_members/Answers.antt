use Rattle.cl_model.proofs.Keys.{field_key, method_key}
use Rattle.cl_model.proofs.laws.keys_of_members.Goals as goal

pub returns-clause-field : goal.returns-clause-field
returns-clause-field c = field_key

pub returns-clause-method : goal.returns-clause-method
returns-clause-method c = method_key

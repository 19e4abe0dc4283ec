use Rattle.cl_descriptors.proofs.Equality.{fields_equal, methods_equal}
use Rattle.cl_descriptors.proofs.laws.equal_types_are_the_same.Goals as goal

pub returns-clause-fields : goal.returns-clause-fields
returns-clause-fields c = fields_equal

pub returns-clause-methods : goal.returns-clause-methods
returns-clause-methods c = methods_equal

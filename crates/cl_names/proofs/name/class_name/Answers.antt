use Rattle.cl_names.proofs.Escapes.{other_kind}
use Rattle.cl_names.proofs.name.class_name.Goals as goal

pub returns-in-Err-BadName-clause-writes : goal.returns-in-Err-BadName-clause-writes
returns-in-Err-BadName-clause-writes c = let none = rw c.in-Err-BadName.field-0-is at c.in-Err-BadName.ensures in λ name t. none name t.written

pub returns-then-not-is_class-clause-writes : goal.returns-then-not-is_class-clause-writes
returns-then-not-is_class-clause-writes c = other_kind c.args.text.now c.in-Ok.name c.in-Ok.ensures c.if-not-is_class.ensures.kind

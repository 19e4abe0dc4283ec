use Rattle.std.proofs.Common.{sym}
use Rattle.cl_classfile.proofs.Described.{described, no_class, no_unqualified, no_method}
use Rattle.cl_classfile.proofs.traits.kinds_beside.Goals as goal

pub returns-clause-text : goal.returns-clause-text
returns-clause-text c = described c.args.text.now c.args.form c.is_none.result c.requires c.is_none.ensures c.if-is_none.false

pub returns-clause-class : goal.returns-clause-class
returns-clause-class c = sym (no_class c.args.text.now (c.ends_with_class.ensures c.if-not-ends_with_class.false))

pub returns-clause-unqualified : goal.returns-clause-unqualified
returns-clause-unqualified c = sym (no_unqualified c.args.text.now (c.ends_with_class.ensures c.if-not-ends_with_class.false))

pub returns-clause-method : goal.returns-clause-method
returns-clause-method c = sym (no_method c.args.text.now (c.ends_with_class.ensures c.if-not-ends_with_class.false))

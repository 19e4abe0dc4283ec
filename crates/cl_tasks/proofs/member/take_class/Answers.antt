use Rattle.std.proofs.Common.{sym}
use Rattle.cl_tasks.proofs.MemberFacts.{kind_cites}
use Rattle.cl_tasks.proofs.member.take_class.Goals as goal

pub refuse_access-requires-clause-names : goal.refuse_access-requires-clause-names
refuse_access-requires-clause-names g c =
    let kind = rw (c.in-Ok-Some.field-0-is, c.deref-2.ensures, c.file.ensures.file, c.deref.ensures, c.own.ensures.own, c.class.ensures.class) at c.in-Ok-Some.ensures in
    let told = rw (c.deref-in-Ok-Some.ensures, c.own-in-Ok-Some.ensures.own, c.class-in-Ok-Some.ensures.class) at c.if-class_accessible.ensures in
    record { cites = kind_cites c.args.own c.args.named c.args.entry.index c.in-Ok-Some.kind kind; refused = sym told }

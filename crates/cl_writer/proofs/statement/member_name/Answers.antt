use Rattle.cl_writer.proofs.Rows.{no_member_class, no_member_name, no_member_descriptor}
use Rattle.cl_writer.proofs.statement.member_name.Goals as goal

pub returns-in_default-2 : goal.returns-in_default-2
returns-in_default-2 c = no_member_class _ _ _ _ c.in-Some.ensures (rw c.in_default-2.is at c.in_ok-class.ensures)

pub returns-in_default-3 : goal.returns-in_default-3
returns-in_default-3 c = no_member_name _ _ _ _ c.in-Some.ensures (rw c.in_default-3.is at c.in_ok-name.ensures)

pub returns-in_default-4 : goal.returns-in_default-4
returns-in_default-4 c = no_member_descriptor _ _ _ _ c.in-Some.ensures (rw c.in_default-4.is at c.in_ok-descriptor.ensures)

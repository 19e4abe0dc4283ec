use Rattle.cl_writer.proofs.Rows.{named}
use Rattle.cl_writer.proofs.statement.name_of.Goals as goal

pub returns : goal.returns
returns c = named _ _ c.written_name.result c.in-Some.ensures c.written_name.ensures

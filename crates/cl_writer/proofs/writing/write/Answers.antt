use Rattle.cl_classfile.proofs.Exact.{read_again}
use Rattle.cl_writer.proofs.writing.write.Goals as goal

pub returns-clause-reads_back : goal.returns-clause-reads_back
returns-clause-reads_back c = read_again _ _ c.in_ok-bytes_of.ensures

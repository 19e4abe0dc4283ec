use Rattle.cl_source.proofs.Limits.{host_fails}
use Rattle.cl_source.proofs.files.HostRuntimeReadFile.read_file.Goals as goal

pub returns-in-Err-read_limited : goal.returns-in-Err-read_limited
returns-in-Err-read_limited c = host_fails c.args.most c.in-Err-read_limited.fault

pub returns-in-Err : goal.returns-in-Err
returns-in-Err c = c.answer_of.ensures c.args.most

pub returns-in-Err-open : goal.returns-in-Err-open
returns-in-Err-open c = c.answer_of-in-Err-open.ensures c.args.most

use Rattle.cl_program.proofs.Listing.{refusal_is}
use Rattle.cl_program.proofs.reading.class_file.Goals as goal

pub returns-in-Err-clause-err : goal.returns-in-Err-clause-err
returns-in-Err-clause-err c = refusal_is c.args.bytes.now c.in-Err.error c.in-Err.ensures.exact

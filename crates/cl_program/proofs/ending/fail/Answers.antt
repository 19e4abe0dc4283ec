use Rattle.std.proofs.Common.{inl, string_bytes}
use Rattle.cl_program.specs.Faults.{fault_text}
use Rattle.cl_streams.specs.declared.output.PrintFault.{PrintFault}
use Rattle.cl_program.proofs.Running.{told_line, write_part}
use Rattle.cl_program.proofs.ending.fail.Goals as goal

pub returns-in-Ok-clause-told : goal.returns-in-Ok-clause-told
returns-in-Ok-clause-told g c =
    let all = rw c.as_bytes.ensures.value at c.write_out.ensures.all in
    let part = rw c.as_bytes.ensures.value at c.write_out.ensures.part in
    inl (told_line _ _ (fault_text c.args.fault.now) (string_bytes c.in-Ok.line) c.in-Ok.ensures.ok (write_part {E = PrintFault} c.write_out.result _ _ _ all part))

use Rattle.cl_writer.proofs.Gathered.{all_lines}
use Rattle.cl_writer.proofs.assembly.read_lines.Goals as goal

pub returns : goal.returns
returns c =
    all_lines _ _ _ c.in-Some-2.class c.read_rest.result (rw c.new-lines.ensures at c.in-Some.ensures.steps) (rw c.in-Some-2.is at c.in_ok-class.ensures) c.read_rest.ensures

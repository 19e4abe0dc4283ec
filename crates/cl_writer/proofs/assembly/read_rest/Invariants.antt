use Rattle.cl_lines.specs.Lines.{stated_from}
use Rattle.cl_writer.specs.Assemblies.{lists_of}
use Rattle.cl_writer.proofs.Gathered.{IsReadSoFar}
use Rattle.cl_writer.proofs.assembly.read_rest.Given as goal

abbrev pub invariant-loop-line : goal.invariant-loop-line
invariant-loop-line l = IsReadSoFar l.fn.class (stated_from l.fn.lines.number l.fn.lines.text) (stated_from l.line-iterator.number l.line-iterator.text) (lists_of l.assembly)

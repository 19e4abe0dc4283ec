use Rattle.cl_lines.specs.Lines.{stated_from}
use Rattle.cl_config.specs.Views.{names_of}
use Rattle.cl_config.proofs.Requests.{IsRead}
use Rattle.cl_config.proofs.script.Script.read.Given as goal

abbrev pub invariant-loop-line : goal.invariant-loop-line
invariant-loop-line l = IsRead (names_of l.config) (stated_from 1 l.text) (stated_from l.line-iterator.number l.line-iterator.text) l.requests.items l.rounds_of.items l.round

use Rattle.std.proofs.Common.{length}
use Rattle.cl_lines.proofs.LineCuts.{first_line, some_left, shorter}
use Rattle.cl_lines.proofs.lines.LinesIterator.next.Goals as goal

pub returns-clause-steps : goal.returns-clause-steps
returns-clause-steps c = rw (← c.self.view_is) (first_line _ _ _ _ (some_left (length c.self.inside.rest.now) _ c.is_empty.ensures c.if-is_empty.false) c.cut.ensures.before c.cut.ensures.after)

pub returns-clause-goes : goal.returns-clause-goes
returns-clause-goes c = record { on = λ _. (tt, tt, shorter _ _ _ (returns-clause-steps c)); keeps = tt; rests = λ _. tt }

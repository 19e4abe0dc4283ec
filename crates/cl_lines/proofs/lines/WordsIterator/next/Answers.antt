use Rattle.std.proofs.Common.{◌∙◌, sym}
use Rattle.cl_lines.proofs.LineCuts.{first_word, some_left, shorter}
use Rattle.cl_lines.proofs.lines.WordsIterator.next.Goals as goal

pub returns-then-not-is_empty-clause-steps : goal.returns-then-not-is_empty-clause-steps
returns-then-not-is_empty-clause-steps c =
    rw (← c.self.view_is)
    (sym c.loop-self.invariant ∙ first_word c.loop-self.self-inside.left.now c.cut.result.0.now c.cut.result.1.now (some_left _ _ c.is_empty-in-loop-self.ensures c.if-not-is_empty.true) c.cut.ensures.before c.cut.ensures.after)

pub returns-then-not-is_empty-clause-goes : goal.returns-then-not-is_empty-clause-goes
returns-then-not-is_empty-clause-goes c = record { on = λ _. (tt, tt, shorter _ _ _ (returns-then-not-is_empty-clause-steps c)); keeps = tt; rests = λ _. tt }

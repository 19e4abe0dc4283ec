use Rattle.classlink_corpus.proofs.round.outcome_of.Goals as goal

pub returns-then-branch : goal.returns-then-branch
returns-then-branch c = (c.args.file.now, c.requires.read, rw c.if-branch.true at c.in_ok-lists_again.ensures)

pub returns-else-branch : goal.returns-else-branch
returns-else-branch c = (c.args.file.now, c.requires.read, rw c.if-branch.false at c.in_ok-lists_again.ensures)

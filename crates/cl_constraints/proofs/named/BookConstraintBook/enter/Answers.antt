use Rattle.cl_constraints.specs.Named.{home_of, joins_of}
use Rattle.cl_constraints.proofs.Naming.{entered_book, fitting_entry}
use Rattle.cl_constraints.proofs.named.BookConstraintBook.enter.Goals as goal

pub returns-in-Ok-clause-entered : goal.returns-in-Ok-clause-entered
returns-in-Ok-clause-entered g c s book = (
  fitting_entry (home_of g.N.NameBook.record_at c.args.self.now) (joins_of g.N.NameBook.joins c.args.self.now) s book c.args.name c.args.loader c.args.home c.if-not-fits.ensures,
  entered_book g.N.NameBook.record_at g.N.NameBook.joins c.args.self.now c.record.new.self s book c.args.name c.args.loader c.args.home c.in-Ok.ensures.ok c.requires.fresh c.if-not-fits.ensures,
)

pub returns-in-Err-clause-blames : goal.returns-in-Err-clause-blames
returns-in-Err-clause-blames g c s book =
    fitting_entry (home_of g.N.NameBook.record_at c.args.self.now) (joins_of g.N.NameBook.joins c.args.self.now) s book c.args.name c.args.loader c.args.home c.if-not-fits.ensures

use Rattle.cl_constraints.specs.Named.{home_of, joins_of}
use Rattle.cl_constraints.proofs.Naming.{joined_book, fitting_equal, refused_equal}
use Rattle.cl_constraints.proofs.named.BookConstraintBook.impose.Goals as goal

pub returns-then-not-agrees-clause-blames : goal.returns-then-not-agrees-clause-blames
returns-then-not-agrees-clause-blames g c s book =
    refused_equal (home_of g.N.NameBook.record_at c.args.self.now) (joins_of g.N.NameBook.joins c.args.self.now) s book c.args.name c.args.a c.args.b c.if-not-agrees.ensures

pub returns-in-Ok-clause-imposed : goal.returns-in-Ok-clause-imposed
returns-in-Ok-clause-imposed g c = (
  λ s book. (
    fitting_equal (home_of g.N.NameBook.record_at c.args.self.now) (joins_of g.N.NameBook.joins c.args.self.now) s book c.args.name c.args.a c.args.b c.if-not-agrees.ensures,
    joined_book g.N.NameBook.record_at g.N.NameBook.joins c.args.self.now c.join.new.self s book c.args.name c.args.a c.args.b c.in-Ok.ensures.ok c.if-not-agrees.ensures,
  ),
  λ s book m. c.if-links.ensures ((book.joined c.args.name c.args.a c.args.b).1 m),
)

pub returns-in-Err-clause-blames : goal.returns-in-Err-clause-blames
returns-in-Err-clause-blames g c s book =
    fitting_equal (home_of g.N.NameBook.record_at c.args.self.now) (joins_of g.N.NameBook.joins c.args.self.now) s book c.args.name c.args.a c.args.b c.if-not-agrees.ensures

use Rattle.cl_constraints.specs.Named.{home_of, joins_of}
use Rattle.cl_constraints.proofs.Naming.{refuses_so}
use Rattle.cl_constraints.proofs.named.BookConstraintBook.refuses.Goals as goal

pub returns : goal.returns
returns g c s book = refuses_so (home_of g.N.NameBook.record_at c.args.self.now) (joins_of g.N.NameBook.joins c.args.self.now) s book c.agrees.result c.args.name.now c.args.a c.args.b c.agrees.ensures

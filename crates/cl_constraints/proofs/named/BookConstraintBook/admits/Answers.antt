use Rattle.cl_constraints.specs.Named.{home_of, joins_of}
use Rattle.cl_constraints.proofs.Naming.{admits_so}
use Rattle.cl_constraints.proofs.named.BookConstraintBook.admits.Goals as goal

pub returns : goal.returns
returns g c s book = admits_so (home_of g.N.NameBook.record_at c.args.self.now) (joins_of g.N.NameBook.joins c.args.self.now) s book c.fits.result c.args.name.now c.args.loader c.args.home c.fits.ensures

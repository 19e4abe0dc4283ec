use Rattle.cl_constraints.specs.Books.{IsBookOf}
use Rattle.cl_constraints.specs.Named.{home_of, joins_of}
use Rattle.cl_constraints.proofs.Standing.{goes_on}
use Rattle.cl_constraints.proofs.laws.stands_after_step.Goals as goal

pub returns : goal.returns
returns g c = goes_on (λ b s. IsBookOf (home_of g.N.NameBook.record_at b) (joins_of g.N.NameBook.joins b) s)

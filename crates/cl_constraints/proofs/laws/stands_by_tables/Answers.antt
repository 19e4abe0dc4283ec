use Rattle.cl_constraints.specs.Named.{home_of, joins_of}
use Rattle.cl_constraints.proofs.Standing.{stands_alike, stays_after}
use Rattle.cl_constraints.proofs.laws.stands_by_tables.Goals as goal

pub returns-clause-alike : goal.returns-clause-alike
returns-clause-alike g c book = stands_alike (home_of g.N.NameBook.record_at book) (joins_of g.N.NameBook.joins book)

pub returns-clause-stays : goal.returns-clause-stays
returns-clause-stays g c book = stays_after (home_of g.N.NameBook.record_at book) (joins_of g.N.NameBook.joins book)

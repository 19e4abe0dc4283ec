use Rattle.cl_constraints.proofs.Naming.{start_book}
use Rattle.cl_constraints.proofs.named.Book.with_hasher.Goals as goal

pub returns : goal.returns
returns g c = start_book g.N.NameBook.record_at g.N.NameBook.joins c.with_hasher.result.entries c.with_hasher.ensures.empty

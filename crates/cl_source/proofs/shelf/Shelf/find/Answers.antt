use Rattle.cl_source.proofs.Contents.{found_at}
use Rattle.cl_source.proofs.shelf.Shelf.find.Goals as goal

pub returns : goal.returns
returns c = found_at (λ b. b.value) c.self.inside.entries.entries c.args.self.now c.args.name.now c.get.result c.self.view_is c.get.ensures.value

use Rattle.std.proofs.Common.{◌∙◌, ap, sym}
use Rattle.cl_constraints.specs.Named.{found_named}
use Rattle.cl_constraints.proofs.Naming.{agrees_so}
use Rattle.cl_constraints.proofs.named.Book.agrees.Goals as goal

pub returns-in-Some : goal.returns-in-Some
returns-in-Some g c =
    agrees_so g.N.NameBook.record_at g.N.NameBook.joins c.args.self.now c.args.name.now c.in-Some.one.now (sym (c.in-Some.ensures.value ∙ ap (λ b. found_named b c.args.name.now) c.self.view_is)) c.args.a c.args.b c.agree.result c.agree.ensures

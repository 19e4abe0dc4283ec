use Rattle.std.proofs.Common.{rules, ◌≡◌, subst}
use Rattle.cl_constraints.specs.Pairs.{Paired, KeepsEnds, differs_at, end_in}
use Rattle.cl_constraints.proofs.Pairing.{fit_told}
use Rattle.cl_constraints.proofs.plain.PairsNameBook.admits.Goals as goal

pub returns : goal.returns
returns c =
    let told : c.differs.result ≡ differs_at c.args.self.now.records (end_in c.args.self.now.pairs c.args.loader) c.args.home = search rules in
    let sound : KeepsEnds c.args.self.now = subst (λ (v : Paired). KeepsEnds v) c.self.view_is c.self.invariant in
    rw told (fit_told c.args.self.now sound c.args.loader c.args.home)

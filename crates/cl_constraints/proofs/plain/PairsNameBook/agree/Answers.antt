use Rattle.std.proofs.Common.{rules, ◌≡◌, subst}
use Rattle.cl_constraints.specs.Pairs.{Paired, KeepsEnds, divides_at, end_in}
use Rattle.cl_constraints.proofs.Pairing.{agreement_told}
use Rattle.cl_constraints.proofs.plain.PairsNameBook.agree.Goals as goal

pub returns : goal.returns
returns c =
    let told : c.divides.result ≡ divides_at c.args.self.now.records (end_in c.args.self.now.pairs c.args.a) (end_in c.args.self.now.pairs c.args.b) = search rules in
    let sound : KeepsEnds c.args.self.now = subst (λ (v : Paired). KeepsEnds v) c.self.view_is c.self.invariant in
    rw told (agreement_told c.args.self.now sound c.args.a c.args.b)

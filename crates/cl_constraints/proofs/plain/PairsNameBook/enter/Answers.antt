use Rattle.std.proofs.Common.{rules, ◌≡◌, subst, sym, None}
use Rattle.cl_constraints.specs.declared.plain.Placed.{Placed}
use Rattle.cl_constraints.specs.Pairs.{Paired, end_in, home_at}
use Rattle.cl_constraints.proofs.Recording.{enters}
use Rattle.cl_constraints.proofs.Pairing.{placed_more}
use Rattle.cl_constraints.proofs.plain.PairsNameBook.enter.Goals as goal

pub invariant_of-self-2 : goal.invariant_of-self-2
invariant_of-self-2 c =
    let v : Paired = record { records = c.self.inside.records.items; pairs = c.self.inside.pairs.items } in
    let n : Placed = record { loader = c.args.loader; home = c.args.home; end = c.end_among-end.result } in
    let fresh : home_at v.records c.args.loader ≡ None = subst (λ (x : Paired). home_at x.records c.args.loader ≡ None) (sym c.self.view_is) c.requires.fresh in
    let at_end : c.end_among-end.result ≡ end_in v.pairs c.args.loader = search rules in
    rw c.in_ok-push.ensures.items (placed_more v n c.self.invariant fresh at_end)

pub returns-clause-records : goal.returns-clause-records
returns-clause-records c =
    let n : Placed = record { loader = c.args.loader; home = c.args.home; end = c.end_among-end.result } in
    let fresh : home_at c.self.inside.records.items c.args.loader ≡ None = subst (λ (x : Paired). home_at x.records c.args.loader ≡ None) (sym c.self.view_is) c.requires.fresh in
    rw (c.in_ok-push.ensures.items, ← c.self.view_is) (enters (λ (r : Placed). r.loader) (λ (r : Placed). r.home) c.self.inside.records.items n fresh)

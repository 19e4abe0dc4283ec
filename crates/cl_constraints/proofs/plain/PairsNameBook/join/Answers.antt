use Rattle.std.proofs.Common.{rules, ◌≡◌}
use Rattle.cl_constraints.specs.declared.plain.Pair.{Pair}
use Rattle.cl_constraints.specs.Pairs.{Paired, end_in}
use Rattle.cl_constraints.proofs.Pairing.{home_moved, paired_more, placed_on}
use Rattle.cl_constraints.proofs.plain.PairsNameBook.join.Goals as goal

pub invariant_of-self-2 : goal.invariant_of-self-2
invariant_of-self-2 c =
    let v : Paired = record { records = c.self.inside.records.items; pairs = c.self.inside.pairs.items } in
    let p : Pair = record { one = c.end_among-one.result; other = c.end_among-other.result } in
    rw (c.in_ok-push.ensures.items, c.move_on.ensures) (placed_on v p c.self.invariant)

pub returns-clause-records : goal.returns-clause-records
returns-clause-records c =
    let p : Pair = record { one = c.end_among-one.result; other = c.end_among-other.result } in
    λ loader. rw (c.move_on.ensures, ← c.self.view_is) (home_moved p c.self.inside.records.items loader)

pub returns-clause-joined : goal.returns-clause-joined
returns-clause-joined c =
    let one : c.end_among-one.result ≡ end_in c.self.inside.pairs.items c.args.a = search rules in
    let other : c.end_among-other.result ≡ end_in c.self.inside.pairs.items c.args.b = search rules in
    λ x y. rw (c.in_ok-push.ensures.items, one, other, ← c.self.view_is) (paired_more c.self.inside.pairs.items c.args.a c.args.b x y)

use Rattle.std.proofs.Common.{rules, ◌≡◌}
use Rattle.cl_constraints.specs.Groups.{joined_class, IsGrouped}
use Rattle.cl_constraints.proofs.Grouping.{class_shared}
use Rattle.cl_constraints.proofs.grouped.Groups.class.Goals as goal

pub returns-in-Some-clause-shared : goal.returns-in-Some-clause-shared
returns-in-Some-clause-shared c =
    let value : c.group.inside.home ≡ joined_class c.args.self.now c.args.loader = search rules in
    let sound : IsGrouped c.args.self.now = rw c.self.view_is at c.self.invariant in
    class_shared c.args.self.now c.args.loader c.group.inside.home sound value

pub returns-in-None-clause-shared : goal.returns-in-None-clause-shared
returns-in-None-clause-shared c =
    let value : c.home_among.result ≡ joined_class c.args.self.now c.args.loader = search rules in
    let sound : IsGrouped c.args.self.now = rw c.self.view_is at c.self.invariant in
    class_shared c.args.self.now c.args.loader c.home_among.result sound value

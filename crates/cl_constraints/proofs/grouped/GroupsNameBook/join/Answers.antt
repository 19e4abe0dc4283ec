use Rattle.std.proofs.Common.{◌≡◌, subst, sym}
use Rattle.cl_constraints.specs.Groups.{Grouped, AreJoined, joint_of}
use Rattle.cl_constraints.specs.Records.{home_in}
use Rattle.cl_model.specs.States.{Divides}
use Rattle.cl_constraints.proofs.Merging.{joined_grouped, joined_joins}
use Rattle.cl_constraints.proofs.grouped.GroupsNameBook.join.Goals as goal

pub invariant_of-self : goal.invariant_of-self
invariant_of-self c =
    let v : Grouped = record { records = c.self.inside.records.items; groups = c.self.inside.groups.items } in
    let fits : Divides (λ x. home_in v.records x) (λ x y. AreJoined v.groups x y) c.args.a c.args.b → ⊥ = subst (λ (z : Grouped). Divides (λ x. home_in z.records x) (λ x y. AreJoined z.groups x y) c.args.a c.args.b → ⊥) (sym c.self.view_is) c.requires.fits in
    let joint : c.in_ok-joint.joint ≡ joint_of v c.args.a c.args.b = rw (← c.self.view_is) at c.in_ok-joint.ensures in
    joined_grouped v c.args.a c.args.b c.in_ok-joint.joint c.replace.new.groups.items c.replace.result c.self.invariant fits joint c.replace.ensures.replaced c.replace.ensures.unchanged

pub returns-clause-joined : goal.returns-clause-joined
returns-clause-joined c =
    let v : Grouped = record { records = c.self.inside.records.items; groups = c.self.inside.groups.items } in
    let joint : c.in_ok-joint.joint ≡ joint_of v c.args.a c.args.b = rw (← c.self.view_is) at c.in_ok-joint.ensures in
    rw (← c.self.view_is) (joined_joins v c.args.a c.args.b c.in_ok-joint.joint c.replace.new.groups.items c.replace.result c.self.invariant joint c.replace.ensures.replaced)

use Rattle.std.proofs.Common.{◌≡◌, subst, sym, None}
use Rattle.cl_constraints.specs.Groups.{Grouped, AreJoined}
use Rattle.cl_constraints.specs.Records.{home_in}
use Rattle.cl_model.specs.States.{Differs}
use Rattle.cl_constraints.proofs.Recording.{enters}
use Rattle.cl_constraints.proofs.Grouping.{by_loader, entered_grouped, entry, homed_joined, its_home}
use Rattle.cl_constraints.proofs.grouped.GroupsNameBook.enter.Goals as goal

pub invariant_of-self-2 : goal.invariant_of-self-2
invariant_of-self-2 c =
    let v : Grouped = record { records = c.self.inside.records.items; groups = c.self.inside.groups.items } in
    let fresh : home_in v.records c.args.loader ≡ None = subst (λ (x : Grouped). home_in x.records c.args.loader ≡ None) (sym c.self.view_is) c.requires.fresh in
    let fits : Differs (λ x. home_in v.records x) (λ x y. AreJoined v.groups x y) c.args.loader c.args.home → ⊥ = subst (λ (z : Grouped). Differs (λ x. home_in z.records x) (λ x y. AreJoined z.groups x y) c.args.loader c.args.home → ⊥) (sym c.self.view_is) c.requires.fits in
    rw (c.in_ok-push.ensures.items, c.give_home.ensures) (entered_grouped v c.args.loader c.args.home c.self.invariant fresh fits)

pub returns-clause-records : goal.returns-clause-records
returns-clause-records c =
    let fresh : home_in c.self.inside.records.items c.args.loader ≡ None = subst (λ (x : Grouped). home_in x.records c.args.loader ≡ None) (sym c.self.view_is) c.requires.fresh in
    rw (c.in_ok-push.ensures.items, ← c.self.view_is) (enters by_loader its_home c.self.inside.records.items (entry c.args.loader c.args.home) fresh)

pub returns-clause-joined : goal.returns-clause-joined
returns-clause-joined c = λ a b. rw (c.give_home.ensures, ← c.self.view_is) (homed_joined c.args.loader c.args.home a b c.self.inside.groups.items)

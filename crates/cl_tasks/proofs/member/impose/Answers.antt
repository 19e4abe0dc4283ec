use Rattle.std.proofs.Common.{◌≡◌, ◌-◌, ℕ, length, subst, arith}
use Rattle.cl_hierarchy.specs.Imposed.{IsListed}
use Rattle.cl_tasks.specs.Resolving.{ImposedTold}
use Rattle.cl_tasks.specs.Rooms.{imposing_room}
use Rattle.cl_tasks.proofs.Lead.{leads_by}
use Rattle.cl_tasks.proofs.MemberLeads.{impose_leads, two_room, two_within}
use Rattle.cl_tasks.proofs.member.impose.Goals as goal

pub returns-then-place-count_needs-clause-leads : goal.returns-then-place-count_needs-clause-leads
returns-then-place-count_needs-clause-leads g c =
    let le = rw (c.count_needs.ensures.count, c.deref.ensures) at c.if-place-count_needs.true in
    let within = c.requires.within in
    let all : c.args.place ≡ length c.args.member.equalities.value.needs = omega (arith, le, within) in
    leads_by (imposing_room c.args.member c.args.place) (ImposedTold c.args.member c.args.place) c.settle_member.ensures.leads
    (two_room (length c.args.member.equalities.value.needs - c.args.place)) (two_within g.T.Told.told c.args.config.now.value c.args.member c.args.place (ImposedTold c.args.member c.args.place))
    (λ x h. subst (λ (n : ℕ). ImposedTold c.args.member n x) all h)

pub returns-in-Ok-clause-leads : goal.returns-in-Ok-clause-leads
returns-in-Ok-clause-leads g c =
    let known : IsListed g.T.Told.told c.args.member.equalities.value = rw c.deref.ensures at c.count_needs.ensures.kept in
    let lt = rw (c.count_needs.ensures.count, c.deref.ensures) at c.if-place-count_needs.false in
    impose_leads g.T.Told.told c.args.config.now.value c.args.member c.requires.member known c.args.place c.in-Ok.shared c.in-Ok.ensures lt

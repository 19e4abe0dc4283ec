use Rattle.std.proofs.Common.{◌≡◌, Some, None, sym, ap, subst, ◌∙◌, rules, arith, length-append}
use Rattle.cl_source.specs.Outcomes.{bytes_of}
use Rattle.cl_source.specs.Views.{Found}
use Rattle.cl_delegation.specs.Searches.{Searched, next_of}
use Rattle.cl_delegation.proofs.Leads.{follows_on}
use Rattle.cl_delegation.proofs.search.Search.take.Goals as goal

pub invariant_of-self-in-Absent : goal.invariant_of-self-in-Absent
invariant_of-self-in-Absent g c =
    let next : next_of c.args.self.now ≡ Some c.args.probe.loader = search rules in
    let same : c.args.probe.name ≡ c.args.self.now.name = search rules in
    let none : c.args.probe.bytes ≡ None = sym c.outcome.ensures.outcome ∙ ap bytes_of c.in-Absent.is in
    rw (c.push_reserved.ensures.items)
    (record {
      follows = follows_on g.T.Told.told _ c.args.probe None c.self.invariant.follows (subst (λ (s : Searched). next_of s ≡ Some c.args.probe.loader) (sym c.self.view_is) next) (subst (λ (s : Searched). c.args.probe.name ≡ s.name) (sym c.self.view_is) same) c.outcome.ensures.told none;
      way = c.self.invariant.way;
      room = omega (arith, c.push_reserved.ensures.capacity, c.self.invariant.room);
      len = omega (arith, c.push_reserved.ensures.len, c.self.invariant.len, length-append {A = Found});
    })

use Rattle.std.proofs.Common.{◌≡◌, None, sym, subst}
use Rattle.cl_delegation.specs.Searches.{Searched, next_of}
use Rattle.cl_delegation.proofs.Leads.{home_kept, leads_nowhere}
use Rattle.cl_delegation.proofs.search.Search.home.Goals as goal

pub invariant_of-result : goal.invariant_of-result
invariant_of-result g c = home_kept g.T.Told.told _ c.in-Some.probe c.self.invariant.follows c.in-Some.is

pub invariant_of-result-in-None : goal.invariant_of-result-in-None
invariant_of-result-in-None g c = leads_nowhere g.T.Told.told _ c.self.invariant.follows c.in-None.is (subst (λ (s : Searched). next_of s ≡ None) (sym c.self.view_is) c.requires)

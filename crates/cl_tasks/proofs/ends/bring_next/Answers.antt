use Rattle.cl_findings.proofs.Loads.{whole_rests, away_rests}
use Rattle.cl_tasks.proofs.ends.bring_next.Goals as goal

pub returns-in-Define-clause-rests : goal.returns-in-Define-clause-rests
returns-in-Define-clause-rests g c =
    let next = rw c.in-Define.is at c.requires.next in
    rw c.in-Define.is (λ r t need for spelt is. whole_rests g.T.Told.told r t c.args.path.now c.in-Define.whole need for spelt c.config.ensures.path next is)

pub returns-in-Initiate-clause-rests : goal.returns-in-Initiate-clause-rests
returns-in-Initiate-clause-rests g c =
    let next = rw c.in-Initiate.is at c.requires.next in
    let leads = rw c.deref.ensures at c.config-in-Initiate.ensures.leads in
    rw c.in-Initiate.is (λ r t need for spelt is. away_rests g.T.Told.told r t c.args.path.now c.in-Initiate.home.value need for spelt c.config.ensures.path next leads is)

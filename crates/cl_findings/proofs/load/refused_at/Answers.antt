use Rattle.cl_findings.proofs.Loads.{whole_rests, away_rests}
use Rattle.cl_findings.proofs.load.refused_at.Goals as goal

pub returns-in-Define-clause-rests : goal.returns-in-Define-clause-rests
returns-in-Define-clause-rests g c =
    let next = rw c.in-Define.is at c.requires.next in
    let need = rw c.in-Define.is at c.requires.need in
    rw c.in-Define.is
    (whole_rests g.T.Told.told c.args.request.now c.args.target.now c.args.path.now c.in-Define.frame c.args.need.now c.requires.path c.bring_row.ensures c.config.ensures.path next need)

pub returns-in-Initiate-clause-rests : goal.returns-in-Initiate-clause-rests
returns-in-Initiate-clause-rests g c =
    let next = rw c.in-Initiate.is at c.requires.next in
    let need = rw c.in-Initiate.is at c.requires.need in
    let leads = rw c.deref.ensures at c.config-in-Initiate.ensures.leads in
    rw c.in-Initiate.is
    (away_rests g.T.Told.told c.args.request.now c.args.target.now c.args.path.now c.in-Initiate.home.value c.args.need.now c.requires.path c.bring_row.ensures c.config.ensures.path next leads need)

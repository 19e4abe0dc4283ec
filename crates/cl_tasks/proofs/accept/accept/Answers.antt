use Rattle.cl_tasks.proofs.Onward.{accepts_last, accepts_next, job_with, leads_complete, leads_next}
use Rattle.cl_tasks.proofs.Deriving.{accepts_derives, completes_derives}
use Rattle.cl_tasks.proofs.accept.accept.Goals as goal

pub look_on-requires : goal.look_on-requires
look_on-requires g c = record { job = job_with g.T.Told.told c.args.job c.accept.new.self _ c.requires.job c.at_name-2.ensures.path (accepts_next _ _ _ _ c.in-None.is c.in-Ok.ensures.accepted).now }

pub returns-in-None-clause-leads : goal.returns-in-None-clause-leads
returns-in-None-clause-leads g c =
    leads_next g.T.Told.told c.args.job c.args.row.now c.accept.new.self _ c.at_name.ensures.path c.requires.fits (accepts_next _ _ _ _ c.in-None.is c.in-Ok.ensures.accepted) c.look_on.ensures.leads

pub returns-in-Some-clause-leads : goal.returns-in-Some-clause-leads
returns-in-Some-clause-leads g c =
    let last = accepts_last _ _ _ _ _ c.in-Some.is c.in-Ok.ensures.accepted in
    leads_complete g.T.Told.told c.args.job c.args.row.now c.accept.new.self c.in-Some.whole _ (job_with g.T.Told.told c.args.job c.accept.new.self _ c.requires.job c.at_name-2.ensures.path last.now) c.at_name.ensures.path c.at_name-2.ensures.path c.class.ensures.spelt c.requires.name
    c.requires.fits last c.define.ensures

pub returns-in-None-clause-derives : goal.returns-in-None-clause-derives
returns-in-None-clause-derives g c = accepts_derives c.args.job.path c.accept.new.self _ _ (accepts_next _ _ _ _ c.in-None.is c.in-Ok.ensures.accepted) c.look_on.ensures.derives

pub returns-in-Some-clause-derives : goal.returns-in-Some-clause-derives
returns-in-Some-clause-derives g c = completes_derives _ c.args.job.path _ c.in-Some.whole _ (accepts_last _ _ _ _ _ c.in-Some.is c.in-Ok.ensures.accepted) c.define.ensures

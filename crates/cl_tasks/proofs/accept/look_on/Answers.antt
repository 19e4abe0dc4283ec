use Rattle.cl_tasks.proofs.Repeating.{comes_last, comes_on, ends_derives, goes_derives, job_goes, leads_ends, leads_goes}
use Rattle.cl_tasks.proofs.accept.look_on.Goals as goal

pub look-requires : goal.look-requires
look-requires g c = record { job = job_goes g.T.Told.told c.args.job c.accept_repeated.new.path c.requires.job c.at_name.ensures.path (comes_on _ _ _ _ c.in-None.is c.in-Ok.ensures) }

pub returns-in-None-clause-leads : goal.returns-in-None-clause-leads
returns-in-None-clause-leads g c = leads_goes g.T.Told.told c.args.job c.accept_repeated.new.path _ (comes_on _ _ _ _ c.in-None.is c.in-Ok.ensures) c.look.ensures.leads

pub returns-in-Some-clause-leads : goal.returns-in-Some-clause-leads
returns-in-Some-clause-leads g c =
    leads_ends g.T.Told.told c.args.job c.accept_repeated.new.path c.in-Some.whole _ c.requires.job c.at_name.ensures.path (comes_last _ _ _ _ _ c.in-Some.is c.in-Ok.ensures) c.define.ensures

pub returns-in-None-clause-derives : goal.returns-in-None-clause-derives
returns-in-None-clause-derives g c = goes_derives g.T.Told.told c.args.job.path _ (comes_on _ _ _ _ c.in-None.is c.in-Ok.ensures) c.look.ensures.derives

pub returns-in-Some-clause-derives : goal.returns-in-Some-clause-derives
returns-in-Some-clause-derives g c = ends_derives g.T.Told.told c.args.job c.accept_repeated.new.path c.in-Some.whole _ (comes_last _ _ _ _ _ c.in-Some.is c.in-Ok.ensures) c.define.ensures

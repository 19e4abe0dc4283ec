use Rattle.std.proofs.Common.{subst}
use Rattle.cl_model.specs.declared.request.Request.{Request}
use Rattle.cl_tasks.specs.Resolving.{NamedTold}
use Rattle.cl_tasks.specs.Rooms.{named_room}
use Rattle.cl_tasks.specs.Steps.{LeadsBy}
use Rattle.cl_tasks.proofs.Reaching.{reaches_named, reaches_own}
use Rattle.cl_tasks.proofs.reach.reach.Goals as goal

pub returns-in-Own-clause-leads : goal.returns-in-Own-clause-leads
returns-in-Own-clause-leads g c =
    reaches_own g.row.T.Denot g.T.Told.told c.args.config.now.value c.args.job c.args.row c.reach_own.result c.requires.job c.in-Own.is c.requires.alone c.requires.name c.reach_own.ensures.reaches

pub returns-in-Resolve-clause-leads : goal.returns-in-Resolve-clause-leads
returns-in-Resolve-clause-leads g c =
    reaches_named g.row.T.Denot g.T.Told.told c.args.config.now.value c.args.job c.in-Reference.d _ _ _ c.args.row.value c.take_named.result c.requires.job c.in-Reference.is c.requires.alone c.in-Resolve.is
    (subst (λ (r : Request). LeadsBy g.T.Told.told c.args.config.now.value c.args.job.q r named_room (NamedTold {A = g.row.T.Denot} (record { q = c.args.job.q; request = r; index = c.in-Resolve.index; d = c.in-Reference.d }) c.args.row.value) c.take_named.result) c.in-Resolve.is
    c.take_named.ensures.leads)

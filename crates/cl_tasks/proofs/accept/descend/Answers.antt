use Rattle.std.proofs.Common.{ap}
use Rattle.cl_hierarchy.specs.Paths.{Pathed}
use Rattle.cl_tasks.proofs.Onward.{job_on, leads_descent}
use Rattle.cl_tasks.proofs.Deriving.{descends_derives}
use Rattle.cl_tasks.proofs.accept.descend.Goals as goal

pub look-requires : goal.look-requires
look-requires g c =
    let pushed = c.in-Ok.ensures.pushed in
    record {
      job =
          job_on g.T.Told.told c.args.job c.push.new.self c.requires.job c.at_name-2.ensures.path c.requires.job.root (ap (λ (p : Pathed). p.config) pushed)
          (ap (λ (p : Pathed). p.loader) pushed) (ap (λ (p : Pathed). p.name) pushed);
    }

pub returns-clause-leads : goal.returns-clause-leads
returns-clause-leads g c = leads_descent g.T.Told.told c.args.job c.args.draft c.push.new.self _ c.requires.job c.at_name.ensures.path c.at_name-2.ensures.path c.in-Ok.ensures.pushed c.requires.few c.requires.waits c.look.ensures.leads

pub returns-clause-derives : goal.returns-clause-derives
returns-clause-derives g c = descends_derives c.args.job.path c.push.new.self c.args.draft _ c.in-Ok.ensures.pushed c.look.ensures.derives

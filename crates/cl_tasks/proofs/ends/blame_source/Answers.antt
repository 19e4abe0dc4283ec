use Rattle.std.proofs.Common.{sym, subst}
use Rattle.cl_tasks.specs.Rooms.{last_room}
use Rattle.cl_tasks.specs.Steps.{Leads}
use Rattle.cl_tasks.specs.declared.stage.Next.{Next}
use Rattle.cl_tasks.proofs.Lead.{leads_fault}
use Rattle.cl_tasks.proofs.Probes.{next_within}
use Rattle.cl_tasks.proofs.ends.blame_source.Goals as goal

pub returns-clause-leads : goal.returns-clause-leads
returns-clause-leads g c =
    subst (λ (n : Next _). Leads g.T.Told.told c.args.job last_room (λ x. Unit {0}) n) (sym c.post.ensures)
    (rw (c.source_fault.ensures)
    (leads_fault g.T.Told.told c.args.job.path.config c.args.job.q c.args.job.request _ c.in-Some.loader (λ x. Unit {0}) c.requires.job.asked
    (next_within c.args.search c.args.job.path.config c.in-Some.loader c.requires.search.seeks.config (sym c.in-Some.ensures.next))))

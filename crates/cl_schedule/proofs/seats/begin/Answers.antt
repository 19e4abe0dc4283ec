use Rattle.std.proofs.Common.{ap}
use Rattle.cl_tasks.specs.Tasks.{Tasked}
use Rattle.cl_schedule.proofs.Paying.{starts_within}
use Rattle.cl_schedule.proofs.Seated.{ready_begun}
use Rattle.cl_schedule.proofs.seats.begin.Goals as goal

pub returns-in-Ok-clause-seated : goal.returns-in-Ok-clause-seated
returns-in-Ok-clause-seated g c = λ x kept same.
    c.read_on.ensures.seated x c.args.q c.args.request (ready_begun {A = g.row.T.Denot} g.T.Told.told x c.args.config.value c.args.q c.args.request c.in-Ok.task kept same c.in-Ok.ensures.fresh)

pub returns-in-Ok-clause-known : goal.returns-in-Ok-clause-known
returns-in-Ok-clause-known g c = λ x v. c.read_on.ensures.known x c.args.request v tt (ap (λ (t : Tasked). t.request) c.in-Ok.ensures.fresh)

pub returns-in-Ok-clause-paid : goal.returns-in-Ok-clause-paid
returns-in-Ok-clause-paid g c = λ x kept same.
    starts_within g.T.Told.told x c.args.request c.in-Ok.task c.read_on.result.task c.in-Ok.ensures.cost
    (c.read_on.ensures.paid x c.args.request (ready_begun {A = g.row.T.Denot} g.T.Told.told x c.args.config.value c.args.q c.args.request c.in-Ok.task kept same c.in-Ok.ensures.fresh))

use Rattle.cl_schedule.proofs.Steps.{Turning}
use Rattle.cl_schedule.proofs.serve.serve_request.Given as goal

abbrev pub invariant-loop-finding : goal.invariant-loop-finding
invariant-loop-finding g l =
    Turning g.T.Told.told l.fn.registry l.registry l.fn.config.value l.fn.request l.task l.reply (g.S.Source.refused l.fn.source) (g.S.Source.refused l.source) l.fn.source l.source

abbrev pub decreases-loop-finding : goal.decreases-loop-finding
decreases-loop-finding g l = l.task.left

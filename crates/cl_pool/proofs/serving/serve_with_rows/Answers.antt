use Rattle.std.proofs.Common.{arith, subst}
use Rattle.std.specs.Prelude.{IfErr}
use Rattle.cl_config.specs.Views.{Configured, Scripted}
use Rattle.cl_pool.specs.Served.{FailsAs, WorkersMayServe}
use Rattle.cl_pool.proofs.Ended.{for_report, why_none}
use Rattle.cl_pool.proofs.serving.serve_with_rows.Goals as goal

-- from 1 to 64 workers serve
may_serve : (g : _) (c : goal.After-drop-config-2 g) → WorkersMayServe c.args.workers
may_serve g c = record {
  least = let l = c.if-workers-lt1.false in omega arith;
  most = let m = c.if-workers-gt-MOST_WORKERS.false in omega arith;
}

pub returns-clause-workers : goal.returns-clause-workers
returns-clause-workers g c = for_report c.finish.result (may_serve g c)

pub returns-clause-refused : goal.returns-clause-refused
returns-clause-refused g c =
    why_none c.finish.result c.args.workers c.args.config.value c.args.script.value (may_serve g c)
    (subst (λ (k : Configured). IfErr c.finish.result (FailsAs k c.args.script.value)) c.deref.ensures
    (subst (λ (s : Scripted). IfErr c.finish.result (FailsAs c.deref.result.now s)) c.deref-2.ensures c.finish.ensures.refused))

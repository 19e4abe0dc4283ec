use Rattle.std.proofs.Common.{sym, subst}
use Rattle.cl_model.specs.declared.verdict.Verdict.{Verdict}
use Rattle.cl_model.specs.Plans.{Link}
use Rattle.cl_model.specs.Tables.{Bears}
use Rattle.cl_model.specs.Views.{verdict_of}
use Rattle.cl_findings.specs.Findings.{Decides}
use Rattle.cl_registry.specs.Tables.{state_of}
use Rattle.cl_registry.proofs.Bearing.{bears_linked, bears_no_link}
use Rattle.cl_registry.proofs.registry.Registry.bears_link.Goals as goal

pub returns-then-records : goal.returns-then-records
returns-then-records g c =
    subst (λ (v : Verdict). Decides c.look_prepared.result (Bears (state_of c.args.self.now) (Link c.args.loader c.args.name.now) (verdict_of v))) (sym c.in-Linked.is)
    (bears_linked c.look_prepared.result (state_of c.args.self.now) c.args.loader c.args.name.now c.in-Linked.class c.if-records.ensures c.look_prepared.ensures.prepared)

pub returns-else-records : goal.returns-else-records
returns-else-records g c =
    subst (λ (v : Verdict). Decides c.records.result (Bears (state_of c.args.self.now) (Link c.args.loader c.args.name.now) (verdict_of v))) (sym c.in-Linked.is)
    (bears_no_link c.records.result (state_of c.args.self.now) c.args.loader c.args.name.now c.in-Linked.class c.if-records.false c.records.ensures)

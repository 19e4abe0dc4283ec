use Rattle.std.proofs.Common.{sym, subst}
use Rattle.cl_model.specs.declared.verdict.Verdict.{Verdict}
use Rattle.cl_model.specs.Plans.{Load}
use Rattle.cl_model.specs.Tables.{Bears}
use Rattle.cl_model.specs.Views.{verdict_of}
use Rattle.cl_findings.specs.Findings.{Decides}
use Rattle.cl_registry.specs.Tables.{state_of}
use Rattle.cl_registry.proofs.Bearing.{bears_class}
use Rattle.cl_registry.proofs.registry.Registry.bears_load.Goals as goal

pub returns-in-Class : goal.returns-in-Class
returns-in-Class g c =
    subst (λ (v : Verdict). Decides c.records.result (Bears (state_of c.args.self.now) (Load c.args.loader c.args.name.now) (verdict_of v))) (sym c.in-Class.is)
    (bears_class c.records.result (state_of c.args.self.now) c.args.loader c.args.name.now c.in-Class.class c.records.ensures)

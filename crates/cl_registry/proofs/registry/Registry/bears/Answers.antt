use Rattle.std.proofs.Common.{sym, subst}
use Rattle.cl_model.specs.declared.request.Request.{Request}
use Rattle.cl_model.specs.Tables.{Bears}
use Rattle.cl_model.specs.Views.{request_of, verdict_of}
use Rattle.cl_findings.specs.Findings.{Decides}
use Rattle.cl_registry.specs.Tables.{state_of}
use Rattle.cl_registry.proofs.registry.Registry.bears.Goals as goal

pub returns-in-Resolve : goal.returns-in-Resolve
returns-in-Resolve g c =
    subst (λ (r : Request). Decides c.bears_entry.result (Bears (state_of c.args.self.now) (request_of r) (verdict_of c.args.verdict.now))) (sym c.in-Resolve.is) c.bears_entry.ensures

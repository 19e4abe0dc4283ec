use Rattle.std.proofs.Common.{subst}
use Rattle.cl_config.specs.Views.{Configured}
use Rattle.cl_findings.specs.Findings.{Decides, Stands}
use Rattle.cl_registry.specs.Tables.{Shown, state_of}
use Rattle.cl_registry.specs.View.{shown_of}
use Rattle.cl_registry.proofs.registry.Registry.stands.Goals as goal

pub returns : goal.returns
returns g c =
    let x : Shown = shown_of c.self.inside in
    subst (λ (y : Shown). Decides c.stands.result (Stands y.config (state_of y) c.args.finding.now)) c.self.view_is
    (subst (λ (k : Configured). Decides c.stands.result (Stands k (state_of x) c.args.finding.now)) c.deref.ensures (c.stands.ensures (state_of x) (c.self.invariant.book, c.self.invariant.prepared)))

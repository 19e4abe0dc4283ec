use Rattle.std.proofs.Common.{subst}
use Rattle.std.specs.Prelude.{Contains}
use Rattle.cl_findings.specs.Findings.{Decides}
use Rattle.cl_registry.specs.Tables.{Shown, state_of}
use Rattle.cl_registry.specs.View.{shown_of}
use Rattle.cl_registry.proofs.Referenced.{prepared_so}
use Rattle.cl_registry.proofs.registry.Registry.look_prepared.Goals as goal

pub returns-clause-prepared : goal.returns-clause-prepared
returns-clause-prepared g c =
    let x : Shown = shown_of c.self.inside in
    subst (λ (y : Shown). Decides c.contains.result (Contains (state_of y).prepared c.args.class.now)) c.self.view_is
    (prepared_so c.contains.result (state_of x) c.self.inside.prepared.keys c.args.class.now c.contains.ensures c.self.invariant.prepared)

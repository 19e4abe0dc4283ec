use Rattle.std.proofs.Common.{◌∙◌, ap, sym}
use Rattle.cl_model.specs.declared.request.Request.{Request}
use Rattle.cl_registry.specs.References.{cited_by}
use Rattle.cl_registry.proofs.registry.Registry.to_settle.Goals as goal

pub returns-in-Err-clause-refused : goal.returns-in-Err-clause-refused
returns-in-Err-clause-refused g c = (
  record { class = c.in-Some.class.now; index = c.in-Some.index; verdict = c.in-Some-verdict_to_settle.verdict.now },
  record { cited = sym (c.in-Some.ensures ∙ ap (λ (r : Request). cited_by c.args.self.now r) c.request.ensures.request); says = c.in-Some-verdict_to_settle.ensures; stands = c.if-not-stands.ensures },
)

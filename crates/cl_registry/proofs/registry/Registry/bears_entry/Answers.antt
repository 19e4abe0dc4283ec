use Rattle.std.proofs.Common.{◌≡◌, ◌≢◌, ◌∙◌, ap, subst}
use Rattle.std.specs.Prelude.{MatchBool}
use Rattle.cl_model.specs.declared.settled.Settled.{Settled}
use Rattle.cl_registry.proofs.Bearing.{bears_settled, bears_unrecorded, bears_unsettled}
use Rattle.cl_registry.proofs.registry.Registry.bears_entry.Goals as goal
use Rattle.cl_model.specs.Views.{verdict_of}

pub returns-in-None : goal.returns-in-None
returns-in-None g c = bears_unrecorded c.args.self.now c.args.loader c.args.index c.args.name.now (verdict_of c.args.verdict.now) c.in-None.ensures.found

pub returns-in-Some-look_reference : goal.returns-in-Some-look_reference
returns-in-Some-look_reference g c =
    bears_settled c.is_same.result c.args.self.now c.args.loader c.args.index c.args.name.now c.in-Some.row.now.value c.class.result.now c.in-Some-look_reference.settled.now.value c.args.verdict.now c.in-Some.ensures.found
    (c.class.ensures.class ∙ ap (λ r. r.class) c.deref.ensures) c.in-Some-look_reference.ensures.found c.if-is_never_settled.ensures
    (subst (λ (s : Settled). MatchBool c.is_same.result (s.verdict ≡ c.args.verdict.now) (s.verdict ≢ c.args.verdict.now)) c.deref-in-Some-look_reference.ensures c.is_same.ensures)

pub returns-in-None-look_reference : goal.returns-in-None-look_reference
returns-in-None-look_reference g c =
    bears_unsettled c.args.self.now c.args.loader c.args.index c.args.name.now c.in-Some.row.now.value c.class.result.now (verdict_of c.args.verdict.now) c.in-Some.ensures.found (c.class.ensures.class ∙ ap (λ r. r.class) c.deref.ensures)
    c.in-None-look_reference.ensures.found c.if-is_never_settled.ensures

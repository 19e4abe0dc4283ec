use Rattle.std.proofs.Common.{◌≡◌, true, rules, ap, sym, ◌∙◌}
use Rattle.std.proofs.lemmas.Result.{IfOk-at_ok, on_ok_weaker}
use Rattle.cl_model.specs.declared.class.Class.{Class}
use Rattle.cl_hierarchy.specs.Imposed.{needs_of}
use Rattle.cl_preparation.proofs.Constraints.{declared_pushed}
use Rattle.cl_preparation.proofs.relatives.Relatives.push_declared.Goals as goal

pub returns : goal.returns
returns g c =
    let part : c.takes_part.result ≡ true = search rules in
    on_ok_weaker c.push_taking.result
    (λ e. declared_pushed (λ r. r.value) c.args.self.now c.own-own.result.now c.superclasses.result.now c.superinterfaces.result.now c.args.method.now c.key-key.result.now c.in_ok-described.described
    (needs_of c.args.needs.now.items) (needs_of c.push_above.new.needs.items) (needs_of c.push_taking.new.needs.items) c.class.result.now.loader
    c.superclasses.ensures c.superinterfaces.ensures c.own-own.ensures c.key-key.ensures c.in_ok-described.ensures (sym part ∙ c.takes_part.ensures) (ap (λ (x : Class). x.loader) c.class.ensures.class)
    (IfOk-at_ok _ c.in_ok-push_above.was c.push_above.ensures) e)
    c.push_taking.ensures

use Rattle.std.proofs.Common.{◌≡◌, true, false, rules, ap, sym, ◌∙◌}
use Rattle.std.proofs.lemmas.Result.{on_ok_weaker}
use Rattle.cl_model.specs.declared.class.Class.{Class}
use Rattle.cl_hierarchy.specs.Imposed.{needs_of}
use Rattle.cl_preparation.proofs.Constraints.{inherited_none, inherited_pushed}
use Rattle.cl_preparation.proofs.relatives.Relatives.push_inherited.Goals as goal

pub returns-in_ok-described-in-Some : goal.returns-in_ok-described-in-Some
returns-in_ok-described-in-Some g c =
    let part : c.takes_part.result ≡ true = search rules in
    let none : c.declares.result ≡ false = search rules in
    on_ok_weaker c.push_equals.result
    (λ e. inherited_pushed (λ r. r.value) c.args.self.now c.superclasses.result.now c.superclasses.ensures c.own.result.now c.args.interface.now c.args.method.now c.key-key.result.now c.own.ensures c.key-key.ensures
    c.inherited_loader.result c.in-Some.loader c.class.result.now.loader c.in_ok-described-in-Some.described (needs_of c.args.needs.now.items) (needs_of c.push_equals.new.needs.items)
    (sym part ∙ c.takes_part.ensures) (sym none ∙ c.declares.ensures) c.inherited_loader.ensures c.in-Some.is c.in_ok-described-in-Some.ensures (ap (λ (x : Class). x.loader) c.class.ensures.class) e)
    c.push_equals.ensures

pub returns-in-None : goal.returns-in-None
returns-in-None g c =
    let part : c.takes_part.result ≡ true = search rules in
    let none : c.declares.result ≡ false = search rules in
    inherited_none (λ r. r.value) c.args.self.now c.superclasses.result.now c.superclasses.ensures c.own.result.now c.args.interface.now c.args.method.now c.key-key.result.now c.own.ensures c.key-key.ensures
    c.inherited_loader.result (needs_of c.args.needs.now.items) (sym part ∙ c.takes_part.ensures) (sym none ∙ c.declares.ensures) c.inherited_loader.ensures c.in-None.is

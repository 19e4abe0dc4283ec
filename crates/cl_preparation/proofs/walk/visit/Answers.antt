use Rattle.std.proofs.Common.{◌≡◌, ◌++◌, Some, true, rules, ap, subst, ◌∙◌}
use Rattle.std.proofs.lemmas.Result.{IfOk-at_ok}
use Rattle.cl_model.specs.declared.class.Class.{Class}
use Rattle.cl_model.specs.Preparation.{equals_of}
use Rattle.cl_hierarchy.specs.Imposed.{needs_of}
use Rattle.cl_preparation.specs.declared.packages.Package.{Package}
use Rattle.cl_preparation.specs.Packages.{Opens, package_of_class}
use Rattle.cl_preparation.specs.Relatives.{bare}
use Rattle.cl_preparation.specs.Walks.{declared_open}
use Rattle.cl_preparation.proofs.Walking.{opened_too}
use Rattle.cl_preparation.proofs.walk.visit.Goals as goal

pub returns-in_ok-open : goal.returns-in_ok-open
returns-in_ok-open g c = λ before was.
    let some : Some true ≡ declared_open c.args.method.now (bare c.args.class.now) = search rules in
    opened_too c.args.method.now before (bare c.args.class.now) (equals_of c.args.method.now c.args.loader c.args.class.now.class.loader) (needs_of c.args.needs.now.items) (needs_of c.push_equals.new.needs.items)
    c.args.opened.now c.open.new.packages some was
    (IfOk-at_ok _ c.in_ok-push_equals.was c.push_equals.ensures ∙ ap (λ (x : Class). needs_of c.args.needs.now.items ++ equals_of c.args.method.now c.args.loader x.loader) c.class-class.ensures.class)
    (subst (λ (p : Package). Opens c.args.opened.now c.open.new.packages p) (c.in_ok-of.ensures ∙ ap package_of_class c.class-class.ensures.class) (IfOk-at_ok _ c.in_ok-open.was c.open.ensures))

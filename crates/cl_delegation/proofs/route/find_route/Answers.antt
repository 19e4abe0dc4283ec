use Rattle.std.proofs.Common.{◌≡◌, List, ℕ, subst}
use Rattle.std.specs.Prelude.{IfOk}
use Rattle.cl_config.specs.Loaders.{loaders_in}
use Rattle.cl_delegation.proofs.Firsts.{walk_is_probed}
use Rattle.cl_delegation.proofs.route.find_route.Goals as goal

pub returns : goal.returns
returns c =
    subst (λ (way : List ℕ). IfOk c.walk_from.result (λ v. v.items ≡ way))
    (walk_is_probed (loaders_in c.args.config.now) c.args.loader c.args.name.now c.is_java.result c.is_java.ensures c.if-is_java.false) c.walk_from.ensures

use Rattle.std.proofs.Common.{◌≡◌, ◌+◌, ℕ, subst, arith}
use Rattle.std.specs.Prelude.{slice_get, Some}
use Rattle.cl_config.specs.Configs.{LeadsBelow}
use Rattle.cl_config.proofs.Below.{below_at}
use Rattle.cl_config.proofs.config.Config.at.Goals as goal

pub returns-clause-below : goal.returns-clause-below
returns-clause-below c =
    let found : slice_get c.self.inside.loaders.items c.args.loader ≡ Some c.loader_at.result.now = cc in
    let same : 0 + c.args.loader ≡ c.args.loader = omega arith in
    subst (λ (n : ℕ). LeadsBelow n c.loader_at.result.now) same (below_at 0 c.args.loader c.self.inside.loaders.items c.loader_at.result.now c.self.invariant.config.below found)

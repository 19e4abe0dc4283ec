use Rattle.std.proofs.Common.{◌∙◌, ◌<◌, List, ℕ, Option, length, ap, sym, subst}
use Rattle.std.specs.Prelude.{IfSome}
use Rattle.cl_config.specs.Views.{loader_named}
use Rattle.cl_config.proofs.Named.{within}
use Rattle.cl_config.proofs.names.Names.find.Goals as goal

pub returns-clause-within : goal.returns-clause-within
returns-clause-within c =
    let found = c.copied.ensures ∙ c.get.ensures.value ∙ c.self.invariant.at c.args.word.now ∙ ap (λ (ns : List (List ℕ)). loader_named ns c.args.word.now) c.self.view_is in
    subst (λ (o : Option ℕ). IfSome o (λ place. place < length c.args.self.now)) (sym found) (within c.args.self.now c.args.word.now)

use Rattle.std.proofs.Common.{◌≡◌, [], ◌++◌, ◌∷◌, ◌&&◌, not, ap, ◌∙◌, rules}
use Rattle.std.proofs.lemmas.Fn.{filter_same}
use Rattle.cl_constraints.specs.Groups.{without}
use Rattle.cl_model.specs.Probes.{is_in}
use Rattle.cl_constraints.proofs.grouped.replace.Goals as goal

pub returns-clause-replaced : goal.returns-clause-replaced
returns-clause-replaced c =
    let kept : c.retain.new.self.items ≡ without c.args.a c.args.b c.try_reserve.new.self.items = filter_same _ (λ g. not (is_in g.loaders c.args.a) && not (is_in g.loaders c.args.b)) _ (λ x b f r. (search rules, search rules)) _ _ c.retain.ensures.filtered in
    c.in_ok-push.ensures.items ∙ ap (λ gs. gs ++ c.args.joint ∷ []) (kept ∙ ap (without c.args.a c.args.b) c.in_ok-try_reserve.ensures.items)

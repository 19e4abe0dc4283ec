use Rattle.std.proofs.Common.{◌≡◌, ◌∙◌, ℕ, List, ap, sym, subst}
use Rattle.std.specs.Prelude.{IfOk}
use Rattle.cl_hierarchy.specs.Paths.{name_of}
use Rattle.cl_hierarchy.proofs.Frames.{fresh_wants}
use Rattle.cl_hierarchy.proofs.path.prepare.Goals as goal

pub returns-clause-name : goal.returns-clause-name
returns-clause-name g c =
    subst (λ (n : List ℕ). IfOk c.try_clone.result (λ m. m ≡ n)) (ap name_of (c.in-Some.ensures.name ∙ sym (fresh_wants c.args.draft.now))) c.try_clone.ensures

use Rattle.std.proofs.Common.{◌<◌, ◌^◌, ◌∙◌, ℕ, List, length, ap, subst}
use Rattle.cl_classfile.specs.Structure.{Structure}
use Rattle.cl_hierarchy.proofs.Drafting.{few_supers}
use Rattle.cl_hierarchy.proofs.draft.Draft.supertype.Goals as goal

pub returns-clause-few : goal.returns-clause-few
returns-clause-few g c =
    let counted = c.count_of.ensures ∙ ap (λ (is : List ℕ). length is) (c.interfaces.ensures ∙ ap (λ (f : Structure). f.interfaces) (c.deref.ensures ∙ ap (λ d. d.file) c.self.view_is)) in
    few_supers c.args.self.now.file (subst (λ (n : ℕ). n < 2 ^ 64) counted c.count_of.type_inv)

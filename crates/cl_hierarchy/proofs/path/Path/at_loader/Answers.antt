use Rattle.std.proofs.Common.{◌∙◌, ap, sym}
use Rattle.cl_model.specs.declared.class.Class.{Class}
use Rattle.cl_hierarchy.specs.Drafts.{Drafted}
use Rattle.cl_hierarchy.specs.Paths.{at_loader}
use Rattle.cl_hierarchy.proofs.Tables.{at_last}
use Rattle.cl_hierarchy.proofs.path.Path.at_loader.Goals as goal

pub returns-in-Some-clause-loader : goal.returns-in-Some-clause-loader
returns-in-Some-clause-loader g c =
    ap (λ (t : Class). t.loader) (c.class.ensures ∙ ap (λ (d : Drafted). d.class) c.draft.ensures)
    ∙ sym (at_last c.self.inside.frames.entries c.in-Some.field-0-0.now c.in-Some.frame.now c.self.inside.loader (sym c.in-Some.ensures.entry)) ∙ ap at_loader c.self.view_is

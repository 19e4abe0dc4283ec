use Rattle.std.proofs.Common.{◌∙◌, Option, ap, sym}
use Rattle.cl_classfile.specs.Files.{file_of}
use Rattle.cl_model.specs.Classes.{Above}
use Rattle.cl_hierarchy.specs.Drafts.{Drafted}
use Rattle.cl_hierarchy.specs.Paths.{Pathed, misfit_in, misfit_under}
use Rattle.cl_hierarchy.proofs.Tables.{under_entry, told_of, said_of}
use Rattle.cl_hierarchy.proofs.path.Path.misfit.Goals as goal

pub returns-in_err-wanted : goal.returns-in_err-wanted
returns-in_err-wanted g c =
    let t = c.args.row.now.class in
    let f = file_of c.args.row.now.file in
    ap (told_of t) c.from_residual-in_err-wanted.ensures ∙ ap (λ (o : Option Above). misfit_in c.in_ok-frame.frame.now o t f) c.in_err-wanted.ensures
    ∙ sym (under_entry c.self.inside.frames.entries c.in_ok-frame.field-0-0.now c.in_ok-frame.frame.now t f (sym c.in_ok-frame.ensures.entry)) ∙ ap (λ (p : Pathed). misfit_under p.frames t f) c.self.view_is

pub returns : goal.returns
returns g c =
    let t = c.args.row.now.class in
    let f = file_of c.args.row.now.file in
    said_of c.misfit.result _ _ _ _ _ _ _ (c.class.ensures ∙ ap (λ (d : Drafted). d.class) c.draft.ensures) c.class-2.ensures.class (c.deref.ensures ∙ c.file.ensures.file) c.misfit.ensures
    ∙ ap (λ (o : Option Above). misfit_in c.in_ok-frame.frame.now o t f) c.in_ok-wanted.ensures
    ∙ sym (under_entry c.self.inside.frames.entries c.in_ok-frame.field-0-0.now c.in_ok-frame.frame.now t f (sym c.in_ok-frame.ensures.entry)) ∙ ap (λ (p : Pathed). misfit_under p.frames t f) c.self.view_is

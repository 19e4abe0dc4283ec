use Rattle.std.proofs.Common.{◌≡◌, ◌∙◌, slice_get, sym, subst}
use Rattle.cl_classfile.specs.Structure.{Structure}
use Rattle.cl_classfile.specs.Files.{file_of}
use Rattle.cl_classfile.proofs.Classes.{interface_at}
use Rattle.cl_classfile.proofs.file.ClassFile.first_of_name.Goals as goal

pub returns-clause-before : goal.returns-clause-before
returns-clause-before c = (c.first.ensures c.self.inside.parts.pool.items c.self.inside.parts.interfaces.items c.self.invariant.2).0

pub returns-clause-same : goal.returns-clause-same
returns-clause-same c =
    let pool = c.self.inside.parts.pool.items in
    let interfaces = c.self.inside.parts.interfaces.items in
    let kept = c.self.invariant.0.kept.interfaces in
    subst (λ (f : Structure). slice_get (file_of f).interfaces c.first.result ≡ slice_get (file_of f).interfaces c.args.place) c.self.view_is
    (sym (interface_at pool interfaces c.first.result kept) ∙ (c.first.ensures pool interfaces c.self.invariant.2).1 ∙ interface_at pool interfaces c.args.place kept)

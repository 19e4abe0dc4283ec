use Rattle.std.proofs.Common.{ap, ◌∙◌, slice_get}
use Rattle.cl_classfile.specs.Structure.{Structure}
use Rattle.cl_classfile.specs.Files.{file_of}
use Rattle.cl_classfile.proofs.Classes.{interface_at}
use Rattle.cl_classfile.proofs.file.ClassFile.interface_name.Goals as goal

pub returns : goal.returns
returns c =
    c.interface_name.ensures ∙ interface_at c.self.inside.parts.pool.items c.self.inside.parts.interfaces.items c.args.place c.self.invariant.0.kept.interfaces
    ∙ ap (λ (f : Structure). slice_get (file_of f).interfaces c.args.place) c.self.view_is

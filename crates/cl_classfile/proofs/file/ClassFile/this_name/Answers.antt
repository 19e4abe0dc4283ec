use Rattle.std.proofs.Common.{List, ap, ◌∙◌}
use Rattle.cl_classfile.specs.declared.entry.Entry.{Entry}
use Rattle.cl_classfile.specs.Files.{class_name}
use Rattle.cl_classfile.proofs.Classes.{class_named, is_there}
use Rattle.cl_classfile.proofs.file.ClassFile.this_name.Goals as goal

pub unwrap-requires : goal.unwrap-requires
unwrap-requires c =
    is_there (λ n. n.now) c.class_name.result c.self.invariant.0.kept.name
    (c.class_name.ensures ∙ ap (λ (es : List Entry). class_name es c.self.inside.parts.this_class) c.as_slice.ensures.value ∙ class_named c.self.inside.parts.pool.items c.self.inside.parts.this_class c.self.invariant.0.kept.name c.self.invariant.0.kept.this_class)

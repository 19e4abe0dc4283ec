use Rattle.std.proofs.Common.{◌∙◌, sym, ap, arith}
use Rattle.std.specs.Option.{option_map}
use Rattle.cl_classfile.specs.Files.{file_of}
use Rattle.cl_hierarchy.proofs.Repeats.{same_behind}
use Rattle.cl_hierarchy.proofs.supertype.first_of_name.Goals as goal

pub returns-else-place-eq0-clause-same : goal.returns-else-place-eq0-clause-same
returns-else-place-eq0-clause-same c =
    same_behind (file_of c.args.file.now) c.in-Some.field-0.now c.first_of_name-in-Some.result c.args.place (sym c.super_name.ensures.name ∙ ap (option_map (λ n. n.now)) c.in-Some.is) (λ e. absurd (omega arith)) c.first_of_name-in-Some.ensures.same

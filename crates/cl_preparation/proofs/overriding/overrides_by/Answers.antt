use Rattle.std.proofs.Common.{ap, map, sym, ◌∙◌}
use Rattle.cl_classfile.specs.Files.{method_of}
use Rattle.cl_model.specs.declared.class.Class.{Class}
use Rattle.cl_model.specs.Classes.{same_package}
use Rattle.cl_preparation.proofs.Named.{told_last}
use Rattle.cl_preparation.proofs.overriding.overrides_by.Goals as goal
use Rattle.cl_preparation.proofs.overriding.overrides_by.Goals.{then-takes_part, else-takes_part, then-is_open, else-is_open}

pub returns-else-same_package : goal.returns-else-same_package
returns-else-same_package g c = elim c.if-takes_part.branch [
  | else-takes_part w ↦ absurd cc
  | then-takes_part w ↦ elim c.if-is_open.branch [
    | then-is_open v ↦ absurd cc
    | else-is_open v ↦
        told_last (method_of c.args.name.now c.args.descriptor.now) c.args.own.now c.args.above.now (map (λ r. r.value) c.args.between.now)
        c.takes_part.result w.takes_part-then-takes_part.result c.is_open.result v.same_package.result c.any_opens.result c.takes_part.ensures w.takes_part-then-takes_part.ensures c.is_open.ensures
        (v.same_package.ensures ∙ ap (λ (x : Class). same_package x v.class-else-is_open.result.now) v.class.ensures.class ∙ ap (λ (x : Class). same_package c.args.above.now.class x) v.class-else-is_open.ensures.class)
        c.any_opens.ensures w.if-takes_part.true (sym w.value-is ∙ c.if-takes_part-2.true) v.if-is_open.false (sym v.value-is ∙ c.if-same_package.false)
  ]
]

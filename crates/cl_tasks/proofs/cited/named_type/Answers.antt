use Rattle.std.proofs.Common.{◌≡◌, ◌∙◌, ℕ, List, Some, ap, subst, sym}
use Rattle.cl_classfile.specs.Files.{is_array_name, named_type}
use Rattle.cl_classfile.specs.Pool.{NamesType}
use Rattle.cl_tasks.proofs.EntryCited.{array_named, array_read}
use Rattle.cl_tasks.proofs.cited.named_type.Goals as goal

pub unreachable-requires : goal.unreachable-requires
unreachable-requires c =
    let text = c.bytes-2.result.now in
    array_read text c.in-Err.fault (subst NamesType (sym c.bytes-2.ensures.bytes) c.requires)
    (ap is_array_name (c.bytes-2.ensures.bytes ∙ sym c.bytes.ensures.bytes) ∙ sym c.if-not-is_array_name.ensures) c.in-Err.ensures.only c.in_default.not-Memory

pub returns-in-Ok : goal.returns-in-Ok
returns-in-Ok c =
    subst (λ (text : List ℕ). named_type text ≡ Some c.in-Ok.t) c.bytes-2.ensures.bytes
    (array_named c.bytes-2.result.now c.in-Ok.t (ap is_array_name (c.bytes-2.ensures.bytes ∙ sym c.bytes.ensures.bytes) ∙ sym c.if-not-is_array_name.ensures) c.in-Ok.ensures.grammar.0)

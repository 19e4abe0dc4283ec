use Rattle.std.proofs.Common.{◌∙◌, ℕ, List, length, None, Some, refl, sym, ap, arith}
use Rattle.std.specs.Prelude.{option_map}
use Rattle.cl_hierarchy.proofs.Counted.{counted}
use Rattle.cl_hierarchy.proofs.supertype.supertypes_of.Goals as goal

pub returns-in-Some : goal.returns-in-Some
returns-in-Some c =
    counted c.args.file.now (Some c.in-Some.field-0.now) 1 _ c.pool.ensures.sound (sym c.super_name.ensures.name ∙ ap (option_map (λ n. n.now)) c.in-Some.is) refl
    (ap (λ (is : List ℕ). length is) c.interfaces-interfaces.ensures)

pub returns-in-None : goal.returns-in-None
returns-in-None c =
    let all = counted c.args.file.now None 0 _ c.pool.ensures.sound (sym c.super_name.ensures.name ∙ ap (option_map (λ n. n.now)) c.in-None.is) refl (ap (λ (is : List ℕ). length is) c.interfaces-interfaces.ensures) in
    omega (arith, all)

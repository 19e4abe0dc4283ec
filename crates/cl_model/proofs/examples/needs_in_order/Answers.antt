use Rattle.std.proofs.Common.{◌≡◌, ℕ, inl, inr, refl}
use Rattle.cl_classfile.specs.Files.{Name}
use Rattle.cl_model.specs.States.{Entry, Equal}
use Rattle.cl_model.proofs.Refusals.{missing}
use Rattle.cl_model.proofs.examples.needs_in_order.Goals as goal

pub returns-clause-next : goal.returns-clause-next
returns-clause-next c = inl refl

two_kinds : {loader place a b : ℕ} {name other : Name} → Entry loader name place ≡ Equal other a b → ⊥
two_kinds e = absurd cc

pub returns-clause-not_yet : goal.returns-clause-not_yet
returns-clause-not_yet c (inl e) = two_kinds e
returns-clause-not_yet c (inr h) = missing h.0

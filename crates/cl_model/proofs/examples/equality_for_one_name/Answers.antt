use Rattle.std.proofs.Common.{◌≡◌, ℕ, zero, suc, true, false, ap, List, [], ◌∷◌, codes, arith, ◌∙◌}
use Rattle.std.specs.Prelude.{Contains}
use Rattle.cl_classfile.specs.Files.{same_name}
use Rattle.cl_model.specs.States.{IsPathBetween, Linked, Equality}
use Rattle.cl_model.specs.Examples.{app, plug}
use Rattle.cl_model.proofs.examples.equality_for_one_name.Goals as goal

-- the one equality of the state is for T
abbrev for_t : List Equality
for_t = record { name = codes "p/T"; one = app; other = plug } ∷ []

only_one : (e : Equality) → Contains for_t e → record { name = codes "p/T"; one = app; other = plug } ≡ e
only_one e (zero, l, h) = h
only_one e (suc x, l, h) = absurd (omega arith)

other_name : (b : ℕ) → Linked for_t (codes "p/V") app b → ⊥
other_name b h = absurd (let e : true ≡ false = ap (same_name (codes "p/T")) (ap (λ (e : Equality). e.name) (only_one h.equality h.imposed) ∙ h.named) in cc)

apart : (path : List ℕ) → IsPathBetween for_t (codes "p/V") app path plug → ⊥
apart [] e = absurd (let n : app ≡ plug = e in cc)
apart (l ∷ ls) e = other_name l e.0

pub returns : goal.returns
returns c h = apart h.path h.along

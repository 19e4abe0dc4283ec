use Rattle.std.proofs.Common.{◌≡◌}
use Rattle.std.specs.Cmp.Lexicographic.{bytes_decides}
use Rattle.cl_model.proofs.Keys.{descriptors_told}
use Rattle.cl_model.proofs.key.MemberKey.is_same.Goals as goal

pub returns-then-eq : goal.returns-then-eq
returns-then-eq c =
    let names : c.self.inside.name ≡ c.other.inside.name = (bytes_decides c.self.inside.name c.other.inside.name).0 cc in
    rw (← c.self.view_is, ← c.other.view_is)
    (descriptors_told c.self.inside.name c.other.inside.name c.self.inside.descriptor c.other.inside.descriptor c.self.invariant c.other.invariant
    names c.eq-then-eq.result c.eq-then-eq.ensures)

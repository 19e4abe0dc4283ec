use Rattle.std.proofs.Common.{refl}
use Rattle.cl_classfile.specs.Structure.{spelling}
use Rattle.cl_classfile.proofs.Tables.{parts_say, parts_told}
use Rattle.cl_classfile.proofs.Exact.{parts_as_read}
use Rattle.cl_classfile.proofs.laws.parts_are_spelled.Goals as goal

pub returns-clause-same : goal.returns-clause-same
returns-clause-same c = λ f g h. (parts_say f g h).0

pub returns-clause-spelled : goal.returns-clause-spelled
returns-clause-spelled c = λ f. (
  λ h. (spelling f, record { file = (parts_say f f h).1; spelled = refl }),
  λ s. parts_told f s.1.file.fits s.1.file.kept,
)

pub returns-clause-as_read : goal.returns-clause-as_read
returns-clause-as_read c = parts_as_read

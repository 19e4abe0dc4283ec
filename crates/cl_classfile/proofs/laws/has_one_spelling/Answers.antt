use Rattle.std.proofs.Common.{refl, sym, ◌∙◌}
use Rattle.cl_classfile.specs.Structure.{spelling}
use Rattle.cl_classfile.proofs.laws.has_one_spelling.Goals as goal

pub returns-clause-some : goal.returns-clause-some
returns-clause-some c = λ f fits kept. (spelling f, record { file = record { fits = fits; kept = kept }; spelled = refl })

pub returns-clause-one : goal.returns-clause-one
returns-clause-one c = λ f bytes other s t. s.spelled ∙ sym t.spelled

use Rattle.std.proofs.Common.{sym, ◌∙◌}
use Rattle.std.proofs.lemmas.Option.{same_Some}
use Rattle.cl_descriptors.proofs.Methods.{whole_method_spelled, whole_method_again}
use Rattle.cl_descriptors.proofs.laws.one_method_spelling.Goals as goal

pub returns-clause-one : goal.returns-clause-one
returns-clause-one c = λ bytes x y p q. same_Some x y (sym (whole_method_again bytes x p) ∙ whole_method_again bytes y q)

pub returns-clause-read : goal.returns-clause-read
returns-clause-read c = λ bytes x. (whole_method_spelled bytes x, whole_method_again bytes x)

use Rattle.cl_bundle.proofs.Alone.{printed_alike}
use Rattle.cl_bundle.proofs.laws.same_faults_print_alike.Goals as goal

pub returns : goal.returns
returns c = printed_alike

use Rattle.std.proofs.lemmas.Result.{IfOk-weaker}
use Rattle.std.proofs.Common.{◌∙◌}
use Rattle.cl_hierarchy.specs.Lineages.{kin_of}
use Rattle.cl_hierarchy.proofs.Tours.{superinterfaces_listed}
use Rattle.cl_hierarchy.proofs.lineage.Lineage.superinterfaces.Goals as goal

pub returns-clause-superinterfaces : goal.returns-clause-superinterfaces
returns-clause-superinterfaces g c = IfOk-weaker c.rows_by_tour.result _ _ (λ v e. e ∙ superinterfaces_listed (kin_of c.args.self.now)) c.rows_by_tour.ensures.listed

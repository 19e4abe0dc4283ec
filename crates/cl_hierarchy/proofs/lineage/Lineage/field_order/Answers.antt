use Rattle.std.proofs.lemmas.Result.{IfOk-weaker}
use Rattle.std.proofs.Common.{◌∙◌}
use Rattle.cl_hierarchy.specs.Lineages.{kin_of}
use Rattle.cl_hierarchy.proofs.Tours.{field_order_listed}
use Rattle.cl_hierarchy.proofs.lineage.Lineage.field_order.Goals as goal

pub returns-clause-order : goal.returns-clause-order
returns-clause-order g c = IfOk-weaker c.rows_by_tour.result _ _ (λ v e. e ∙ field_order_listed (kin_of c.args.self.now)) c.rows_by_tour.ensures.listed

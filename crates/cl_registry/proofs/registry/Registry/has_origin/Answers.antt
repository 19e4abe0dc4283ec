use Rattle.cl_registry.proofs.Tested.{both_stand}
use Rattle.cl_registry.proofs.registry.Registry.has_origin.Goals as goal

pub returns-then-not-has_lineage-clause-stands : goal.returns-then-not-has_lineage-clause-stands
returns-then-not-has_lineage-clause-stands g c = rw c.in-Reference.is (λ two. c.if-not-has_lineage.ensures.stands two.0)

pub returns-else-not-has_lineage-clause-stands : goal.returns-else-not-has_lineage-clause-stands
returns-else-not-has_lineage-clause-stands g c =
    rw c.in-Reference.is
    (both_stand c.args.self.now c.in-Reference.d c.in-Reference.c c.reaches.result c.if-not-has_lineage.ensures.stands c.reaches.ensures.reached)

pub returns-in-Preparation-clause-stands : goal.returns-in-Preparation-clause-stands
returns-in-Preparation-clause-stands g c = rw c.in-Preparation.is c.has_lineage-in-Preparation.ensures.stands

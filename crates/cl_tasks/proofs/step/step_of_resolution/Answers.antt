use Rattle.cl_tasks.proofs.step.step_of_resolution.Goals as goal

pub after_check-requires : goal.after_check-requires
after_check-requires g c = record { failed = rw c.in-Checking.is at c.requires.kept; expects = rw c.in-Checking.is at c.requires.expects }

pub returns-in-Checking : goal.returns-in-Checking
returns-in-Checking g c = rw c.in-Checking.is c.after_check.ensures

pub after_reference_look-requires : goal.after_reference_look-requires
after_reference_look-requires g c = record { entry = rw c.in-LookingReference.is at c.requires.kept; expects = rw c.in-LookingReference.is at c.requires.expects }

pub returns-in-LookingReference : goal.returns-in-LookingReference
returns-in-LookingReference g c = rw c.in-LookingReference.is c.after_reference_look.ensures

pub after_own_lineage-requires : goal.after_own_lineage-requires
after_own_lineage-requires g c = record { entry = rw c.in-TracingOwn.is at c.requires.kept; expects = rw c.in-TracingOwn.is at c.requires.expects }

pub returns-in-TracingOwn : goal.returns-in-TracingOwn
returns-in-TracingOwn g c = rw c.in-TracingOwn.is c.after_own_lineage.ensures

pub after_named_lineage-requires : goal.after_named_lineage-requires
after_named_lineage-requires g c =
    let kept = rw c.in-TracingNamed.is at c.requires.kept in
    record { entry = kept.0; own = kept.1; expects = rw c.in-TracingNamed.is at c.requires.expects }

pub returns-in-TracingNamed : goal.returns-in-TracingNamed
returns-in-TracingNamed g c = rw c.in-TracingNamed.is c.after_named_lineage.ensures

pub after_impose-requires : goal.after_impose-requires
after_impose-requires g c =
    let kept = rw c.in-Imposing.is at c.requires.kept in
    record { member = kept.0; within = kept.1; expects = rw c.in-Imposing.is at c.requires.expects }

pub returns-in-Imposing : goal.returns-in-Imposing
returns-in-Imposing g c = rw c.in-Imposing.is c.after_impose.ensures

pub after_settle-requires : goal.after_settle-requires
after_settle-requires g c = record { entry = rw c.in-Settling.is at c.requires.kept; expects = rw c.in-Settling.is at c.requires.expects }

pub returns-in-Settling : goal.returns-in-Settling
returns-in-Settling g c = rw c.in-Settling.is c.after_settle.ensures

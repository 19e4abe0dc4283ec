use Rattle.cl_tasks.proofs.step.step_of_link.Goals as goal

pub after_prepared_look-requires : goal.after_prepared_look-requires
after_prepared_look-requires g c = record { goal = rw c.in-LookingPrepared.is at c.requires.kept; expects = rw c.in-LookingPrepared.is at c.requires.expects }

pub returns-in-LookingPrepared : goal.returns-in-LookingPrepared
returns-in-LookingPrepared g c = rw c.in-LookingPrepared.is c.after_prepared_look.ensures

pub after_whole_lineage-requires : goal.after_whole_lineage-requires
after_whole_lineage-requires g c = record { goal = rw c.in-TracingWhole.is at c.requires.kept; expects = rw c.in-TracingWhole.is at c.requires.expects }

pub returns-in-TracingWhole : goal.returns-in-TracingWhole
returns-in-TracingWhole g c = rw c.in-TracingWhole.is c.after_whole_lineage.ensures

pub after_prepared_count-requires : goal.after_prepared_count-requires
after_prepared_count-requires g c =
    let kept = rw c.in-Counting.is at c.requires.kept in
    record { goal = kept.0; whole = kept.1; expects = rw c.in-Counting.is at c.requires.expects }

pub returns-in-Counting : goal.returns-in-Counting
returns-in-Counting g c = rw c.in-Counting.is c.after_prepared_count.ensures

pub after_lineage-requires : goal.after_lineage-requires
after_lineage-requires g c = record { chain = rw c.in-Tracing.is at c.requires.kept; expects = rw c.in-Tracing.is at c.requires.expects }

pub returns-in-Tracing : goal.returns-in-Tracing
returns-in-Tracing g c = rw c.in-Tracing.is c.after_lineage.ensures

pub after_impose-requires : goal.after_impose-requires
after_impose-requires g c =
    let kept = rw c.in-Imposing.is at c.requires.kept in
    record { chain = kept.0; list = kept.1; within = kept.2; expects = rw c.in-Imposing.is at c.requires.expects }

pub returns-in-Imposing : goal.returns-in-Imposing
returns-in-Imposing g c = rw c.in-Imposing.is c.after_impose.ensures

pub after_mark-requires : goal.after_mark-requires
after_mark-requires g c =
    let kept = rw c.in-Marking.is at c.requires.kept in
    record { chain = kept.0; list = kept.1; expects = rw c.in-Marking.is at c.requires.expects }

pub returns-in-Marking : goal.returns-in-Marking
returns-in-Marking g c = rw c.in-Marking.is c.after_mark.ensures

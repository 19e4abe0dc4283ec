use Rattle.std.proofs.Common.{Option, subst}
use Rattle.std.specs.Prelude.{IsSome}
use Rattle.cl_model.specs.Classes.{Above}
use Rattle.cl_hierarchy.proofs.Tables.{last_entry, wants_here, last_accepts, last_stays}
use Rattle.cl_hierarchy.proofs.path.accept_last.Goals as goal

pub go_on-requires : goal.go_on-requires
go_on-requires g c =
    let e = last_entry c.args.frames.now.entries c.in-Some.frame.now c.in-Some.ensures.value in
    subst (λ (o : Option Above). IsSome o) (wants_here c.args.frames.now.entries e.0 c.in-Some.frame.now e.1) c.requires

pub returns-clause-accepted : goal.returns-clause-accepted
returns-clause-accepted g c =
    let e = last_entry c.args.frames.now.entries c.in-Some.frame.now c.in-Some.ensures.value in
    last_accepts c.args.frames.now.entries e.0 c.in-Some.frame.now c.go_on.new.self c.args.definer c.go_on.result e.1 c.go_on.ensures.accepted c.go_on.ensures.next

pub returns-clause-unchanged : goal.returns-clause-unchanged
returns-clause-unchanged g c =
    let e = last_entry c.args.frames.now.entries c.in-Some.frame.now c.in-Some.ensures.value in
    last_stays c.args.frames.now.entries e.0 c.in-Some.frame.now c.go_on.new.self c.go_on.result e.1 c.go_on.ensures.unchanged

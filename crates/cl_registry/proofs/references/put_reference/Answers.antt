use Rattle.cl_registry.proofs.Referenced.{rewritten}
use Rattle.cl_registry.proofs.references.put_reference.Goals as goal
use Rattle.cl_registry.proofs.references.put_reference.Goals.{in-Ok, in-Err}

pub returns-in-Some-clause-unchanged : goal.returns-in-Some-clause-unchanged
returns-in-Some-clause-unchanged c =
    elim c.match-insert.branch [
      | in-Ok w ↦ rw w.result-is tt
      | in-Err w ↦ rw w.result-is (rewritten c.args.references.now (c.get_mut.follows.lender c.insert.new.self) c.args.class c.in-Some.one.now c.insert.new.self c.in-Some.ensures.value w.in-Err.ensures.err (c.get_mut.follows.holds c.insert.new.self))
    ]

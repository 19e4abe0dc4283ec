use Rattle.cl_hierarchy.proofs.Repeats.{accepts_repeated, completes_repeated, repeats_last}
use Rattle.cl_hierarchy.proofs.path.Path.accept_if_repeated.Goals as goal

pub accept_as-requires-clause-fits : goal.accept_as-requires-clause-fits
accept_as-requires-clause-fits g c =
    let r = c.in-Some.ensures.repeats in
    repeats_last g.T.Told.told c.args.self.now c.in-Some.definer r.before r.last c.in-Some.ensures.path r.split r.repeats

pub returns-in-None-2-clause-goes : goal.returns-in-None-2-clause-goes
returns-in-None-2-clause-goes g c = accepts_repeated c.args.self.now c.accept_as.new.self c.in-Some.definer _ c.in-None-2.is c.in-Some.ensures.repeats c.in_ok-accept_as-in-Some.ensures.accepted

pub returns-in-Some-2-clause-goes : goal.returns-in-Some-2-clause-goes
returns-in-Some-2-clause-goes g c = completes_repeated c.args.self.now c.accept_as.new.self c.in-Some.definer _ c.in-Some-2.whole c.in-Some-2.is c.in-Some.ensures.repeats c.in_ok-accept_as-in-Some.ensures.accepted

use Rattle.std.proofs.Common.{◌≡◌}
use Rattle.cl_schedule.proofs.examples.posted_once.Goals as goal

pub returns-clause-left_out : goal.returns-clause-left_out
returns-clause-left_out c h = absurd (let e : 0 ≡ 1 = h 1 in cc)

pub returns-clause-twice : goal.returns-clause-twice
returns-clause-twice c h = absurd (let e : 2 ≡ 1 = h 1 in cc)

pub returns-clause-further : goal.returns-clause-further
returns-clause-further c h = absurd (let e : 1 ≡ 0 = h 2 in cc)

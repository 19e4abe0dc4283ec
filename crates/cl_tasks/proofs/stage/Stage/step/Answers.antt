use Rattle.cl_tasks.proofs.Turning.{ended_alone}
use Rattle.cl_tasks.proofs.stage.Stage.step.Goals as goal

pub step_of_load-requires : goal.step_of_load-requires
step_of_load-requires g c = record { kept = rw c.in-Load.is at c.requires.kept; expects = rw c.in-Load.is at c.requires.expects }

pub returns-in-Load : goal.returns-in-Load
returns-in-Load g c = rw c.in-Load.is c.step_of_load.ensures

pub step_of_resolution-requires : goal.step_of_resolution-requires
step_of_resolution-requires g c = record { kept = rw c.in-Resolve.is at c.requires.kept; expects = rw c.in-Resolve.is at c.requires.expects }

pub returns-in-Resolve : goal.returns-in-Resolve
returns-in-Resolve g c = rw c.in-Resolve.is c.step_of_resolution.ensures

pub step_of_link-requires : goal.step_of_link-requires
step_of_link-requires g c = record { kept = rw c.in-Link.is at c.requires.kept; expects = rw c.in-Link.is at c.requires.expects }

pub returns-in-Link : goal.returns-in-Link
returns-in-Link g c = rw c.in-Link.is c.step_of_link.ensures

pub unreachable-requires : goal.unreachable-requires
unreachable-requires g c = ended_alone c.args.config.now.value c.args.reply (rw c.in-Done.is at c.requires.expects)

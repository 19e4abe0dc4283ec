use Rattle.cl_model.proofs.Probes.{home_is_probed, probed_once, probes_are_loaders}
use Rattle.cl_model.proofs.laws.home_is_probed.Goals as goal

pub returns-clause-home : goal.returns-clause-home
returns-clause-home c = home_is_probed

pub returns-clause-once : goal.returns-clause-once
returns-clause-once c = probed_once

pub returns-clause-loaders : goal.returns-clause-loaders
returns-clause-loaders c = probes_are_loaders

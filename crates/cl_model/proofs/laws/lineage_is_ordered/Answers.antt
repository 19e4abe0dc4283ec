use Rattle.cl_model.proofs.Ancestors.{lineage_once, lineage_has, lineage_first}
use Rattle.cl_model.proofs.Progress.{lineage_recorded}
use Rattle.cl_model.proofs.laws.lineage_is_ordered.Goals as goal

pub returns-clause-once : goal.returns-clause-once
returns-clause-once c = lineage_once

pub returns-clause-own : goal.returns-clause-own
returns-clause-own c = lineage_has

pub returns-clause-supers_first : goal.returns-clause-supers_first
returns-clause-supers_first c = lineage_first

pub returns-clause-recorded : goal.returns-clause-recorded
returns-clause-recorded c = lineage_recorded

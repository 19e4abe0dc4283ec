use Rattle.cl_classfile.proofs.Mentioning.{mentions_alike}
use Rattle.cl_classfile.proofs.file.check_parts.Goals as goal

pub returns-clause-mentions : goal.returns-clause-mentions
returns-clause-mentions c = mentions_alike _ _ _ _ _ c.as_slice-7.ensures.value c.as_slice-8.ensures.value c.in_ok-mentions.ensures

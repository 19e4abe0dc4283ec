use Rattle.cl_classfile.specs.Files.{file_of}
use Rattle.cl_model.specs.Classes.{supers}
use Rattle.cl_hierarchy.proofs.Frames.{named_as}
use Rattle.cl_hierarchy.proofs.frame.Frame.definers.Goals as goal

pub returns-clause-named : goal.returns-clause-named
returns-clause-named g c = named_as (supers (file_of c.args.self.now.draft.file)) c.args.self.now.definers

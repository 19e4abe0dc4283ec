use Rattle.std.proofs.Common.{◌∙◌}
use Rattle.indexmap.proofs.CallerLemmas.{insert_entry-new}
use Rattle.cl_model.specs.Classes.{same_class}
use Rattle.cl_hierarchy.proofs.path.put.Goals as goal

pub returns : goal.returns
returns g c = c.in-Ok.ensures.entries ∙ insert_entry-new same_class c.args.frames.now c.args.class c.args.frame c.requires.absent

use Rattle.std.proofs.Common.{sym}
use Rattle.cl_hierarchy.proofs.Repeats.{last_repeats}
use Rattle.cl_hierarchy.proofs.path.Path.definer_if_repeated.Goals as goal

pub returns-clause-repeats : goal.returns-clause-repeats
returns-clause-repeats g c =
    last_repeats c.self.inside.config.value c.self.inside.loader c.self.inside.at c.self.inside.frames.entries c.in_ok-frame.field-0-0.now c.in_ok-frame.frame.now c.args.self.now c.definer_if_repeated.result (sym c.in_ok-frame.ensures.entry) c.definer_if_repeated.ensures c.self.view_is

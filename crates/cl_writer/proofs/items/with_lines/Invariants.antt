use Rattle.std.proofs.Common.{◌≡◌, take, fold}
use Rattle.std.specs.List.{flat_map}
use Rattle.cl_writer.specs.Items.{with_item, line_wanted}
use Rattle.cl_writer.proofs.items.with_lines.Given as goal

abbrev pub invariant-loop-line : goal.invariant-loop-line
invariant-loop-line l = l.items ≡ fold with_item l.initial.items (flat_map line_wanted (take l.line-index l.lines))

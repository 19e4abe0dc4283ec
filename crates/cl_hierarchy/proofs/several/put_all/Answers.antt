use Rattle.std.proofs.Common.{◌∙◌, List, ap, map, subst}
use Rattle.cl_hierarchy.specs.Rows.{Rowed}
use Rattle.std.proofs.lemmas.List.{take_all}
use Rattle.cl_hierarchy.specs.Several.{Gains}
use Rattle.cl_hierarchy.proofs.Joining.{joins_none, joins_row}
use Rattle.cl_hierarchy.proofs.several.put_all.Goals as goal

pub loop-row-init : goal.loop-row-init
loop-row-init g c = joins_none c.args.classes.now.keys

pub loop-row-preserved : goal.loop-row-preserved
loop-row-preserved g c =
    joins_row (λ r. r.value.class) c.args.rows.now c.loop-row.row-index c.row-item.result c.args.classes.now.keys c.loop-row.classes.keys c.put.new.classes.keys c.in_ok-try_clone.field-0 c.loop-row-test.true c.row-item.is
    (c.in_ok-try_clone.ensures ∙ c.class.ensures.class ∙ ap (λ (r : Rowed). r.class) c.deref.ensures) c.loop-row.invariant c.in_ok-put.ensures

pub returns : goal.returns
returns g c =
    subst (λ (rs : List _). Gains c.args.classes.now.keys (map (λ r. r.value.class) rs) c.loop-row.classes.keys) (take_all c.loop-row.row-index c.args.rows.now c.loop-row-test.false) c.loop-row.invariant

use Rattle.std.proofs.Common.{◌∙◌, refl}
use Rattle.cl_hierarchy.proofs.Climbs.{nearest, nearest_row}
use Rattle.cl_hierarchy.proofs.lineage.Lineage.superclass.Goals as goal

pub returns : goal.returns
returns g c = record {
  superclass =
      nearest _ c.args.self.now _ _ _ _ refl c.above.ensures.kept.order c.above.ensures.rows (c.deref.ensures ∙ c.own.ensures.own) c.in_ok-row.ensures.kin c.in_ok-row.ensures.place;
  rows = nearest_row _ c.args.self.now _ _ _ refl c.above.ensures.kept.order c.above.ensures.rows c.in_ok-row.ensures.place;
}

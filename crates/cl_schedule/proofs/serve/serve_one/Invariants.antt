use Rattle.std.proofs.Common.{◌≡◌}
use Rattle.std.specs.List.{range_with_len}
use Rattle.cl_registry.specs.Tables.{IsKept, RoundMayBegin, posts}
use Rattle.cl_schedule.specs.Blames.{EachBlames}
use Rattle.cl_schedule.specs.Counting.{Grows, faults}
use Rattle.cl_schedule.proofs.Rounds.{KnownBelow, ServedBelow}
use Rattle.cl_schedule.proofs.serve.serve_one.Given as goal

abbrev pub invariant-loop-q : goal.invariant-loop-q
invariant-loop-q g l = record {
  config : l.registry.config ≡ l.fn.config.value;
  script : l.registry.script ≡ l.fn.script.value;
  order : posts l.registry.history ≡ range_with_len 0 l.q;
  kept : IsKept g.T.Told.told l.registry;
  over : RoundMayBegin l.registry → ⊥;
  known : KnownBelow l.registry;
  served : ServedBelow g.T.Told.told l.registry l.q;
  blames : EachBlames g.T.Told.told l.registry;
  counted : Grows (faults l.registry.answers) (g.S.Source.refused l.fn.source) (g.S.Source.refused l.source);
}

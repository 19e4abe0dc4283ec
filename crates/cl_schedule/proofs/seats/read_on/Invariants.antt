use Rattle.std.proofs.Common.{◌≡◌, ◌≤◌, Some}
use Rattle.cl_model.specs.declared.request.Request.{Request}
use Rattle.cl_model.specs.States.{Verdict}
use Rattle.cl_registry.specs.Tables.{Shown, state_of}
use Rattle.cl_tasks.specs.Turns.{Expects}
use Rattle.cl_schedule.specs.Counting.{CountGrows, told_faults}
use Rattle.cl_schedule.specs.Nearing.{AtHand, calls_after}
use Rattle.cl_schedule.specs.Seats.{TaskIsReady}
use Rattle.cl_schedule.proofs.Paying.{IsPaying}
use Rattle.cl_schedule.proofs.seats.read_on.Given as goal

abbrev pub invariant-loop-loader : goal.invariant-loop-loader
invariant-loop-loader g l = record {
  expects : Expects l.task l.reply;
  ready : (x : Shown) (r : Request) → TaskIsReady g.T.Told.told x l.fn.task l.fn.reply r → TaskIsReady g.T.Told.told x l.task l.reply r;
  less : l.task.left ≤ l.fn.task.left;
  faults : CountGrows (told_faults l.fn.reply) (told_faults l.reply) (g.S.Source.refused l.fn.source) (g.S.Source.refused l.source);
  known : (x : Shown) (r : Request) (v : Verdict) → AtHand (state_of x) r v l.fn.task l.fn.reply → l.fn.task.request ≡ Some r
      → AtHand (state_of x) r v l.task l.reply × (l.task.request ≡ Some r) × (calls_after l.reply ≡ calls_after l.fn.reply);
  paid : (x : Shown) (r : Request) → TaskIsReady g.T.Told.told x l.fn.task l.fn.reply r → IsPaying g.T.Told.told x r l.fn.task l.task;
}

abbrev pub decreases-loop-loader : goal.decreases-loop-loader
decreases-loop-loader g l = l.task.left

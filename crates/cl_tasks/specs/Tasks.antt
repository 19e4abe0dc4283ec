-- What contracts see of a task (JVMS SE 8, 5.3 to 5.4.3).
use Rattle.std.specs.Prelude.{ℕ, List, [], Option, Some, None}
use Rattle.cl_model.specs.declared.request.Request.{Request}
use Rattle.cl_model.specs.declared.class.Class.{Class}
use Rattle.cl_model.specs.Frames.{Frame}
use Rattle.cl_model.specs.States.{Need}
use Rattle.cl_config.specs.Views.{Configured}
use Rattle.cl_hierarchy.specs.Lineages.{Lined}
use Rattle.cl_tasks.specs.Calls.{Calls, all_calls}
use Rattle.cl_tasks.specs.Measures.{all_left}
use Rattle.cl_tasks.specs.Waits.{Waits, Beginning}

-- what a task was told of the tables, and stays so: a need stands, or is refused; a lineage is of these tables; a class is prepared (5.3 to 5.4.3)
pub data Fact : Type 0 where
  Stands : (need : Need) → Fact
  StandsRefused : (need : Need) → Fact
  HasLineage : (lineage : Lined) → Fact
  IsPrepared : (class : Class) → Fact

-- under which configuration and for which request of the script a task is, until that has its answer; what it waits for; the classes that it derives, with what each
-- has accepted; while it reads for a class, that one, of which it was told that its loader has no record; what else it was told of the tables; how many
-- turns it has left at most, and how many calls of the tables, its post among them (5.3 to 5.4.3)
pub record Tasked : Type 0 where
  pub config : Configured
  pub q : ℕ
  pub request : Option Request
  pub waits : Waits
  pub frames : List Frame
  pub absent : Option Class
  pub facts : List Fact
  pub left : ℕ
  pub calls : Calls

-- a task that was told nothing yet
abbrev pub begun_task : Configured → ℕ → Request → Tasked
begun_task c q r = record {
  config = c;
  q = q;
  request = Some r;
  waits = Beginning;
  frames = [];
  absent = None;
  facts = [];
  left = all_left;
  calls = all_calls r;
}

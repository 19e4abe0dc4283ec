-- The rounds that begin before, between and after requests.
use Rattle.std.specs.Prelude.{◌≡◌, List, ◌++◌}
use Rattle.cl_model.specs.declared.event.Event.{Event}
use Rattle.cl_model.specs.Content.{Content}
use Rattle.cl_model.specs.Machine.{Step}
use Rattle.cl_model.specs.Service.{PassesRounds}
use Rattle.cl_registry.specs.Tables.{Shown, posts, state_of, steps, machine}

-- rounds alone began, one after another as long as the next one might: nothing else changed
pub record RoundsPassed (old new : Shown) : Type 0 where
  pub config : new.config ≡ old.config
  pub script : new.script ≡ old.script
  pub rows : new.rows ≡ old.rows
  pub answers : new.answers ≡ old.answers
  pub posts_same : posts new.history ≡ posts old.history
  pub events : List Event
  pub history : new.history ≡ old.history ++ events
  pub passed : List Step
  pub steps_more : steps new ≡ steps old ++ passed
  pub rounds : (content : Content) → PassesRounds (machine old content) (state_of old) passed

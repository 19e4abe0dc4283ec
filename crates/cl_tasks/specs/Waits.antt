-- What a task waits for: the reply to the call that it asked for last (JVMS SE 8, 5.3 to 5.4.3).
use Rattle.std.specs.Prelude.{ℕ, List}
use Rattle.cl_model.specs.declared.class.Class.{Class}
use Rattle.cl_model.specs.declared.request.Request.{Request}
use Rattle.cl_delegation.specs.Searches.{Located}
use Rattle.cl_hierarchy.specs.Drafts.{Drafted}
use Rattle.cl_hierarchy.specs.Imposed.{Listed}
use Rattle.cl_hierarchy.specs.Lineages.{Lined}

-- the call that was asked for last, with what it is about: nothing yet; a look, a read, a record of a class or of the loader that was asked, a lineage, a look
-- at a reference, that it be settled for a request, the equality at a place of a list, a look whether a class is prepared, how many of those above one are,
-- and that one be; or the answer was posted (5.3 to 5.4.3)
pub data Waits : Type 0 where
  Beginning : Waits
  Looking : (loader : ℕ) → (name : List ℕ) → Waits
  Reading : (loader : ℕ) → (name : List ℕ) → Waits
  Defining : (draft : Drafted) → Waits
  Initiating : (home : Located) → Waits
  Tracing : (class : Class) → Waits
  LookingReference : (class : Class) → (index : ℕ) → Waits
  Settling : (request : Request) → Waits
  Imposing : (equalities : Listed) → (k : ℕ) → Waits
  LookingPrepared : (class : Class) → Waits
  CountingPrepared : (lineage : Lined) → Waits
  Marking : (equalities : Listed) → Waits
  Ended : Waits

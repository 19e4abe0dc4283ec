-- What the steps of a link rest on (JVMS SE 8, 5.4, 5.4.2).
use Rattle.std.specs.Prelude.{◌≡◌, ◌++◌, ℕ, Bool, true, Contains}
use Rattle.cl_model.specs.States.{Need, Refused}
use Rattle.cl_hierarchy.specs.Imposed.{Listed}
use Rattle.cl_hierarchy.specs.Lineages.{Lined}
use Rattle.cl_registry.specs.Imposing.{AreFirstPrepared}
use Rattle.cl_registry.specs.Tables.{Shown, state_of}
use Rattle.cl_registry.specs.Traced.{IsTraced}
use Rattle.cl_tasks.specs.Facts.{AreSo}
use Rattle.cl_tasks.specs.Stages.{chain_facts, class_in, goal_facts, imposed_facts, traced_facts}
use Rattle.cl_tasks.specs.declared.stage.Chain.{Chain}
use Rattle.cl_tasks.specs.declared.stage.Goal.{Goal}

-- the request's class is recorded (5.3)
abbrev pub GoalTold : {A : Type 0} → Goal A → Shown → Type 0
GoalTold g x = AreSo x (goal_facts g)

-- and was found to be prepared, if this says so (5.4.2)
pub record PreparedTold {A : Type 0} (g : Goal A) (prepared : Bool) (x : Shown) : Type 0 where
  pub before : GoalTold g x
  pub now : prepared ≡ true → Contains (state_of x).prepared g.class.value.class

-- and is prepared (5.4.2)
pub record DoneTold {A : Type 0} (g : Goal A) (x : Shown) : Type 0 where
  pub before : GoalTold g x
  pub now : Contains (state_of x).prepared g.class.value.class

-- and this is its lineage (5.3.5)
pub record WholeTold {A : Type 0} (g : Goal A) (whole : Lined) (x : Shown) : Type 0 where
  pub before : GoalTold g x
  pub now : IsTraced x g.class.value.class whole

-- and the first so many of the classes above are prepared (5.4.2)
pub record CountedTold {A : Type 0} (g : Goal A) (whole : Lined) (count : ℕ) (x : Shown) : Type 0
  where
    pub before : GoalTold g x
    pub whole_is : IsTraced x whole.own.class whole
    pub now : AreFirstPrepared x whole count

-- the classes of the lineage before the place are prepared (5.4)
abbrev pub ChainTold : {A : Type 0} → Chain A → Shown → Type 0
ChainTold k x = AreSo x (chain_facts k)

-- and this is the lineage of the class at the place (5.3.5)
pub record LineageTold {A : Type 0} (k : Chain A) (lineage : Lined) (x : Shown) : Type 0 where
  pub before : ChainTold k x
  pub now : IsTraced x (class_in k.whole k.place) lineage

-- and the first so many of its equalities are imposed (5.4.2)
abbrev pub ListTold : {A : Type 0} → Chain A → Listed → ℕ → Shown → Type 0
ListTold k e place x = AreSo x (chain_facts k ++ (traced_facts e ++ imposed_facts e place))

-- and the next one is refused (5.3.4)
pub record RefusedTold {A : Type 0} (k : Chain A) (e : Listed) (place : ℕ) (need : Need)
    (x : Shown) : Type 0 where
  pub before : ListTold k e place x
  pub now : Refused (state_of x) need

-- the class at the place is prepared, too (5.4.2)
pub record MarkedTold {A : Type 0} (k : Chain A) (x : Shown) : Type 0 where
  pub before : ChainTold k x
  pub now : Contains (state_of x).prepared (class_in k.whole k.place)

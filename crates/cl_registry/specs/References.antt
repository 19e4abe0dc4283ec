-- What references are settled to, by the tables of a registry (JVMS SE 8, 5.4.3).
use Rattle.std.specs.Prelude.{◌≡◌, ◌==◌, ◌&&◌, ℕ, List, [], ◌∷◌, ◌++◌, Option, Some, None, option_and_then, option_map}
use Rattle.std.specs.declared.alloc.Global.{Global}
use Rattle.std.specs.declared.sync.Arc.{Arc}
use Rattle.cl_model.specs.declared.class.Class.{Class}
use Rattle.cl_model.specs.declared.event.Event.{Event}
use Rattle.cl_model.specs.declared.event.Event.TheVariants as events
use Rattle.cl_model.specs.declared.request.Request.{Request}
use Rattle.cl_model.specs.declared.request.Request.TheVariants as requests
use Rattle.cl_model.specs.declared.settled.Settled.{Settled}
use Rattle.cl_model.specs.Classes.{class, same_class}
use Rattle.cl_model.specs.States.{recorded_definer, settled_to}
use Rattle.cl_model.specs.Views.{verdict_of}
use Rattle.cl_registry.specs.Parts.{IsPutWhere}
use Rattle.cl_registry.specs.Tables.{Shown, state_of, records_of, settled_at}

-- an entry of a class's constant pool (4.4)
pub record Cited : Type 0 where
  pub class : Class
  pub index : ℕ

-- the entry that a request resolves: of the class that the loader which is asked has recorded (5.4.3)
abbrev pub cited_by : Shown → Request → Option Cited
cited_by x (requests.Load loader name) = None
cited_by x (requests.Resolve loader name index) = option_map
    (λ place. record { class = class name place; index = index })
    (recorded_definer (records_of x) loader name)
cited_by x (requests.Link loader name) = None

-- what the entry that a request resolves is settled to, if it is (5.4.3)
abbrev pub settled_by : Shown → Request → Option Settled
settled_by x r = option_and_then (λ e. settled_at x e.class e.index) (cited_by x r)

-- an entry of a class is settled to this, and so the linkage machine has it (5.4.3)
pub record IsSettledIn (x : Shown) (c : Class) (i : ℕ) (s : Settled) : Type 0 where
  pub class : s.class ≡ c
  pub index : s.index ≡ i
  pub entry : settled_at x c i ≡ Some s
  pub verdict : settled_to (state_of x).settled c i ≡ Some (verdict_of s.verdict)

-- the entry is not settled, in the linkage machine either (5.4.3)
pub record IsUnsettled (x : Shown) (c : Class) (i : ℕ) : Type 0 where
  pub entry : settled_at x c i ≡ None
  pub verdict : settled_to (state_of x).settled c i ≡ None

-- ---- tables

-- a table has this for an entry of a class, and for others what it had
abbrev pub IsReferencePut : {R : Type 0} → (Class → ℕ → Option R) → (Class → ℕ → Option R) → Class
    → ℕ → R → Type 0
IsReferencePut old new c index r = IsPutWhere (λ d i. same_class c d && (index == i)) old new r

-- a history has an event more, by which a reference is settled to this (5.4.3)
pub record AddsSettled (old new : List Event) (s : Settled) : Type 0 where
  pub shared : Arc Settled Global
  pub value : shared.value ≡ s
  pub more : new ≡ old ++ events.Settle shared ∷ []

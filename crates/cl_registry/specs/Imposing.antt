-- Which equalities may be imposed, and which classes prepared, by the tables of a registry (JVMS SE 8, 5.3.4, 5.4.2, 5.4.3).
use Rattle.std.specs.Prelude.{◌≡◌, ◌⊎◌, ◌<◌, ◌≤◌, ℕ, true, List, ◌∷◌, [], ◌++◌, Option, None, Some, length, take, slice_get, Contains, IfSome}
use Rattle.std.specs.List.{AllByRecursion}
use Rattle.cl_classfile.specs.Files.{file_of}
use Rattle.cl_model.specs.declared.class.Class.{Class}
use Rattle.cl_model.specs.declared.event.Event.TheVariants as events
use Rattle.cl_model.specs.declared.need.Equality.{Equality}
use Rattle.cl_model.specs.Classes.{class, Above, supers}
use Rattle.cl_model.specs.Homes.{World, home}
use Rattle.cl_model.specs.Machine.{IsResolution, MayConstrain, MayPrepare}
use Rattle.cl_model.specs.Preparation.{constraints_of}
use Rattle.cl_model.specs.Works.{Made}
use Rattle.cl_model.specs.States.{State, Need, Verdict, recorded_definer, IsRecorded, Keeps, Met, Refused, AllMet}
use Rattle.cl_model.specs.Content.{Content}
use Rattle.cl_config.specs.Views.{Configured}
use Rattle.cl_hierarchy.specs.Imposed.{Listed, Sprung, OfPreparation, OfReference, equal_need, needs_of}
use Rattle.cl_hierarchy.specs.Lineages.{Lined, kin_of}
use Rattle.cl_hierarchy.specs.Rows.{row_accessible}
use Rattle.cl_registry.specs.Tables.{Shown, records_of, state_of, machine, with_event}

-- a lineage is of this configuration, and its class is recorded by its loader (5.3)
pub record IsStanding (x : Shown) (l : Lined) : Type 0 where
  pub config : l.config ≡ x.config
  pub recorded : IsRecorded (state_of x) l.own.class

-- the class of c is the one that the loader of d's class has recorded for its name, and is accessible to d (5.4.3.1, 5.4.4)
pub record IsReached (x : Shown) (d c : Lined) : Type 0 where
  pub config : c.config ≡ x.config
  pub recorded : Keeps (state_of x) d.own.class.loader c.own.class
  pub accessible : row_accessible c.own d.own.class ≡ true

-- the supertype of a class, as its loader has recorded it, is prepared (5.4.2)
pub record IsPreparedAbove (x : Shown) (c : Class) (a : Above) : Type 0 where
  pub place : ℕ
  pub recorded : recorded_definer (records_of x) c.loader a.name ≡ Some place
  pub prepared : Contains (state_of x).prepared (class a.name place)

-- each of these is
abbrev pub ArePreparedAbove : Shown → Class → List Above → Type 0
ArePreparedAbove x c others = AllByRecursion (IsPreparedAbove x c) others

-- the first so many of the classes above that of a lineage are prepared (5.4.2)
abbrev pub AreFirstPrepared : Shown → Lined → ℕ → Type 0
AreFirstPrepared x l n =
    AllByRecursion (λ r. Contains (state_of x).prepared r.class) (take n l.above)

-- and no more: the next one, where there is one, is not (5.4.2)
pub record ArePreparedUpTo (x : Shown) (l : Lined) (n : ℕ) : Type 0 where
  pub within : n ≤ length l.above
  pub first : AreFirstPrepared x l n
  pub next : IfSome (slice_get l.above n) (λ r. Contains (state_of x).prepared r.class → ⊥)

-- what a list was made from stands in the tables (5.4.2, 5.4.3)
abbrev pub OriginStands : Shown → Sprung → Type 0
OriginStands x (OfReference d c index) = IsStanding x d × IsReached x d c
OriginStands x (OfPreparation l) = IsStanding x l

-- an equality of a list may be imposed: what the list was made from stands, and all equalities before it are met (5.3.4)
pub record MayImpose (x : Shown) (e : Listed) (k : ℕ) : Type 0 where
  pub stands : OriginStands x e.origin
  pub within : k < length e.needs
  pub earlier : AllMet (state_of x) (take k (needs_of e.needs))

-- the equality at this place has the property
abbrev pub IsNextOf : Listed → ℕ → (Need → Type 0) → Type 0
IsNextOf e k holds = IfSome (slice_get e.needs k) (λ n. holds (equal_need n))

-- an equality more (5.3.4)
abbrev pub with_constrain : Shown → Equality → Shown
with_constrain x e = with_event x (events.Constrain e)

-- an equality is met and nothing changes, or it is not and is imposed, where it is not refused (5.3.4)
abbrev pub Constrains : Shown → Shown → Equality → Type 0
Constrains old new e =
    (Met (state_of old) (equal_need e) × (new ≡ old))
    ⊎ ((Met (state_of old) (equal_need e) → ⊥) × (Refused (state_of old) (equal_need e) → ⊥)
    × (new ≡ with_constrain old e))

-- the equality at this place of a list stands from now on (5.3.4)
abbrev pub Imposes : Shown → Shown → Listed → ℕ → Type 0
Imposes old new e k = IfSome (slice_get e.needs k) (Constrains old new)

-- a class may be prepared: its lineage stands, its direct supertypes are prepared, and its equalities are all met (5.4.2)
pub record IsReady (x : Shown) (l : Lined) (needs : List Need) : Type 0 where
  pub stands : IsStanding x l
  pub above : ArePreparedAbove x l.own.class (supers (file_of l.own.file))
  pub imposed : AllMet (state_of x) needs

-- a list is that of a preparation which may be made (5.4.2)
abbrev pub IsReadyBy : Shown → Sprung → List Need → Type 0
IsReadyBy x (OfReference d c index) needs = ⊥
IsReadyBy x (OfPreparation l) needs = IsReady x l needs

-- the class whose preparation asks for this list may be prepared (5.4.2)
abbrev pub MayMark : Shown → Listed → Type 0
MayMark x e = IsReadyBy x e.origin (needs_of e.needs)

-- a class more is prepared (5.4.2)
abbrev pub with_prepare : Shown → Class → Shown
with_prepare x c = with_event x (events.Prepare c)

-- a class is prepared and nothing changes, or it is not and now is (5.4.2)
abbrev pub Prepares : Shown → Shown → Class → Type 0
Prepares old new c =
    (Contains (state_of old).prepared c × (new ≡ old))
    ⊎ ((Contains (state_of old).prepared c → ⊥) × (new ≡ with_prepare old c))

-- the class whose preparation asks for a list is prepared from now on (5.4.2)
abbrev pub MarksBy : Shown → Shown → Sprung → Type 0
MarksBy old new (OfReference d c index) = ⊥
MarksBy old new (OfPreparation l) = Prepares old new l.own.class

-- the same of a list
abbrev pub Marks : Shown → Shown → Listed → Type 0
Marks old new e = MarksBy old new e.origin

-- the class whose preparation asks for a list is prepared (5.4.2)
abbrev pub IsPreparedBy : Shown → Sprung → Type 0
IsPreparedBy x (OfReference d c index) = ⊥
IsPreparedBy x (OfPreparation l) = Contains (state_of x).prepared l.own.class

-- ---- for the steps of a call

-- there is a state that a book stands for, and there a need is not met
pub record IsUnmetIn (stands : State → Type 0) (need : Need) : Type 0 where
  pub state : State
  pub stood_for : stands state
  pub unmet : Met state need → ⊥

-- a book stands for a state in which these equalities are met (5.3.4)
pub record StandsWith (stands : State → Type 0) (known : List Equality) (s : State) : Type 0 where
  pub stood_for : stands s
  pub met : AllMet s (needs_of known)

-- an equality is kept at a place, with those before it, or all stays
abbrev pub IsNotedAt : List Equality → ℕ → Equality → List Equality → Type 0
IsNotedAt old place e new = (new ≡ old) ⊎ (new ≡ take place old ++ e ∷ [])

-- where a content is told, the machine may impose an equality that is not refused (5.3.4)
abbrev pub MayConstrainAs : Option Content → Shown → Equality → Type 0
MayConstrainAs None x e = Unit {0}
MayConstrainAs (Some content) x e =
    (Refused (state_of x) (equal_need e) → ⊥) → MayConstrain (machine x content)
    (state_of x) e.name e.one e.other

-- where a content is told, the machine may prepare a class (5.4.2)
abbrev pub MayPrepareAs : Option Content → Shown → Class → Type 0
MayPrepareAs None x c = Unit {0}
MayPrepareAs (Some content) x c = MayPrepare (machine x content) (state_of x) c

-- ---- for the laws

-- they were made under this configuration
abbrev pub AreOfConfig : Configured → Sprung → Type 0
AreOfConfig config (OfReference d c index) = (d.config ≡ config) × (c.config ≡ config)
AreOfConfig config (OfPreparation l) = l.config ≡ config

-- the machine's own list for what a list was made from: the constraints of a recorded class's preparation, or the needs of a
-- reference of a recorded class, which names the class c with its home (5.4.2, 5.4.3)
abbrev pub IsListOf : World → State → Sprung → List Need → Type 0
IsListOf w s (OfPreparation l) needs =
    IsRecorded s l.own.class × (needs ≡ constraints_of (kin_of l))
IsListOf w s (OfReference d c index) needs =
    IsRecorded s d.own.class × (home w d.own.class.loader c.own.class.name ≡ Some
    c.own.class.loader)
    × ((m : Made Verdict) × IsResolution w d.own.class index m × (needs ≡ m.needs))

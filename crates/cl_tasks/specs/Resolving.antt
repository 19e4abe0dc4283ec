-- What the steps of a resolution rest on (JVMS SE 8, 5.4.3).
use Rattle.std.specs.Prelude.{◌≡◌, ◌++◌, ◌∷◌, ℕ, false, List, [], Option, Some, IfSome}
use Rattle.std.specs.declared.alloc.Global.{Global}
use Rattle.std.specs.declared.sync.Arc.{Arc}
use Rattle.cl_classfile.specs.Files.{Reference, file_of, reference}
use Rattle.cl_model.specs.declared.settled.Settled.{Settled}
use Rattle.cl_model.specs.declared.verdict.ErrorKind.TheVariants as kinds
use Rattle.cl_model.specs.declared.verdict.Verdict as verdict
use Rattle.cl_model.specs.declared.verdict.Verdict.TheVariants as verdicts
use Rattle.cl_model.specs.Plans.{CitesClass}
use Rattle.cl_model.specs.States.{Need, Refused}
use Rattle.cl_model.specs.Views.{verdict_of}
use Rattle.cl_config.specs.Views.{Configured}
use Rattle.cl_hierarchy.specs.Lineages.{Lined}
use Rattle.cl_hierarchy.specs.Rows.{Rowed, row_accessible}
use Rattle.cl_findings.specs.Findings.{IsSettledFor}
use Rattle.cl_findings.specs.References.{EndsAtClass}
use Rattle.cl_registry.specs.References.{IsSettledIn}
use Rattle.cl_registry.specs.Tables.{Shown, state_of}
use Rattle.cl_registry.specs.Traced.{IsTraced}
use Rattle.cl_registry.specs.Settling.{IsSettledKind}
use Rattle.cl_tasks.specs.Facts.{AreSo}
use Rattle.cl_tasks.specs.Stages.{entry_facts, imposed_facts, member_facts, named_facts}
use Rattle.cl_tasks.specs.Tasks.{HasLineage}
use Rattle.cl_tasks.specs.declared.member.Inaccessible.{Inaccessible}
use Rattle.cl_tasks.specs.declared.stage.Entry as entries
use Rattle.cl_tasks.specs.declared.stage.Member.{Member}
use Rattle.cl_tasks.specs.Cited.{IsToClass}

-- ---- what was told

-- the request's class is recorded (5.3)
abbrev pub EntryTold : {A : Type 0} → entries.Entry A → Shown → Type 0
EntryTold e x = AreSo x (entry_facts e)

-- what its entry was found to be settled to, if it was (5.4.3)
pub record SettledTold {A : Type 0} (e : entries.Entry A) (settled : Option (Arc Settled Global))
    (x : Shown) : Type 0 where
  pub before : EntryTold e x
  pub now : IfSome settled (λ s. IsSettledIn x e.d.value.class e.index s.value)

-- the class that the entry names is recorded, too (5.4.3.1)
abbrev pub NamedTold : {A : Type 0} → entries.Entry A → Rowed → Shown → Type 0
NamedTold e c x = AreSo x (named_facts e.request e.d.value.class c.class)

-- and this is the lineage of the class whose pool has the entry (5.3.5)
pub record OwnTold {A : Type 0} (e : entries.Entry A) (c : Rowed) (own : Lined)
    (x : Shown) : Type 0 where
  pub before : NamedTold e c x
  pub now : IsTraced x e.d.value.class own

-- and this that of the class which it names (5.3.5)
pub record TracedTold {A : Type 0} (e : entries.Entry A) (own named : Lined)
    (x : Shown) : Type 0 where
  pub before : AreSo x (named_facts e.request e.d.value.class named.own.class ++ HasLineage own
      ∷ [])
  pub now : IsTraced x named.own.class named

-- the first so many equalities of a member are imposed (5.3.4)
abbrev pub ImposedTold : {A : Type 0} → Member A → ℕ → Shown → Type 0
ImposedTold m place x = AreSo x (member_facts m ++ imposed_facts m.equalities.value place)

-- and the next one is refused (5.3.4)
pub record MemberRefusedTold {A : Type 0} (m : Member A) (place : ℕ) (need : Need)
    (x : Shown) : Type 0 where
  pub before : ImposedTold m place x
  pub now : Refused (state_of x) need

-- ---- entries

-- two are of the same request, entry and class
pub record IsSame {A : Type 0} (one other : entries.Entry A) : Type 0 where
  pub number : other.q ≡ one.q
  pub request : other.request ≡ one.request
  pub index : other.index ≡ one.index
  pub class : other.d.value ≡ one.d.value

-- what was looked up is of the entry, if there is something (5.4.3)
abbrev pub IsReply : {A : Type 0} → entries.Entry A → Option (Arc Settled Global) → Type 0
IsReply e settled = IfSome settled (λ s. IsSettledFor e.request s.value)

-- a verdict that is never settled
abbrev pub IsNoneSettled : verdict.Verdict → Type 0
IsNoneSettled v = IsSettledKind v → ⊥

-- the entry that is resolved names a class (5.4.3.1)
abbrev pub HasNamed : {A : Type 0} → entries.Entry A → List ℕ → Type 0
HasNamed e name = CitesClass (file_of e.d.value.file) e.index name

-- the entry is the class of a name, or an array of it of so many dimensions (5.4.3.1)
pub record HasItself {A : Type 0} (e : entries.Entry A) (name : List ℕ) (dims : ℕ) : Type 0 where
  pub named : HasNamed e name
  pub itself : (r : Reference) → reference (file_of e.d.value.file) e.index ≡ Some r
      → IsToClass dims r

-- what such an entry of the class of a row d is resolved to by the class of a row c (5.4.3.1, 5.4.4)
pub record IsItself (d c : Rowed) (dims : ℕ) (v : verdict.Verdict) : Type 0 where
  pub ends : (r : Reference) → IsToClass dims r
      → EndsAtClass (row_accessible c d.class) r c.class (verdict_of v)
  pub settled : IsSettledKind v

-- the entry at an index of the class of one lineage names that of the other (5.4.3.1)
abbrev pub Cites : Lined → Lined → ℕ → Type 0
Cites own named index = CitesClass (file_of own.own.file) index named.own.class.name

-- the class that the entry names is not accessible to that whose pool has it (5.4.4)
pub record IsRefusedAccess {A : Type 0} (e : entries.Entry A) (own named : Lined) : Type 0 where
  pub cites : Cites own named e.index
  pub refused : row_accessible named.own own.own.class ≡ false

-- the IllegalAccessError of the class of one lineage, with the rows of both (5.4.4)
pub record IsInaccessible {A : Type 0} (config : Configured) (own named : Lined)
    (end : Inaccessible A) : Type 0 where
  pub config_is : end.config.value ≡ config
  pub own_is : end.d.value ≡ own.own
  pub named_is : end.named.value ≡ named.own
  pub verdict_is : end.verdict ≡ verdicts.Error kinds.IllegalAccessError named.own.class

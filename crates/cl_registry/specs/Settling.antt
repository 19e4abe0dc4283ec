-- What a finding settles (JVMS SE 8, 5.4.3).
use Rattle.std.specs.Prelude.{◌≡◌, ◌≢◌, Option, Some, None}
use Rattle.std.specs.declared.alloc.Global.{Global}
use Rattle.std.specs.declared.sync.Arc.{Arc}
use Rattle.cl_model.specs.declared.event.Event.TheVariants as events
use Rattle.cl_model.specs.declared.answer.Answer.TheVariants as answers
use Rattle.cl_model.specs.declared.settled.Settled.{Settled}
use Rattle.cl_model.specs.declared.verdict.Verdict.{Verdict}
use Rattle.cl_model.specs.declared.verdict.Verdict.TheVariants as verdicts
use Rattle.cl_findings.specs.Findings.{Answered, Stands}
use Rattle.cl_registry.specs.Tables.{Shown, state_of, with_event}
use Rattle.cl_registry.specs.References.{cited_by, settled_by}

-- a verdict is one that is settled: of a reference, and not of a member of an array (5.4.3; own choice for members of arrays)
pub record IsSettledKind (v : Verdict) : Type 0 where
  pub is_entry : v ≢ verdicts.BadEntry
  pub is_class_member : v ≢ verdicts.ArrayMember

-- a finding says this verdict, which is such a one (5.4.3)
pub record SaysVerdict (f : Answered) (v : Verdict) : Type 0 where
  pub said : f.answer ≡ answers.Said v
  pub kind : IsSettledKind v

-- it says none
abbrev pub SaysNone : Answered → Type 0
SaysNone f = (v : Verdict) → SaysVerdict f v → ⊥

-- what a finding settles: the entry that its request resolves, to the verdict that it says, which is one that is settled
-- and stands in the tables (5.4.3)
pub record IsToSettle (x : Shown) (f : Answered) (s : Settled) : Type 0 where
  pub cited : cited_by x f.request ≡ Some (record { class = s.class; index = s.index })
  pub says : SaysVerdict f s.verdict
  pub stands : Stands x.config (state_of x) f

-- a finding settles something (5.4.3)
abbrev pub FindingSettles : Shown → Answered → Type 0
FindingSettles x f = (s : Settled) × IsToSettle x f s

-- a reference more is settled (5.4.3)
abbrev pub with_settle : Shown → Arc Settled Global → Shown
with_settle x shared = with_event x (events.Settle shared)

-- an event more, by which a reference is settled to this (5.4.3)
pub record AddsSettle (old new : Shown) (s : Settled) : Type 0 where
  pub shared : Arc Settled Global
  pub value : shared.value ≡ s
  pub more : new ≡ with_settle old shared

-- the entry is settled by an event more, or it was settled before, and nothing changes (5.4.3)
abbrev pub SettledAs : Shown → Shown → Answered → Settled → Option Settled → Type 0
SettledAs old new f s None = IsToSettle old f s × AddsSettle old new s
SettledAs old new f s (Some before) = (new ≡ old) × (s ≡ before)

-- what the entry that a finding's request resolves is settled to from now on; what it was settled to before it stays (5.4.3)
abbrev pub Settles : Shown → Shown → Answered → Settled → Type 0
Settles old new f s = SettledAs old new f s (settled_by old f.request)

-- When a registry refuses a value, and why (JVMS SE 8, 5.3, 5.3.4, 5.3.5, 5.4.2).
use Rattle.std.specs.Prelude.{◌≡◌, ◌⊎◌, ℕ, Option, None, Result, IfErr, OnOk}
use Rattle.cl_model.specs.Content.{Content}
use Rattle.cl_model.specs.declared.need.Need.{Need}
use Rattle.cl_model.specs.States.{Met, Refused}
use Rattle.cl_model.specs.States as states
use Rattle.cl_model.specs.Views.{need_of}
use Rattle.cl_registry.specs.declared.registry.RegistryFault.{RegistryFault}
use Rattle.cl_registry.specs.declared.registry.RegistryFault.TheVariants.{Memory, Stray, Violates, AlreadyPosted, NotYet}
use Rattle.cl_constraints.specs.Books.{Wherever}
use Rattle.cl_constraints.specs.declared.fault.BookFault.{BookFault}
use Rattle.cl_constraints.specs.declared.fault.BookFault.TheVariants as books
use Rattle.cl_delegation.specs.Searches.{Located}
use Rattle.cl_hierarchy.specs.Drafts.{Drafted}
use Rattle.cl_hierarchy.specs.Imposed.{Listed}
use Rattle.cl_findings.specs.Findings.{Answered}
use Rattle.cl_registry.specs.Imposing.{Imposes, IsNextOf, IsPreparedBy, MayImpose, MayMark}
use Rattle.cl_registry.specs.Tables.{Shown, IsKept, state_of, IsNew, LacksRecord, MayEnter, MayJoin, IsAsked, IsLater, IsOpen, RoundMayBegin}
use Rattle.cl_registry.specs.References.{settled_by}
use Rattle.cl_registry.specs.Settling.{FindingSettles}
use Rattle.cl_registry.specs.Posting.{IsBacked, MayPostUnder}
use Rattle.cl_findings.specs.Loads.{asked_record, own_record}

-- this need, and no other, is refused: adding it would violate an equality (5.3.4)
pub record BlamesNeed (x : Shown) (blamed : Need) (need : states.Need) : Type 0 where
  pub is : need_of blamed ≡ need
  pub refused : Refused (state_of x) need

-- a need that may stand for all else is not added: it is blamed where it is refused, and memory is blamed for no refused one (5.3.4)
abbrev pub AddRefusedFor : Shown → states.Need → RegistryFault → Type 0
AddRefusedFor x need Memory = Refused (state_of x) need → ⊥
AddRefusedFor x need Stray = ⊥
AddRefusedFor x need (Violates n) = BlamesNeed x n need
AddRefusedFor x need AlreadyPosted = ⊥
AddRefusedFor x need NotYet = ⊥

-- a need that is blamed is refused in each state that a book stands for (5.3.4)
abbrev pub BlamesIn : (states.State → Type 0) → states.Need → RegistryFault → Type 0
BlamesIn stands need Memory = Unit {0}
BlamesIn stands need Stray = ⊥
BlamesIn stands need (Violates n) = (need_of n ≡ need) × Wherever stands (λ s. Refused s need)
BlamesIn stands need AlreadyPosted = ⊥
BlamesIn stands need NotYet = ⊥

-- the fault that a book's refusal of a need is (5.3.4)
abbrev pub refusal_fault : BookFault → Need → RegistryFault
refusal_fault books.Memory need = Memory
refusal_fault books.Violates need = Violates need

-- a record that a loader lacks is refused as Stray where it may not be made; it is blamed where it would violate an equality;
-- others are refused where memory ran out alone (5.3, 5.3.4)
abbrev pub RecordRefusedFor : Shown → (lacks may : Type 0) → states.Need → RegistryFault → Type 0
RecordRefusedFor x lacks may need Memory = lacks → may
RecordRefusedFor x lacks may need Stray = lacks × (may → ⊥)
RecordRefusedFor x lacks may need (Violates n) = lacks × may × BlamesNeed x n need
RecordRefusedFor x lacks may need AlreadyPosted = ⊥
RecordRefusedFor x lacks may need NotYet = ⊥

-- so is the record of a class by its loader (5.3.4; 5.3.5, steps 1, 3 and 4)
abbrev pub DefineRefusedFor : Shown → Drafted → RegistryFault → Type 0
DefineRefusedFor x d fault = RecordRefusedFor x (IsNew x d) (MayEnter x d) (own_record d) fault

-- and the record of a home's class by the loader that was asked (5.3, 5.3.4)
abbrev pub InitiateRefusedFor : Shown → Located → RegistryFault → Type 0
InitiateRefusedFor x h fault = RecordRefusedFor x (LacksRecord x h.asked h.name) (MayJoin x h)
    (asked_record h) fault

-- what is so is refused for memory alone, and what is not is refused as Stray
abbrev pub MemoryOrStray : Type 0 → RegistryFault → Type 0
MemoryOrStray holds Memory = holds
MemoryOrStray holds Stray = holds → ⊥
MemoryOrStray holds (Violates n) = ⊥
MemoryOrStray holds AlreadyPosted = ⊥
MemoryOrStray holds NotYet = ⊥

-- an equality is refused as Stray where it may not be imposed; it is blamed where it would violate one; others are refused where
-- memory ran out alone, and one that is met is not (5.3.4, 5.4.2, 5.4.3)
abbrev pub ImposeRefusedFor : Shown → Listed → ℕ → RegistryFault → Type 0
ImposeRefusedFor x e k Memory = MayImpose x e k × (IsNextOf e k (Met (state_of x)) → ⊥)
ImposeRefusedFor x e k Stray = MayImpose x e k → ⊥
ImposeRefusedFor x e k (Violates n) = MayImpose x e k × IsNextOf e k (BlamesNeed x n)
ImposeRefusedFor x e k AlreadyPosted = ⊥
ImposeRefusedFor x e k NotYet = ⊥

-- an equality of a list was to be imposed: it was, and is met from then on, or nothing changed, and why (5.3.4)
pub record ImposeSays (told : Option Content) (old new : Shown) (e : Listed) (k : ℕ)
    (result : Result (Unit {0}) RegistryFault) : Type 0 where
  pub imposed : OnOk result (Imposes old new e k)
  pub met : OnOk result (IsNextOf e k (Met (state_of new)))
  pub refused : IfErr result (λ fault. ImposeRefusedFor old e k fault)
  pub unchanged : IfErr result (λ fault. new ≡ old)
  pub kept : IsKept told new

-- a class is refused as Stray where it may not be prepared; others are refused where memory ran out alone, and one that is
-- prepared is not (5.4.2)
abbrev pub MarkRefusedFor : Shown → Listed → RegistryFault → Type 0
MarkRefusedFor x e Memory = MayMark x e × (IsPreparedBy x e.origin → ⊥)
MarkRefusedFor x e Stray = MayMark x e → ⊥
MarkRefusedFor x e (Violates n) = ⊥
MarkRefusedFor x e AlreadyPosted = ⊥
MarkRefusedFor x e NotYet = ⊥

-- a finding is refused as Stray where the entry that its request resolves is not settled and it settles none; others are refused
-- where memory ran out alone (5.4.3)
abbrev pub SettleRefusedFor : Shown → Answered → RegistryFault → Type 0
SettleRefusedFor x f Memory = settled_by x f.request ≡ None → FindingSettles x f
SettleRefusedFor x f Stray = (settled_by x f.request ≡ None) × (FindingSettles x f → ⊥)
SettleRefusedFor x f (Violates n) = ⊥
SettleRefusedFor x f AlreadyPosted = ⊥
SettleRefusedFor x f NotYet = ⊥

-- an answer is refused as Stray where the request is another, or where what it rests on is not in the tables; between the two it
-- is told that the request is of a later round, or has an answer
abbrev pub PostRefusedFor : Shown → ℕ → Answered → RegistryFault → Type 0
PostRefusedFor x q f Memory = ⊥
PostRefusedFor x q f Stray = (IsAsked x q f → ⊥) ⊎ (MayPostUnder x q f.request × (IsBacked x f → ⊥))
PostRefusedFor x q f (Violates n) = ⊥
PostRefusedFor x q f AlreadyPosted = IsAsked x q f × (IsLater x q → ⊥) × (IsOpen x q → ⊥)
PostRefusedFor x q f NotYet = IsAsked x q f × IsLater x q

-- a round does not end while a request of it has no answer, and the last one never
abbrev pub RoundRefusedFor : Shown → RegistryFault → Type 0
RoundRefusedFor x Memory = ⊥
RoundRefusedFor x Stray = ⊥
RoundRefusedFor x (Violates n) = ⊥
RoundRefusedFor x AlreadyPosted = ⊥
RoundRefusedFor x NotYet = RoundMayBegin x → ⊥

-- What each call does and is answered (JVMS SE 8, 5.3 to 5.4.3).
use Rattle.std.proofs.Common.{◌≡◌, inl, inr, ◌∙◌, ◌<◌, ℕ, zero, suc, List, [], ◌∷◌, length, Option, Some, None, refl, sym, ap, subst, arith}
use Rattle.std.specs.Prelude.{IfSome, slice_get, option_map, option_and_then}
use Rattle.cl_model.specs.declared.class.Class.{Class}
use Rattle.cl_model.specs.declared.event.Event.TheVariants as events
use Rattle.cl_model.specs.declared.need.Equality.{Equality}
use Rattle.cl_model.specs.declared.need.Need as needs
use Rattle.cl_model.specs.declared.request.Request.{Request}
use Rattle.cl_model.specs.declared.request.Request.TheVariants as requests
use Rattle.cl_model.specs.declared.settled.Settled.{Settled}
use Rattle.cl_model.specs.Classes.{class}
use Rattle.cl_model.specs.States.{IsRecorded, Need, Refused, recorded_definer}
use Rattle.cl_model.specs.Machine.{Step, Define, Initiate, Constrain, Settle, Prepare}
use Rattle.cl_model.specs.Tables.{Records}
use Rattle.cl_model.specs.Views.{need_of, verdict_of}
use Rattle.cl_delegation.specs.Searches.{Located}
use Rattle.cl_findings.specs.Findings.{Answered, IsSettledFor}
use Rattle.cl_hierarchy.specs.Drafts.{Drafted}
use Rattle.cl_hierarchy.specs.Imposed.{Listed, Sprung, OfReference, OfPreparation, equal_need}
use Rattle.cl_hierarchy.specs.Rows.{Rowed}
use Rattle.cl_registry.specs.declared.registry.RegistryFault.{RegistryFault}
use Rattle.cl_registry.specs.declared.registry.RegistryFault.TheVariants.{Memory, Stray, Violates, AlreadyPosted, NotYet}
use Rattle.cl_registry.specs.Imposing.{Constrains, Imposes, MarksBy, MayImpose, MayMark}
use Rattle.cl_registry.specs.References.{Cited, IsSettledIn, settled_by}
use Rattle.cl_registry.specs.Refusals.{BlamesNeed, DefineRefusedFor, ImposeRefusedFor, InitiateRefusedFor, MarkRefusedFor, MemoryOrStray, SettleRefusedFor}
use Rattle.cl_registry.specs.Settling.{FindingSettles, SettledAs, Settles}
use Rattle.cl_registry.specs.Tables.{Shown, Defines, DefinedAs, Initiates, InitiatedAs, MayEnter, MayJoin, records_of, row_for, settled_at, state_of}
use Rattle.cl_registry.proofs.Settled.{settled_is_told}
use Rattle.cl_tasks.specs.Follows.{IsSettledOf}
use Rattle.cl_tasks.specs.Waits.{Waits, Defining, Initiating, Tracing, Settling, Imposing, Marking, Ended}
use Rattle.cl_schedule.specs.Replies.{Did, ImposesBy, PreparesBy, SettlesBy, reply_of, RepliesWhere}
use Rattle.cl_schedule.proofs.Histories.{goes_by, goes_event}
use Rattle.cl_model.proofs.Bind.{some_same}
use Rattle.std.proofs.lemmas.Option.{none-some}
use Rattle.cl_findings.specs.Loads.{asked_record, own_record}

-- ---- what was done

pub did_define : (x new : Shown) (d : Drafted) (row : Rowed) → Defines x new d row → Did x new (λ e. e ≡ Define d.class)
did_define x new d row defines = by_record (recorded_definer (records_of x) d.class.loader d.class.name) defines
  where
    by_record : (o : Option ℕ) → DefinedAs x new d row o → Did x new (λ e. e ≡ Define d.class)
    by_record None (may, fits, more, is) = inr (Define d.class, refl, goes_by x new (events.Define d.class) (row_for x d ∷ []) more refl)
    by_record (Some place) (same, shown) = inl same

pub did_initiate : (x new : Shown) (h : Located) (row : Rowed) → Initiates x new h row → Did x new (λ e. e ≡ Initiate h.name h.definer h.asked)
did_initiate x new h row initiates = by_record (recorded_definer (records_of x) h.asked h.name) initiates
  where
    by_record : (o : Option ℕ) → InitiatedAs x new h row o → Did x new (λ e. e ≡ Initiate h.name h.definer h.asked)
    by_record None (may, fits, more, shown) = inr (Initiate h.name h.definer h.asked, refl, goes_event x new (events.Initiate (class h.name h.definer) h.asked) more refl)
    by_record (Some place) (same, shown) = inl same

pub did_settle : (x new : Shown) (f : Answered) (s : Settled) → Settles x new f s → Did x new (SettlesBy x f)
did_settle x new f s settles = by_entry (settled_by x f.request) settles
  where
    by_entry : (o : Option Settled) → SettledAs x new f s o → Did x new (SettlesBy x f)
    by_entry (Some before) (same, is) = inl same
    by_entry None (to, adds) =
        inr (
          Settle adds.shared.value.class adds.shared.value.index (verdict_of adds.shared.value.verdict),
          (s, to, ap (λ (k : Settled). Settle k.class k.index (verdict_of k.verdict)) adds.value),
          goes_event x new (events.Settle adds.shared) adds.more refl,
        )

past_end : {A : Type 0} (xs : List A) (k : ℕ) → slice_get xs k ≡ None → k < length xs → ⊥
past_end [] k e below = omega arith
past_end (x ∷ xs) zero e below = cc
past_end (x ∷ xs) (suc k) e below = past_end xs k e (omega arith)

pub did_impose : (x new : Shown) (l : Listed) (k : ℕ) → MayImpose x l k → Imposes x new l k → Did x new (ImposesBy l k)
did_impose x new l k may imposes = by_entry (slice_get l.needs k) refl imposes
  where
    by_entry : (o : Option Equality) → slice_get l.needs k ≡ o → IfSome o (Constrains x new) → Did x new (ImposesBy l k)
    by_entry None at constrains = absurd (past_end l.needs k at may.within)
    by_entry (Some n) at (inl met) = inl met.1
    by_entry (Some n) at (inr more) = inr (step_of_need n, (n, at, refl), goes_event x new (events.Constrain n) more.2 refl)
      where
        step_of_need : Equality → Step
        step_of_need n = Constrain n.name n.one n.other

pub did_mark : (x new : Shown) (o : Sprung) → MarksBy x new o → Did x new (PreparesBy o)
did_mark x new (OfReference d c index) marks = absurd marks
did_mark x new (OfPreparation l) (inl same) = inl same.1
did_mark x new (OfPreparation l) (inr more) = inr (Prepare l.own.class, refl, goes_event x new (events.Prepare l.own.class) more.1 refl)

-- ---- what is told of a refusal

-- the need that is blamed is told, and is refused
pub record IsBlamed (x : Shown) (need : Need) (n : needs.Need) : Type 0 where
  pub is : Some need ≡ Some (need_of n)
  pub refused : Refused (state_of x) (need_of n)

blamed : (x new : Shown) (need : Need) (n : needs.Need) → new ≡ x → BlamesNeed x n need → IsBlamed new need n
blamed x new need n same b = record {
  is = ap (λ (k : Need). Some k) (sym b.is);
  refused = subst (λ (y : Shown). Refused (state_of y) (need_of n)) (sym same) (subst (Refused (state_of x)) (sym b.is) b.refused);
}

-- what a refused call is answered: nothing where the tables do not bear it, else a reply to it
abbrev TellsRefused : (A : Type 0) → Type 0 → Shown → Waits → RegistryFault → Type 0
TellsRefused A bears new waits fault = RepliesWhere bears new waits (reply_of {A = A} fault)

pub define_answered : (A : Type 0) (x new : Shown) (d : Drafted) (fault : RegistryFault) → DefineRefusedFor x d fault → new ≡ x → TellsRefused A (MayEnter x d) new (Defining d) fault
define_answered A x new d Memory refused same = record { fits = λ e. ended e; tells = tt; shows = tt }
  where
    ended : Defining d ≡ Ended → ⊥
    ended e = cc
define_answered A x new d Stray refused same = refused.1
define_answered A x new d (Violates n) refused same = let b = blamed x new (own_record d) n same refused.2 in record { fits = b.is; tells = b.refused; shows = tt }
define_answered A x new d AlreadyPosted refused same = absurd refused
define_answered A x new d NotYet refused same = absurd refused

pub initiate_answered : (A : Type 0) (x new : Shown) (h : Located) (fault : RegistryFault) → InitiateRefusedFor x h fault → new ≡ x → TellsRefused A (MayJoin x h) new (Initiating h) fault
initiate_answered A x new h Memory refused same = record { fits = λ e. ended e; tells = tt; shows = tt }
  where
    ended : Initiating h ≡ Ended → ⊥
    ended e = cc
initiate_answered A x new h Stray refused same = refused.1
initiate_answered A x new h (Violates n) refused same = let b = blamed x new (asked_record h) n same refused.2 in record { fits = b.is; tells = b.refused; shows = tt }
initiate_answered A x new h AlreadyPosted refused same = absurd refused
initiate_answered A x new h NotYet refused same = absurd refused

pub lineage_answered : (A : Type 0) (x : Shown) (c : Class) (fault : RegistryFault) → MemoryOrStray (IsRecorded (state_of x) c) fault → TellsRefused A (IsRecorded (state_of x) c) x (Tracing c) fault
lineage_answered A x c Memory refused = record { fits = λ e. ended e; tells = tt; shows = tt }
  where
    ended : Tracing c ≡ Ended → ⊥
    ended e = cc
lineage_answered A x c Stray refused = refused
lineage_answered A x c (Violates n) refused = absurd refused
lineage_answered A x c AlreadyPosted refused = absurd refused
lineage_answered A x c NotYet refused = absurd refused

pub settle_answered : (A : Type 0) (x new : Shown) (f : Answered) (fault : RegistryFault) → SettleRefusedFor x f fault → TellsRefused A (FindingSettles x f) new (Settling f.request) fault
settle_answered A x new f Memory refused = record { fits = λ e. ended e; tells = tt; shows = tt }
  where
    ended : Settling f.request ≡ Ended → ⊥
    ended e = cc
settle_answered A x new f Stray refused = refused.1
settle_answered A x new f (Violates n) refused = absurd refused
settle_answered A x new f AlreadyPosted refused = absurd refused
settle_answered A x new f NotYet refused = absurd refused

pub impose_answered : (A : Type 0) (x new : Shown) (l : Listed) (k : ℕ) (fault : RegistryFault) → ImposeRefusedFor x l k fault → new ≡ x → TellsRefused A (MayImpose x l k) new (Imposing l k) fault
impose_answered A x new l k Memory refused same = record { fits = λ e. ended e; tells = tt; shows = tt }
  where
    ended : Imposing l k ≡ Ended → ⊥
    ended e = cc
impose_answered A x new l k Stray refused same = refused
impose_answered A x new l k (Violates n) refused same = let b = by_entry (slice_get l.needs k) refl refused.1 in record { fits = b.0; tells = b.1; shows = tt }
  where
    by_entry : (o : Option Equality) → slice_get l.needs k ≡ o → IfSome o (λ e. BlamesNeed x n (equal_need e)) → (option_map equal_need (slice_get l.needs k) ≡ Some (need_of n)) × Refused (state_of new) (need_of n)
    by_entry None at blames = absurd (past_end l.needs k at refused.0.within)
    by_entry (Some e) at blames = let b = blamed x new (equal_need e) n same blames in (ap (option_map equal_need) at ∙ b.is, b.refused)
impose_answered A x new l k AlreadyPosted refused same = absurd refused
impose_answered A x new l k NotYet refused same = absurd refused

pub mark_answered : (A : Type 0) (x new : Shown) (l : Listed) (fault : RegistryFault) → MarkRefusedFor x l fault → TellsRefused A (MayMark x l) new (Marking l) fault
mark_answered A x new l Memory refused = record { fits = λ e. ended e; tells = tt; shows = tt }
  where
    ended : Marking l ≡ Ended → ⊥
    ended e = cc
mark_answered A x new l Stray refused = refused
mark_answered A x new l (Violates n) refused = absurd refused
mark_answered A x new l AlreadyPosted refused = absurd refused
mark_answered A x new l NotYet refused = absurd refused

-- ---- what a reference is settled to

-- what is settled for a request is the entry that it resolves
pub record IsEntryOf (x : Shown) (r : Request) (s : Settled) : Type 0 where
  pub fits : IsSettledFor r s
  pub tells : IsSettledOf x r s

pub settled_entry : (x : Shown) (r : Request) (s : Settled) → settled_by x r ≡ Some s → IsEntryOf x r s
settled_entry x (requests.Load loader name) s e = absurd cc
settled_entry x (requests.Link loader name) s e = absurd cc
settled_entry x (requests.Resolve loader name i) s e = by_record (recorded_definer (records_of x) loader name) refl
  where
    found : (place : ℕ) → recorded_definer (records_of x) loader name ≡ Some place → IsSettledIn x (class name place) i s
    found place at = settled_is_told x (class name place) i s (sym (ap (λ (o : Option ℕ). option_and_then (λ (c : Cited). settled_at x c.class c.index) (option_map (λ (p : ℕ). record { class = class name p; index = i }) o)) at) ∙ e)

    request_is : (place : ℕ) → IsSettledIn x (class name place) i s → requests.Resolve loader name i ≡ requests.Resolve loader s.class.name s.index
    request_is place is = rw (is.class, is.index) refl

    by_record : (o : Option ℕ) → recorded_definer (records_of x) loader name ≡ o → IsEntryOf x (requests.Resolve loader name i) s
    by_record None at = absurd (none-some _ (sym (ap (λ (o : Option ℕ). option_and_then (λ (c : Cited). settled_at x c.class c.index) (option_map (λ (p : ℕ). record { class = class name p; index = i }) o)) at) ∙ e))
    by_record (Some place) at = record {
      fits = request_is place (found place at);
      tells = λ d kept. subst (λ (c : Class). IsSettledIn x c i s) (same d kept) (found place at);
    }
      where
        same : (d : Class) → Records (state_of x) loader name d → class name place ≡ d
        same d kept = let p : place ≡ d.loader = some_same place d.loader (sym at ∙ kept.1) in rw (p, sym kept.0) refl

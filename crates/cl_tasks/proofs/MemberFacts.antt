-- What a resolution that asks for a member was told, and what follows of it.
use Rattle.std.proofs.Common.{◌≡◌, ◌<◌, ℕ, List, [], ◌∷◌, length, Some, refl, sym, subst}
use Rattle.std.specs.Prelude.{Err, take}
use Rattle.std.proofs.lemmas.List.{length-map}
use Rattle.cl_classfile.specs.Files.{Reference, ToClass, ToField, ToMethod, ToInterfaceMethod, file_of, reference}
use Rattle.cl_model.specs.declared.class.Class.{Class}
use Rattle.cl_model.specs.declared.verdict.Verdict as verdict
use Rattle.cl_model.specs.declared.verdict.Verdict.TheVariants as verdicts
use Rattle.cl_model.specs.States.{State, Need, AllMet, IsField, IsMethod}
use Rattle.cl_model.specs.Texts.{VerdictNames}
use Rattle.cl_model.specs.Views.{verdict_of}
use Rattle.cl_config.specs.Views.{Configured}
use Rattle.cl_delegation.proofs.Ways.{find_in}
use Rattle.cl_hierarchy.specs.Imposed.{Listed, OfReference, equal_need, needs_of}
use Rattle.cl_hierarchy.specs.Lineages.{IsRowIn, Lined, rows_in}
use Rattle.cl_hierarchy.specs.Rows.{Rowed}
use Rattle.cl_members.specs.Asking.{IsDeniedIn, IsLocated, LocatedMember, asked_key}
use Rattle.cl_members.specs.Asking as asking
use Rattle.cl_members.specs.Asking.{IsFoundOf}
use Rattle.cl_members.specs.declared.fault.LookupFault.{LookupFault}
use Rattle.cl_members.specs.declared.fault.LookupFault.TheVariants as faults
use Rattle.cl_findings.specs.References.{GoesTo, IsOfFound, fault_verdict, reference_needs}
use Rattle.cl_findings.proofs.References.{whole_taken}
use Rattle.cl_registry.specs.Tables.{Shown, NamesLoaders, state_of}
use Rattle.cl_registry.specs.Traced.{IsRowOf, IsTraced}
use Rattle.cl_registry.proofs.Named.{recorded_is_named}
use Rattle.cl_registry.specs.Settling.{IsSettledKind}
use Rattle.cl_tasks.specs.Cited.{IsKind}
use Rattle.cl_tasks.specs.Resolving.{Cites, EntryTold, ImposedTold, IsSame, TracedTold}
use Rattle.cl_tasks.specs.Stages.{IsEntry, IsMember}
use Rattle.cl_tasks.specs.declared.cited.Kind.{Kind}
use Rattle.cl_tasks.specs.declared.cited.Kind.TheVariants as kinds
use Rattle.cl_tasks.specs.declared.stage.Entry as entries
use Rattle.cl_tasks.specs.declared.stage.Member.{Member}
use Rattle.cl_tasks.proofs.Facts.{met_stand, stand_met}
use Rattle.cl_tasks.proofs.LinkFacts.{traced_own}
use Rattle.cl_tasks.specs.Turns.{IsOf}

-- ---- entries

pub same_entry : {A : Type 0} (c : Configured) (e k : entries.Entry A) → IsEntry c e → IsSame e k → IsEntry c k
same_entry c e k entry same =
    let resolves = entry.of in
    record {
      of = rw (same.request, same.index, same.class) resolves;
      asked = rw (same.request) entry.asked;
    }

pub same_told : {A : Type 0} (x : Shown) (e k : entries.Entry A) → IsSame e k → EntryTold e x → EntryTold k x
same_told x e k same h = rw (same.request, same.class) h

-- ---- rows of a traced lineage

pub row_within : (x : Shown) (c : Class) (l : Lined) (row : Rowed) → NamesLoaders x → IsTraced x c l → IsRowIn (rows_in l) row → row.class.loader < length x.config.loaders
row_within x c l row named traced inside =
    let of : IsRowOf x row = find_in (IsRowOf x) _ (rows_in l) row traced.rows inside in
    recorded_is_named x row.class.loader row.class.loader row.class.name named of.recorded

pub own_within : (x : Shown) (c : Class) (l : Lined) → NamesLoaders x → IsTraced x c l → l.own.class.loader < length x.config.loaders
own_within x c l named traced =
    let of = traced_own x c l traced in
    recorded_is_named x l.own.class.loader l.own.class.loader l.own.class.name named of.recorded

pub traced_as : (x : Shown) (d : Class) (l : Lined) → IsTraced x d l → IsTraced x l.own.class l
traced_as x d l h = record { config = h.config; class = refl; rows = h.rows }

-- ---- the two lineages

pub traced_entry : {A : Type 0} (x : Shown) (e : entries.Entry A) (own named : Lined) → TracedTold e own named x → EntryTold e x
traced_entry x e own named h = (h.before.0, tt)

pub traced_needs : {A : Type 0} (c : Configured) (x : Shown) (e : entries.Entry A) (own named : Lined) → IsOf c e.d.value.class own → TracedTold e own named x → AllMet (state_of x) (reference_needs e.request own.own.class named.own.class)
traced_needs c x e own named of h = subst (λ (k : Class). AllMet (state_of x) (reference_needs e.request k named.own.class)) (sym of.class) (h.before.0, (h.before.1.0, tt))

-- ---- a member and its equalities

no_needs : (s : State) (ns : List Need) → AllMet s (take 0 ns)
no_needs s [] = tt
no_needs s (n ∷ ns) = tt

pub member_told : {A : Type 0} (c : Configured) (x : Shown) (m : Member A) (own named : Lined) → IsOf c m.entry.d.value.class own → m.found.d ≡ own → m.found.c ≡ named → TracedTold m.entry own named x → ImposedTold m 0 x
member_told c x m own named of one two h =
    let needs = subst (λ (l : Lined). AllMet (state_of x) (reference_needs m.entry.request l.own.class named.own.class)) (sym one) (traced_needs c x m.entry own named of h) in
    let both = subst (λ (l : Lined). AllMet (state_of x) (reference_needs m.entry.request m.found.d.own.class l.own.class)) (sym two) needs in
    let first : IsTraced x m.found.d.own.class m.found.d = subst (λ (l : Lined). IsTraced x l.own.class l) (sym one) h.before.1.1.0 in
    let second : IsTraced x m.found.c.own.class m.found.c = subst (λ (l : Lined). IsTraced x l.own.class l) (sym two) h.now in
    (both.0, (both.1.0, (first, (second, met_stand x (take 0 (needs_of m.equalities.value.needs)) (no_needs (state_of x) (needs_of m.equalities.value.needs))))))

-- what was found is a member that its entry asks for
pub found_member : {A : Type 0} (c : Configured) (m : Member A) (own named : Lined) → IsEntry c m.entry → IsOf c m.entry.d.value.class own → GoesTo m.entry.request own named m.entry.index → IsFoundOf own named m.entry.index m.found
    → m.equalities.value.origin ≡ OfReference m.found.d m.found.c m.found.index → IsMember c m
found_member c m own named entry of goes found origin = record {
  entry = entry;
  own = subst (λ (l : Lined). IsOf c m.entry.d.value.class l) (sym found.from) of;
  index = found.at;
  reference =
      subst (λ (i : ℕ). GoesTo m.entry.request m.found.d m.found.c i) (sym found.at)
      (subst (λ (l : Lined). GoesTo m.entry.request m.found.d l m.entry.index) (sym found.through) (subst (λ (l : Lined). GoesTo m.entry.request l named m.entry.index) (sym found.from) goes));
  origin = origin;
}

pub member_needs : {A : Type 0} (x : Shown) (m : Member A) (k : ℕ) → ImposedTold m k x → AllMet (state_of x) (reference_needs m.entry.request m.found.d.own.class m.found.c.own.class)
member_needs x m k h = (h.0, (h.1.0, tt))

pub member_own : {A : Type 0} (x : Shown) (m : Member A) (k : ℕ) → ImposedTold m k x → IsTraced x m.found.d.own.class m.found.d
member_own x m k h = h.1.1.0

pub member_through : {A : Type 0} (x : Shown) (m : Member A) (k : ℕ) → ImposedTold m k x → IsTraced x m.found.c.own.class m.found.c
member_through x m k h = h.1.1.1.0

pub member_imposed : {A : Type 0} (x : Shown) (m : Member A) (k : ℕ) → ImposedTold m k x → AllMet (state_of x) (take k (needs_of m.equalities.value.needs))
member_imposed x m k h = stand_met x (take k (needs_of m.equalities.value.needs)) h.1.1.1.1

pub member_of : {A : Type 0} (x : Shown) (m : Member A) (k : ℕ) → AllMet (state_of x) (reference_needs m.entry.request m.found.d.own.class m.found.c.own.class) → IsTraced x m.found.d.own.class m.found.d → IsTraced x m.found.c.own.class m.found.c
    → AllMet (state_of x) (take k (needs_of m.equalities.value.needs)) → ImposedTold m k x
member_of x m k needs own through imposed = (needs.0, (needs.1.0, (own, (through, met_stand x (take k (needs_of m.equalities.value.needs)) imposed))))

pub member_entry : {A : Type 0} (c : Configured) (x : Shown) (m : Member A) (k : ℕ) → IsMember c m → ImposedTold m k x → EntryTold m.entry x
member_entry c x m k is h = let of = is.own in (rw (sym of.class) h.0, tt)

-- all of them
pub all_taken : (e : Listed) → take (length e.needs) (needs_of e.needs) ≡ needs_of e.needs
all_taken e = whole_taken (needs_of e.needs) (length e.needs) (sym (length-map e.needs equal_need))

-- ---- verdicts

-- a verdict that is settled, of a class
pub record IsOfOwner (v : verdict.Verdict) (owner : Class) : Type 0 where
  pub kind : IsSettledKind v
  pub names : (count : ℕ) → owner.loader < count → VerdictNames count v

field_owner : (v : verdict.Verdict) (owner : Class) (key : _) → verdict_of v ≡ IsField owner key → IsOfOwner v owner
field_owner (verdicts.Field c k) owner key e = let same : c ≡ owner = cc in record { kind = record { is_entry = λ h. cc; is_class_member = λ h. cc }; names = λ count lt. rw (same) lt }
field_owner other owner key e = absurd cc

method_owner : (v : verdict.Verdict) (owner : Class) (key : _) → verdict_of v ≡ IsMethod owner key → IsOfOwner v owner
method_owner (verdicts.Method c k) owner key e = let same : c ≡ owner = cc in record { kind = record { is_entry = λ h. cc; is_class_member = λ h. cc }; names = λ count lt. rw (same) lt }
method_owner other owner key e = absurd cc

asked_owner : (r : Reference) (v : verdict.Verdict) (owner : Class) (key : _) → asked_key r ≡ Some key → verdict_of v ≡ asking.verdict_of r owner key → IsOfOwner v owner
asked_owner (ToClass t) v owner key asks e = absurd cc
asked_owner (ToField t k) v owner key asks e = field_owner v owner key e
asked_owner (ToMethod t k) v owner key asks e = method_owner v owner key e
asked_owner (ToInterfaceMethod t k) v owner key asks e = method_owner v owner key e

-- what was found is settled
pub found_owner : (f : LocatedMember) (v : verdict.Verdict) → IsLocated f → IsOfFound f (verdict_of v) → IsOfOwner v f.owner.class
found_owner f v is of = asked_owner is.cites.cited v f.owner.class f.key is.asks (of is.cites.cited is.cites.found)

error_names : (kind : _) (c owner : Class) → owner ≡ c → IsOfOwner (verdicts.Error kind c) owner
error_names kind c owner same = record { kind = record { is_entry = λ h. cc; is_class_member = λ h. cc }; names = λ count lt. subst (λ (k : Class). k.loader < count) same lt }

-- an error of a class names it
pub error_owner : (kind : _) (c : Class) (v : verdict.Verdict) → Some (verdicts.Error kind c) ≡ Some v → IsOfOwner v c
error_owner kind c v e = subst (λ (u : verdict.Verdict). IsOfOwner u c) (is v e) (error_names kind c c refl)
  where
    is : (u : verdict.Verdict) → Some (verdicts.Error kind c) ≡ Some u → verdicts.Error kind c ≡ u
    is u h = cc

-- whose class an error of a lookup names, which is one of the lineage
pub record FaultOf (l : Lined) (v : verdict.Verdict) : Type 0 where
  pub owner : Class
  pub of : IsOfOwner v owner
  pub within : (x : Shown) → NamesLoaders x → IsTraced x l.own.class l → owner.loader < length x.config.loaders

own_fault : (l : Lined) (kind : _) (v : verdict.Verdict) → Some (verdicts.Error kind l.own.class) ≡ Some v → FaultOf l v
own_fault l kind v e = record { owner = l.own.class; of = error_owner kind l.own.class v e; within = λ x named traced. own_within x l.own.class l named traced }

pub fault_of : (l : Lined) (fault : LookupFault) (v : verdict.Verdict) → fault_verdict l.own.class fault ≡ Some v → IsDeniedIn l (Err fault) → FaultOf l v
fault_of l faults.Memory v e denied = absurd cc
fault_of l faults.NoSuchField v e denied = own_fault l _ v e
fault_of l faults.NoSuchMethod v e denied = own_fault l _ v e
fault_of l faults.WrongKind v e denied = own_fault l _ v e
fault_of l (faults.Inaccessible owner) v e denied = record {
  owner = owner;
  of = error_owner _ owner v e;
  within = λ x named traced. let lt = row_within x l.own.class l denied.0 named traced denied.1 in subst (λ (k : Class). k.loader < length x.config.loaders) (sym denied.2) lt;
}

-- ---- what an entry names

pub kind_cites : (own named : Lined) (index : ℕ) (k : Kind) → IsKind (reference (file_of own.own.file) index) named.own.class.name k → Cites own named index
kind_cites own named index kinds.Field is = record { cited = ToField is.target is.key; found = is.refers; names = is.named }
kind_cites own named index kinds.Method is = record { cited = ToMethod is.target is.key; found = is.refers; names = is.named }
kind_cites own named index kinds.InterfaceMethod is = record { cited = ToInterfaceMethod is.target is.key; found = is.refers; names = is.named }

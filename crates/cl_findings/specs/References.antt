-- How the resolution of an entry ends once the class of the entry is loaded, and a link once its
-- class is (JVMS SE 8, 5.4.2, 5.4.3, 5.4.4).
use Rattle.std.specs.Prelude.{
  ◌≡◌,
  ℕ,
  Bool,
  true,
  false,
  List,
  [],
  ◌∷◌,
  ◌++◌,
  map,
  take,
  flat_map,
  length,
  Option,
  Some,
  None,
  Err,
  option_map,
  slice_get,
}
use Rattle.cl_classfile.specs.Files.{
  file_of,
  Reference,
  ToClass,
  ToField,
  ToMethod,
  ToInterfaceMethod,
  reference,
}
use Rattle.cl_model.specs.declared.verdict.ErrorKind.TheVariants as kinds
use Rattle.cl_model.specs.declared.verdict.Verdict as verdict
use Rattle.cl_model.specs.declared.verdict.Verdict.TheVariants as verdicts
use Rattle.cl_model.specs.declared.request.Request as request
use Rattle.cl_model.specs.declared.request.Request.TheVariants as requests
use Rattle.cl_model.specs.declared.class.Class.{Class}
use Rattle.cl_model.specs.Classes.{IllegalAccess}
use Rattle.cl_model.specs.States.{Need, Entry, Verdict, BadEntry, Wrong}
use Rattle.cl_model.specs.Plans.{CitesClass, class_verdict, class_named, nameless}
use Rattle.cl_config.specs.Views.{Configured}
use Rattle.cl_hierarchy.specs.Imposed.{Sprung, OfReference, OfPreparation, Listed}
use Rattle.cl_hierarchy.specs.Imposed as imposed
use Rattle.cl_hierarchy.specs.Lineages.{Lined, kin_of, rows_in}
use Rattle.cl_hierarchy.specs.Rows.{Rowed, row_accessible}
use Rattle.cl_members.specs.Asking.{LocatedMember}
use Rattle.cl_members.specs.Asking as asking
use Rattle.cl_members.specs.declared.fault.LookupFault.{LookupFault}
use Rattle.cl_members.specs.declared.fault.LookupFault.TheVariants as faults
use Rattle.cl_findings.specs.Findings.{Based, Resolves, loader_of}

-- the index of the entry that a request resolves; of another request it tells nothing (5.4.3)
abbrev pub resolved_index : request.Request → ℕ
resolved_index (requests.Load loader name) = 0
resolved_index (requests.Resolve loader name i) = i
resolved_index (requests.Link loader name) = 0

-- the record of the request's class (5.3)
abbrev pub class_need : request.Request → Class → Need
class_need r d = Entry (loader_of r) d.name d.loader

-- the records of the request's class and of the class that its entry names, by the loader that
-- defined the first (5.3, 5.4.3.1)
abbrev pub reference_needs : request.Request → Class → Class → List Need
reference_needs r d c = class_need r d ∷ Entry d.loader c.name c.loader ∷ []

-- ---- entries without a look at members

-- what an entry that names no class is resolved to, and what is no reference
-- (5.4.3.1; own choice for members of arrays)
abbrev pub EndsAtOnce : Option Reference → Verdict → Type 0
EndsAtOnce None v = v ≡ BadEntry
EndsAtOnce (Some cited) v = (class_named cited ≡ None) × (v ≡ nameless cited)

-- the request's entry of the class of a row names no class, and so it ends (5.4.3)
pub record IsAtOnce (r : request.Request) (d : Rowed) (v : Verdict) : Type 0 where
  pub of : Resolves r d.class.name (resolved_index r)
  pub ends : EndsAtOnce (reference (file_of d.file) (resolved_index r)) v

-- what an accessible class that an entry names makes of it, where it is no member (5.4.3.1, 5.3.3)
abbrev pub IsClassItself : Reference → Class → Verdict → Type 0
IsClassItself (ToClass t) c v = v ≡ class_verdict t.dims c
IsClassItself (ToField t key) c v = ⊥
IsClassItself (ToMethod t key) c v = ⊥
IsClassItself (ToInterfaceMethod t key) c v = ⊥

-- the class that an entry names is not accessible; or it is, and the entry is the class itself, or
-- an array of it (5.4.3.1, 5.4.4)
abbrev pub EndsAtClass : Bool → Reference → Class → Verdict → Type 0
EndsAtClass false cited c v = v ≡ Wrong (IllegalAccess c)
EndsAtClass true cited c v = IsClassItself cited c v

-- the request's entry of the class d names the class c, and so it ends without a look at members
-- (5.4.3.1, 5.4.4)
pub record IsAtClass (r : request.Request) (d c : Rowed) (v : Verdict) : Type 0 where
  pub of : Resolves r d.class.name (resolved_index r)
  pub cites : CitesClass (file_of d.file) (resolved_index r) c.class.name
  pub ends : EndsAtClass (row_accessible c d.class) cites.cited c.class v

-- what an end of an entry rests on: the request's class is recorded (5.3)
abbrev pub entry_basis : Configured → request.Request → Class → Based
entry_basis config r d =
    record {
      config = config;
      needs = class_need r d ∷ [];
      prepared = [];
      before = [];
      refused = None;
    }

-- the same, and the class that the entry names is, too (5.3, 5.4.3.1)
abbrev pub class_basis : Configured → request.Request → Class → Class → Based
class_basis config r d c =
    record {
      config = config;
      needs = reference_needs r d c;
      prepared = [];
      before = [];
      refused = None;
    }

-- ---- members

-- the request's entry of the class d names the class c, which is accessible; both were made by
-- registries of one configuration (5.4.3.1, 5.4.4)
pub record GoesTo (r : request.Request) (d c : Lined) (index : ℕ) : Type 0 where
  pub of : Resolves r d.own.class.name index
  pub config : c.config ≡ d.config
  pub accessible : row_accessible c.own d.own.class ≡ true

-- the verdict is that of the member that was found (5.4.3.2 to 5.4.3.4)
abbrev pub IsOfFound : LocatedMember → Verdict → Type 0
IsOfFound f v =
    (cited : Reference) → reference (kin_of f.d).file f.index ≡ Some cited
    → v ≡ asking.verdict_of cited f.owner.class f.key

-- the error of a member that was not found through a class; out of memory is none
-- (5.4.3.2 to 5.4.3.4)
abbrev pub fault_verdict : Class → LookupFault → Option verdict.Verdict
fault_verdict c faults.Memory = None
fault_verdict c faults.NoSuchField = Some (verdicts.Error kinds.NoSuchFieldError c)
fault_verdict c faults.NoSuchMethod = Some (verdicts.Error kinds.NoSuchMethodError c)
fault_verdict c faults.WrongKind = Some (verdicts.Error kinds.IncompatibleClassChangeError c)
fault_verdict c (faults.Inaccessible owner) = Some (verdicts.Error kinds.IllegalAccessError owner)

-- the entry of d at an index names the class c; looking up its member answers a fault, and this is
-- its error (5.4.3.2 to 5.4.3.4)
pub record IsLookupError (d c : Lined) (index : ℕ) (v : verdict.Verdict) : Type 0 where
  pub cites : CitesClass (kin_of d).file index (kin_of c).class.name
  pub fault : LookupFault
  pub lookup : asking.LooksUp d c index (Err fault)
  pub error : fault_verdict c.own.class fault ≡ Some v

-- what a member rests on: the two classes are recorded, and all its equalities are imposed
-- (5.4.3.2, 5.4.3.3)
abbrev pub member_basis : request.Request → LocatedMember → Listed → Based
member_basis r f e = record {
  config = f.d.config;
  needs = reference_needs r f.d.own.class f.c.own.class ++ imposed.needs_of e.needs;
  prepared = [];
  before = [];
  refused = None;
}

-- ---- equalities that are refused

-- the equalities are those of the request's entry, whose class is accessible (5.4.3)
abbrev pub AreAsked : request.Request → Sprung → Type 0
AreAsked r (OfReference d c index) = GoesTo r d c index
AreAsked r (OfPreparation at) = ⊥

-- the configuration of what a list of equalities was made from
abbrev pub origin_config : Sprung → Configured
origin_config (OfReference d c index) = d.config
origin_config (OfPreparation at) = at.config

-- the records of the classes that a list of equalities was made from (5.3, 5.4.3.1)
abbrev pub sprung_needs : request.Request → Sprung → List Need
sprung_needs r (OfReference d c index) = reference_needs r d.own.class c.own.class
sprung_needs r (OfPreparation at) = class_need r at.own.class ∷ []

-- what an answer rests on that comes at the equality at a place of a reference's list: the two
-- classes are recorded, and those before it are imposed; this one, if one is, is refused
-- (5.3.4, 5.4.3)
abbrev pub asked_basis : request.Request → Listed → ℕ → Option Need → Based
asked_basis r e k refused = record {
  config = origin_config e.origin;
  needs = sprung_needs r e.origin ++ take k (imposed.needs_of e.needs);
  prepared = [];
  before = [];
  refused = refused;
}

-- the request links the class of a lineage, and the equalities are those of the preparation of its
-- class at this place (5.4, 5.4.2)
pub record AreLinked (r : request.Request) (l : Lined) (place : ℕ) (from : Sprung) : Type 0 where
  pub of : r ≡ requests.Link (loader_of r) l.own.class.name
  pub at : Lined
  pub prepares : from ≡ OfPreparation at
  pub config : at.config ≡ l.config
  pub there : option_map (λ row. row.class) (slice_get (rows_in l) place) ≡ Some at.own.class

-- the classes before a place in a lineage (5.4)
abbrev pub classes_before : Lined → ℕ → List Class
classes_before l place = map (λ row. row.class) (take place (rows_in l))

-- what an answer rests on that comes at the equality at a place of a preparation's list: the
-- request's class is recorded, the classes before the place in its lineage are prepared, and the
-- equalities before it are imposed; this one, if one is, is refused (5.3.4, 5.4.2)
abbrev pub link_basis : request.Request → Lined → ℕ → Listed → ℕ → Option Need → Based
link_basis r l place e k refused = record {
  config = l.config;
  needs = class_need r l.own.class ∷ take k (imposed.needs_of e.needs);
  prepared = classes_before l place;
  before = classes_before l place;
  refused = refused;
}

-- a list of equalities is that of the preparation of a row's class, under this configuration
-- (5.4.2)
pub record IsOfRow (c : Configured) (row : Rowed) (e : Listed) : Type 0 where
  pub at : Lined
  pub prepares : e.origin ≡ OfPreparation at
  pub config : at.config ≡ c
  pub same : at.own.class ≡ row.class

-- these lists are those of the first of these rows, in order (5.4.2)
abbrev pub AreOfRows : Configured → List Rowed → List Listed → Type 0
AreOfRows c rows [] = Unit {0}
AreOfRows c [] (e ∷ es) = ⊥
AreOfRows c (row ∷ rows) (e ∷ es) = IsOfRow c row e × AreOfRows c rows es

-- the equalities of these lists, in order (5.3.4)
abbrev pub all_needs : List Listed → List Need
all_needs es = flat_map (λ e. imposed.needs_of e.needs) es

-- the same, where the classes before are those of these lists, and need not be prepared: all the
-- equalities of the lists are imposed (5.3.4, 5.4.2)
abbrev pub imposed_basis
    : request.Request → Lined → List Listed → Listed → ℕ → Option Need → Based
imposed_basis r l earlier e k refused = record {
  config = l.config;
  needs = class_need r l.own.class ∷ all_needs earlier ++ take k (imposed.needs_of e.needs);
  prepared = [];
  before = classes_before l (length earlier);
  refused = refused;
}

-- How the load of a class ends: an obstacle, or a record that is refused
-- (JVMS SE 8, 5.3, 5.3.4, 5.3.5).
use Rattle.std.specs.Prelude.{◌≡◌, ◌≢◌, ℕ, true, false, List, [], ◌∷◌, ◌++◌, Option, Some, None}
use Rattle.cl_classfile.specs.Files.{file_of, Name}
use Rattle.cl_model.specs.declared.verdict.ErrorKind.{ErrorKind}
use Rattle.cl_model.specs.declared.verdict.ErrorKind.TheVariants as kinds
use Rattle.cl_model.specs.declared.verdict.Verdict as verdict
use Rattle.cl_model.specs.declared.verdict.Verdict.TheVariants as verdicts
use Rattle.cl_model.specs.declared.request.Request as request
use Rattle.cl_model.specs.Content.{Content}
use Rattle.cl_model.specs.Classes.{class}
use Rattle.cl_model.specs.States.{Need, Entry}
use Rattle.cl_model.specs.Frames.{IsFrame, kept_of, path_of, wanted_supertype}
use Rattle.cl_model.specs.Plans.{CitesClass}
use Rattle.cl_model.specs.Views.{error_of}
use Rattle.cl_delegation.specs.Searches.{Located}
use Rattle.cl_delegation.specs.Worlds.{world_of}
use Rattle.cl_hierarchy.specs.declared.draft.DraftFault.{DraftFault}
use Rattle.cl_hierarchy.specs.declared.draft.DraftFault.TheVariants as drafts
use Rattle.cl_hierarchy.specs.Drafts.{Drafted, home_class}
use Rattle.cl_hierarchy.specs.Frames.{Framed, frame_of}
use Rattle.cl_hierarchy.specs.Paths.{Pathed, frames_of, at_loader, at_name, is_on, misfit_under}
use Rattle.cl_hierarchy.specs.Rows.{Rowed}
use Rattle.cl_config.specs.Views.{Configured}
use Rattle.cl_findings.specs.Findings.{Based, Resolves, loader_of, name_of}
use Rattle.cl_findings.specs.References.{class_need}
use Rattle.cl_findings.specs.declared.load.Target.{Target}
use Rattle.cl_findings.specs.declared.load.Target.TheVariants as targets
use Rattle.cl_findings.specs.declared.load.Obstacle.{Obstacle}
use Rattle.cl_findings.specs.declared.load.Obstacle.TheVariants as obstacles
use Rattle.cl_findings.specs.declared.load.NextRecord.{NextRecord}
use Rattle.cl_findings.specs.declared.load.NextRecord.TheVariants as nexts

-- ---- what a path was made for

-- the path loads the request's own class (5.3)
pub record IsOwn (r : request.Request) (p : Pathed) : Type 0 where
  pub loader : loader_of r ≡ p.loader
  pub name : name_of r ≡ p.name

-- the path loads the class that the request's entry of the class of a row names, through the loader
-- that defined that class (5.4.3.1)
pub record IsReferred (r : request.Request) (d : Rowed) (p : Pathed) : Type 0 where
  pub index : ℕ
  pub of : Resolves r d.class.name index
  pub cites : CitesClass (file_of d.file) index p.name
  pub loader : p.loader ≡ d.class.loader

-- the path was made for the request (5.3, 5.4.3.1)
abbrev pub IsFor : {A : Type 0} → request.Request → Target A → Pathed → Type 0
IsFor r targets.Own p = IsOwn r p
IsFor r (targets.Reference d) p = IsReferred r d.value p

-- the record of the request's class, where that is loaded already (5.3)
abbrev pub target_needs : {A : Type 0} → request.Request → Target A → List Need
target_needs r targets.Own = []
target_needs r (targets.Reference d) = class_need r d.value.class ∷ []

-- where a path is, this loader is asked for this name, under this configuration (5.3.2)
pub record LooksFor (p : Pathed) (c : Configured) (loader : ℕ) (n : Name) : Type 0 where
  pub config : c ≡ p.config
  pub asked : loader ≡ at_loader p
  pub name : n ≡ at_name p

-- the home is that of what is looked for (5.3.2)
abbrev pub IsSought : Pathed → Located → Type 0
IsSought p h = LooksFor p h.config h.asked h.name

-- a class does not fit as the supertype that is looked for, with an error of this kind
-- (5.3.5, steps 3 and 4)
abbrev pub IsMisfit : Pathed → Rowed → ErrorKind → Type 0
IsMisfit p row kind =
    misfit_under p.frames row.class (file_of row.file) ≡ Some (error_of kind row.class)

-- ---- obstacles

-- what stops a derivation where it is: there is no home; the home's bytes are not its class; the
-- class is being derived already; or it is recorded and does not fit as the supertype that is
-- looked for (5.3.5)
abbrev pub Stops : {A : Type 0} → Pathed → Obstacle A → Type 0
Stops p (obstacles.Missing u) = LooksFor p u.config u.asked u.name
Stops p (obstacles.Unreadable u) =
    IsSought p u.home × (is_on p (home_class u.home) ≡ false)
Stops p (obstacles.Circle h) = IsSought p h × (is_on p (home_class h) ≡ true)
Stops p (obstacles.Misfit row c kind) =
    (row.value.class ≡ c) × (c.name ≡ at_name p) × IsMisfit p row.value kind

-- the error of bytes that are not their class (5.3.5, steps 1 and 2)
abbrev pub kind_of : DraftFault → ErrorKind
kind_of (drafts.Format fault) = kinds.ClassFormatError
kind_of drafts.Version = kinds.UnsupportedClassVersionError
kind_of drafts.OtherName = kinds.NoClassDefFoundError

-- a request's own class is not found, one that it needs or names is not defined
-- (5.3.1, 5.3.5, 5.4.3.1)
abbrev pub missing_kind : {A : Type 0} → Target A → List Framed → ErrorKind
missing_kind targets.Own [] = kinds.ClassNotFoundException
missing_kind targets.Own (x ∷ xs) = kinds.NoClassDefFoundError
missing_kind (targets.Reference d) xs = kinds.NoClassDefFoundError

-- the error that an obstacle is (5.3.1, 5.3.5)
abbrev pub verdict_at : {A B : Type 0} → Target A → Pathed → Obstacle B → verdict.Verdict
verdict_at t p (obstacles.Missing u) =
    verdicts.Error (missing_kind t p.frames) (class u.name u.asked)
verdict_at t p (obstacles.Unreadable u) =
    verdicts.Error (kind_of u.fault) (home_class u.home)
verdict_at t p (obstacles.Circle h) =
    verdicts.Error kinds.ClassCircularityError (home_class h)
verdict_at t p (obstacles.Misfit row c kind) = verdicts.Error kind c

-- the record that an obstacle goes over: a class that does not fit is recorded by the loader that
-- was asked (5.3, 5.3.5)
abbrev pub needs_at : {A : Type 0} → Pathed → Obstacle A → List Need
needs_at p (obstacles.Missing u) = []
needs_at p (obstacles.Unreadable u) = []
needs_at p (obstacles.Circle h) = []
needs_at p (obstacles.Misfit row c kind) = Entry (at_loader p) c.name c.loader ∷ []

-- what the end of a load rests on: the request's class, where that is loaded already, what the path
-- has accepted, and more; and the record that is refused there, if one is (5.3, 5.3.4, 5.3.5)
abbrev pub load_basis : {A : Type 0} → request.Request → Target A → Pathed → List Need
    → Option Need → Based
load_basis r t p more refused = record {
  config = p.config;
  needs = target_needs r t ++ (kept_of (frames_of p) ++ more);
  prepared = [];
  before = [];
  refused = refused;
}

-- what the error rests on: the obstacle as well (5.3, 5.3.5)
abbrev pub basis_at : {A B : Type 0} → request.Request → Target A → Pathed → Obstacle B → Based
basis_at r t p end = load_basis r t p (needs_at p end) None

-- ---- records

-- where a content is told, the class is that of the frame that comes next on the path, with all its
-- supertypes (5.3.5)
abbrev pub FrameKeepsRules : Option Content → Pathed → Framed → Type 0
FrameKeepsRules None p x = Unit {0}
FrameKeepsRules (Some content) p x =
    IsFrame (world_of p.config content) (path_of [] (frames_of p)) (at_loader p) (at_name p)
    (frame_of x)

-- a class is what is looked for, and has accepted all its direct supertypes (5.3.5, steps 3 to 5)
pub record IsWhole (told : Option Content) (p : Pathed) (x : Framed) : Type 0 where
  pub home : IsSought p x.draft.home
  pub named : x.draft.class.name ≡ at_name p
  pub complete : wanted_supertype (frame_of x) ≡ None
  pub rules : FrameKeepsRules told p x

-- the record comes next where a path is: that of a class which has all its supertypes, by its own
-- loader, or that of the loader that was asked, where another has the class (5.3, 5.3.5)
abbrev pub ComesNext : {A : Type 0} → Option Content → Pathed → NextRecord A → Type 0
ComesNext told p (nexts.Define x) = IsWhole told p x
ComesNext told p (nexts.Initiate h) = IsSought p h.value × (h.value.definer ≢ at_loader p)

-- the record that a definition makes: that of the class by its own loader (5.3.5, step 5)
abbrev pub own_record : Drafted → Need
own_record d = Entry d.class.loader d.class.name d.class.loader

-- the record that an initiation makes: that of the home's class by the loader that was asked (5.3)
abbrev pub asked_record : Located → Need
asked_record h = Entry h.asked h.name h.definer

-- the record of the home's class by the home itself (5.3)
abbrev pub home_record : Located → Need
home_record h = Entry h.definer h.name h.definer

-- what the record needs before it: those of the supertypes, or the home's own (5.3, 5.3.5)
abbrev pub next_needs : {A : Type 0} → NextRecord A → List Need
next_needs (nexts.Define x) = kept_of (frame_of x ∷ [])
next_needs (nexts.Initiate h) = home_record h.value ∷ []

-- the record as a need (5.3)
abbrev pub next_need : {A : Type 0} → NextRecord A → Need
next_need (nexts.Define x) = own_record x.draft
next_need (nexts.Initiate h) = asked_record h.value

-- what its refusal rests on: what the record needs before it as well (5.3, 5.3.4)
abbrev pub refused_at : {A B : Type 0} → request.Request → Target A → Pathed → NextRecord B → Based
refused_at r t p x = load_basis r t p (next_needs x) (Some (next_need x))

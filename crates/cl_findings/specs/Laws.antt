-- What stands in a sound state is its answer (JVMS SE 8, 5.3 to 5.4.3), and what comes next on a
-- path: each is the contract of a function without a body.
use Rattle.std.specs.Prelude.{◌≡◌, ℕ, false, List, [], ◌∷◌, ◌++◌, length, take, Option, Some, None, slice_get, Contains}
use Rattle.std.specs.List.{AllByRecursion}
use Rattle.cl_classfile.specs.Files.{Name, file_of}
use Rattle.cl_model.specs.declared.need.Need as rust
use Rattle.cl_model.specs.declared.verdict.Verdict as verdict
use Rattle.cl_model.specs.declared.verdict.Verdict.TheVariants as verdicts
use Rattle.cl_model.specs.declared.answer.Answer.TheVariants as answers
use Rattle.cl_model.specs.declared.request.Request.TheVariants as requests
use Rattle.cl_model.specs.Content.{Content}
use Rattle.cl_model.specs.Classes.{class}
use Rattle.cl_model.specs.States.{State, recorded_definer}
use Rattle.cl_model.specs.Frames.{wanted_supertype}
use Rattle.cl_model.specs.Homes.{home}
use Rattle.cl_model.specs.Machine.{IsClosed, IsSound, AnswersPlan, AnswersReference}
use Rattle.cl_model.specs.Service.{ComesTo}
use Rattle.cl_model.specs.Views.{need_of, request_of, verdict_of}
use Rattle.cl_config.specs.Views.{Configured, Scripted}
use Rattle.cl_delegation.specs.Worlds.{setting_of, world_of}
use Rattle.cl_hierarchy.specs.Drafts.{Drafted, IsDraft, IsSpelt}
use Rattle.cl_hierarchy.specs.Frames.{Framed, frame_of}
use Rattle.cl_hierarchy.specs.Imposed.{IsListed, Listed, needs_of}
use Rattle.cl_hierarchy.specs.Lineages.{IsLined, Lined, rows_in}
use Rattle.cl_hierarchy.specs.Paths.{Pathed, IsPath, Completes, at_name, fresh, is_on, misfit_under}
use Rattle.cl_hierarchy.specs.Rows.{Rowed}
use Rattle.cl_findings.specs.Findings.{Answered, Based, BasisStands, IsLink, Rests, Stands, loader_of}
use Rattle.cl_findings.specs.Loads.{IsSought, IsWhole}
use Rattle.cl_findings.specs.References.{AreLinked, AreOfRows, all_needs, imposed_basis}

-- a finding has this verdict, rests on the content, and stands in a sound state (5.3 to 5.4.3)
pub record VerdictStands (content : Content) (c : Configured) (script : Scripted) (s : State)
    (f : Answered) (v : verdict.Verdict) : Type 0 where
  pub rests : Rests (Some content) f
  pub sound : IsSound (setting_of c script content) s
  pub stands : Stands c s f
  pub said : f.answer ≡ answers.Said v

-- a verdict that stands in a sound state is the answer of its request there (5.3 to 5.4.3)
abbrev pub StandingAnswers : Type 0
StandingAnswers =
    (content : Content) (c : Configured) (script : Scripted) (s : State) (f : Answered)
    (v : verdict.Verdict)
    → VerdictStands content c script s f v
    → AnswersPlan (setting_of c script content) s (request_of f.request) (verdict_of v)

-- and the answer of the reference, where the loader of the request records its class (5.4.3)
abbrev pub StandingSettles : Type 0
StandingSettles =
    (content : Content) (c : Configured) (script : Scripted) (s : State) (f : Answered)
    (v : verdict.Verdict) (loader place i : ℕ) (name : Name)
    → VerdictStands content c script s f v
    → f.request ≡ requests.Resolve loader name i → recorded_definer s.records loader name
    ≡ Some place
    → AnswersReference (setting_of c script content) s (class name place) i (verdict_of v)

-- the classes before the refused equality's in the lineage are prepared (5.4.2)
abbrev pub ArePreparedBefore : State → Option Based → Type 0
ArePreparedBefore s None = Unit {0}
ArePreparedBefore s (Some b) = AllByRecursion (Contains s.prepared) b.before

-- of a request to link its service has come to it, where the classes before are prepared (5.4)
abbrev pub StandingComes : Type 0
StandingComes =
    (content : Content) (c : Configured) (script : Scripted) (s : State) (f : Answered)
    (v : verdict.Verdict)
    → VerdictStands content c script s f v
    → IsLink f.request → ArePreparedBefore s f.basis
    → ComesTo (setting_of c script content) s (request_of f.request) (verdict_of v)

-- a verdict is the refusal of a link's equality, with the lists of all classes before its own; the
-- lineage is that of the request's class, and the need stands nowhere before (5.3.4, 5.4, 5.4.2)
pub record IsListedRefusal (content : Content) (c : Configured) (f : Answered)
    (v : verdict.Verdict) : Type 0 where
  pub lineage : Lined
  pub earlier : List Listed
  pub list : Listed
  pub index : ℕ
  pub need : rust.Need
  pub refuses : v ≡ verdicts.Linkage need
  pub basis : f.basis ≡ Some (imposed_basis f.request lineage earlier list index
      (Some (need_of need)))
  pub linked : AreLinked f.request lineage (length earlier) list.origin
  pub are : AreOfRows lineage.config (rows_in lineage) earlier
  pub there : slice_get (needs_of list.needs) index ≡ Some (need_of need)
  pub kept : IsLined (Some content) lineage
  pub listed : AllByRecursion (IsListed (Some content)) (earlier ++ list ∷ [])
  pub config : lineage.config ≡ c
  pub found : home (world_of c content) (loader_of f.request) lineage.own.class.name
      ≡ Some lineage.own.class.loader
  pub first : Contains (all_needs earlier ++ take index (needs_of list.needs)) (need_of need) → ⊥

-- such a verdict rests on no more than the answer does: where it is the request's answer, what it
-- rests on stands, whether classes are prepared or not (5.3.4, 5.4.2)
abbrev pub RefusalIsBorne : Type 0
RefusalIsBorne =
    (content : Content) (c : Configured) (script : Scripted) (s : State) (f : Answered)
    (v : verdict.Verdict)
    → IsListedRefusal content c f v → IsClosed (world_of c content) s
    → AnswersPlan (setting_of c script content) s (request_of f.request) (verdict_of v)
    → BasisStands c s f.basis

-- a class whose last supertype a path accepted is whole (5.3.5, steps 3 to 5)
abbrev pub CompletedIsWhole : Type 0
CompletedIsWhole =
    (told : Option Content) (old new : Pathed) (definer : ℕ) (x : Framed) (row : Rowed)
    → IsPath told old → Completes old new definer x → IsSpelt told row.class row.file
    → row.class.loader ≡ definer
    → row.class.name ≡ at_name old → misfit_under old.frames row.class (file_of row.file) ≡ None
    → IsWhole told new x

-- a class without direct supertypes is whole at once (5.3.5, steps 3 to 5)
abbrev pub RootIsWhole : Type 0
RootIsWhole =
    (told : Option Content) (p : Pathed) (d : Drafted) → IsPath told p → IsDraft told d
    → IsSought p d.home
    → is_on p d.class ≡ false → wanted_supertype (frame_of (fresh d)) ≡ None
    → IsWhole told p (fresh d)

-- What a registry accepts is what the linkage machine allows next: laws, each the contract of a function without a body (JVMS SE 8, 5.3, 5.3.5).
use Rattle.std.specs.Prelude.{◌≡◌, ◌⊎◌, ◌<◌, ℕ, List, ◌++◌, length, take, Some, slice_get, Contains}
use Rattle.cl_model.specs.declared.answer.Answer.TheVariants as answers
use Rattle.cl_model.specs.declared.need.Equality.{Equality}
use Rattle.cl_model.specs.declared.verdict.Verdict.{Verdict}
use Rattle.cl_model.specs.States.{Need, recorded_definer, AllMet, Met, Refused}
use Rattle.cl_model.specs.Content.{Content}
use Rattle.cl_model.specs.Views.{answer_of}
use Rattle.cl_model.specs.Machine.{MayConstrain, MayDefine, MayInitiate, MayPost, MayPrepare, NextRound, May}
use Rattle.cl_delegation.specs.Searches.{Located, LeadsTo}
use Rattle.cl_delegation.specs.Worlds.{world_of}
use Rattle.cl_hierarchy.specs.Drafts.{IsDraft, Drafted}
use Rattle.cl_hierarchy.specs.Imposed.{IsListed, Listed, OfPreparation, equal_need, needs_of}
use Rattle.cl_hierarchy.specs.Lineages.{Lined}
use Rattle.cl_findings.specs.Findings.{Answered, IsLookedUp, Rests, Stands}
use Rattle.cl_findings.specs.Laws.{IsListedRefusal}
use Rattle.cl_registry.specs.declared.registry.RegistryFault.TheVariants.{Stray}
use Rattle.cl_registry.specs.Imposing.{AreOfConfig, IsListOf, IsReady, MayImpose}
use Rattle.cl_registry.specs.Posting.{AnswerFits}
use Rattle.cl_registry.specs.Refusals.{DefineRefusedFor}
use Rattle.cl_registry.specs.Tables.{Shown, state_of, records_of, NamesLoaders, IsKept, IsAsked, IsNew, LacksRecord, MayEnter, MayJoin, RoundMayBegin, machine}
use Rattle.cl_findings.specs.Loads.{asked_record, own_record}

-- a class of this configuration that the machine may define has no record and may be entered, and is not refused (5.3.4, 5.3.5)
abbrev pub AllowedIsEntered : Type 0
AllowedIsEntered =
    (content : Content) (x : Shown) (d : Drafted) → IsKept (Some content) x
    → IsDraft (Some content) d → d.home.config ≡ x.config
    → MayDefine (machine x content) (state_of x) d.class
    → MayEnter x d × IsNew x d × (Refused (state_of x) (own_record d) → ⊥)

-- a class that has no record and may be entered, and is not refused, may be defined by the machine (5.3.4, 5.3.5)
abbrev pub EnteredIsAllowed : Type 0
EnteredIsAllowed =
    (content : Content) (x : Shown) (d : Drafted) → IsKept (Some content) x
    → IsDraft (Some content) d
    → MayEnter x d → IsNew x d → (Refused (state_of x) (own_record d) → ⊥)
    → MayDefine (machine x content) (state_of x) d.class

-- a home of this configuration by which the machine may record an initiating loader may be joined, that loader has no record, and
-- this one is not refused (5.3, 5.3.4)
abbrev pub AllowedIsJoined : Type 0
AllowedIsJoined =
    (content : Content) (x : Shown) (h : Located) → IsKept (Some content) x → h.config ≡ x.config
    → MayInitiate (machine x content) (state_of x) h.name h.definer h.asked
    → MayJoin x h × LacksRecord x h.asked h.name × (Refused (state_of x) (asked_record h) → ⊥)

-- a home that may be joined, where the loader has no record and this one is not refused, is one by which the machine may record it
-- as initiating (5.3, 5.3.4)
abbrev pub JoinedIsAllowed : Type 0
JoinedIsAllowed =
    (content : Content) (x : Shown) (h : Located) → IsKept (Some content) x
    → LeadsTo (Some content) h.config h.asked h.name (Some h.definer)
    → MayJoin x h → LacksRecord x h.asked h.name → (Refused (state_of x) (asked_record h) → ⊥)
    → MayInitiate (machine x content) (state_of x) h.name h.definer h.asked

-- an equality of a list that may be imposed, and is neither met nor refused, may be imposed by the machine (5.3.4)
abbrev pub ImposedIsAllowed : Type 0
ImposedIsAllowed =
    (content : Content) (x : Shown) (e : Listed) (k : ℕ) (n : Equality) → IsKept (Some content) x
    → IsListed (Some content) e
    → MayImpose x e k → slice_get e.needs k ≡ Some n → (Met (state_of x) (equal_need n) → ⊥)
    → (Refused (state_of x) (equal_need n) → ⊥)
    → MayConstrain (machine x content) (state_of x) n.name n.one n.other

-- an equality of a list of this configuration, of a recorded class, may be imposed where the machine's own list comes to it: what
-- it has before this list, and what this list has before it, is met (5.3.4, 5.4.2, 5.4.3)
abbrev pub AllowedIsImposed : Type 0
AllowedIsImposed =
    (content : Content) (x : Shown) (e : Listed) (k : ℕ) (before : List Need)
    → IsKept (Some content) x → IsListed (Some content) e
    → AreOfConfig x.config e.origin → k < length e.needs
    → IsListOf (world_of x.config content) (state_of x) e.origin (before ++ needs_of e.needs)
    → AllMet (state_of x) (before ++ take k (needs_of e.needs)) → MayImpose x e k

-- a class that may be marked, and is not prepared, may be prepared by the machine (5.4.2)
abbrev pub MarkedIsAllowed : Type 0
MarkedIsAllowed =
    (content : Content) (x : Shown) (l : Lined) (needs : List Equality)
    → IsKept (Some content) x
    → IsListed (Some content) (record { needs = needs; origin = OfPreparation l })
    → IsReady x l (needs_of needs)
    → (Contains (state_of x).prepared l.own.class → ⊥)
    → MayPrepare (machine x content) (state_of x) l.own.class

-- the preparation of a class that the machine may make may be marked by its list, under this configuration (5.4.2)
abbrev pub AllowedIsMarked : Type 0
AllowedIsMarked =
    (content : Content) (x : Shown) (l : Lined) (needs : List Equality)
    → IsKept (Some content) x
    → IsListed (Some content) (record { needs = needs; origin = OfPreparation l })
    → l.config ≡ x.config
    → MayPrepare (machine x content) (state_of x) l.own.class
    → IsReady x l (needs_of needs) × (Contains (state_of x).prepared l.own.class → ⊥)

-- an answer that fits and rests on the content may be posted by the machine (5.3.5)
abbrev pub FittingIsAllowed : Type 0
FittingIsAllowed =
    (content : Content) (x : Shown) (q : ℕ) (f : Answered) → IsKept (Some content) x
    → AnswerFits x q f → Rests (Some content) f
    → MayPost (machine x content) (state_of x) q (answer_of f.answer)

-- a verdict that a finding says of its request, and that the machine may post, fits where the verdict is one that is looked up,
-- where the finding stands, or where it refuses a link's equality with the lists of all classes before, which need not be
-- prepared: `post` takes it (5.3 to 5.4.3)
abbrev pub AllowedIsPosted : Type 0
AllowedIsPosted =
    (content : Content) (x : Shown) (q : ℕ) (f : Answered) (v : Verdict) → IsKept (Some content) x
    → IsAsked x q f
    → f.answer ≡ answers.Said v
    → IsLookedUp f.request v ⊎ Stands x.config (state_of x) f ⊎ IsListedRefusal content x.config f v
    → MayPost (machine x content) (state_of x) q (answer_of f.answer) → AnswerFits x q f

-- the next round may begin just where the machine may go on: both are `EndsRound` of the same script, so that nothing is left to show
abbrev pub RoundIsAllowed : Type 0
RoundIsAllowed = (content : Content) (x : Shown) → RoundMayBegin x
    → May (machine x content) (state_of x) NextRound

-- a class of another configuration than the registry's has no row of its own to be recorded
abbrev pub OtherConfigIsStray : Type 0
OtherConfigIsStray =
    (x : Shown) (d : Drafted) → IsNew x d → (d.home.config ≡ x.config → ⊥)
    → DefineRefusedFor x d Stray

-- what is recorded was defined by a loader of the configuration, where the tables name its loaders alone (5.3)
abbrev pub RecordedIsNamed : Type 0
RecordedIsNamed = (x : Shown) (loader place : ℕ) (name : List ℕ) → NamesLoaders x
    → recorded_definer (records_of x) loader name ≡ Some place → place < length x.config.loaders

-- Which texts are a bundle, and the first thing that is wrong with one that is not: its section
-- lines are looked at first, then its configuration, then its class sections in order, and its
-- script last.
use Rattle.std.specs.Prelude.{
  ◌≡◌,
  ◌⊎◌,
  ℕ,
  MatchBool,
  List,
  [],
  ◌∷◌,
  ◌++◌,
  Option,
  Some,
  None,
  is_some,
  Result,
  Ok,
  Err,
}
use Rattle.cl_model.specs.Content.{Content, Stored, content_at}
use Rattle.cl_config.specs.Views.{Configured, Scripted, names_of, loader_named}
use Rattle.cl_config.specs.Configs.{config_of}
use Rattle.cl_source.specs.Puts.{TellsMore}
use Rattle.cl_config.specs.Scripts.{script_of}
use Rattle.cl_config.specs.declared.fault.ConfigFault.{ConfigFault}
use Rattle.cl_config.specs.declared.script.ScriptFault.{ScriptFault}
use Rattle.cl_bundle.specs.Sections.{Cut, Part, cut_of}
use Rattle.cl_bundle.specs.Contents.{ContentOf}
use Rattle.cl_bundle.specs.Faults.{UnlessMemory}
use Rattle.cl_bundle.specs.declared.fault.BundleFault.{BundleFault}
use Rattle.cl_bundle.specs.declared.fault.BundleFault.TheVariants.{BadLine, Config, Script}
use Rattle.cl_bundle.specs.declared.bundle.Bundle as declared

-- ---- the class sections

-- the content of a section is stored under this loader and its name
abbrev pub StoredAs : ℕ → Part → Result Stored BundleFault → Type 0
StoredAs loader part (Ok stored) =
    (stored.loader ≡ loader) × (stored.name ≡ part.name) × ContentOf part (Ok stored.bytes)
StoredAs loader part (Err fault) = ContentOf part (Err fault)

-- the loader has to be one, then this loader and name must not have had a section, and then the
-- content counts
abbrev pub StoredBy : Option ℕ → Content → Part → Result Stored BundleFault → Type 0
StoredBy None before part result = result ≡ Err (BadLine part.line)
StoredBy (Some loader) before part result =
    MatchBool (is_some (content_at before loader part.name)) (result ≡ Err (BadLine part.line))
    (StoredAs loader part result)

-- what a class section tells, behind some that tell this, or the fault of it
abbrev pub StoredOf : List (List ℕ) → Content → Part → Result Stored BundleFault → Type 0
StoredOf names before part result = StoredBy (loader_named names part.loader) before part result

-- class sections tell this in order, behind some that tell the first
abbrev pub AllTell : List (List ℕ) → Content → List Part → Content → Type 0
AllTell names before [] content = content ≡ before
AllTell names before (part ∷ parts) content =
    (stored : Stored) × StoredOf names before part (Ok stored)
    × AllTell names (before ++ stored ∷ []) parts content

-- the first of class sections that is wrong has this fault
abbrev pub FirstFault : List (List ℕ) → Content → List Part → BundleFault → Type 0
FirstFault names before [] fault = ⊥
FirstFault names before (part ∷ parts) fault =
    StoredOf names before part (Err fault)
    ⊎ ((stored : Stored) × StoredOf names before part (Ok stored)
    × FirstFault names (before ++ stored ∷ []) parts fault)

-- ---- the whole

-- each loader has the same bytes for each name
abbrev pub TellsSame : Content → Content → Type 0
TellsSame a b = (loader : ℕ) (name : List ℕ) → content_at a loader name ≡ content_at b loader name

-- what the class sections give a source
abbrev pub ContentsOf : List (List ℕ) → List Part → Result Content BundleFault → Type 0
ContentsOf names parts (Ok content) =
    (told : Content) × AllTell names [] parts told × TellsSame content told
ContentsOf names parts (Err fault) = UnlessMemory fault (FirstFault names [] parts fault)

-- the text is a bundle: its sections are in order, and each part is well formed
pub record IsBundle (text : List ℕ) (config : Configured) (content : Content) (script : Scripted)
    : Type 0 where
  pub cut : Cut
  pub sections : cut_of text ≡ Ok cut
  pub configuration : config_of cut.config ≡ Ok config
  pub contents : ContentsOf (names_of config) cut.classes (Ok content)
  pub requests : script_of (names_of config) cut.script (Ok script)

-- the first thing that is wrong with a text, with the fault that tells of it
pub data IsNoBundle (text : List ℕ) (fault : BundleFault) : Type 0 where
  WrongLine : (n : ℕ) → cut_of text ≡ Err n → fault ≡ BadLine n → IsNoBundle text fault
  WrongConfig : (cut : Cut) (wrong : ConfigFault) → cut_of text ≡ Ok cut
      → config_of cut.config ≡ Err wrong → fault ≡ Config wrong → IsNoBundle text fault
  WrongClass : (cut : Cut) (config : Configured) → cut_of text ≡ Ok cut
      → config_of cut.config ≡ Ok config → FirstFault (names_of config) [] cut.classes fault
      → IsNoBundle text fault
  WrongScript : (cut : Cut) (config : Configured) (told : Content) (wrong : ScriptFault)
      → cut_of text ≡ Ok cut → config_of cut.config ≡ Ok config
      → AllTell (names_of config) [] cut.classes told
      → script_of (names_of config) cut.script (Err wrong) → fault ≡ Script wrong
      → IsNoBundle text fault

-- what reading a text answers
abbrev pub BundleOf : List ℕ → Result declared.Bundle BundleFault → Type 0
BundleOf text (Ok b) = IsBundle text b.config b.source b.script
BundleOf text (Err fault) = UnlessMemory fault (IsNoBundle text fault)

-- ---- what the steps of reading one answer

-- what reading the configuration answers
abbrev pub ConfigFaultOf : List ℕ → Result Configured BundleFault → Type 0
ConfigFaultOf text (Ok config) = config_of text ≡ Ok config
ConfigFaultOf text (Err fault) =
    UnlessMemory fault
    ((wrong : ConfigFault) × (config_of text ≡ Err wrong) × (fault ≡ Config wrong))

-- what putting a class section into a source does
abbrev pub PutOf : List (List ℕ) → Part → Content → Result (Unit {0}) BundleFault → Content → Type 0
PutOf names part old (Ok x) new =
    (stored : Stored) × StoredOf names old part (Ok stored)
    × TellsMore old new stored.loader stored.name stored.bytes
PutOf names part old (Err fault) new = UnlessMemory fault (StoredOf names old part (Err fault))

-- Why a text is no bundle, from the step that found it.
use Rattle.std.proofs.Common.{◌≡◌, ℕ, List, Result, Ok, Err, refl, sym, subst, IsErrAnd}
use Rattle.cl_model.specs.Content.{Content}
use Rattle.cl_config.specs.Views.{Configured, names_of}
use Rattle.cl_config.specs.Configs.{config_of}
use Rattle.cl_config.specs.Scripts.{script_of}
use Rattle.cl_config.specs.declared.script.ScriptFault.{ScriptFault}
use Rattle.cl_config.specs.declared.script.ScriptFault.TheVariants as scripts
use Rattle.cl_writer.specs.declared.fault.AssembleFault.TheVariants as assembler
use Rattle.cl_bundle.specs.Sections.{Cut, Part, cut_of}
use Rattle.cl_bundle.specs.Cuts.{IsWrongLine}
use Rattle.cl_bundle.specs.Faults.{UnlessMemory}
use Rattle.cl_writer.specs.Assembled.{AssembleOf}
use Rattle.cl_writer.specs.declared.fault.AssembleFault.{AssembleFault}
use Rattle.cl_bundle.specs.Contents.{FaultOf, TextWritten, content_lines}
use Rattle.cl_bundle.specs.Bundles.{BundleOf, ConfigFaultOf, ContentsOf, IsNoBundle, WrongClass, WrongConfig, WrongLine, WrongScript}
use Rattle.cl_bundle.specs.declared.bundle.Bundle as declared
use Rattle.cl_bundle.specs.declared.fault.BundleFault.{BundleFault}
use Rattle.cl_bundle.specs.declared.fault.BundleFault.TheVariants.{BadLine, Class, Script, Memory}

pub unless : (fault : BundleFault) (P : Type 0) → P → UnlessMemory fault P
unless Memory P p = tt
unless (Script scripts.Memory) P p = tt
unless (Class class assembler.Memory) P p = tt
unless fault P p = p

pub unless_by : (fault : BundleFault) (P Q : Type 0) → (P → Q) → UnlessMemory fault P → UnlessMemory fault Q
unless_by Memory P Q f p = tt
unless_by (Script scripts.Memory) P Q f p = tt
unless_by (Class class assembler.Memory) P Q f p = tt
unless_by fault P Q f p = f p

pub no_bundle : (text : List ℕ) (r : Result declared.Bundle BundleFault) (fault : BundleFault) → IsErrAnd r (λ e. e ≡ fault) → UnlessMemory fault (IsNoBundle text fault) → BundleOf text r
no_bundle text (Ok b) fault e w = absurd e
no_bundle text (Err f) fault e w = subst (λ (g : BundleFault). UnlessMemory g (IsNoBundle text g)) (sym e) w

pub by_line : (text : List ℕ) (fault : BundleFault) → IsWrongLine (cut_of text) fault → UnlessMemory fault (IsNoBundle text fault)
by_line text (BadLine n) w = WrongLine n w refl
by_line text Memory w = tt
by_line text fault w = absurd w

pub by_config : (text : List ℕ) (cut : Cut) (fault : BundleFault) → cut_of text ≡ Ok cut → ConfigFaultOf cut.config (Err fault) → UnlessMemory fault (IsNoBundle text fault)
by_config text cut fault e w = unless_by fault _ (IsNoBundle text fault) (λ p. WrongConfig cut p.0 e p.1 p.2) w

pub by_class : (text : List ℕ) (cut : Cut) (config : Configured) (fault : BundleFault) → cut_of text ≡ Ok cut → config_of cut.config ≡ Ok config → ContentsOf (names_of config) cut.classes (Err fault)
    → UnlessMemory fault (IsNoBundle text fault)
by_class text cut config fault e k w = unless_by fault _ (IsNoBundle text fault) (λ p. WrongClass cut config e k p) w

pub by_script : (text : List ℕ) (cut : Cut) (config : Configured) (content : Content) (wrong : ScriptFault) → cut_of text ≡ Ok cut → config_of cut.config ≡ Ok config
    → ContentsOf (names_of config) cut.classes (Ok content) → script_of (names_of config) cut.script (Err wrong) → UnlessMemory (Script wrong) (IsNoBundle text (Script wrong))
by_script text cut config content wrong e k told w =
    unless (Script wrong) (IsNoBundle text (Script wrong)) (WrongScript cut config told.0 wrong e k told.1 w refl)

-- a class section's assembler text is refused
pub refused_text : (part : Part) (said : AssembleFault) (fault : BundleFault) → AssembleOf (content_lines part) (Err said) → FaultOf part said fault → UnlessMemory fault (TextWritten part (Err fault))
refused_text part said Memory a f = tt
refused_text part said (Class class assembler.Memory) a f = tt
refused_text part said (Class class (assembler.BadLine n)) a f = (subst (λ (x : AssembleFault). AssembleOf (content_lines part) (Err x)) (sym f.0) a, f.1)
refused_text part said (Class class (assembler.Invalid w)) a f = (subst (λ (x : AssembleFault). AssembleOf (content_lines part) (Err x)) (sym f.0) a, f.1)
refused_text part said fault a f = absurd f

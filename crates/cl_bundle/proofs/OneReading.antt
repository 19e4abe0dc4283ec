-- A text is read in one way.
use Rattle.std.proofs.Common.{◌≡◌, ℕ, List, [], Result, Ok, Err, sym, ap, subst, ◌∙◌}
use Rattle.std.specs.Prelude.{◌≢◌}
use Rattle.cl_model.specs.Content.{Content, content_at}
use Rattle.cl_config.specs.Views.{Configured, Scripted, names_of}
use Rattle.cl_config.specs.Configs.{config_of}
use Rattle.cl_config.specs.Scripts.{script_of}
use Rattle.cl_config.proofs.Stops.{one_scripted, script_has_one_fault, script_or_its_fault}
use Rattle.cl_config.specs.declared.fault.ConfigFault.{ConfigFault}
use Rattle.cl_config.specs.declared.script.ScriptFault.{ScriptFault}
use Rattle.cl_config.specs.declared.script.ScriptFault.TheVariants as scripts
use Rattle.cl_bundle.specs.Sections.{Cut, cut_of}
use Rattle.cl_bundle.specs.Bundles.{AllTell, FirstFault, IsBundle, IsNoBundle, TellsSame, WrongClass, WrongConfig, WrongLine, WrongScript}
use Rattle.cl_bundle.specs.Faults.{IsReason, SameFault}
use Rattle.cl_bundle.specs.declared.fault.BundleFault.{BundleFault}
use Rattle.cl_bundle.specs.declared.fault.BundleFault.TheVariants.{BadLine, Config, Script}
use Rattle.cl_bundle.proofs.Alone.{one_told, one_wrong, same_faults, told_or_wrong}
use Rattle.std.proofs.lemmas.Bool.{false≢true}

-- ---- sections and configuration

one_cut : (text : List ℕ) (a b : Cut) → cut_of text ≡ Ok a → cut_of text ≡ Ok b → a ≡ b
one_cut text a b e f = let g : ◌≡◌ {A = Result Cut ℕ} (Ok a) (Ok b) = sym e ∙ f in cc

cut_or_line : (text : List ℕ) (a : Cut) (n : ℕ) → cut_of text ≡ Ok a → cut_of text ≡ Err n → ⊥
cut_or_line text a n e f = let g : ◌≡◌ {A = Result Cut ℕ} (Ok a) (Err n) = sym e ∙ f in absurd cc

one_line : (text : List ℕ) (m n : ℕ) → cut_of text ≡ Err m → cut_of text ≡ Err n → m ≡ n
one_line text m n e f = let g : ◌≡◌ {A = Result Cut ℕ} (Err m) (Err n) = sym e ∙ f in cc

one_config : (a b : Cut) (c d : Configured) → a ≡ b → config_of a.config ≡ Ok c → config_of b.config ≡ Ok d → c ≡ d
one_config a b c d e v w = let g : ◌≡◌ {A = Result Configured ConfigFault} (Ok c) (Ok d) = sym v ∙ ap (λ (x : Cut). config_of x.config) e ∙ w in cc

config_or_fault : (a b : Cut) (c : Configured) (wrong : ConfigFault) → a ≡ b → config_of a.config ≡ Ok c → config_of b.config ≡ Err wrong → ⊥
config_or_fault a b c wrong e v w = let g : ◌≡◌ {A = Result Configured ConfigFault} (Ok c) (Err wrong) = sym v ∙ ap (λ (x : Cut). config_of x.config) e ∙ w in absurd cc

one_config_fault : (a b : Cut) (f g : ConfigFault) → a ≡ b → config_of a.config ≡ Err f → config_of b.config ≡ Err g → f ≡ g
one_config_fault a b f g e v w = let h : ◌≡◌ {A = Result Configured ConfigFault} (Err f) (Err g) = sym v ∙ ap (λ (x : Cut). config_of x.config) e ∙ w in cc

-- what holds of the same sections under the same configuration
at_same : (P : Cut → Configured → Type 0) (a b : Cut) (c d : Configured) → a ≡ b → c ≡ d → P a c → P b d
at_same P a b c d e f p = subst (λ (y : Configured). P b y) f (subst (λ (x : Cut). P x c) e p)

-- the sections of a text under its configuration
record IsCut (text : List ℕ) (cut : Cut) (config : Configured) : Type 0 where
  sections : cut_of text ≡ Ok cut
  configuration : config_of cut.config ≡ Ok config

same_config : (text : List ℕ) (a b : Cut) (c d : Configured) → IsCut text a c → IsCut text b d → (a ≡ b) × (c ≡ d)
same_config text a b c d v w =
    let same = one_cut text a b v.sections w.sections in
    (same, one_config a b c d same v.configuration w.configuration)

same_told : (text : List ℕ) (a b : Cut) (c d : Configured) (x y : Content) → IsCut text a c → IsCut text b d → AllTell (names_of c) [] a.classes x → AllTell (names_of d) [] b.classes y → x ≡ y
same_told text a b c d x y v w p q =
    let same = same_config text a b c d v w in
    one_told (names_of d) [] b.classes x y (at_same (λ k f. AllTell (names_of f) [] k.classes x) a b c d same.0 same.1 p) q

tells_or_wrong : (text : List ℕ) (a b : Cut) (c d : Configured) (x : Content) (f : BundleFault) → IsCut text a c → IsCut text b d → AllTell (names_of c) [] a.classes x → FirstFault (names_of d) [] b.classes f → ⊥
tells_or_wrong text a b c d x f v w p q =
    let same = same_config text a b c d v w in
    told_or_wrong (names_of d) [] b.classes x f (at_same (λ k f. AllTell (names_of f) [] k.classes x) a b c d same.0 same.1 p) q

same_wrong : (text : List ℕ) (a b : Cut) (c d : Configured) (f g : BundleFault) → IsCut text a c → IsCut text b d → FirstFault (names_of c) [] a.classes f → FirstFault (names_of d) [] b.classes g → SameFault f g
same_wrong text a b c d f g v w p q =
    let same = same_config text a b c d v w in
    one_wrong (names_of d) [] b.classes f g (at_same (λ k e. FirstFault (names_of e) [] k.classes f) a b c d same.0 same.1 p) q

script_at : (text : List ℕ) (a b : Cut) (c d : Configured) (r : Result Scripted ScriptFault) → IsCut text a c → IsCut text b d → script_of (names_of c) a.script r → script_of (names_of d) b.script r
script_at text a b c d r v w p =
    let same = same_config text a b c d v w in
    at_same (λ k f. script_of (names_of f) k.script r) a b c d same.0 same.1 p

-- ---- the script's fault

told_fault : (f : BundleFault) (wrong : ScriptFault) → f ≡ Script wrong → IsReason f → wrong ≢ scripts.Memory
told_fault f wrong e some = λ h. false≢true (sym (subst IsReason (e ∙ ap (λ (x : ScriptFault). Script x) h) some))

-- ---- the whole

pub one_bundle : (text : List ℕ) (c d : Configured) (a b : Content) (s t : Scripted) → IsBundle text c a s → IsBundle text d b t → (c ≡ d) × TellsSame a b × (s ≡ t)
one_bundle text c d a b s t v w =
    let here : IsCut text v.cut c = record { sections = v.sections; configuration = v.configuration } in
    let there : IsCut text w.cut d = record { sections = w.sections; configuration = w.configuration } in
    let told = same_told text v.cut w.cut c d v.contents.0 w.contents.0 here there v.contents.1 w.contents.1 in (
      (same_config text v.cut w.cut c d here there).1,
      λ l n. v.contents.2 l n ∙ ap (λ (x : Content). content_at x l n) told ∙ sym (w.contents.2 l n),
      one_scripted (names_of d) w.cut.script s t (script_at text v.cut w.cut c d (Ok s) here there v.requests) w.requests,
    )

pub bundle_or_fault : (text : List ℕ) (c : Configured) (a : Content) (s : Scripted) (f : BundleFault) → IsBundle text c a s → IsNoBundle text f → IsReason f → ⊥
bundle_or_fault text c a s f v (WrongLine n e is) some = cut_or_line text v.cut n v.sections e
bundle_or_fault text c a s f v (WrongConfig cut bad e wrong is) some = config_or_fault v.cut cut c bad (one_cut text v.cut cut v.sections e) v.configuration wrong
bundle_or_fault text c a s f v (WrongClass cut config e k wrong) some =
    tells_or_wrong text v.cut cut c config v.contents.0 f (record { sections = v.sections; configuration = v.configuration }) (record { sections = e; configuration = k }) v.contents.1 wrong
bundle_or_fault text c a s f v (WrongScript cut config told fault e k tell wrong is) some =
    script_or_its_fault (names_of config) cut.script s fault
    (script_at text v.cut cut c config (Ok s) (record { sections = v.sections; configuration = v.configuration }) (record { sections = e; configuration = k }) v.requests)
    wrong (told_fault f fault is some)

pub one_fault : (text : List ℕ) (f g : BundleFault) → IsNoBundle text f → IsNoBundle text g → IsReason f → IsReason g → SameFault f g
one_fault text f g (WrongLine m e is) (WrongLine n h so) some other = same_faults f g (is ∙ ap (λ (i : ℕ). BadLine i) (one_line text m n e h) ∙ sym so)
one_fault text f g (WrongLine m e is) (WrongConfig cut fault h wrong so) some other = absurd (cut_or_line text cut m h e)
one_fault text f g (WrongLine m e is) (WrongClass cut config h k wrong) some other = absurd (cut_or_line text cut m h e)
one_fault text f g (WrongLine m e is) (WrongScript cut config told fault h k tell wrong so) some other = absurd (cut_or_line text cut m h e)
one_fault text f g (WrongConfig cut fault e bad is) (WrongLine n h so) some other = absurd (cut_or_line text cut n e h)
one_fault text f g (WrongConfig cut fault e bad is) (WrongConfig cut2 fault2 h wrong so) some other = same_faults f g (is ∙ ap (λ (x : ConfigFault). Config x) (one_config_fault cut cut2 fault fault2 (one_cut text cut cut2 e h) bad wrong) ∙ sym so)
one_fault text f g (WrongConfig cut fault e bad is) (WrongClass cut2 config h k wrong) some other = absurd (config_or_fault cut2 cut config fault (one_cut text cut2 cut h e) k bad)
one_fault text f g (WrongConfig cut fault e bad is) (WrongScript cut2 config told fault2 h k tell wrong so) some other = absurd (config_or_fault cut2 cut config fault (one_cut text cut2 cut h e) k bad)
one_fault text f g (WrongClass cut config e j bad) (WrongLine n h so) some other = absurd (cut_or_line text cut n e h)
one_fault text f g (WrongClass cut config e j bad) (WrongConfig cut2 fault2 h wrong so) some other = absurd (config_or_fault cut cut2 config fault2 (one_cut text cut cut2 e h) j wrong)
one_fault text f g (WrongClass cut config e j bad) (WrongClass cut2 config2 h k wrong) some other =
    same_wrong text cut cut2 config config2 f g (record { sections = e; configuration = j }) (record { sections = h; configuration = k }) bad wrong
one_fault text f g (WrongClass cut config e j bad) (WrongScript cut2 config2 told fault h k tell wrong so) some other =
    absurd (tells_or_wrong text cut2 cut config2 config told f (record { sections = h; configuration = k }) (record { sections = e; configuration = j }) tell bad)
one_fault text f g (WrongScript cut config told fault e j tell bad is) (WrongLine n h so) some other = absurd (cut_or_line text cut n e h)
one_fault text f g (WrongScript cut config told fault e j tell bad is) (WrongConfig cut2 fault2 h wrong so) some other = absurd (config_or_fault cut cut2 config fault2 (one_cut text cut cut2 e h) j wrong)
one_fault text f g (WrongScript cut config told fault e j tell bad is) (WrongClass cut2 config2 h k wrong) some other =
    absurd (tells_or_wrong text cut cut2 config config2 told g (record { sections = e; configuration = j }) (record { sections = h; configuration = k }) tell wrong)
one_fault text f g (WrongScript cut config told fault e j tell bad is) (WrongScript cut2 config2 told2 fault2 h k tell2 wrong so) some other =
    let here = script_at text cut cut2 config config2 (Err fault) (record { sections = e; configuration = j }) (record { sections = h; configuration = k }) bad in
    same_faults f g (is ∙ ap (λ (x : ScriptFault). Script x) (script_has_one_fault (names_of config2) cut2.script fault fault2 here wrong (told_fault f fault is some) (told_fault g fault2 so other)) ∙ sym so)

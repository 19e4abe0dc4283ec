-- In a content of bytes a class that is at home has the file that its bytes spell, and no other.
use Rattle.std.proofs.Common.{◌≡◌, ◌∙◌, ℕ, Bool, true, false, List, [], ◌∷◌, Some, Result, Ok, Err, ap, refl, subst}
use Rattle.std.specs.Prelude.{◌↔◌, if◌then◌else◌, nat_eq, ◌&&◌, ◌==◌}
use Rattle.std.specs.Cmp.Lexicographic.{pointwise}
use Rattle.cl_classfile.specs.declared.fault.Fault.{Fault}
use Rattle.cl_classfile.specs.Structure.{Structure, AreBytes}
use Rattle.cl_classfile.specs.Files.{File, file_of}
use Rattle.cl_classfile.specs.Reading.{read_of}
use Rattle.cl_model.specs.declared.class.Class.{Class}
use Rattle.cl_model.specs.Content.{Content, content_at}
use Rattle.cl_model.specs.Classes.{HasFile, IsAtHome}
use Rattle.cl_model.specs.Worlds.{seen_file}
use Rattle.cl_model.proofs.Ending.{file_at_home}
use Rattle.cl_model.proofs.Reached.{file_is_read}
use Rattle.cl_config.specs.Views.{Configured}
use Rattle.cl_delegation.specs.Worlds.{world_of}
use Rattle.cl_hierarchy.specs.Drafts.{IsSpelt}
use Rattle.cl_hierarchy.specs.Spelling.{IsOfBytes}
use Rattle.cl_hierarchy.proofs.Drafting.{read_grammar}
use Rattle.cl_hierarchy.proofs.Placed.{spelt_file}

-- what is found in a content of bytes is bytes
found_bytes : (content : Content) (loader : ℕ) (name bytes : List ℕ) → IsOfBytes content → content_at content loader name ≡ Some bytes → AreBytes bytes
found_bytes [] loader name bytes all e = absurd cc
found_bytes (x ∷ xs) loader name bytes all e = by ((x.loader == loader) && pointwise nat_eq x.name name) (found_bytes xs loader name bytes all.1) e
  where
    one : {a b : List ℕ} → Some a ≡ Some b → a ≡ b
    one h = cc

    by : (t : Bool) → (content_at xs loader name ≡ Some bytes → AreBytes bytes) → (if t then Some x.bytes else content_at xs loader name) ≡ Some bytes → AreBytes bytes
    by true others h = subst (λ (bs : List ℕ). AreBytes bs) (one h) all.0
    by false others h = others h

-- what linking sees was read
seen_ok : (r : Result Structure Fault) (g : File) → seen_file r ≡ Ok g → (f : Structure) × (r ≡ Ok f) × (file_of f ≡ g)
seen_ok (Ok f) g e = (f, refl, (let same : file_of f ≡ g = cc in same))
seen_ok (Err fault) g e = absurd cc

spelled : (c : Configured) (content : Content) (t : Class) (g : File) → IsOfBytes content → (bytes : List ℕ) → content_at content t.loader t.name ≡ Some bytes → seen_file (read_of bytes) ≡ Ok g → g.name ≡ t.name
    → (f : Structure) × IsSpelt (Some content) t f × (file_of f ≡ g)
spelled c content t g all bytes stored read named =
    let r = seen_ok (read_of bytes) g read in
    (r.0, record { bytes = bytes; told_so = stored; spells = read_grammar bytes r.0 (found_bytes content t.loader t.name bytes all stored) r.1; named = ap (λ (x : File). x.name) r.2 ∙ named }, r.2)

pub file_is_spelled : (c : Configured) (content : Content) (t : Class) (g : File) → IsOfBytes content
    → HasFile (world_of c content) t g ↔ (IsAtHome (world_of c content) t × ((f : Structure) × IsSpelt (Some content) t f × (file_of f ≡ g)))
file_is_spelled c content t g all = (
  λ h. let s = file_is_read (world_of c content) t g h in (file_at_home (world_of c content) t g h, spelled c content t g all s.0 s.1 s.2 s.3),
  λ h. subst (λ (x : File). HasFile (world_of c content) t x) h.1.2 (spelt_file c content t h.1.0 h.0 h.1.1),
)

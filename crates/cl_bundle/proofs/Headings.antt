-- What a section line says.
use Rattle.std.proofs.Common.{◌≡◌, ℕ, List, [], ◌∷◌, Bool, true, false, Option, Some, None, codes, refl}
use Rattle.cl_names.specs.Escape.{unescaped_name}
use Rattle.cl_names.specs.Kind.{is_class_name}
use Rattle.cl_names.proofs.Escapes.{unescaped_from, unescaped_of}
use Rattle.cl_names.proofs.Grammars.{class_from_test, class_test_of}
use Rattle.cl_names.specs.Name.{WritesClass}
use Rattle.cl_lines.specs.Lines.{words_of}
use Rattle.cl_bundle.specs.Sections.{ClassLine, WrongLine, class_word, heading_of}

pub class_named_some : (word name : List ℕ) → WritesClass word name → class_word word ≡ Some name
class_named_some word name w = rw (unescaped_of word name w.written, class_test_of name w.kind) refl

not_class : (word name : List ℕ) → ((name : List ℕ) → WritesClass word name → ⊥) → unescaped_name word ≡ Some name → (b : Bool) → is_class_name name ≡ b → class_word word ≡ None
not_class word name w e true k = absurd (w name (record { written = unescaped_from word name e; kind = class_from_test name k }))
not_class word name w e false k = rw (e, k) refl

not_named : (word : List ℕ) → ((name : List ℕ) → WritesClass word name → ⊥) → (o : Option (List ℕ)) → unescaped_name word ≡ o → class_word word ≡ None
not_named word w None e = rw e refl
not_named word w (Some name) e = not_class word name w e (is_class_name name) refl

pub class_named_none : (word : List ℕ) → ((name : List ℕ) → WritesClass word name → ⊥) → class_word word ≡ None
class_named_none word w = not_named word w (unescaped_name word) refl

pub class_heading_is : (line loader word name : List ℕ) → words_of line ≡ codes "%class" ∷ loader ∷ word ∷ [] → WritesClass word name → heading_of (words_of line) ≡ ClassLine loader name
class_heading_is line loader word name e w = rw e (rw (class_named_some word name w) refl)

pub class_heading_wrong : (line loader word : List ℕ) → words_of line ≡ codes "%class" ∷ loader ∷ word ∷ [] → ((name : List ℕ) → WritesClass word name → ⊥) → heading_of (words_of line) ≡ WrongLine
class_heading_wrong line loader word e w = rw e (rw (class_named_none word w) refl)

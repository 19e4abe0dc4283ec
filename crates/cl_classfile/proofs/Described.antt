-- What is a descriptor is text, and what has a ; is no name.
use Rattle.std.proofs.Common.{◌≡◌, ℕ, zero, suc, ◌<◌, Bool, true, false, not, cond, eqb, ◌&&◌, List, [], ◌∷◌, ◌++◌, length, get_or, Option, Some, None, refl, sym, ap, subst, ◌∙◌, append_assoc, arith}
use Rattle.std.specs.Prelude.{bytes_eq, codes, is_some, nat_le, replicate, option_to_list}
use Rattle.std.specs.List.{AllByRecursion, flat_map, list_all}
use Rattle.std.specs.Cmp.Lexicographic.{same_text}
use Rattle.cl_names.specs.Text.{IsModifiedUtf8, unit, is_text}
use Rattle.cl_names.specs.Kind.{init, clinit, is_allowed, is_special, has_unqualified_form, has_class_form, has_method_form, is_class_name, is_unqualified_name, is_method_name}
use Rattle.cl_names.proofs.Texts.{cons_text, no_units, text_from_test, test_of}
use Rattle.cl_names.proofs.Levels.{parts_from, class_parts}
use Rattle.cl_descriptors.specs.Types.{IsBase, spelling_of_base, spelling_of_field, spelling_of_return}
use Rattle.cl_descriptors.specs.Reading.{form_of}
use Rattle.cl_descriptors.specs.Answers.{FormOf}
use Rattle.cl_descriptors.specs.declared.types.Base.{Base}
use Rattle.cl_descriptors.specs.declared.types.Base.TheVariants.{Byte, Char, Double, Float, Int, Long, Short, Boolean, Class}
use Rattle.cl_descriptors.specs.declared.types.FieldType.{FieldType}
use Rattle.cl_descriptors.specs.declared.types.Form.{Form}
use Rattle.cl_descriptors.specs.declared.types.Form.TheVariants.{Plain, Array, Method, Void}
use Rattle.cl_descriptors.proofs.Forms.{form_says}
use Rattle.cl_classfile.specs.Rows.{HasSemicolon}

-- ---- text

units_then : (us ys : List ℕ) → AllByRecursion (λ u. u < 0x10000) us → IsModifiedUtf8 ys → IsModifiedUtf8 (flat_map unit us ++ ys)
units_then [] ys each b = b
units_then (u ∷ us) ys each b = subst IsModifiedUtf8 (sym (append_assoc (unit u) (flat_map unit us) ys)) (cons_text u (flat_map unit us ++ ys) each.0 (units_then us ys each.1 b))

then_text : (xs ys : List ℕ) → IsModifiedUtf8 xs → IsModifiedUtf8 ys → IsModifiedUtf8 (xs ++ ys)
then_text xs ys a b = subst (λ (zs : List ℕ). IsModifiedUtf8 (zs ++ ys)) (sym a.spelled) (units_then a.units ys a.each b)

base_text : (b : Base) → IsBase b → IsModifiedUtf8 (spelling_of_base b)
unfolding is_text
base_text Byte h = text_from_test (codes "B") refl
base_text Char h = text_from_test (codes "C") refl
base_text Double h = text_from_test (codes "D") refl
base_text Float h = text_from_test (codes "F") refl
base_text Int h = text_from_test (codes "I") refl
base_text Long h = text_from_test (codes "J") refl
base_text Short h = text_from_test (codes "S") refl
base_text Boolean h = text_from_test (codes "Z") refl
base_text (Class name) h = then_text (codes "L") (name ++ codes ";") (text_from_test (codes "L") refl) (then_text name (codes ";") h.text (text_from_test (codes ";") refl))

brackets_text : (n : ℕ) → IsModifiedUtf8 (replicate n 0x5b)
unfolding is_text
brackets_text zero = no_units
brackets_text (suc n) = then_text (0x5b ∷ []) (replicate n 0x5b) (text_from_test (0x5b ∷ []) refl) (brackets_text n)

field_text : (t : FieldType) → IsBase t.base → IsModifiedUtf8 (spelling_of_field t)
field_text t h = then_text (replicate t.dims 0x5b) (spelling_of_base t.base) (brackets_text t.dims) (base_text t.base h)

fields_text : (ts : List FieldType) → AllByRecursion (λ t. IsBase t.base) ts → IsModifiedUtf8 (flat_map spelling_of_field ts)
fields_text [] h = no_units
fields_text (t ∷ ts) h = then_text (spelling_of_field t) (flat_map spelling_of_field ts) (field_text t h.0) (fields_text ts h.1)

method_text : (ps : List FieldType) (r : Option FieldType) → AllByRecursion (λ t. IsBase t.base) (option_to_list r ++ ps) → IsModifiedUtf8 (codes "(" ++ (flat_map spelling_of_field ps ++ (codes ")" ++ spelling_of_return r)))
unfolding is_text
method_text ps None h =
    then_text (codes "(") (flat_map spelling_of_field ps ++ codes ")V") (text_from_test (codes "(") refl)
    (then_text (flat_map spelling_of_field ps) (codes ")V") (fields_text ps h) (text_from_test (codes ")V") refl))
method_text ps (Some t) h =
    then_text (codes "(") (flat_map spelling_of_field ps ++ (codes ")" ++ spelling_of_field t)) (text_from_test (codes "(") refl)
    (then_text (flat_map spelling_of_field ps) (codes ")" ++ spelling_of_field t) (fields_text ps h.1)
    (then_text (codes ")") (spelling_of_field t) (text_from_test (codes ")") refl) (field_text t h.0)))

spelled_so : (f : Form) (bytes : List ℕ) → FormOf bytes (Some f) → IsModifiedUtf8 bytes
spelled_so Plain bytes h = subst IsModifiedUtf8 (sym h.1.spelled) (field_text h.0 h.1.named)
spelled_so Array bytes h = subst IsModifiedUtf8 (sym h.1.spelled) (field_text h.0 h.1.named)
spelled_so Method bytes h = subst IsModifiedUtf8 (sym h.1.spelled) (method_text h.0.params h.0.ret h.1.named)
spelled_so Void bytes h = subst IsModifiedUtf8 (sym h.1.spelled) (method_text h.0.params h.0.ret h.1.named)

-- what has a form is text
pub form_text : (bytes : List ℕ) (f : Form) → form_of bytes ≡ Some f → is_text bytes ≡ true
form_text bytes f e = test_of bytes (spelled_so f bytes (form_says bytes (Some f) (sym e)))

pub described : (bytes : List ℕ) (o : Option Form) (none : Bool) → o ≡ form_of bytes → is_some o ≡ not none → none ≡ false → true ≡ is_text bytes
described bytes (Some f) none e n some = sym (form_text bytes f (sym e))
described bytes None none e n some = absurd cc

-- ---- a ; in it

stops : (slash fresh allowed : Bool) → cond slash (not fresh && false) (allowed && false) ≡ false
stops true true allowed = refl
stops true false allowed = refl
stops false fresh true = refl
stops false fresh false = refl

last_false : (b : Bool) → (b && false) ≡ false
last_false true = refl
last_false false = refl

no_parts : (fresh : Bool) (bytes : List ℕ) (i : ℕ) → get_or bytes i 0 ≡ 59 → parts_from fresh bytes ≡ false
unfolding parts_from
no_parts fresh [] i e = absurd (omega (arith, e))
no_parts fresh (x ∷ xs) zero e = rw e refl
no_parts fresh (x ∷ xs) (suc i) e = rw (no_parts true xs i e, no_parts false xs i e) (stops (eqb x 47) fresh (is_allowed x))

not_all : (bytes : List ℕ) (i : ℕ) → get_or bytes i 0 ≡ 59 → list_all is_allowed bytes ≡ false
not_all [] i e = absurd (omega (arith, e))
not_all (x ∷ xs) zero e = rw e refl
not_all (x ∷ xs) (suc i) e = rw (not_all xs i e) (last_false (is_allowed x))

not_form : (bytes : List ℕ) → list_all is_allowed bytes ≡ false → has_unqualified_form bytes ≡ false
not_form [] h = refl
not_form (x ∷ xs) h = h

not_this : (bytes name : List ℕ) (b : Bool) → bytes_eq bytes name ≡ b → list_all is_allowed name ≡ true → list_all is_allowed bytes ≡ false → b ≡ false
not_this bytes name false e all none = refl
not_this bytes name true e all none = absurd (let one : list_all is_allowed bytes ≡ true = ap (list_all is_allowed) (same_text bytes name (sym e)) ∙ all in cc)

not_special : (bytes : List ℕ) → list_all is_allowed bytes ≡ false → is_special bytes ≡ false
not_special bytes none = rw (not_this bytes init (bytes_eq bytes init) refl refl none, not_this bytes clinit (bytes_eq bytes clinit) refl refl none) refl

not_kind : (a b form : Bool) → form ≡ false → (a && b && form) ≡ false
not_kind true true form e = e
not_kind true false form e = refl
not_kind false b form e = refl

pub no_class : (bytes : List ℕ) → HasSemicolon bytes → is_class_name bytes ≡ false
unfolding is_class_name
no_class bytes h = not_kind (is_text bytes) (nat_le (length bytes) 65535) (has_class_form bytes) (class_parts bytes ∙ no_parts true bytes h.0 h.1)

pub no_unqualified : (bytes : List ℕ) → HasSemicolon bytes → is_unqualified_name bytes ≡ false
unfolding is_unqualified_name
no_unqualified bytes h = not_kind (is_text bytes) (nat_le (length bytes) 65535) (has_unqualified_form bytes) (not_form bytes (not_all bytes h.0 h.1))

no_method_form : (bytes : List ℕ) → list_all is_allowed bytes ≡ false → has_method_form bytes ≡ false
no_method_form bytes none = rw (not_special bytes none, not_form bytes none) refl

pub no_method : (bytes : List ℕ) → HasSemicolon bytes → is_method_name bytes ≡ false
unfolding is_method_name
no_method bytes h = not_kind (is_text bytes) (nat_le (length bytes) 65535) (has_method_form bytes) (no_method_form bytes (not_all bytes h.0 h.1))

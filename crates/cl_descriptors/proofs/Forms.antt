-- What a form says of the bytes.
use Rattle.std.proofs.Common.{◌≡◌, ℕ, Bool, true, false, cond, not, eqb, List, [], ◌∷◌, Option, Some, None, Result, Ok, Err, refl, sym, ap, subst, ◌∙◌}
use Rattle.std.specs.Prelude.{is_some}
use Rattle.std.specs.Option.{option_or}
use Rattle.std.proofs.lemmas.Bool.{eqb-true, eq-eqb}
use Rattle.std.specs.Prelude.{option_map}
use Rattle.std.specs.Result.{result_ok}
use Rattle.cl_descriptors.specs.Types.{SpellsField, SpellsMethod, units_of_method}
use Rattle.cl_descriptors.specs.Reading.{base_at, field_at, whole_field, whole_method, field_of, method_of, field_form, method_form, form_of, units_of}
use Rattle.cl_descriptors.specs.Answers.{IsFieldType, IsMethodType, FormOf, UnitsOf}
use Rattle.cl_descriptors.specs.declared.types.FieldType.{FieldType}
use Rattle.cl_descriptors.specs.declared.types.MethodType.{MethodType}
use Rattle.cl_descriptors.specs.declared.types.Form.{Form}
use Rattle.cl_descriptors.specs.declared.types.Form.TheVariants.{Plain, Array, Method, Void}
use Rattle.cl_descriptors.specs.declared.types.DescriptorFault.{DescriptorFault}
use Rattle.cl_descriptors.specs.declared.types.DescriptorFault.TheVariants.{Malformed}
use Rattle.cl_descriptors.proofs.Codec.{position-at}
use Rattle.cl_descriptors.proofs.Outcomes.{field_is, field_of_spelling, method_is, method_of_spelling}

-- a type within the limits is read
field_read : (bytes : List ℕ) (t : FieldType) → SpellsField bytes t → IsFieldType t → field_of bytes ≡ Ok t
field_read bytes t s k = field_of_spelling bytes t s ∙ rw k.shallow refl

method_read : (bytes : List ℕ) (m : MethodType) → SpellsMethod bytes m → IsMethodType m → method_of bytes ≡ Ok m
method_read bytes m s k = method_of_spelling bytes m s ∙ rw (k.shallow, k.short) refl

-- ---- what a form says

field_says : (bytes : List ℕ) (t : FieldType) (other : Option Form) → SpellsField bytes t → IsFieldType t → (b : Bool) → eqb t.dims 0 ≡ b → FormOf bytes (option_or (cond b (Some Plain) (Some Array)) other)
field_says bytes t other s k true e = (t, s, (k, eqb-true t.dims 0 e))
field_says bytes t other s k false e = (t, s, (k, λ is. absurd (let f : true ≡ false = sym (eq-eqb t.dims 0 is) ∙ e in cc)))

method_says : (bytes : List ℕ) (m : MethodType) → SpellsMethod bytes m → IsMethodType m → (r : Option FieldType) → m.ret ≡ r → FormOf bytes (cond (is_some r) (Some Method) (Some Void))
method_says bytes m s k None e = (m, s, (k, e))
method_says bytes m s k (Some t) e = (m, s, (k, rw e refl))

says : (bytes : List ℕ) (r : Result FieldType DescriptorFault) (q : Result MethodType DescriptorFault) → field_of bytes ≡ r → method_of bytes ≡ q → FormOf bytes (option_or (field_form r) (method_form q))
says bytes (Ok t) q e d =
    let is = field_is bytes (Ok t) e in
    field_says bytes t (method_form q) is.0 is.1 (eqb t.dims 0) refl
says bytes (Err f) (Ok m) e d =
    let is = method_is bytes (Ok m) d in
    method_says bytes m is.0 is.1 m.ret refl
says bytes (Err f) (Err g) e d = (
  λ h. absurd (let read = field_read bytes h.0 h.1 h.2 in cc),
  λ h. absurd (let read = method_read bytes h.0 h.1 h.2 in cc),
)

pub form_is : (bytes : List ℕ) → FormOf bytes (form_of bytes)
unfolding form_of
form_is bytes = says bytes (field_of bytes) (method_of bytes) refl refl

pub form_says : (bytes : List ℕ) (o : Option Form) → o ≡ form_of bytes → FormOf bytes o
form_says bytes o e = subst (λ (p : Option Form). FormOf bytes p) (sym e) (form_is bytes)

-- ---- what has a form

whole : (b : Bool) (other : Option Form) → option_or (cond b (Some Plain) (Some Array)) other ≡ cond b (Some Plain) (Some Array)
whole true other = refl
whole false other = refl

pub field_told : (bytes : List ℕ) (t : FieldType) → SpellsField bytes t → IsFieldType t → form_of bytes ≡ cond (eqb t.dims 0) (Some Plain) (Some Array)
unfolding form_of
field_told bytes t s k = rw (field_read bytes t s k) (whole (eqb t.dims 0) (method_form (method_of bytes)))

-- no field type begins with `(`
no_field : (rest : List ℕ) → field_of (40 ∷ rest) ≡ Err Malformed
unfolding field_of whole_field field_at base_at
no_field rest = rw (position-at (λ c. not (eqb c 91)) [] 40 rest tt refl) refl

begins : (bytes rest : List ℕ) → bytes ≡ 40 ∷ rest → field_form (field_of bytes) ≡ None
begins bytes rest e = ap (λ (b : List ℕ). field_form (field_of b)) e ∙ ap field_form (no_field rest)

pub method_told : (bytes : List ℕ) (m : MethodType) → SpellsMethod bytes m → IsMethodType m → form_of bytes ≡ cond (is_some m.ret) (Some Method) (Some Void)
unfolding form_of
method_told bytes m s k = rw (begins bytes _ s.spelled, method_read bytes m s k) refl

-- ---- units

units_by : (bytes : List ℕ) (q : Result MethodType DescriptorFault) → method_of bytes ≡ q → UnitsOf bytes (option_map units_of_method (result_ok q))
units_by bytes (Ok m) d = let is = method_is bytes (Ok m) d in (m, is.0, (is.1, refl))
units_by bytes (Err g) d = λ h. absurd (let read = method_read bytes h.0 h.1 h.2 in cc)

pub units_are : (bytes : List ℕ) → UnitsOf bytes (units_of bytes)
unfolding units_of
units_are bytes = units_by bytes (method_of bytes) refl

pub units_say : (bytes : List ℕ) (o : Option ℕ) → o ≡ units_of bytes → UnitsOf bytes o
units_say bytes o e = subst (λ (p : Option ℕ). UnitsOf bytes p) (sym e) (units_are bytes)

pub units_told : (bytes : List ℕ) (m : MethodType) → SpellsMethod bytes m → IsMethodType m → units_of bytes ≡ Some (units_of_method m)
unfolding units_of
units_told bytes m s k = rw (method_read bytes m s k) refl

-- ---- the form, where a method is looked for first

by_first : (c : ℕ) (rest : List ℕ) (f : Form) (b : Bool) → eqb c 40 ≡ b → method_form (method_of (c ∷ rest)) ≡ Some f → form_of (c ∷ rest) ≡ Some f
unfolding form_of method_of whole_method
by_first c rest f true t e = rw (begins (c ∷ rest) rest (ap (λ (x : ℕ). x ∷ rest) (eqb-true c 40 t))) e
by_first c rest f false t e = absurd (let none : Some f ≡ None = sym e ∙ rw t refl in cc)

pub method_first : (bytes : List ℕ) (f : Form) → method_form (method_of bytes) ≡ Some f → form_of bytes ≡ Some f
unfolding method_of whole_method
method_first [] f e = absurd cc
method_first (c ∷ rest) f e = by_first c rest f (eqb c 40) refl e

or_none : (o : Option Form) → option_or o None ≡ o
or_none None = refl
or_none (Some f) = refl

pub field_else : (bytes : List ℕ) → method_form (method_of bytes) ≡ None → form_of bytes ≡ field_form (field_of bytes)
unfolding form_of
field_else bytes e = ap (option_or (field_form (field_of bytes))) e ∙ or_none (field_form (field_of bytes))

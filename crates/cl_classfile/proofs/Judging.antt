-- The tests of the table of entries, and what they say.
use Rattle.std.proofs.Common.{◌≡◌, ◌⊎◌, ℕ, zero, suc, Bool, true, false, cond, eqb, leb, ◌&&◌, ◌||◌, List, [], ◌∷◌, length, map, Option, Some, None, unwrap_or, refl, sym, ap, ◌∙◌, arith, inl, inr}
use Rattle.std.specs.Prelude.{option_map, is_some, bytes_eq}
use Rattle.std.specs.Cmp.Lexicographic.{same_text}
use Rattle.std.proofs.lemmas.Bool.{eqb-true, eq-eqb, leb-true, le-leb}
use Rattle.cl_names.specs.Text.{is_text}
use Rattle.cl_names.specs.Kind.{IsNameOf, IsUnqualified, IsMethod, is_class_name, init, clinit}
use Rattle.cl_names.proofs.Texts.{text_from_test, test_of}
use Rattle.cl_names.proofs.Grammars.{class_from_test, class_test_of, unqualified_from_test, unqualified_test_of, method_from_test, method_test_of}
use Rattle.cl_descriptors.specs.Answers.{FormOf, IsFieldDescriptor, IsArrayDescriptor, IsMethodDescriptor, IsVoidDescriptor}
use Rattle.cl_descriptors.specs.Reading.{form_of}
use Rattle.cl_descriptors.specs.declared.types.Form.{Form}
use Rattle.cl_descriptors.specs.declared.types.Form.TheVariants as forms
use Rattle.cl_descriptors.specs.declared.types.FieldType.{FieldType}
use Rattle.cl_descriptors.proofs.Forms.{form_is, field_told, method_told}
use Rattle.cl_classfile.specs.declared.entry.Entry.{Entry}
use Rattle.cl_classfile.specs.declared.entry.Entry.TheVariants.{Utf8, Integer, Float, Long, Double, Unusable, Class, String, Fieldref, Methodref, InterfaceMethodref, NameAndType, MethodHandle, MethodType, InvokeDynamic}
use Rattle.cl_classfile.specs.declared.traits.Special.{Special}
use Rattle.cl_classfile.specs.declared.traits.Special.TheVariants as names
use Rattle.cl_classfile.specs.declared.traits.Traits.{Traits}
use Rattle.cl_classfile.specs.Pool.{at, HasText, HasClass, HasPair, IsNameAndType, NamesType, MayCall, HasPlainName, MayPair, may_name_interface_method, MayHandle, EntryFits, KeepsEntry}
use Rattle.cl_classfile.specs.Rows.{begins_angle, special_of, is_field, is_array, is_call, is_void, traits_of, nothing, entry_traits, traits_at, is_class, pair_of, pair_at, may_call, may_pair, is_plain, is_init, may_handle, keeps_entry}
use Rattle.cl_classfile.proofs.Codec.{both}
use Rattle.cl_names.specs.declared.kind.TheConstants.{MOST_TEXT_BYTES}

-- ---- tests

pub tests : (b : Bool) → (b ≡ true) ⊎ (b ≡ false)
tests true = inl refl
tests false = inr refl

pub differ : (b : Bool) → b ≡ true → b ≡ false → ⊥
differ true e f = absurd cc
differ false e f = absurd cc

either : (a b : Bool) → a || b ≡ true → (a ≡ true) ⊎ (b ≡ true)
either true b e = inl refl
either false b e = inr e

first : (a b : Bool) → a ≡ true → a || b ≡ true
first true b e = refl
first false b e = absurd cc

second : (a b : Bool) → b ≡ true → a || b ≡ true
second true b e = refl
second false b e = e

pub all : (a b : Bool) → a ≡ true → b ≡ true → a && b ≡ true
all true b e f = f
all false b e f = absurd cc

one_of : (k a b d : ℕ) → eqb k a || eqb k b || eqb k d ≡ true → (k ≡ a) ⊎ ((k ≡ b) ⊎ (k ≡ d))
one_of k a b d e =
    elim (either (eqb k a || eqb k b) (eqb k d) e) [
      | inl f ↦ elim (either (eqb k a) (eqb k b) f) [
        | inl g ↦ inl (eqb-true k a g)
        | inr g ↦ inr (inl (eqb-true k b g))
      ]
      | inr f ↦ inr (inr (eqb-true k d f))
    ]

of_one : (k a b d : ℕ) → (k ≡ a) ⊎ ((k ≡ b) ⊎ (k ≡ d)) → eqb k a || eqb k b || eqb k d ≡ true
of_one k a b d (inl e) = first (eqb k a || eqb k b) (eqb k d) (first (eqb k a) (eqb k b) (eq-eqb k a e))
of_one k a b d (inr (inl e)) = first (eqb k a || eqb k b) (eqb k d) (second (eqb k a) (eqb k b) (eq-eqb k b e))
of_one k a b d (inr (inr e)) = second (eqb k a || eqb k b) (eqb k d) (eq-eqb k d e)

-- ---- forms of descriptors

field_form_says : (text : List ℕ) (o : Option Form) → FormOf text o → is_field o ≡ true → IsFieldDescriptor text
field_form_says text None f h = absurd cc
field_form_says text (Some forms.Plain) f h = (f.0, f.1, f.2.0)
field_form_says text (Some forms.Array) f h = (f.0, f.1, f.2.0)
field_form_says text (Some forms.Method) f h = absurd cc
field_form_says text (Some forms.Void) f h = absurd cc

array_form_says : (text : List ℕ) (o : Option Form) → FormOf text o → is_array o ≡ true → IsArrayDescriptor text
array_form_says text None f h = absurd cc
array_form_says text (Some forms.Plain) f h = absurd cc
array_form_says text (Some forms.Array) f h = f
array_form_says text (Some forms.Method) f h = absurd cc
array_form_says text (Some forms.Void) f h = absurd cc

call_form_says : (text : List ℕ) (o : Option Form) → FormOf text o → is_call o ≡ true → IsMethodDescriptor text
call_form_says text None f h = absurd cc
call_form_says text (Some forms.Plain) f h = absurd cc
call_form_says text (Some forms.Array) f h = absurd cc
call_form_says text (Some forms.Method) f h = (f.0, f.1, f.2.0)
call_form_says text (Some forms.Void) f h = (f.0, f.1, f.2.0)

void_form_says : (text : List ℕ) (o : Option Form) → FormOf text o → is_void o ≡ true → IsVoidDescriptor text
void_form_says text None f h = absurd cc
void_form_says text (Some forms.Plain) f h = absurd cc
void_form_says text (Some forms.Array) f h = absurd cc
void_form_says text (Some forms.Method) f h = absurd cc
void_form_says text (Some forms.Void) f h = f

fields : (b : Bool) → is_field (cond b (Some forms.Plain) (Some forms.Array)) ≡ true
fields true = refl
fields false = refl

calls : (b : Bool) → is_call (cond b (Some forms.Method) (Some forms.Void)) ≡ true
calls true = refl
calls false = refl

arrays : (n : ℕ) (b : Bool) → eqb n 0 ≡ b → (n ≡ 0 → ⊥) → is_array (cond b (Some forms.Plain) (Some forms.Array)) ≡ true
arrays n true e h = absurd (h (eqb-true n 0 e))
arrays n false e h = refl

field_says : (text : List ℕ) → is_field (form_of text) ≡ true → IsFieldDescriptor text
field_says text = field_form_says text (form_of text) (form_is text)

pub field_is : (text : List ℕ) → IsFieldDescriptor text → is_field (form_of text) ≡ true
field_is text h = ap is_field (field_told text h.0 h.1 h.2) ∙ fields (eqb h.0.dims 0)

array_is : (text : List ℕ) → IsArrayDescriptor text → is_array (form_of text) ≡ true
array_is text h = ap is_array (field_told text h.0 h.1 h.2.0) ∙ arrays h.0.dims (eqb h.0.dims 0) refl h.2.1

call_says : (text : List ℕ) → is_call (form_of text) ≡ true → IsMethodDescriptor text
call_says text = call_form_says text (form_of text) (form_is text)

pub call_is : (text : List ℕ) → IsMethodDescriptor text → is_call (form_of text) ≡ true
call_is text h = ap is_call (method_told text h.0 h.1 h.2) ∙ calls (is_some h.0.ret)

void_says : (text : List ℕ) → is_void (form_of text) ≡ true → IsVoidDescriptor text
void_says text = void_form_says text (form_of text) (form_is text)

void_is : (text : List ℕ) → IsVoidDescriptor text → is_void (form_of text) ≡ true
void_is text h = ap is_void (method_told text h.0 h.1 h.2.0) ∙ ap (λ (r : Option FieldType). is_void (cond (is_some r) (Some forms.Method) (Some forms.Void))) h.2.1

void_calls : (o : Option Form) → is_void o ≡ true → is_call o ≡ true
void_calls None h = absurd cc
void_calls (Some forms.Plain) h = absurd cc
void_calls (Some forms.Array) h = absurd cc
void_calls (Some forms.Method) h = refl
void_calls (Some forms.Void) h = refl

-- ---- texts at an index

abbrev pub option_traits : Option Entry → Traits
option_traits o = unwrap_or (option_map entry_traits o) nothing

pub traits_are : (pool : List Entry) (i : ℕ) → traits_at (map entry_traits pool) i ≡ option_traits (at pool i)
traits_are pool zero = refl
traits_are [] (suc i) = refl
traits_are (e ∷ es) (suc zero) = refl
traits_are (e ∷ es) (suc (suc i)) = traits_are es (suc i)

-- a trait that is true of some text says what kind of text that is
pub record IsTrait (trait : Traits → Bool) (Kind : List ℕ → Type 0) : Type 0 where
  pub never : trait nothing ≡ false
  pub says : (text : List ℕ) → trait (traits_of text) ≡ true → Kind text
  pub told : (text : List ℕ) → Kind text → trait (traits_of text) ≡ true

text_by : (trait : Traits → Bool) (Kind : List ℕ → Type 0) → IsTrait trait Kind → (pool : List Entry) (i : ℕ) (o : Option Entry) → at pool i ≡ o → trait (option_traits o) ≡ true → HasText pool i Kind
text_by trait Kind t pool i (Some (Utf8 text)) e h = record { text = text; is_text = e; kind = t.says text h }
text_by trait Kind t pool i _ e h = absurd (differ (trait nothing) h t.never)

pub text_says : (trait : Traits → Bool) (Kind : List ℕ → Type 0) → IsTrait trait Kind → (pool : List Entry) (i : ℕ) → trait (traits_at (map entry_traits pool) i) ≡ true → HasText pool i Kind
text_says trait Kind t pool i h = text_by trait Kind t pool i (at pool i) refl (ap trait (sym (traits_are pool i)) ∙ h)

pub text_told : (trait : Traits → Bool) (Kind : List ℕ → Type 0) → IsTrait trait Kind → (pool : List Entry) (i : ℕ) → HasText pool i Kind → trait (traits_at (map entry_traits pool) i) ≡ true
text_told trait Kind t pool i h = ap trait (traits_are pool i) ∙ ap (λ (o : Option Entry). trait (option_traits o)) h.is_text ∙ t.told h.text h.kind

stands : IsTrait (λ t. t.stands) (λ text. Unit {0})
stands = record { never = refl; says = λ text h. tt; told = λ text h. refl }

pub field : IsTrait (λ t. is_field t.form) IsFieldDescriptor
field = record { never = refl; says = field_says; told = field_is }

call : IsTrait (λ t. is_call t.form) IsMethodDescriptor
call = record { never = refl; says = call_says; told = call_is }

void : IsTrait (λ t. is_void t.form) IsVoidDescriptor
void = record { never = refl; says = void_says; told = void_is }

pub unqualified : IsTrait (λ t. t.unqualified) (IsNameOf IsUnqualified)
unqualified = record { never = refl; says = unqualified_from_test; told = unqualified_test_of }

pub method : IsTrait (λ t. t.method) (IsNameOf IsMethod)
method = record { never = refl; says = method_from_test; told = method_test_of }

type_says : (text : List ℕ) → is_class_name text || is_array (form_of text) ≡ true → NamesType text
type_says text h =
    elim (either (is_class_name text) (is_array (form_of text)) h) [
      | inl e ↦ inl (class_from_test text e)
      | inr e ↦ inr (array_form_says text (form_of text) (form_is text) e)
    ]

type_is : (text : List ℕ) → NamesType text → is_class_name text || is_array (form_of text) ≡ true
type_is text (inl h) = first (is_class_name text) (is_array (form_of text)) (class_test_of text h)
type_is text (inr h) = second (is_class_name text) (is_array (form_of text)) (array_is text h)

type : IsTrait (λ t. t.class) NamesType
type = record { never = refl; says = type_says; told = type_is }

-- ---- names that no programmer writes

abbrev is_special : Special → Bool
is_special names.Plain = false
is_special names.Init = true
is_special names.Clinit = true
is_special names.Angle = true

same : (a b : List ℕ) → bytes_eq a b ≡ true → a ≡ b
same a b e = same_text a b (sym e)

-- a special name begins with <
special_begins : (text : List ℕ) → is_special (special_of text) ≡ true → (rest : List ℕ) × (text ≡ 60 ∷ rest)
special_begins text h =
    elim (tests (bytes_eq text init)) [
      | inl e ↦ (_, same text init e)
      | inr e ↦ elim (tests (bytes_eq text clinit)) [
        | inl f ↦ (_, same text clinit f)
        | inr f ↦ begins text (rw (e, f) at h)
      ]
    ]
  where
    begins : (t : List ℕ) → is_special (cond (begins_angle t) names.Angle names.Plain) ≡ true → (rest : List ℕ) × (t ≡ 60 ∷ rest)
    begins [] k = absurd cc
    begins (d ∷ rest) k =
        elim (tests (eqb d 60)) [
          | inl g ↦ (rest, ap (λ (n : ℕ). n ∷ rest) (eqb-true d 60 g))
          | inr g ↦ absurd (differ (is_special (cond (eqb d 60) names.Angle names.Plain)) k (rw g refl))
        ]

pub init_says : (text : List ℕ) → is_init (special_of text) ≡ true → text ≡ init
init_says text h =
    elim (tests (bytes_eq text init)) [
      | inl e ↦ same text init e
      | inr e ↦ elim (tests (bytes_eq text clinit)) [
        | inl f ↦ absurd (differ (is_init (special_of text)) h (rw (e, f) refl))
        | inr f ↦ elim (tests (begins_angle text)) [
          | inl g ↦ absurd (differ (is_init (special_of text)) h (rw (e, f, g) refl))
          | inr g ↦ absurd (differ (is_init (special_of text)) h (rw (e, f, g) refl))
        ]
      ]
    ]

abbrev pub is_clinit : Special → Bool
is_clinit names.Plain = false
is_clinit names.Init = false
is_clinit names.Clinit = true
is_clinit names.Angle = false

pub clinit_says : (text : List ℕ) → is_clinit (special_of text) ≡ true → text ≡ clinit
clinit_says text h =
    elim (tests (bytes_eq text clinit)) [
      | inl e ↦ same text clinit e
      | inr e ↦ elim (tests (bytes_eq text init)) [
        | inl f ↦ absurd (differ (is_clinit (special_of text)) h (rw f refl))
        | inr f ↦ elim (tests (begins_angle text)) [
          | inl g ↦ absurd (differ (is_clinit (special_of text)) h (rw (f, e, g) refl))
          | inr g ↦ absurd (differ (is_clinit (special_of text)) h (rw (f, e, g) refl))
        ]
      ]
    ]

-- ---- names and types

class_by : (pool : List Entry) (i : ℕ) (o : Option Entry) → at pool i ≡ o → is_class o ≡ true → HasClass pool i
class_by pool i (Some (Class text)) e h = record { text = text; is_entry = e }
class_by pool i _ e h = absurd cc

class_says : (pool : List Entry) (i : ℕ) → is_class (at pool i) ≡ true → HasClass pool i
class_says pool i h = class_by pool i (at pool i) refl h

class_told : (pool : List Entry) (i : ℕ) → HasClass pool i → is_class (at pool i) ≡ true
class_told pool i h = ap is_class h.is_entry

abbrev pair : List Entry → ℕ → Traits × Traits
pair pool i = pair_at (map entry_traits pool) pool i

pair_by : (trait : Traits → Bool) (Kind : List ℕ → Type 0) → IsTrait trait Kind → (pool : List Entry) (i : ℕ) (o : Option Entry) → at pool i ≡ o → trait (pair_of (map entry_traits pool) o).1 ≡ true → HasPair pool i Kind
pair_by trait Kind t pool i (Some (NameAndType name descriptor)) e h = record { name = name; descriptor = descriptor; is_entry = e; described = text_says trait Kind t pool descriptor h }
pair_by trait Kind t pool i _ e h = absurd (differ (trait nothing) h t.never)

pair_says : (trait : Traits → Bool) (Kind : List ℕ → Type 0) → IsTrait trait Kind → (pool : List Entry) (i : ℕ) → trait (pair pool i).1 ≡ true → HasPair pool i Kind
pair_says trait Kind t pool i h = pair_by trait Kind t pool i (at pool i) refl h

pair_told : (trait : Traits → Bool) (Kind : List ℕ → Type 0) → IsTrait trait Kind → (pool : List Entry) (i : ℕ) → HasPair pool i Kind → trait (pair pool i).1 ≡ true
pair_told trait Kind t pool i h = ap (λ (o : Option Entry). trait (pair_of (map entry_traits pool) o).1) h.is_entry ∙ text_told trait Kind t pool h.descriptor h.described

-- what its name is
named : (pool : List Entry) (i : ℕ) (text : List ℕ) → IsNameAndType pool i text → (pair pool i).0.special ≡ special_of text
named pool i text n =
    ap (λ (o : Option Entry). (pair_of (map entry_traits pool) o).0.special) n.is_entry
    ∙ ap (λ (t : Traits). t.special) (traits_are pool n.name)
    ∙ ap (λ (o : Option Entry). (option_traits o).special) n.named

record Name (pool : List Entry) (i : ℕ) (test : Special → Bool) : Type 0 where
  text : List ℕ
  is_named : IsNameAndType pool i text
  passes : test (special_of text) ≡ true

name_in : (test : Special → Bool) → test names.Plain ≡ false → (pool : List Entry) (i name descriptor : ℕ) → at pool i ≡ Some (NameAndType name descriptor) → (o : Option Entry) → at pool name ≡ o → test (option_traits o).special ≡ true → Name pool i test
name_in test p pool i name descriptor e (Some (Utf8 text)) f h = record { text = text; is_named = record { name = name; descriptor = descriptor; is_entry = e; named = f }; passes = h }
name_in test p pool i name descriptor e _ f h = absurd (differ (test names.Plain) h p)

name_by : (test : Special → Bool) → test names.Plain ≡ false → (pool : List Entry) (i : ℕ) (o : Option Entry) → at pool i ≡ o → test (pair_of (map entry_traits pool) o).0.special ≡ true → Name pool i test
name_by test p pool i (Some (NameAndType name descriptor)) e h = name_in test p pool i name descriptor e (at pool name) refl (ap (λ (t : Traits). test t.special) (sym (traits_are pool name)) ∙ h)
name_by test p pool i _ e h = absurd (differ (test names.Plain) h p)

name_says : (test : Special → Bool) → test names.Plain ≡ false → (pool : List Entry) (i : ℕ) → test (pair pool i).0.special ≡ true → Name pool i test
name_says test p pool i h = name_by test p pool i (at pool i) refl h

-- ---- methods

calls_any : (s : Special) (form : Option Form) → may_call s form ≡ true → is_call form ≡ true
calls_any names.Plain form h = h
calls_any names.Init form h = void_calls form h
calls_any names.Clinit form h = absurd cc
calls_any names.Angle form h = absurd cc

calls_special : (s : Special) (form : Option Form) → is_special s ≡ true → may_call s form ≡ true → (is_init s ≡ true) × (is_void form ≡ true)
calls_special names.Plain form k h = absurd cc
calls_special names.Init form k h = (refl, h)
calls_special names.Clinit form k h = absurd cc
calls_special names.Angle form k h = absurd cc

angle : (rest : List ℕ) → is_special (special_of (60 ∷ rest)) ≡ true
angle rest =
    elim (tests (bytes_eq (60 ∷ rest) init)) [
      | inl e ↦ rw e refl
      | inr e ↦ elim (tests (bytes_eq (60 ∷ rest) clinit)) [
        | inl f ↦ rw (e, f) refl
        | inr f ↦ rw (e, f) refl
      ]
    ]

call_name_says : (pool : List Entry) (i : ℕ) → may_call (pair pool i).0.special (pair pool i).1.form ≡ true → MayCall pool i
call_name_says pool i h = λ rest n.
    let is : (pair pool i).0.special ≡ special_of (60 ∷ rest) = named pool i (60 ∷ rest) n in
    let k = calls_special (pair pool i).0.special (pair pool i).1.form (ap is_special is ∙ angle rest) h in
    (init_says (60 ∷ rest) (ap is_init (sym is) ∙ k.0), pair_says (λ t. is_void t.form) IsVoidDescriptor void pool i k.1)

plain_call : (s : Special) (form : Option Form) → is_special s ≡ false → is_call form ≡ true → may_call s form ≡ true
plain_call names.Plain form k h = h
plain_call names.Init form k h = absurd cc
plain_call names.Clinit form k h = absurd cc
plain_call names.Angle form k h = absurd cc

call_name_told : (pool : List Entry) (i : ℕ) → HasPair pool i IsMethodDescriptor → MayCall pool i → may_call (pair pool i).0.special (pair pool i).1.form ≡ true
call_name_told pool i p m =
    elim (tests (is_special (pair pool i).0.special)) [
      | inl e ↦
          let n = name_says is_special refl pool i e in
          let b = special_begins n.text n.passes in
          let k = m b.0 (record { name = n.is_named.name; descriptor = n.is_named.descriptor; is_entry = n.is_named.is_entry; named = n.is_named.named ∙ ap (λ (t : List ℕ). Some (Utf8 t)) b.1 }) in
          let is : (pair pool i).0.special ≡ names.Init = named pool i n.text n.is_named ∙ ap special_of (b.1 ∙ k.0) in
          ap (λ (s : Special). may_call s (pair pool i).1.form) is ∙ pair_told (λ t. is_void t.form) IsVoidDescriptor void pool i k.1
      | inr e ↦ plain_call (pair pool i).0.special (pair pool i).1.form e (pair_told (λ t. is_call t.form) IsMethodDescriptor call pool i p)
    ]

-- ---- method handles

plain_says : (pool : List Entry) (i : ℕ) → is_plain (pair pool i).0.special ≡ true → HasPlainName pool i
plain_says pool i h = (
  λ n. differ (is_plain (pair pool i).0.special) h (ap is_plain (named pool i init n)),
  λ n. differ (is_plain (pair pool i).0.special) h (ap is_plain (named pool i clinit n)),
)

renamed : (pool : List Entry) (i : ℕ) (test : Special → Bool) (text : List ℕ) (n : Name pool i test) → n.text ≡ text → IsNameAndType pool i text
renamed pool i test text n e = record { name = n.is_named.name; descriptor = n.is_named.descriptor; is_entry = n.is_named.is_entry; named = n.is_named.named ∙ ap (λ (t : List ℕ). Some (Utf8 t)) e }

plain_told : (pool : List Entry) (i : ℕ) → HasPlainName pool i → (s : Special) → (pair pool i).0.special ≡ s → is_plain s ≡ true
plain_told pool i p names.Plain e = refl
plain_told pool i p names.Angle e = refl
plain_told pool i p names.Init e = let n = name_says is_init refl pool i (ap is_init e) in absurd (p.0 (renamed pool i is_init init n (init_says n.text n.passes)))
plain_told pool i p names.Clinit e = let n = name_says is_clinit refl pool i (ap is_clinit e) in absurd (p.1 (renamed pool i is_clinit clinit n (clinit_says n.text n.passes)))

init_named : (pool : List Entry) (i : ℕ) → is_init (pair pool i).0.special ≡ true → IsNameAndType pool i init
init_named pool i h = let n = name_says is_init refl pool i h in renamed pool i is_init init n (init_says n.text n.passes)

init_told : (pool : List Entry) (i : ℕ) → IsNameAndType pool i init → is_init (pair pool i).0.special ≡ true
init_told pool i n = ap is_init (named pool i init n)

handle_says : (major : ℕ) (pool : List Entry) (k : ℕ) (o : Option Entry) → may_handle major (map entry_traits pool) pool k o ≡ true → MayHandle major pool k o
handle_says major pool k (Some (Fieldref c p)) h = let b = both (leb 1 k) (leb k 4) h in (leb-true 1 k b.0, leb-true k 4 b.1)
handle_says major pool k (Some (Methodref c p)) h =
    elim (either ((eqb k 5 || eqb k 6 || eqb k 7) && is_plain (pair pool p).0.special) (eqb k 8 && is_init (pair pool p).0.special) h) [
      | inl e ↦ let b = both (eqb k 5 || eqb k 6 || eqb k 7) (is_plain (pair pool p).0.special) e in inl (one_of k 5 6 7 b.0, plain_says pool p b.1)
      | inr e ↦ let b = both (eqb k 8) (is_init (pair pool p).0.special) e in inr (eqb-true k 8 b.0, init_named pool p b.1)
    ]
handle_says major pool k (Some (InterfaceMethodref c p)) h = let b = both (may_name_interface_method major k) (is_plain (pair pool p).0.special) h in (b.0, plain_says pool p b.1)
handle_says major pool k _ h = absurd cc

handle_told : (major : ℕ) (pool : List Entry) (k : ℕ) (o : Option Entry) → MayHandle major pool k o → may_handle major (map entry_traits pool) pool k o ≡ true
handle_told major pool k (Some (Fieldref c p)) h = all (leb 1 k) (leb k 4) (le-leb 1 k h.0) (le-leb k 4 h.1)
handle_told major pool k (Some (Methodref c p)) (inl h) =
    first ((eqb k 5 || eqb k 6 || eqb k 7) && is_plain (pair pool p).0.special) (eqb k 8 && is_init (pair pool p).0.special)
    (all (eqb k 5 || eqb k 6 || eqb k 7) (is_plain (pair pool p).0.special) (of_one k 5 6 7 h.0) (plain_told pool p h.1 (pair pool p).0.special refl))
handle_told major pool k (Some (Methodref c p)) (inr h) =
    second ((eqb k 5 || eqb k 6 || eqb k 7) && is_plain (pair pool p).0.special) (eqb k 8 && is_init (pair pool p).0.special)
    (all (eqb k 8) (is_init (pair pool p).0.special) (eq-eqb k 8 h.0) (init_told pool p h.1))
handle_told major pool k (Some (InterfaceMethodref c p)) h = all (may_name_interface_method major k) (is_plain (pair pool p).0.special) h.0 (plain_told pool p h.1 (pair pool p).0.special refl)
handle_told major pool k _ h = absurd h

-- ---- the rows

may_pair_says : (pool : List Entry) (n d : ℕ) → may_pair (traits_at (map entry_traits pool) n) (traits_at (map entry_traits pool) d).form ≡ true → MayPair pool n d
may_pair_says pool n d h =
    let name = traits_at (map entry_traits pool) n in
    let form = (traits_at (map entry_traits pool) d).form in
    elim (either (is_field form && name.unqualified) (is_call form && name.method) h) [
      | inl e ↦ let b = both (is_field form) name.unqualified e in inl (text_says (λ t. is_field t.form) IsFieldDescriptor field pool d b.0, text_says (λ t. t.unqualified) (IsNameOf IsUnqualified) unqualified pool n b.1)
      | inr e ↦ let b = both (is_call form) name.method e in inr (text_says (λ t. is_call t.form) IsMethodDescriptor call pool d b.0, text_says (λ t. t.method) (IsNameOf IsMethod) method pool n b.1)
    ]

may_pair_told : (pool : List Entry) (n d : ℕ) → MayPair pool n d → may_pair (traits_at (map entry_traits pool) n) (traits_at (map entry_traits pool) d).form ≡ true
may_pair_told pool n d (inl h) =
    first _ _ (all _ _ (text_told (λ t. is_field t.form) IsFieldDescriptor field pool d h.0) (text_told (λ t. t.unqualified) (IsNameOf IsUnqualified) unqualified pool n h.1))
may_pair_told pool n d (inr h) =
    second _ _ (all _ _ (text_told (λ t. is_call t.form) IsMethodDescriptor call pool d h.0) (text_told (λ t. t.method) (IsNameOf IsMethod) method pool n h.1))

pub keeps_entry_says : (major : ℕ) (pool : List Entry) (e : Entry) → keeps_entry major (map entry_traits pool) pool e ≡ true → KeepsEntry major pool e
keeps_entry_says major pool (Utf8 text) h = text_from_test text (both (is_text text) (leb (length text) MOST_TEXT_BYTES) h).0
keeps_entry_says major pool (Integer v) h = tt
keeps_entry_says major pool (Float b) h = tt
keeps_entry_says major pool (Long v) h = tt
keeps_entry_says major pool (Double b) h = tt
keeps_entry_says major pool Unusable h = tt
keeps_entry_says major pool (Class text) h = text_says (λ t. t.class) NamesType type pool text h
keeps_entry_says major pool (String text) h = text_says (λ t. t.stands) (λ text. Unit {0}) stands pool text h
keeps_entry_says major pool (Fieldref c p) h = let b = both (is_class (at pool c)) (is_field (pair pool p).1.form) h in (class_says pool c b.0, pair_says (λ t. is_field t.form) IsFieldDescriptor field pool p b.1)
keeps_entry_says major pool (Methodref c p) h =
    let b = both (is_class (at pool c)) (may_call (pair pool p).0.special (pair pool p).1.form) h in
    (class_says pool c b.0, pair_says (λ t. is_call t.form) IsMethodDescriptor call pool p (calls_any (pair pool p).0.special (pair pool p).1.form b.1), call_name_says pool p b.1)
keeps_entry_says major pool (InterfaceMethodref c p) h = let b = both (is_class (at pool c)) (is_call (pair pool p).1.form) h in (class_says pool c b.0, pair_says (λ t. is_call t.form) IsMethodDescriptor call pool p b.1)
keeps_entry_says major pool (NameAndType n d) h = may_pair_says pool n d h
keeps_entry_says major pool (MethodHandle k r) h = handle_says major pool k (at pool r) h
keeps_entry_says major pool (MethodType d) h = text_says (λ t. is_call t.form) IsMethodDescriptor call pool d h
keeps_entry_says major pool (InvokeDynamic b p) h = pair_says (λ t. is_call t.form) IsMethodDescriptor call pool p h

pub keeps_entry_told : (major : ℕ) (pool : List Entry) (e : Entry) → EntryFits e → KeepsEntry major pool e → keeps_entry major (map entry_traits pool) pool e ≡ true
keeps_entry_told major pool (Utf8 text) fits h = let short : leb (length text) MOST_TEXT_BYTES ≡ true = le-leb _ _ (omega (arith, fits)) in rw (test_of text h, short) refl
keeps_entry_told major pool (Integer v) fits h = refl
keeps_entry_told major pool (Float b) fits h = refl
keeps_entry_told major pool (Long v) fits h = refl
keeps_entry_told major pool (Double b) fits h = refl
keeps_entry_told major pool Unusable fits h = refl
keeps_entry_told major pool (Class text) fits h = text_told (λ t. t.class) NamesType type pool text h
keeps_entry_told major pool (String text) fits h = text_told (λ t. t.stands) (λ text. Unit {0}) stands pool text h
keeps_entry_told major pool (Fieldref c p) fits h = all (is_class (at pool c)) (is_field (pair pool p).1.form) (class_told pool c h.0) (pair_told (λ t. is_field t.form) IsFieldDescriptor field pool p h.1)
keeps_entry_told major pool (Methodref c p) fits h = all (is_class (at pool c)) (may_call (pair pool p).0.special (pair pool p).1.form) (class_told pool c h.0) (call_name_told pool p h.1 h.2)
keeps_entry_told major pool (InterfaceMethodref c p) fits h = all (is_class (at pool c)) (is_call (pair pool p).1.form) (class_told pool c h.0) (pair_told (λ t. is_call t.form) IsMethodDescriptor call pool p h.1)
keeps_entry_told major pool (NameAndType n d) fits h = may_pair_told pool n d h
keeps_entry_told major pool (MethodHandle k r) fits h = handle_told major pool k (at pool r) h
keeps_entry_told major pool (MethodType d) fits h = text_told (λ t. is_call t.form) IsMethodDescriptor call pool d h
keeps_entry_told major pool (InvokeDynamic b p) fits h = pair_told (λ t. is_call t.form) IsMethodDescriptor call pool p h

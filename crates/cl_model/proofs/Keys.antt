-- Two keys are equal where the test says so; what texts spell a key.
use Rattle.std.proofs.Common.{zero, suc, ◌++◌, codes, replicate, subst, ◌∷◌, ◌≡◌, ◌≢◌, true≢false, ◌↔◌, ℕ, Bool, true, false, List, [], Option, Some, None, refl, sym, ap, ◌∙◌, ◌==◌}
use Rattle.std.specs.Prelude.{IsSome, MatchBool, option_map, unwrap_or}
use Rattle.std.specs.Option.{option_or}
use Rattle.std.specs.Bool.{Decides}
use Rattle.std.specs.Cmp.Lexicographic.{bytes_decides}
use Rattle.std.proofs.lemmas.Bool.Decides.{Decides-and, Decides-like}
use Rattle.cl_descriptors.specs.declared.types.Base.{Base}
use Rattle.cl_descriptors.specs.declared.types.Base.TheVariants.{Byte, Char, Double, Float, Int, Long, Short, Boolean, Class}
use Rattle.cl_descriptors.specs.declared.types.FieldType.{FieldType}
use Rattle.cl_descriptors.specs.declared.types.MethodType.{MethodType}
use Rattle.cl_descriptors.specs.declared.types.Descriptor.{Descriptor}
use Rattle.cl_descriptors.specs.declared.types.Descriptor.TheVariants as descriptors
use Rattle.cl_descriptors.specs.Reading.{whole_field, whole_method}
use Rattle.cl_descriptors.specs.Types.{spelling_of_base}
use Rattle.cl_descriptors.proofs.Methods.{whole_field_spelled, whole_method_spelled}
use Rattle.std.proofs.lemmas.Cmp.{nat_eq_equiv}
use Rattle.cl_classfile.specs.Files as files
use Rattle.cl_classfile.specs.Files.{Key, Name, same_name, same_base, same_type, same_descriptor, same_key}
use Rattle.cl_classfile.proofs.KeyTexts.{method_decides, type_decides}
use Rattle.cl_model.specs.Keys.{descriptor_of, descriptor_in, key_of}
use Rattle.cl_model.specs.Lines.{spelling_of}

field_of : (s t : FieldType) → descriptors.Field s ≡ descriptors.Field t → s ≡ t
field_of s t e = cc

method_of : (m n : MethodType) → descriptors.Method m ≡ descriptors.Method n → m ≡ n
method_of m n e = cc

descriptor_decides : (a b : Descriptor) → Decides (same_descriptor a b) (a ≡ b)
descriptor_decides (descriptors.Field s) (descriptors.Field t) = Decides-like (same_type s t) (ap (λ (x : FieldType). descriptors.Field x)) (field_of s t) (type_decides s t)
descriptor_decides (descriptors.Method m) (descriptors.Method n) =
    Decides-like (same_descriptor (descriptors.Method m) (descriptors.Method n)) (ap (λ (x : MethodType). descriptors.Method x)) (method_of m n) (method_decides m n)
descriptor_decides (descriptors.Field s) (descriptors.Method n) = (λ e. absurd cc, λ e. absurd cc)
descriptor_decides (descriptors.Method m) (descriptors.Field t) = (λ e. absurd cc, λ e. absurd cc)

key_same : (a b : Key) → (a.name ≡ b.name) × (a.descriptor ≡ b.descriptor) → a ≡ b
key_same a b e = ap (λ (n : List ℕ). let made : Key = record { name = n; descriptor = a.descriptor } in made) e.0 ∙ ap (λ (d : Descriptor). let made : Key = record { name = b.name; descriptor = d } in made) e.1

pub keys_are_told : (a b : Key) → (same_key a b ≡ true) ↔ (a ≡ b)
keys_are_told a b =
    Decides-like (same_key a b) (key_same a b) (λ e. (ap (λ (k : Key). k.name) e, ap (λ (k : Key). k.descriptor) e))
    (Decides-and (same_name a.name b.name) (same_descriptor a.descriptor b.descriptor) (bytes_decides a.name b.name) (descriptor_decides a.descriptor b.descriptor))

-- ---- the texts of keys

spelled_by : (text : Name) (r : Option FieldType) (q : Option MethodType) → whole_field text ≡ r → whole_method text ≡ q
    → IsSome (option_or (option_map (λ (t : FieldType). descriptors.Field t) r) (option_map (λ (m : MethodType). descriptors.Method m) q))
    → spelling_of (unwrap_or (option_or (option_map (λ (t : FieldType). descriptors.Field t) r) (option_map (λ (m : MethodType). descriptors.Method m) q)) (descriptors.Method (record { params = []; ret = None }))) ≡ text
spelled_by text (Some t) q e g s = sym (whole_field_spelled text t e).spelled
spelled_by text None (Some m) e g s = sym (whole_method_spelled text m g).spelled
spelled_by text None None e g s = absurd cc

-- the text of a descriptor is what it spells
pub spelled_again : (text : Name) → IsSome (descriptor_of text) → spelling_of (descriptor_in text) ≡ text
spelled_again text s = spelled_by text (whole_field text) (whole_method text) refl refl s

-- so keys of the same texts are the same, and no others
pub keys_same : (n m a b : Name) → IsSome (descriptor_of a) → IsSome (descriptor_of b) → key_of n a ≡ key_of m b → (n ≡ m) × (a ≡ b)
keys_same n m a b s t e =
    (ap (λ (k : Key). k.name) e, sym (spelled_again a s) ∙ ap (λ (k : Key). spelling_of k.descriptor) e ∙ spelled_again b t)

-- of one name the texts of the descriptors tell
pub descriptors_told : (n m a b : Name) → IsSome (descriptor_of a) → IsSome (descriptor_of b) → n ≡ m → (r : Bool) → r ≡ same_name a b → MatchBool r (key_of n a ≡ key_of m b) (key_of n a ≢ key_of m b)
descriptors_told n m a b s t names true e =
    ap (λ (x : Name). key_of x a) names ∙ ap (λ (x : Name). key_of m x) ((bytes_decides a b).0 (sym e))
descriptors_told n m a b s t names false e = λ k. absurd (true≢false (sym ((bytes_decides a b).1 (keys_same n m a b s t k).1) ∙ sym e))

-- ---- the keys of members

abbrev read_as : Option FieldType → Option MethodType → Option Descriptor
read_as r q = option_or (option_map (λ (t : FieldType). descriptors.Field t) r) (option_map (λ (m : MethodType). descriptors.Method m) q)

-- what is read is the descriptor of the key
abbrev Read : Name → Key → Option Descriptor → Type 0
Read name k o = IsSome o × (let made : Key = record { name = name; descriptor = unwrap_or o (descriptors.Method (record { params = []; ret = None })) } in made ≡ k)

other_head : (a b : ℕ) (xs ys : List ℕ) → (a == b) ≡ false → a ∷ xs ≡ b ∷ ys → ⊥
other_head a b xs ys f e = let same : a ≡ b = cc in true≢false (sym (subst (λ (x : ℕ). (a == x) ≡ true) same (nat_eq_equiv.refl a)) ∙ f)

-- a field's descriptor does not begin with `(`
base_no_paren : (b : Base) (rest : List ℕ) → spelling_of_base b ≡ 40 ∷ rest → ⊥
base_no_paren Byte rest e = other_head 66 40 [] rest refl e
base_no_paren Char rest e = other_head 67 40 [] rest refl e
base_no_paren Double rest e = other_head 68 40 [] rest refl e
base_no_paren Float rest e = other_head 70 40 [] rest refl e
base_no_paren Int rest e = other_head 73 40 [] rest refl e
base_no_paren Long rest e = other_head 74 40 [] rest refl e
base_no_paren Short rest e = other_head 83 40 [] rest refl e
base_no_paren Boolean rest e = other_head 90 40 [] rest refl e
base_no_paren (Class name) rest e = other_head 76 40 (name ++ codes ";") rest refl e

field_no_paren : (n : ℕ) (b : Base) (rest : List ℕ) → replicate n 91 ++ spelling_of_base b ≡ 40 ∷ rest → ⊥
field_no_paren zero b rest e = base_no_paren b rest e
field_no_paren (suc n) b rest e = other_head 91 40 (replicate n 91 ++ spelling_of_base b) rest refl e

-- no text is both
no_both : (text : Name) (m : MethodType) → whole_method text ≡ Some m → whole_field text ≡ None
no_both text m h = at (whole_field text) refl
  where
    at : (r : Option FieldType) → whole_field text ≡ r → r ≡ None
    at None e = refl
    at (Some t) e = absurd (field_no_paren t.dims t.base _ (sym (whole_field_spelled text t e).spelled ∙ (whole_method_spelled text m h).spelled))

field_from : (name text : Name) (k : Key) (r : Option FieldType) (q : Option MethodType) → option_map (λ (t : FieldType). let made : Key = record { name = name; descriptor = descriptors.Field t } in made) r ≡ Some k → Read name k (read_as r q)
field_from name text k None q h = absurd cc
field_from name text k (Some t) q h = (refl, cc)

method_from : (name text : Name) (k : Key) (r : Option FieldType) (q : Option MethodType) → r ≡ None → option_map (λ (m : MethodType). let made : Key = record { name = name; descriptor = descriptors.Method m } in made) q ≡ Some k → Read name k (read_as r q)
method_from name text k (Some t) q none h = absurd cc
method_from name text k None None none h = absurd cc
method_from name text k None (Some m) none h = (refl, cc)

pub field_key : (name text : Name) (k : Key) → files.field_of name text ≡ Some k → IsSome (descriptor_of text) × (key_of name text ≡ k)
field_key name text k h = field_from name text k (whole_field text) (whole_method text) h

pub method_key : (name text : Name) (k : Key) → files.method_of name text ≡ Some k → IsSome (descriptor_of text) × (key_of name text ≡ k)
method_key name text k h = at (whole_method text) refl h
  where
    at : (q : Option MethodType) → whole_method text ≡ q → option_map (λ (m : MethodType). let made : Key = record { name = name; descriptor = descriptors.Method m } in made) q ≡ Some k → IsSome (descriptor_of text) × (key_of name text ≡ k)
    at None e g = absurd cc
    at (Some m) e g = method_from name text k (whole_field text) (whole_method text) (no_both text m e) h

-- Two keys are the same where their names and descriptors are the same texts.
use Rattle.std.proofs.Common.{◌≡◌, Bool, true, false, List, Option, Some, None, refl, sym, ap, ◌∙◌, ◌&&◌, ◌==◌}
use Rattle.std.specs.Prelude.{option_map, option_to_list}
use Rattle.std.specs.Bool.{Decides}
use Rattle.std.specs.Cmp.Lexicographic.{pointwise, bytes_decides, pointwise_decides, same_text}
use Rattle.std.proofs.lemmas.Bool.Decides.{Decides-and, Decides-at, Decides-like, same_from_decides}
use Rattle.cl_descriptors.specs.Types.{spelling_of_field, spelling_of_method}
use Rattle.cl_descriptors.specs.Reading.{whole_field, whole_method}
use Rattle.cl_descriptors.specs.declared.types.Base.{Base}
use Rattle.cl_descriptors.specs.declared.types.Base.TheVariants.{Byte, Char, Double, Float, Int, Long, Short, Boolean, Class}
use Rattle.cl_descriptors.specs.declared.types.FieldType.{FieldType}
use Rattle.cl_descriptors.specs.declared.types.MethodType.{MethodType}
use Rattle.cl_descriptors.specs.declared.types.Descriptor.TheVariants as descriptors
use Rattle.cl_descriptors.specs.contracts.types.BasePartialEq.TheImpl as bases
use Rattle.cl_descriptors.specs.contracts.types.FieldTypePartialEq.TheImpl as fields
use Rattle.cl_descriptors.proofs.Equality.{fields_equal}
use Rattle.cl_descriptors.proofs.Methods.{whole_field_spelled, whole_method_spelled}
use Rattle.cl_classfile.specs.Files.{Name, Key, same_name, same_base, same_type, same_key, field_of, method_of}

and_true : (b : Bool) → b && true ≡ b
and_true true = refl
and_true false = refl

-- the test of bases and of types is that of the code
base_test : (a b : Base) → same_base a b ≡ bases.ghosts.eq a b
base_test Byte Byte = refl
base_test Char Char = refl
base_test Double Double = refl
base_test Float Float = refl
base_test Int Int = refl
base_test Long Long = refl
base_test Short Short = refl
base_test Boolean Boolean = refl
base_test (Class m) (Class n) = and_true (same_name m n)
base_test _ _ = refl

pub type_decides : (s t : FieldType) → Decides (same_type s t) (s ≡ t)
type_decides s t = Decides-at (same_type s t) (fields.ghosts.eq s t) (ap (λ (b : Bool). (s.dims == t.dims) && b) (base_test s.base t.base)) (fields_equal s t)

return_same : (r q : Option FieldType) → option_to_list r ≡ option_to_list q → r ≡ q
return_same None None e = refl
return_same None (Some t) e = absurd cc
return_same (Some s) None e = absurd cc
return_same (Some s) (Some t) e = cc

method_same : (m n : MethodType) → (option_to_list m.ret ≡ option_to_list n.ret) × (m.params ≡ n.params) → m ≡ n
method_same m n e =
    let ret : m.ret ≡ n.ret = return_same m.ret n.ret e.0 in
    ap (λ (ts : List FieldType). let made : MethodType = record { params = ts; ret = m.ret } in made) e.1 ∙ ap (λ (r : Option FieldType). let made : MethodType = record { params = n.params; ret = r } in made) ret

abbrev pub same_method : MethodType → MethodType → Bool
same_method m n = pointwise same_type (option_to_list m.ret) (option_to_list n.ret) && pointwise same_type m.params n.params

pub method_decides : (m n : MethodType) → Decides (same_method m n) (m ≡ n)
method_decides m n =
    Decides-like (same_method m n) (method_same m n) (λ e. (ap (λ (x : MethodType). option_to_list x.ret) e, ap (λ (x : MethodType). x.params) e))
    (Decides-and (pointwise same_type (option_to_list m.ret) (option_to_list n.ret)) (pointwise same_type m.params n.params)
    (pointwise_decides type_decides (option_to_list m.ret) (option_to_list n.ret)) (pointwise_decides type_decides m.params n.params))

-- ---- a type is told by its text

one_type : (o : Option FieldType) (s t : FieldType) → o ≡ Some s → o ≡ Some t → s ≡ t
one_type o s t e f = cc

one_call : (o : Option MethodType) (m n : MethodType) → o ≡ Some m → o ≡ Some n → m ≡ n
one_call o m n e f = cc

field_texts : (d e : Name) (s t : FieldType) → whole_field d ≡ Some s → whole_field e ≡ Some t → same_type s t ≡ same_name d e
field_texts d e s t ds et =
    same_from_decides (same_type s t) (same_name d e)
    (Decides-like (same_type s t) (λ same. (whole_field_spelled d s ds).spelled ∙ ap spelling_of_field same ∙ sym ((whole_field_spelled e t et).spelled))
    (λ same. one_type (whole_field d) s t ds (ap whole_field same ∙ et)) (type_decides s t))
    (bytes_decides d e)

method_texts : (d e : Name) (m n : MethodType) → whole_method d ≡ Some m → whole_method e ≡ Some n → same_method m n ≡ same_name d e
method_texts d e m n dm en =
    same_from_decides (same_method m n) (same_name d e)
    (Decides-like (same_method m n) (λ same. (whole_method_spelled d m dm).spelled ∙ ap spelling_of_method same ∙ sym ((whole_method_spelled e n en).spelled))
    (λ same. one_call (whole_method d) m n dm (ap whole_method same ∙ en)) (method_decides m n))
    (bytes_decides d e)

-- ---- a key is told by its texts

-- how keys are read from texts: they are the same where the texts are, and what has a key is told by its descriptor
pub record Reads (read : Name → Name → Option Key) : Type 0 where
  pub same : (n d m e : Name) (k l : Key) → read n d ≡ Some k → read m e ≡ Some l → same_key k l ≡ same_name n m && same_name d e
  pub other : (n d m e : Name) (k : Key) → read n d ≡ Some k → read m e ≡ None → same_name d e ≡ false

abbrev field_key : Name → FieldType → Key
field_key n t = record { name = n; descriptor = descriptors.Field t }

abbrev method_key : Name → MethodType → Key
method_key n m = record { name = n; descriptor = descriptors.Method m }

fields_same : (n d m e : Name) (k l : Key) (o p : Option FieldType) → whole_field d ≡ o → whole_field e ≡ p → option_map (field_key n) o ≡ Some k → option_map (field_key m) p ≡ Some l
    → same_key k l ≡ same_name n m && same_name d e
fields_same n d m e k l (Some s) (Some t) ds et ks lt =
    let first : field_key n s ≡ k = cc in
    let second : field_key m t ≡ l = cc in
    ap (λ (x : Key). same_key x l) (sym first) ∙ ap (λ (x : Key). same_key (field_key n s) x) (sym second) ∙ ap (λ (b : Bool). same_name n m && b) (field_texts d e s t ds et)
fields_same n d m e k l None p ds et ks lt = absurd cc
fields_same n d m e k l o None ds et ks lt = absurd cc

methods_same : (n d m e : Name) (k l : Key) (o p : Option MethodType) → whole_method d ≡ o → whole_method e ≡ p → option_map (method_key n) o ≡ Some k → option_map (method_key m) p ≡ Some l
    → same_key k l ≡ same_name n m && same_name d e
methods_same n d m e k l (Some s) (Some t) ds et ks lt =
    let first : method_key n s ≡ k = cc in
    let second : method_key m t ≡ l = cc in
    ap (λ (x : Key). same_key x l) (sym first) ∙ ap (λ (x : Key). same_key (method_key n s) x) (sym second) ∙ ap (λ (b : Bool). same_name n m && b) (method_texts d e s t ds et)
methods_same n d m e k l None p ds et ks lt = absurd cc
methods_same n d m e k l o None ds et ks lt = absurd cc

unlike : (b : Bool) → (b ≡ true → ⊥) → b ≡ false
unlike true f = absurd (f refl)
unlike false f = refl

no_key : {A : Type 0} (make : A → Key) (o p : Option A) (k : Key) → o ≡ p → option_map make o ≡ Some k → option_map make p ≡ None → ⊥
no_key make (Some a) (Some b) k e f g = absurd cc
no_key make (Some a) None k e f g = absurd cc
no_key make None p k e f g = absurd cc

pub reads_fields : Reads field_of
reads_fields = record {
  same = λ n d m e k l ek el. fields_same n d m e k l (whole_field d) (whole_field e) refl refl ek el;
  other = λ n d m e k ek none. unlike (same_name d e) (λ same. no_key (field_key n) (whole_field d) (whole_field e) k (ap whole_field (same_text d e (sym same))) ek (weaker m n (whole_field e) none));
}
  where
    weaker : (m n : Name) (o : Option FieldType) → option_map (field_key m) o ≡ None → option_map (field_key n) o ≡ None
    weaker m n None e = refl
    weaker m n (Some t) e = absurd cc

pub reads_methods : Reads method_of
reads_methods = record {
  same = λ n d m e k l ek el. methods_same n d m e k l (whole_method d) (whole_method e) refl refl ek el;
  other = λ n d m e k ek none. unlike (same_name d e) (λ same. no_key (method_key n) (whole_method d) (whole_method e) k (ap whole_method (same_text d e (sym same))) ek (weaker m n (whole_method e) none));
}
  where
    weaker : (m n : Name) (o : Option MethodType) → option_map (method_key m) o ≡ None → option_map (method_key n) o ≡ None
    weaker m n None e = refl
    weaker m n (Some t) e = absurd cc

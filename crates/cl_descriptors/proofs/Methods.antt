-- What is read as a method type is spelled so, and what is spelled so is read.
use Rattle.std.proofs.Common.{◌≡◌, inl, inr, ℕ, zero, suc, ◌≤◌, true, false, cond, not, eqb, List, [], ◌∷◌, ◌++◌, length, Option, Some, None, refl, sym, ap, subst, ◌∙◌, append_assoc, arith}
use Rattle.std.specs.Prelude.{flat_map, option_map, option_to_list}
use Rattle.std.specs.List.{AllByRecursion}
use Rattle.std.proofs.lemmas.Bool.{eqb-true, and_parts}
use Rattle.std.proofs.lemmas.List.{append-nil, nil_from_length, length-append}
use Rattle.cl_descriptors.specs.Types.{spelling_of_field, spelling_of_return, IsBase, SpellsField, SpellsMethod}
use Rattle.cl_descriptors.specs.Reading.{base_at, field_at, types_at, all_types, whole_field, whole_return, whole_method, is_void, closed_with}
use Rattle.cl_descriptors.specs.declared.types.Base.{Base}
use Rattle.cl_descriptors.specs.declared.types.Base.TheVariants.{Byte, Char, Double, Float, Int, Long, Short, Boolean, Class}
use Rattle.cl_descriptors.specs.declared.types.FieldType.{FieldType}
use Rattle.cl_descriptors.specs.declared.types.MethodType.{MethodType}
use Rattle.cl_descriptors.proofs.Codec.{then_some, map_some, test_some, chosen, position-at}
use Rattle.cl_descriptors.proofs.Fields.{field, spelling_is_some}
use Rattle.cl_descriptors.proofs.Loop.{types_at-some, types_at-none}

-- ---- all of the bytes as a field type

pub whole_field_spelled : (bytes : List ℕ) (t : FieldType) → whole_field bytes ≡ Some t → SpellsField bytes t
unfolding whole_field
whole_field_spelled bytes t e =
    let a = then_some (λ (x : FieldType × List ℕ). cond (eqb (length x.1) 0) (Some x.0) None) (field_at bytes) t e in
    let g = test_some (eqb (length a.0.1) 0) a.0.0 t a.2 in
    let nothing : a.0.1 ≡ [] = nil_from_length a.0.1 (eqb-true _ _ g.0) in
    let taken = field.takes bytes a.0 a.1 in
    subst (λ (y : FieldType). SpellsField bytes y) g.1
    (record { named = taken.1; spelled = taken.0 ∙ ap (λ (w : List ℕ). spelling_of_field a.0.0 ++ w) nothing ∙ append-nil (spelling_of_field a.0.0) })

pub whole_field_again : (bytes : List ℕ) (t : FieldType) → SpellsField bytes t → whole_field bytes ≡ Some t
unfolding whole_field
whole_field_again bytes t s =
    let regrouped : bytes ≡ spelling_of_field t ++ [] = s.spelled ∙ sym (append-nil (spelling_of_field t)) in
    ap whole_field regrouped ∙ rw (field.again t [] s.named) refl

-- ---- what a method returns

abbrev IsReturn : List ℕ → Option FieldType → Type 0
IsReturn bytes r = (bytes ≡ spelling_of_return r) × AllByRecursion (λ t. IsBase t.base) (option_to_list r)

void_is : (bytes : List ℕ) → is_void bytes ≡ true → bytes ≡ 86 ∷ []
void_is [] e = absurd cc
void_is (c ∷ rest) e =
    let a = and_parts (eqb c 86) (eqb (length rest) 0) e in
    ap (λ (k : ℕ). k ∷ rest) (eqb-true _ _ a.0) ∙ ap (λ (w : List ℕ). 86 ∷ w) (nil_from_length rest (eqb-true _ _ a.1))

not_void : (dims : ℕ) (base : Base) → is_void (spelling_of_field (record { dims = dims; base = base })) ≡ false
not_void zero Byte = refl
not_void zero Char = refl
not_void zero Double = refl
not_void zero Float = refl
not_void zero Int = refl
not_void zero Long = refl
not_void zero Short = refl
not_void zero Boolean = refl
not_void zero (Class name) = refl
not_void (suc n) base = refl

whole_return_spelled : (bytes : List ℕ) (r : Option FieldType) → whole_return bytes ≡ Some r → IsReturn bytes r
unfolding whole_return
whole_return_spelled bytes r e =
    elim (chosen (is_void bytes) (Some None) (option_map (λ t. Some t) (whole_field bytes)) (Some r) e) [
      | inl h ↦
          let is : None ≡ r = cc in
          subst (λ (y : Option FieldType). IsReturn bytes y) is (void_is bytes h.0, tt)
      | inr h ↦
          let a = map_some (λ (t : FieldType). let made : Option FieldType = Some t in made) (whole_field bytes) r h.1 in
          let s = whole_field_spelled bytes a.0 a.1 in
          subst (λ (y : Option FieldType). IsReturn bytes y) a.2 (s.spelled, (s.named, tt))
    ]

whole_return_again : (r : Option FieldType) → AllByRecursion (λ t. IsBase t.base) (option_to_list r) → whole_return (spelling_of_return r) ≡ Some r
unfolding whole_return
whole_return_again None named = refl
whole_return_again (Some t) named =
    rw (not_void t.dims t.base, whole_field_again (spelling_of_field t) t (record { named = named.0; spelled = refl })) refl

-- ---- lists of types

abbrev AreTypes : List ℕ → List FieldType × List ℕ → Type 0
AreTypes bytes x = (bytes ≡ flat_map spelling_of_field x.0 ++ x.1) × AllByRecursion (λ t. IsBase t.base) x.0

types_more : (n : ℕ) (bytes : List ℕ) (o : Option (FieldType × List ℕ)) → ((rest : List ℕ) → AreTypes rest (types_at n rest)) → field_at bytes ≡ o → AreTypes bytes (types_at (suc n) bytes)
types_more n bytes None others e = subst (λ (x : List FieldType × List ℕ). AreTypes bytes x) (sym (types_at-none (suc n) bytes e)) (refl, tt)
types_more n bytes (Some x) others e =
    let first = field.takes bytes x e in
    let more = others x.1 in
    subst (λ (y : List FieldType × List ℕ). AreTypes bytes y) (sym (types_at-some n bytes x.0 x.1 e))
    (first.0 ∙ ap (λ (w : List ℕ). spelling_of_field x.0 ++ w) more.0 ∙ sym (append_assoc (spelling_of_field x.0) (flat_map spelling_of_field (types_at n x.1).0) (types_at n x.1).1), (first.1, more.1))

types_take : (n : ℕ) (bytes : List ℕ) → AreTypes bytes (types_at n bytes)
unfolding types_at
types_take zero bytes = (refl, tt)
types_take (suc n) bytes = types_more n bytes (field_at bytes) (λ rest. types_take n rest) refl

types_again : (ts : List FieldType) (n : ℕ) (rest : List ℕ) → AllByRecursion (λ t. IsBase t.base) ts → length ts ≤ n → field_at rest ≡ None → types_at n (flat_map spelling_of_field ts ++ rest) ≡ (ts, rest)
types_again [] n rest named room none = types_at-none n rest none
types_again (t ∷ ts) zero rest named room none = absurd (omega arith)
types_again (t ∷ ts) (suc n) rest named room none =
    let tail : List ℕ = flat_map spelling_of_field ts ++ rest in
    let regrouped : flat_map spelling_of_field (t ∷ ts) ++ rest ≡ spelling_of_field t ++ tail = append_assoc (spelling_of_field t) (flat_map spelling_of_field ts) rest in
    let others : types_at n tail ≡ (ts, rest) = types_again ts n rest named.1 (omega arith) none in
    ap (types_at (suc n)) regrouped ∙ types_at-some n (spelling_of_field t ++ tail) t tail (field.again t tail named.0) ∙ ap (λ (x : List FieldType × List ℕ). (t ∷ x.0, x.1)) others

-- no type begins with `)`
closes : (rest : List ℕ) → field_at (41 ∷ rest) ≡ None
unfolding field_at base_at
closes rest = rw (position-at (λ c. not (eqb c 91)) [] 41 rest tt refl) refl

fewer : (ts : List FieldType) → length ts ≤ length (flat_map spelling_of_field ts)
fewer [] = omega arith
fewer (t ∷ ts) = omega (arith, length-append (spelling_of_field t) (flat_map spelling_of_field ts), spelling_is_some t, fewer ts)

-- ---- all of the bytes as a method type

joined : (r : Option FieldType) (ts : List FieldType) → AllByRecursion (λ t. IsBase t.base) (option_to_list r) → AllByRecursion (λ t. IsBase t.base) ts → AllByRecursion (λ t. IsBase t.base) (option_to_list r ++ ts)
joined None ts a b = b
joined (Some t) ts a b = (a.0, b)

parted : (r : Option FieldType) (ts : List FieldType) → AllByRecursion (λ t. IsBase t.base) (option_to_list r ++ ts) → AllByRecursion (λ t. IsBase t.base) (option_to_list r) × AllByRecursion (λ t. IsBase t.base) ts
parted None ts a = (tt, a)
parted (Some t) ts a = ((a.0, tt), a.1)

closed_spelled : (ts : List FieldType) (after : List ℕ) (m : MethodType) → closed_with ts after ≡ Some m
    → (after ≡ 41 ∷ spelling_of_return m.ret) × (m.params ≡ ts) × AllByRecursion (λ t. IsBase t.base) (option_to_list m.ret)
closed_spelled ts [] m e = absurd cc
closed_spelled ts (c ∷ rest) m e =
    elim (chosen (eqb c 41) (option_map (λ r. let made : MethodType = record { params = ts; ret = r } in made) (whole_return rest)) None (Some m) e) [
      | inl h ↦
          let a = map_some (λ (r : Option FieldType). let made : MethodType = record { params = ts; ret = r } in made) (whole_return rest) m h.1 in
          let s = whole_return_spelled rest a.0 a.1 in
          subst (λ (y : MethodType). (c ∷ rest ≡ 41 ∷ spelling_of_return y.ret) × (y.params ≡ ts) × AllByRecursion (λ t. IsBase t.base) (option_to_list y.ret)) a.2
          (ap (λ (k : ℕ). k ∷ rest) (eqb-true _ _ h.0) ∙ ap (λ (w : List ℕ). 41 ∷ w) s.0, refl, s.1)
      | inr h ↦ absurd cc
    ]

pub whole_method_spelled : (bytes : List ℕ) (m : MethodType) → whole_method bytes ≡ Some m → SpellsMethod bytes m
unfolding whole_method
whole_method_spelled [] m e = absurd cc
whole_method_spelled (c ∷ rest) m e =
    elim (chosen (eqb c 40) (closed_with (all_types rest).0 (all_types rest).1) None (Some m) e) [
      | inl h ↦
          let a = closed_spelled (all_types rest).0 (all_types rest).1 m h.1 in
          let t = types_take (length rest) rest in
          let parts : rest ≡ flat_map spelling_of_field m.params ++ (41 ∷ spelling_of_return m.ret) =
          t.0 ∙ ap (λ (w : List ℕ). flat_map spelling_of_field (all_types rest).0 ++ w) a.0 ∙ ap (λ (ts : List FieldType). flat_map spelling_of_field ts ++ (41 ∷ spelling_of_return m.ret)) (sym a.1) in
          record {
            named = joined m.ret m.params a.2 (subst (λ (ts : List FieldType). AllByRecursion (λ t. IsBase t.base) ts) (sym a.1) t.1);
            spelled = ap (λ (k : ℕ). k ∷ rest) (eqb-true _ _ h.0) ∙ ap (λ (w : List ℕ). 40 ∷ w) parts;
          }
      | inr h ↦ absurd cc
    ]

pub whole_method_again : (bytes : List ℕ) (m : MethodType) → SpellsMethod bytes m → whole_method bytes ≡ Some m
unfolding whole_method
whole_method_again bytes m s =
    let named = parted m.ret m.params s.named in
    let end : List ℕ = 41 ∷ spelling_of_return m.ret in
    let rest : List ℕ = flat_map spelling_of_field m.params ++ end in
    let room : length m.params ≤ length rest = omega (arith, fewer m.params, length-append (flat_map spelling_of_field m.params) end) in
    let types : all_types rest ≡ (m.params, end) = types_again m.params (length rest) end named.1 room (closes (spelling_of_return m.ret)) in
    ap whole_method s.spelled ∙ ap (λ (x : List FieldType × List ℕ). closed_with x.0 x.1) types ∙ rw (whole_return_again m.ret named.0) refl

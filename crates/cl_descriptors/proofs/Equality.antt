-- Two types are equal where they are the same.
use Rattle.std.proofs.Common.{◌≡◌, ◌↔◌, ℕ, false, true, eqb, List, Option, Some, None, refl, sym, ap, subst, ◌∙◌}
use Rattle.std.specs.Cmp.Lexicographic.{pointwise, pointwise_decides, same_text}
use Rattle.std.specs.Option.{option_eq}
use Rattle.std.specs.Prelude.{IsTrue}
use Rattle.cl_descriptors.specs.declared.types.Base.{Base}
use Rattle.cl_descriptors.specs.declared.types.Base.TheVariants.{Byte, Char, Double, Float, Int, Long, Short, Boolean, Class}
use Rattle.cl_descriptors.specs.declared.types.FieldType.{FieldType}
use Rattle.cl_descriptors.specs.declared.types.MethodType.{MethodType}
use Rattle.cl_descriptors.specs.contracts.types.BasePartialEq.TheImpl as bases
use Rattle.cl_descriptors.specs.contracts.types.FieldTypePartialEq.TheImpl as fields
use Rattle.cl_descriptors.specs.contracts.types.MethodTypePartialEq.TheImpl as methods
use Rattle.cl_descriptors.specs.contracts.types.FieldTypeEq.TheImpl.Laws as laws_of_fields
use Rattle.cl_descriptors.specs.contracts.types.MethodTypeEq.TheImpl.Laws as laws_of_methods
use Rattle.std.proofs.lemmas.Bool.{and_parts, eqb-true}

-- what is told apart is not the same
apart : {A : Type 0} → false ≡ true → A
apart e = absurd cc

base_same : (a b : Base) → bases.ghosts.eq a b ≡ true → a ≡ b
base_same Byte Byte e = refl
base_same Char Char e = refl
base_same Double Double e = refl
base_same Float Float e = refl
base_same Int Int e = refl
base_same Long Long e = refl
base_same Short Short e = refl
base_same Boolean Boolean e = refl
base_same (Class m) (Class n) e = ap (λ (x : List ℕ). Class x) (same_text m n (sym e))
base_same _ _ e = apart e

field_same : (s t : FieldType) → fields.ghosts.eq s t ≡ true → s ≡ t
field_same s t e =
    let a = and_parts (eqb s.dims t.dims) (bases.ghosts.eq s.base t.base) e in
    let dims : s.dims ≡ t.dims = eqb-true s.dims t.dims a.0 in
    let base : s.base ≡ t.base = base_same s.base t.base a.1 in
    ap (λ (n : ℕ). let made : FieldType = record { dims = n; base = s.base } in made) dims ∙ ap (λ (b : Base). let made : FieldType = record { dims = t.dims; base = b } in made) base

-- each is equal to itself
pub fields_equal : (s t : FieldType) → IsTrue (fields.ghosts.eq s t) ↔ (s ≡ t)
fields_equal s t = (field_same s t, λ e. subst (λ (x : FieldType). fields.ghosts.eq s x ≡ true) e (laws_of_fields.laws-law.refl s))

return_same : (r q : Option FieldType) → option_eq fields.ghosts.eq r q ≡ true → r ≡ q
return_same None None e = refl
return_same None (Some t) e = absurd cc
return_same (Some s) None e = absurd cc
return_same (Some s) (Some t) e = ap (λ (x : FieldType). Some x) (field_same s t e)

method_same : (m n : MethodType) → methods.ghosts.eq m n ≡ true → m ≡ n
method_same m n e =
    let a = and_parts (pointwise fields.ghosts.eq m.params n.params) (option_eq fields.ghosts.eq m.ret n.ret) e in
    let params : m.params ≡ n.params = (pointwise_decides fields_equal m.params n.params).0 a.0 in
    let ret : m.ret ≡ n.ret = return_same m.ret n.ret a.1 in
    ap (λ (ts : List FieldType). let made : MethodType = record { params = ts; ret = m.ret } in made) params ∙ ap (λ (r : Option FieldType). let made : MethodType = record { params = n.params; ret = r } in made) ret

pub methods_equal : (m n : MethodType) → IsTrue (methods.ghosts.eq m n) ↔ (m ≡ n)
methods_equal m n = (method_same m n, λ e. subst (λ (x : MethodType). methods.ghosts.eq m x ≡ true) e (laws_of_methods.laws-law.refl m))

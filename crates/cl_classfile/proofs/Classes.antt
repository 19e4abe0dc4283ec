-- The names of classes in a pool that keeps its table.
use Rattle.std.proofs.Common.{◌≡◌, ℕ, zero, suc, Bool, true, false, cond, ◌&&◌, eqb, leb, List, [], ◌∷◌, ◌++◌, length, replicate, Option, Some, None, refl, sym, ap, subst, ◌∙◌, inl, inr}
use Rattle.std.specs.Prelude.{option_map, option_and_then, IsSome, slice_get, filter_map}
use Rattle.std.specs.List.{AllByRecursion, list_all, slice_split, onto_first}
use Rattle.std.proofs.lemmas.Bool.{eqb-true}
use Rattle.cl_names.specs.Text.{is_text}
use Rattle.cl_names.specs.Kind.{IsNameOf, IsClass, has_unqualified_form, has_class_form, is_class_name}
use Rattle.cl_names.proofs.Grammars.{class_test_of}
use Rattle.cl_descriptors.specs.Types.{spelling_of_base}
use Rattle.cl_descriptors.specs.declared.types.Base.{Base}
use Rattle.cl_classfile.specs.declared.entry.Entry.{Entry}
use Rattle.cl_classfile.specs.declared.entry.Entry.TheVariants.{Class}
use Rattle.cl_classfile.specs.Pool.{at, IsText, NamesType, KeepsEntry}
use Rattle.cl_classfile.specs.Structure.{NamesClass, KeepsInterface}
use Rattle.cl_classfile.specs.Files.{text_of, type_of, type_name, is_array_name, no_array, class_name}
use Rattle.cl_classfile.proofs.Judging.{differ}
use Rattle.cl_names.specs.declared.kind.TheConstants.{MOST_TEXT_BYTES}
use Rattle.cl_classfile.proofs.MemberRows.{named_text}

-- each entry keeps its row, by the rules of some version
abbrev pub Rows : List Entry → Type 0
Rows pool = (major : ℕ) × AllByRecursion (KeepsEntry major pool) pool

-- what holds of all entries holds of the one at an index
at_kept : (P : Entry → Type 0) (es : List Entry) (i : ℕ) (e : Entry) → AllByRecursion P es → at es i ≡ Some e → P e
at_kept P es zero e all h = absurd cc
at_kept P [] (suc i) e all h = absurd cc
at_kept P (x ∷ es) (suc zero) e all h = let k : x ≡ e = cc in subst P k all.0
at_kept P (x ∷ es) (suc (suc i)) e all h = at_kept P es (suc i) e all.1 h

-- the entry at an index keeps its row
pub row_at : (pool : List Entry) (i : ℕ) (e : Entry) (rows : Rows pool) → at pool i ≡ Some e → KeepsEntry rows.0 pool e
row_at pool i e rows h = at_kept (KeepsEntry rows.0 pool) pool i e rows.1 h

-- ---- classes and arrays

last : (a b : Bool) → b ≡ false → a && b ≡ false
last true b e = e
last false b e = refl

bracket : (parts : List (List ℕ)) → list_all has_unqualified_form (onto_first 91 parts) ≡ false
bracket [] = refl
bracket (part ∷ parts) = refl

-- no class's name begins as an array's
no_bracket : (rest : List ℕ) → is_class_name (91 ∷ rest) ≡ false
unfolding is_class_name
no_bracket rest = last (is_text (91 ∷ rest) && leb (length (91 ∷ rest)) MOST_TEXT_BYTES) (has_class_form (91 ∷ rest)) (bracket (slice_split (λ p. eqb p 47) rest))

by_first : (c : ℕ) (rest : List ℕ) (b : Bool) → eqb c 91 ≡ b → is_class_name (c ∷ rest) ≡ true → b ≡ false
by_first c rest false e h = refl
by_first c rest true e h = absurd (differ (is_class_name (91 ∷ rest)) (ap (λ (n : ℕ). is_class_name (n ∷ rest)) (sym (eqb-true c 91 e)) ∙ h) (no_bracket rest))

pub class_begins : (name : List ℕ) → IsNameOf IsClass name → is_array_name name ≡ false
class_begins [] h = refl
class_begins (c ∷ rest) h = by_first c rest (eqb c 91) refl (class_test_of (c ∷ rest) h)

array_begins : (n : ℕ) (base : Base) → (n ≡ 0 → ⊥) → is_array_name (replicate n 91 ++ spelling_of_base base) ≡ true
array_begins zero base h = absurd (h refl)
array_begins (suc n) base h = refl

no_array_name : (name : List ℕ) → NamesType name → is_array_name name ≡ false → IsNameOf IsClass name
no_array_name name (inl h) e = h
no_array_name name (inr h) e = absurd (differ (is_array_name name) (ap is_array_name h.1.spelled ∙ array_begins h.0.dims h.0.base h.2.1) e)

-- ---- what an entry is called

-- a class or an array of this name
pub record NamesAny (pool : List Entry) (i : ℕ) (name : List ℕ) : Type 0 where
  pub index : ℕ
  pub is_entry : at pool i ≡ Some (Class index)
  pub named : IsText pool index name

type_by : (pool : List Entry) (i : ℕ) (o : Option Entry) (name : List ℕ) → at pool i ≡ o → type_of pool o ≡ Some name → NamesAny pool i name
type_by pool i (Some (Class index)) name e h = record { index = index; is_entry = e; named = named_text (at pool index) name h }
type_by pool i _ name e h = absurd cc

pub type_says : (pool : List Entry) (i : ℕ) (name : List ℕ) → type_name pool i ≡ Some name → NamesAny pool i name
type_says pool i name h = type_by pool i (at pool i) name refl h

by_test : (text name : List ℕ) (b : Bool) → is_array_name text ≡ b → cond b None (Some text) ≡ Some name → (text ≡ name) × (is_array_name name ≡ false)
by_test text name true e h = absurd cc
by_test text name false e h = let same : text ≡ name = cc in (same, ap is_array_name (sym same) ∙ e)

not_array : (o : Option (List ℕ)) (name : List ℕ) → option_and_then no_array o ≡ Some name → (o ≡ Some name) × (is_array_name name ≡ false)
not_array None name h = absurd cc
not_array (Some text) name h = let k = by_test text name (is_array_name text) refl h in (ap (λ (t : List ℕ). Some t) k.0, k.1)

pub class_says : (pool : List Entry) (i : ℕ) (name : List ℕ) → Rows pool → class_name pool i ≡ Some name → NamesClass pool i name
class_says pool i name rows h =
    let a = not_array (type_name pool i) name h in
    let c = type_says pool i name a.0 in
    let k = row_at pool i (Class c.index) rows c.is_entry in
    let same : k.text ≡ name = cc (k.is_text, c.named) in
    record { index = c.index; is_entry = c.is_entry; named = c.named; is_name = no_array_name name (subst NamesType same k.kind) a.1 }

pub class_named : (pool : List Entry) (i : ℕ) (name : List ℕ) → NamesClass pool i name → class_name pool i ≡ Some name
class_named pool i name c =
    let type : type_name pool i ≡ Some name = ap (type_of pool) c.is_entry ∙ ap text_of c.named in
    rw (type, class_begins name c.is_name) refl

-- each interface names a class, so the names stand in their places
pub interface_at : (pool : List Entry) (interfaces : List ℕ) (place : ℕ) → AllByRecursion (KeepsInterface pool) interfaces → option_and_then (class_name pool) (slice_get interfaces place) ≡ slice_get (filter_map (class_name pool) interfaces) place
interface_at pool [] place kept = refl
interface_at pool (i ∷ interfaces) zero kept = rw (class_named pool i kept.0.0 kept.0.1) refl
interface_at pool (i ∷ interfaces) (suc place) kept = rw (class_named pool i kept.0.0 kept.0.1) (interface_at pool interfaces place kept.1)

pub is_there : {A B : Type 0} (f : A → B) (o : Option A) (x : B) → option_map f o ≡ Some x → IsSome o
is_there f None x e = absurd cc
is_there f (Some y) x e = refl

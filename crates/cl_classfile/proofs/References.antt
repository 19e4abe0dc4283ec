-- What the references of a file are.
use Rattle.std.proofs.Common.{◌≡◌, ℕ, zero, suc, ◌+◌, ◌<◌, Bool, true, false, eqb, List, [], ◌∷◌, Option, Some, None, refl, sym, ap, subst, ◌∙◌, arith, inl, inr}
use Rattle.std.specs.Prelude.{option_map, option_and_then, is_some, find, slice_get, IfSome}
use Rattle.std.proofs.lemmas.Bool.{eq-eqb, ne_eqb}
use Rattle.cl_names.specs.Kind.{IsNameOf, IsUnqualified, IsMethod}
use Rattle.cl_descriptors.specs.Reading.{form_of}
use Rattle.cl_descriptors.specs.declared.types.Form.{Form}
use Rattle.cl_descriptors.specs.declared.types.Form.TheVariants as forms
use Rattle.cl_classfile.specs.declared.entry.Entry.{Entry}
use Rattle.cl_classfile.specs.declared.entry.Entry.TheVariants.{Class, Fieldref, Methodref, InterfaceMethodref, NameAndType}
use Rattle.cl_classfile.specs.Pool.{at, HasText, HasClass, HasPair, NamesType, MayPair, KeepsEntry}
use Rattle.cl_classfile.specs.Rows.{is_field, is_call}
use Rattle.cl_classfile.specs.Structure.{Structure}
use Rattle.cl_classfile.specs.Files.{Reference, Symbol, Citation, text_of, type_of, type_name, pair_name, pair_descriptor, symbol_at, citation_of, typed_reference, reference_of, references_from, file_of, reference}
use Rattle.cl_classfile.specs.References.{refers, IsFieldSymbol, IsMethodSymbol, IsCited}
use Rattle.cl_classfile.proofs.Judging.{field_is, call_is}
use Rattle.cl_classfile.proofs.Classes.{Rows, row_at}
use Rattle.cl_descriptors.specs.Answers.{IsFieldDescriptor, IsMethodDescriptor}

-- ---- the reference at an index

abbrev found : ℕ → List (ℕ × Reference) → Option Reference
found k rs = option_map (λ e. e.1) (find (λ e. eqb e.0 k) rs)

-- one entry more in front
none_here : (pool : List Entry) (j : ℕ) (e : Entry) (es : List Entry) (k : ℕ) (o : Option Reference) → reference_of pool e ≡ o → k < j → found k (references_from pool (j + 1) es) ≡ None → found k (references_from pool j (e ∷ es)) ≡ None
none_here pool j e es k None is lt others = rw is others
none_here pool j e es k (Some r) is lt others = let other : eqb j k ≡ false = ne_eqb j k (λ same. absurd (omega arith)) in rw (is, other) others

-- none stands at an index before the first
none_before : (pool : List Entry) (j : ℕ) (es : List Entry) (k : ℕ) → k < j → found k (references_from pool j es) ≡ None
none_before pool j [] k lt = refl
none_before pool j (e ∷ es) k lt = none_here pool j e es k (reference_of pool e) refl lt (none_before pool (j + 1) es k (omega arith))

here : (pool : List Entry) (j : ℕ) (e : Entry) (es : List Entry) (o : Option Reference) → reference_of pool e ≡ o → found j (references_from pool (j + 1) es) ≡ None → found j (references_from pool j (e ∷ es)) ≡ o
here pool j e es None is others = rw is others
here pool j e es (Some r) is others = let same : eqb j j ≡ true = eq-eqb j j refl in rw (is, same) refl

behind : (pool : List Entry) (j : ℕ) (e : Entry) (es : List Entry) (k : ℕ) (o found_there : Option Reference) → reference_of pool e ≡ o → j < k → found k (references_from pool (j + 1) es) ≡ found_there → found k (references_from pool j (e ∷ es)) ≡ found_there
behind pool j e es k None there is lt others = rw is others
behind pool j e es k (Some r) there is lt others = let other : eqb j k ≡ false = ne_eqb j k (λ same. absurd (omega arith)) in rw (is, other) others

found_at : (pool : List Entry) (j : ℕ) (es : List Entry) (i k : ℕ) → k ≡ j + i → found k (references_from pool j es) ≡ option_and_then (reference_of pool) (slice_get es i)
found_at pool j [] i k e = refl
found_at pool j (x ∷ es) zero k e =
    let same : k ≡ j = omega arith in
    ap (λ (n : ℕ). found n (references_from pool j (x ∷ es))) same ∙ here pool j x es (reference_of pool x) refl (none_before pool (j + 1) es j (omega arith))
found_at pool j (x ∷ es) (suc i) k e = behind pool j x es k (reference_of pool x) _ refl (omega arith) (found_at pool (j + 1) es i k (omega arith))

reference_is : (pool : List Entry) (i : ℕ) → found i (references_from pool 1 pool) ≡ option_and_then (reference_of pool) (at pool i)
reference_is pool zero = none_before pool 1 pool 0 (omega arith)
reference_is pool (suc i) = found_at pool 1 pool i (suc i) (omega arith)

each_typed : (pool : List Entry) (o : Option Entry) → option_and_then typed_reference (option_and_then (citation_of pool) o) ≡ option_and_then (reference_of pool) o
each_typed pool None = refl
each_typed pool (Some e) = refl

pub value_is : (f : Structure) (i : ℕ) → option_and_then typed_reference (option_and_then (citation_of f.pool) (at f.pool i)) ≡ reference (file_of f) i
value_is f i = each_typed f.pool (at f.pool i) ∙ sym (reference_is f.pool i)

-- ---- the texts of a reference

-- no text is the descriptor of a field and of a method
disjoint : (o : Option Form) → is_field o ≡ true → is_call o ≡ true → ⊥
disjoint None f c = absurd cc
disjoint (Some forms.Plain) f c = absurd cc
disjoint (Some forms.Array) f c = absurd cc
disjoint (Some forms.Method) f c = absurd cc
disjoint (Some forms.Void) f c = absurd cc

one_kind : (pool : List Entry) (i : ℕ) → HasText pool i IsFieldDescriptor → HasText pool i IsMethodDescriptor → ⊥
one_kind pool i f c =
    let same : c.text ≡ f.text = cc (f.is_text, c.is_text) in
    disjoint (form_of f.text) (field_is f.text f.kind) (call_is f.text (subst IsMethodDescriptor same c.kind))

field_name : (pool : List Entry) (name descriptor : ℕ) → MayPair pool name descriptor → HasText pool descriptor IsFieldDescriptor → HasText pool name (IsNameOf IsUnqualified)
field_name pool name descriptor (inl h) f = h.1
field_name pool name descriptor (inr h) f = absurd (one_kind pool descriptor f h.0)

method_name : (pool : List Entry) (name descriptor : ℕ) → MayPair pool name descriptor → HasText pool descriptor IsMethodDescriptor → HasText pool name (IsNameOf IsMethod)
method_name pool name descriptor (inl h) c = absurd (one_kind pool descriptor h.0 c)
method_name pool name descriptor (inr h) c = h.1

symbol_is : (pool : List Entry) (class pair : ℕ) → (c : HasClass pool class) (Named Described : List ℕ → Type 0) (p : HasPair pool pair Described) (t : HasText pool c.text NamesType) (n : HasText pool p.name Named)
    → symbol_at pool class pair ≡ Some (record { class = t.text; name = n.text; descriptor = p.described.text })
symbol_is pool class pair c Named Described p t n =
    let named_class : type_name pool class ≡ Some t.text = ap (type_of pool) c.is_entry ∙ ap text_of t.is_text in
    let named : pair_name pool (at pool pair) ≡ Some n.text = ap (pair_name pool) p.is_entry ∙ ap text_of n.is_text in
    let described : pair_descriptor pool (at pool pair) ≡ Some p.described.text = ap (pair_descriptor pool) p.is_entry ∙ ap text_of p.described.is_text in
    rw (named_class, named, described) refl

record IsRight (pool : List Entry) (class pair : ℕ) (Kind : Symbol → Type 0) : Type 0 where
  symbol : Symbol
  is : symbol_at pool class pair ≡ Some symbol
  right : Kind symbol

field_right : (pool : List Entry) → Rows pool → (class pair : ℕ) → HasClass pool class → HasPair pool pair IsFieldDescriptor → IsRight pool class pair IsFieldSymbol
field_right pool rows class pair c p =
    let t = row_at pool class (Class c.text) rows c.is_entry in
    let n = field_name pool p.name p.descriptor (row_at pool pair (NameAndType p.name p.descriptor) rows p.is_entry) p.described in
    record { symbol = record { class = t.text; name = n.text; descriptor = p.described.text }; is = symbol_is pool class pair c (IsNameOf IsUnqualified) IsFieldDescriptor p t n; right = record { class = t.kind; name = n.kind; descriptor = p.described.kind } }

method_right : (pool : List Entry) → Rows pool → (class pair : ℕ) → HasClass pool class → HasPair pool pair IsMethodDescriptor → IsRight pool class pair IsMethodSymbol
method_right pool rows class pair c p =
    let t = row_at pool class (Class c.text) rows c.is_entry in
    let n = method_name pool p.name p.descriptor (row_at pool pair (NameAndType p.name p.descriptor) rows p.is_entry) p.described in
    record { symbol = record { class = t.text; name = n.text; descriptor = p.described.text }; is = symbol_is pool class pair c (IsNameOf IsMethod) IsMethodDescriptor p t n; right = record { class = t.kind; name = n.kind; descriptor = p.described.kind } }

-- what is cited where an entry is a reference: it is there, and each text is of its kind
record IsSound (o : Option Citation) (b : Bool) : Type 0 where
  some : is_some o ≡ b
  sound : (r : Citation) → o ≡ Some r → IsCited r

nothing : IsSound None false
nothing = record { some = refl; sound = λ r e. absurd cc }

something : (o : Option Citation) (r : Citation) → o ≡ Some r → IsCited r → IsSound o true
something o r e h = record { some = ap is_some e; sound = λ q f. let same : r ≡ q = cc in subst IsCited same h }

entry_sound : (pool : List Entry) (rows : Rows pool) (e : Entry) → KeepsEntry rows.0 pool e → IsSound (citation_of pool e) (refers (Some e))
entry_sound pool rows (Class text) k = something _ _ (ap (λ (o : Option Entry). option_map (λ name. Citation.CitesClass name) (text_of o)) k.is_text) k.kind
entry_sound pool rows (Fieldref class pair) k = let r = field_right pool rows class pair k.0 k.1 in something _ _ (ap (option_map (λ s. Citation.CitesField s)) r.is) r.right
entry_sound pool rows (Methodref class pair) k = let r = method_right pool rows class pair k.0 k.1 in something _ _ (ap (option_map (λ s. Citation.CitesMethod s)) r.is) r.right
entry_sound pool rows (InterfaceMethodref class pair) k = let r = method_right pool rows class pair k.0 k.1 in something _ _ (ap (option_map (λ s. Citation.CitesInterfaceMethod s)) r.is) r.right
entry_sound pool rows _ k = nothing

at_sound : (pool : List Entry) → Rows pool → (i : ℕ) (o : Option Entry) → at pool i ≡ o → IsSound (option_and_then (citation_of pool) o) (refers o)
at_sound pool rows i None e = nothing
at_sound pool rows i (Some x) e = entry_sound pool rows x (row_at pool i x rows e)

pub some_is : (pool : List Entry) → Rows pool → (i : ℕ) → is_some (option_and_then (citation_of pool) (at pool i)) ≡ refers (at pool i)
some_is pool rows i = (at_sound pool rows i (at pool i) refl).some

pub sound_is : (pool : List Entry) → Rows pool → (i : ℕ) (r : Citation) → option_and_then (citation_of pool) (at pool i) ≡ Some r → IsCited r
sound_is pool rows i r e = (at_sound pool rows i (at pool i) refl).sound r e

-- ---- for the call

pub map_some : {A B : Type 0} (f : A → B) (o : Option A) → is_some (option_map f o) ≡ is_some o
map_some f None = refl
map_some f (Some x) = refl

pub each_sound : {A : Type 0} (f : A → Citation) (o : Option A) (p : Option Citation) → option_map f o ≡ p → ((r : Citation) → p ≡ Some r → IsCited r) → IfSome o (λ r. IsCited (f r))
each_sound f None p e h = tt
each_sound f (Some x) p e h = h (f x) (sym e)

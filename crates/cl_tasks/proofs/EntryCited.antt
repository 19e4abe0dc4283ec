-- What entries ask for, by the texts that they name (JVMS SE 8, 4.4.1, 4.4.2, 5.4.3).
use Rattle.std.proofs.Common.{◌≡◌, ℕ, Bool, true, false, List, Option, Some, None, Result, Ok, Err, inl, inr, refl, sym, ap, subst, ◌∙◌}
use Rattle.std.specs.Prelude.{option_map, IfOk, IfSome, if◌then◌else◌}
use Rattle.cl_descriptors.specs.Answers.{GivesReading, IsArrayDescriptor}
use Rattle.cl_descriptors.specs.Reading.{whole_field, whole_method, within_field}
use Rattle.cl_descriptors.specs.Types.{SpellsField, is_shallow}
use Rattle.cl_descriptors.specs.declared.types.DescriptorFault.{DescriptorFault}
use Rattle.cl_descriptors.specs.declared.types.DescriptorFault.TheVariants.{Memory, Malformed, TooManyDimensions, TooManyUnits}
use Rattle.cl_descriptors.specs.declared.types.FieldType.{FieldType}
use Rattle.cl_descriptors.proofs.Methods.{whole_field_again, whole_method_again}
use Rattle.cl_classfile.specs.Files.{Key, Name, Reference, Symbol, ToField, ToMethod, ToInterfaceMethod, CitesField, CitesMethod, CitesInterfaceMethod, field_key, method_key, class_type, is_array_name, named_type, typed_reference, typed_by}
use Rattle.cl_classfile.specs.Pool.{NamesType}
use Rattle.cl_classfile.specs.References.{IsFieldSymbol, IsMethodSymbol}
use Rattle.cl_classfile.proofs.Classes.{class_begins}
use Rattle.cl_classfile.proofs.Judging.{differ}
use Rattle.cl_model.specs.Plans.{member_target}
use Rattle.cl_tasks.specs.Cited.{AsksMember, AsksTarget, IsKind, TellsEntry, TellsReference, reference_of_kind}
use Rattle.cl_tasks.specs.declared.cited.Asked.{Asked}
use Rattle.cl_tasks.specs.declared.cited.Asked.TheVariants as asked
use Rattle.cl_tasks.specs.declared.cited.Kind.{Kind}
use Rattle.cl_tasks.specs.declared.cited.Kind.TheVariants as kinds

-- ---- names of arrays

array_of : (text : List ℕ) → NamesType text → is_array_name text ≡ true → IsArrayDescriptor text
array_of text (inl h) e = absurd (differ (is_array_name text) e (class_begins text h))
array_of text (inr h) e = h

-- the name of an array is read, unless memory ran out
shallow_read : (t : FieldType) (fault : DescriptorFault) (b : Bool) → b ≡ true → GivesReading (Err fault) (if b then Ok t else Err TooManyDimensions) → (fault ≡ Memory → ⊥) → ⊥
shallow_read t fault false e gives other = absurd cc
shallow_read t Memory true e gives other = other refl
shallow_read t Malformed true e gives other = absurd cc
shallow_read t TooManyDimensions true e gives other = absurd cc
shallow_read t TooManyUnits true e gives other = absurd cc

pub array_read : (text : List ℕ) (fault : DescriptorFault) → NamesType text → is_array_name text ≡ true → ((t : FieldType) → SpellsField text t → GivesReading (Err fault) (within_field (Some t))) → (fault ≡ Memory → ⊥) → ⊥
array_read text fault names is only other =
    let a = array_of text names is in
    shallow_read a.0 fault (is_shallow a.0) a.2.0.shallow (only a.0 a.1) other

pub array_named : (text : List ℕ) (t : FieldType) → is_array_name text ≡ true → SpellsField text t → named_type text ≡ Some t
array_named text t is spells = rw (is) (whole_field_again text t spells)

pub class_named_so : (text : List ℕ) → is_array_name text ≡ false → named_type text ≡ Some (class_type text)
class_named_so text is = rw (is) refl

-- ---- members

-- the key of a symbol is read
some_map : {A B : Type 0} (f : A → B) (o : Option A) (x : A) → o ≡ Some x → (y : B) × (option_map f o ≡ Some y)
some_map f o x e = (f x, ap (option_map f) e)

pub field_keyed : (s : Symbol) → IsFieldSymbol s → (k : Key) × (field_key s ≡ Some k)
field_keyed s h = some_map _ (whole_field s.descriptor) h.descriptor.0 (whole_field_again s.descriptor h.descriptor.0 h.descriptor.1)

pub method_keyed : (s : Symbol) → IsMethodSymbol s → (k : Key) × (method_key s ≡ Some k)
method_keyed s h = some_map _ (whole_method s.descriptor) h.descriptor.0 (whole_method_again s.descriptor h.descriptor.0 h.descriptor.1)

asks_kind : (kind : Kind) (t : FieldType) (k : Key) (a : Asked) → AsksTarget (member_target t) a → TellsReference (reference_of_kind kind t k) a
asks_kind kinds.Field t k asked.ArrayMember asks = (asks, refl)
asks_kind kinds.Field t k (asked.PrimitiveArray dims p) asks = absurd asks
asks_kind kinds.Method t k asked.ArrayMember asks = (asks, refl)
asks_kind kinds.Method t k (asked.PrimitiveArray dims p) asks = absurd asks
asks_kind kinds.InterfaceMethod t k asked.ArrayMember asks = (asks, refl)
asks_kind kinds.InterfaceMethod t k (asked.PrimitiveArray dims p) asks = absurd asks
asks_kind other t k another asks = asks

-- what an entry of this kind is, by its symbol
pub record IsTyped (kind : Kind) (text : Name) (o : Option Reference) : Type 0 where
  pub key : Key
  pub is : o ≡ typed_by (reference_of_kind kind) (named_type text) (Some key)

pub typed_field : (s : Symbol) (o : Option Reference) → IsFieldSymbol s → typed_reference (CitesField s) ≡ o → IsTyped kinds.Field s.class o
typed_field s o h e = let k = field_keyed s h in record { key = k.0; is = sym e ∙ ap (typed_by ToField (named_type s.class)) k.1 }

pub typed_method : (s : Symbol) (o : Option Reference) → IsMethodSymbol s → typed_reference (CitesMethod s) ≡ o → IsTyped kinds.Method s.class o
typed_method s o h e = let k = method_keyed s h in record { key = k.0; is = sym e ∙ ap (typed_by ToMethod (named_type s.class)) k.1 }

pub typed_interface : (s : Symbol) (o : Option Reference) → IsMethodSymbol s → typed_reference (CitesInterfaceMethod s) ≡ o → IsTyped kinds.InterfaceMethod s.class o
typed_interface s o h e = let k = method_keyed s h in record { key = k.0; is = sym e ∙ ap (typed_by ToInterfaceMethod (named_type s.class)) k.1 }

member_tells : (kind : Kind) (text : Name) (o : Option Reference) (a : Asked) → IsTyped kind text o → AsksMember text a → TellsEntry o a
member_tells kind text o a typed_reference asks =
    subst (λ (r : Option Reference). TellsEntry r a) (sym typed_reference.is)
    (subst (λ (t : Option FieldType). TellsEntry (typed_by (reference_of_kind kind) t (Some typed_reference.key)) a) (sym asks.named) (asks_kind kind asks.target typed_reference.key a asks.asks))

pub member_tells_ok : {E : Type 0} (kind : Kind) (text : Name) (o : Option Reference) (r : Result Asked E) → IsTyped kind text o → IfOk r (AsksMember text) → IfOk r (TellsEntry o)
member_tells_ok kind text o (Ok a) typed_reference asks = member_tells kind text o a typed_reference asks
member_tells_ok kind text o (Err e) typed_reference asks = tt

member_kind : (kind k : Kind) (text name : Name) (o : Option Reference) → IsTyped kind text o → k ≡ kind → AsksMember text (asked.Class name) → IsKind o name k
member_kind kind k text name o typed_reference same targets =
    subst (λ (j : Kind). IsKind o name j) (sym same)
    (record {
      target = targets.target;
      key = typed_reference.key;
      refers = typed_reference.is ∙ ap (λ (t : Option FieldType). typed_by (reference_of_kind kind) t (Some typed_reference.key)) targets.named;
      named = targets.asks;
    })

pub member_kind_ok : {E : Type 0} (kind : Kind) (text name : Name) (o : Option Reference) (r : Result (Option Kind) E) → IsTyped kind text o → IfOk r (λ k. IfSome k (λ j. (j ≡ kind) × AsksMember text (asked.Class name))) → IfOk r (λ k. IfSome k (IsKind o name))
member_kind_ok kind text name o (Ok None) typed_reference h = tt
member_kind_ok kind text name o (Ok (Some k)) typed_reference h = member_kind kind k text name o typed_reference h.0 h.1
member_kind_ok kind text name o (Err e) typed_reference h = tt

-- The class that method lookup comes to, step by step; it declares the method.
use Rattle.std.proofs.Common.{◌≡◌, ℕ, Bool, true, false, if◌then◌else◌, List, [], ◌∷◌, Option, Some, None, is_some, refl, sym, ap, ◌∙◌}
use Rattle.std.specs.Prelude.{filter, find, option_map, option_and_then}
use Rattle.std.specs.Option.{option_or}
use Rattle.cl_classfile.specs.Files.{Key, Member}
use Rattle.cl_model.specs.Lineages.{Kin, first, if_declared, only, superclasses, superinterfaces, from_superinterfaces, is_default, is_offered, is_public_instance, lookup_interface_method, lookup_method, maximally_specific, method_of, offering_superinterfaces, has_public}
use Rattle.cl_members.specs.Members.{method_in}
use Rattle.cl_members.proofs.Lists.{either_some, find_passes}
use Rattle.std.proofs.lemmas.Option.{same_Some}

-- ---- step by step, by the key that texts are, if they are one

-- nothing is declared by what is no key
never : {A : Type 0} (k a : Kin) → find (λ x. is_some (method_in None x.file)) (superclasses k) ≡ Some a → A
never k a e = absurd (let t : false ≡ true = find_passes (λ x. is_some (method_in None x.file)) (superclasses k) a e in cc)

never_public : {A : Type 0} (k a : Kin) → find (λ x. has_public (method_in None x.file)) (superclasses k) ≡ Some a → A
never_public k a e = absurd (let t : false ≡ true = find_passes (λ x. has_public (method_in None x.file)) (superclasses k) a e in cc)

pub own_is : (key : Option Key) (k : Kin) → true ≡ is_some (method_in key k.file) → Some k ≡ option_and_then (lookup_method k) key
own_is None k e = absurd cc
own_is (Some key) k e = rw (sym e) refl

pub super_is : (key : Option Key) (k a : Kin) → false ≡ is_some (method_in key k.file) → find (λ x. is_some (method_in key x.file)) (superclasses k) ≡ Some a → Some a ≡ option_and_then (lookup_method k) key
super_is None k a none e = never k a e
super_is (Some key) k a none e = rw (sym none, e) refl

pub beyond_is : (key : Option Key) (k : Kin) (o : Option Kin) → false ≡ is_some (method_in key k.file) → find (λ x. is_some (method_in key x.file)) (superclasses k) ≡ None → o ≡ option_and_then (from_superinterfaces k) key
    → o ≡ option_and_then (lookup_method k) key
beyond_is None k o none e is = is
beyond_is (Some key) k o none e is = rw (sym none, e) is

pub own_of_interface : (key : Option Key) (k : Kin) → true ≡ is_some (method_in key k.file) → Some k ≡ option_and_then (lookup_interface_method k) key
own_of_interface None k e = absurd cc
own_of_interface (Some key) k e = rw (sym e) refl

pub public_is : (key : Option Key) (k a : Kin) → false ≡ is_some (method_in key k.file) → find (λ x. has_public (method_in key x.file)) (superclasses k) ≡ Some a → Some a ≡ option_and_then (lookup_interface_method k) key
public_is None k a none e = never_public k a e
public_is (Some key) k a none e = rw (sym none, e) refl

pub beyond_public : (key : Option Key) (k : Kin) (o : Option Kin) → false ≡ is_some (method_in key k.file) → find (λ x. has_public (method_in key x.file)) (superclasses k) ≡ None → o ≡ option_and_then (from_superinterfaces k) key
    → o ≡ option_and_then (lookup_interface_method k) key
beyond_public None k o none e is = is
beyond_public (Some key) k o none e is = rw (sym none, e) is

-- ---- it declares the method

declared_is : (o : Option Member) (test : ℕ → Bool) → if_declared o test ≡ true → is_some o ≡ true
declared_is None test e = absurd cc
declared_is (Some m) test e = refl

first_now : (p : Kin → Bool) (x a : Kin) (xs : List Kin) (b : Bool) → p x ≡ b → first (if b then x ∷ filter p xs else filter p xs) ≡ Some a → (first (filter p xs) ≡ Some a → p a ≡ true) → p a ≡ true
first_now p x a xs true t e others = ap p (sym (same_Some x a e)) ∙ t
first_now p x a xs false t e others = others e

first_passes : (p : Kin → Bool) (xs : List Kin) (a : Kin) → first (filter p xs) ≡ Some a → p a ≡ true
first_passes p [] a e = absurd cc
first_passes p (x ∷ xs) a e = first_now p x a xs (p x) refl e (λ f. first_passes p xs a f)

only_first : (xs : List Kin) (a : Kin) → only xs ≡ Some a → first xs ≡ Some a
only_first [] a e = absurd cc
only_first (x ∷ []) a e = e
only_first (x ∷ y ∷ xs) a e = absurd cc

Declares : Option Key → Kin → Type 0
Declares key a = is_some (method_in key a.file) ≡ true

interface_declares : (key : Key) (k a : Kin) → from_superinterfaces k key ≡ Some a → Declares (Some key) a
unfolding Declares
interface_declares key k a e =
    either_some (only (filter (is_default key) (maximally_specific k key))) (first (offering_superinterfaces k key)) a (Declares (Some key)) e
    (λ f. declared_is (method_of a key) _ (first_passes (is_default key) (maximally_specific k key) a (only_first (filter (is_default key) (maximally_specific k key)) a f)))
    (λ f. declared_is (method_of a key) _ (first_passes (is_offered key) (superinterfaces k) a f))

pub method_declares : (key : Option Key) (k a : Kin) → Some a ≡ option_and_then (lookup_method k) key → is_some (method_in key a.file) ≡ true
unfolding Declares
method_declares None k a e = absurd cc
method_declares (Some key) k a e =
    either_some (find (λ x. is_some (method_of x key)) (k ∷ superclasses k)) (from_superinterfaces k key) a (Declares (Some key)) (sym e)
    (λ f. find_passes (λ x. is_some (method_of x key)) (k ∷ superclasses k) a f) (λ f. interface_declares key k a f)

pub interface_method_declares : (key : Option Key) (k a : Kin) → Some a ≡ option_and_then (lookup_interface_method k) key → is_some (method_in key a.file) ≡ true
unfolding Declares
interface_method_declares None k a e = absurd cc
interface_method_declares (Some key) k a e =
    either_some (find (λ x. is_some (method_of x key)) (k ∷ [])) (option_or (find (is_public_instance key) (superclasses k)) (from_superinterfaces k key)) a (Declares (Some key)) (sym e)
    (λ f. find_passes (λ x. is_some (method_of x key)) (k ∷ []) a f)
    (λ f. either_some (find (is_public_instance key) (superclasses k)) (from_superinterfaces k key) a (Declares (Some key)) f
    (λ h. declared_is (method_of a key) _ (find_passes (is_public_instance key) (superclasses k) a h)) (λ h. interface_declares key k a h))

-- so it has flags
pub has_flags : (o : Option Member) → is_some o ≡ true → None ≡ option_map (λ m. m.flags) o → ⊥
has_flags None e f = absurd cc
has_flags (Some m) e f = absurd cc

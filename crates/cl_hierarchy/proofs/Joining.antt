-- Classes that join others.
use Rattle.std.proofs.Common.{◌≡◌, ◌∙◌, ◌+◌, ◌<◌, ◌≤◌, ℕ, zero, suc, arith, Bool, true, false, ◌||◌, cond, List, [], ◌∷◌, ◌++◌, Option, get_or, length, map, take, refl, sym, ap, subst}
use Rattle.std.specs.Prelude.{option_to_list, slice_get}
use Rattle.std.proofs.lemmas.Grind.{take_at_read}
use Rattle.std.proofs.lemmas.List.{map_push, take_all}
use Rattle.cl_model.specs.declared.class.Class.{Class}
use Rattle.cl_model.specs.Classes.{Above, is_among, same_class}
use Rattle.cl_hierarchy.specs.Frames.{accepted_of}
use Rattle.cl_hierarchy.specs.Several.{Gains}
use Rattle.cl_hierarchy.proofs.Ancestry.{same_turned}
use Rattle.cl_hierarchy.proofs.Tours.{among_both}

cond_or : (a b : Bool) → cond b true a ≡ (a || (b || false))
cond_or true true = refl
cond_or true false = refl
cond_or false true = refl
cond_or false false = refl

-- one class more
pub joins_one : (old new : List Class) (c : Class) → ((x : Class) → is_among new x ≡ cond (same_class c x) true (is_among old x)) → Gains old (c ∷ []) new
joins_one old new c told x = told x ∙ ap (λ (b : Bool). cond b true (is_among old x)) (same_turned c x) ∙ cond_or (is_among old x) (same_class x c)

pub none_more : (b : Bool) → b ≡ (b || false)
none_more true = refl
none_more false = refl

-- none more
pub joins_none : (cs : List Class) → Gains cs [] cs
joins_none cs x = none_more (is_among cs x)

pub or_assoc : (a b c : Bool) → ((a || b) || c) ≡ (a || (b || c))
or_assoc true b c = refl
or_assoc false b c = refl

-- some and then others
pub joins_both : (first some middle others last : List Class) → Gains first some middle → Gains middle others last → Gains first (some ++ others) last
joins_both first some middle others last f g x =
    g x ∙ ap (λ (b : Bool). b || is_among others x) (f x)
    ∙ or_assoc (is_among first x) (is_among some x) (is_among others x)
    ∙ ap (λ (b : Bool). is_among first x || b) (sym (among_both some others x))

-- the class of one row more
pub joins_row : {A : Type 0} (f : A → Class) (rs : List A) (i : ℕ) (r : A) (first middle last : List Class) (c : Class) → i < length rs → r ≡ get_or rs i r → c ≡ f r → Gains first (map f (take i rs)) middle → Gains middle (c ∷ []) last
    → Gains first (map f (take (i + 1) rs)) last
joins_row {A} f rs i r first middle last c less is same before one =
    let more : map f (take i rs) ++ c ∷ [] ≡ map f (take (i + 1) rs) =
    ap (λ (d : Class). map f (take i rs) ++ d ∷ []) same ∙ sym (map_push f (take i rs) r) ∙ ap (λ (x : A). map f (take i rs ++ x ∷ [])) is ∙ ap (λ (xs : List A). map f xs) (sym ((take_at_read rs i r less).1)) in
    subst (λ (cs : List Class). Gains first cs last) more (joins_both first (map f (take i rs)) middle (c ∷ []) last before one)

-- one more of those at places, if one stands there
take_if : {A : Type 0} (xs : List A) (i : ℕ) → take (suc i) xs ≡ take i xs ++ option_to_list (slice_get xs i)
take_if [] zero = refl
take_if [] (suc i) = refl
take_if (x ∷ []) zero = refl
take_if (x ∷ (y ∷ xs)) zero = refl
take_if {A} (x ∷ xs) (suc i) = ap (λ (ys : List A). x ∷ ys) (take_if xs i)

pub joins_next : (cs : List Class) (i : ℕ) (o : Option Class) (first middle last : List Class) → o ≡ slice_get cs i → Gains first (take i cs) middle → Gains middle (option_to_list o) last → Gains first (take (i + 1) cs) last
joins_next cs i o first middle last at before one =
    let next : i + 1 ≡ suc i = omega arith in
    let more : take i cs ++ option_to_list o ≡ take (i + 1) cs =
    ap (λ (x : Option Class). take i cs ++ option_to_list x) at ∙ sym (take_if cs i) ∙ ap (λ (n : ℕ). take n cs) (sym next) in
    subst (λ (ds : List Class). Gains first ds last) more (joins_both first (take i cs) middle (option_to_list o) last before one)

-- all of them
pub joins_all : (cs : List Class) (i : ℕ) (first last : List Class) → length cs ≤ i → Gains first (take i cs) last → Gains first cs last
joins_all cs i first last le h = subst (λ (ds : List Class). Gains first ds last) (take_all i cs le) h

-- no more were accepted than there are definers
pub accepted_few : (names : List Above) (definers : List ℕ) → length (accepted_of names definers) ≤ length definers
accepted_few [] definers = omega arith
accepted_few (n ∷ names) [] = omega arith
accepted_few (n ∷ names) (p ∷ definers) = let few = accepted_few names definers in omega (arith, few)

-- The tests of widths, and what they say.
use Rattle.std.proofs.Common.{◌≡◌, ◌≢◌, ℕ, ℤ, pos, negsuc, zero, suc, ◌+◌, ◌^◌, ◌<◌, ◌≤◌, Bool, true, false, cond, not, ◌&&◌, ltb, List, [], ◌∷◌, length, Some, Result, Ok, Err, refl, sym, ap, subst, arith}
use Rattle.std.specs.Prelude.{FitsSigned}
use Rattle.std.specs.Int.{w32, w64}
use Rattle.std.specs.List.{AllByRecursion, list_all}
use Rattle.std.specs.Bool.{Decides}
use Rattle.std.proofs.lemmas.Bool.{ltb-true, lt-ltb}
use Rattle.std.proofs.lemmas.Bool.Decides.{Decides-and, Decides-ltb}
use Rattle.cl_classfile.specs.declared.entry.Entry.{Entry}
use Rattle.cl_classfile.specs.declared.entry.Entry.TheVariants.{Utf8, Integer, Float, Long, Double, Unusable, Class, String, Fieldref, Methodref, InterfaceMethodref, NameAndType, MethodHandle, MethodType, InvokeDynamic}
use Rattle.cl_classfile.specs.declared.fault.Fault.{Fault}
use Rattle.cl_classfile.specs.declared.fault.Fault.TheVariants.{BadPool}
use Rattle.cl_classfile.specs.Pool.{EntryFits, is_wide, AreSpaced, at}
use Rattle.cl_classfile.specs.Members.{Attribute, MemberInfo, AllFit, AttributeFits, MemberFits}
use Rattle.cl_classfile.specs.Widths.{is_short, is_signed, entry_fits, is_unusable, all_fit, attribute_fits, member_fits}
use Rattle.cl_classfile.specs.Structure.{PoolFits}
use Rattle.cl_classfile.specs.Checking.{checked_slots, checked_pool}

pub short_tells : (n : ℕ) → Decides (is_short n) (n < 2 ^ 16)
short_tells n = Decides-ltb n (2 ^ 16)

-- the branch of a test that did not fail
pub choice_ok : {A : Type 0} (b : Bool) (r : Result A Fault) (d : Fault) (x : A) → cond b r (Err d) ≡ Ok x → (b ≡ true) × (r ≡ Ok x)
choice_ok true r d x h = (refl, h)
choice_ok false r d x h = absurd cc

-- ---- lists

each_tells : {A : Type 0} (fits : A → Bool) (Fits : A → Type 0) → ((x : A) → Decides (fits x) (Fits x)) → (xs : List A) → Decides (list_all fits xs) (AllByRecursion Fits xs)
each_tells fits Fits one [] = (λ h. tt, λ h. refl)
each_tells fits Fits one (x ∷ xs) = Decides-and (fits x) (list_all fits xs) (one x) (each_tells fits Fits one xs)

pub all_tell : {A : Type 0} (fits : A → Bool) (Fits : A → Type 0) → ((x : A) → Decides (fits x) (Fits x)) → (xs : List A) → Decides (all_fit fits xs) (AllFit Fits xs)
all_tell fits Fits one xs = Decides-and (is_short (length xs)) (list_all fits xs) (short_tells (length xs)) (each_tells fits Fits one xs)

-- ---- attributes and members

attribute_tells : (a : Attribute) → Decides (attribute_fits a) (AttributeFits a)
attribute_tells a =
    let fits = Decides-and (is_short a.name_index) (ltb (length a.bytes) (2 ^ 32)) (short_tells a.name_index) (Decides-ltb (length a.bytes) (2 ^ 32)) in
    (λ h. let k = fits.0 h in record { name_index = k.0; bytes = k.1 }, λ h. fits.1 (h.name_index, h.bytes))

pub attributes_tell : (attributes : List Attribute) → Decides (all_fit attribute_fits attributes) (AllFit AttributeFits attributes)
attributes_tell = all_tell attribute_fits AttributeFits attribute_tells

pub member_tells : (m : MemberInfo) → Decides (member_fits m) (MemberFits m)
member_tells m =
    let named = Decides-and (is_short m.flags) (is_short m.name_index) (short_tells m.flags) (short_tells m.name_index) in
    let typed = Decides-and (is_short m.flags && is_short m.name_index) (is_short m.descriptor_index) named (short_tells m.descriptor_index) in
    let fits = Decides-and (is_short m.flags && is_short m.name_index && is_short m.descriptor_index) (all_fit attribute_fits m.attributes) typed (attributes_tell m.attributes) in
    (λ h. let k = fits.0 h in record { flags = k.0.0.0; name_index = k.0.0.1; descriptor_index = k.0.1; attributes = k.1 }, λ h. fits.1 (((h.flags, h.name_index), h.descriptor_index), h.attributes))

-- ---- entries

pub signed32_tells : (z : ℤ) → Decides (is_signed (2 ^ 31) z) (FitsSigned w32 z)
signed32_tells (pos n) = (λ h. record { sfits = ltb-true n (2 ^ 31) h }, λ h. lt-ltb n (2 ^ 31) h.sfits)
signed32_tells (negsuc n) = (λ h. record { sfits = ltb-true n (2 ^ 31) h }, λ h. lt-ltb n (2 ^ 31) h.sfits)

signed64_tells : (z : ℤ) → Decides (is_signed (2 ^ 63) z) (FitsSigned w64 z)
signed64_tells (pos n) = (λ h. record { sfits = ltb-true n (2 ^ 63) h }, λ h. lt-ltb n (2 ^ 63) h.sfits)
signed64_tells (negsuc n) = (λ h. record { sfits = ltb-true n (2 ^ 63) h }, λ h. lt-ltb n (2 ^ 63) h.sfits)

indices_tell : (a b : ℕ) → Decides (is_short a && is_short b) ((a < 2 ^ 16) × (b < 2 ^ 16))
indices_tell a b = Decides-and (is_short a) (is_short b) (short_tells a) (short_tells b)

entry_tells : (e : Entry) → Decides (entry_fits e) (EntryFits e)
entry_tells (Utf8 text) = short_tells (length text)
entry_tells (Integer value) = signed32_tells value
entry_tells (Float bits) = Decides-ltb bits (2 ^ 32)
entry_tells (Long value) = signed64_tells value
entry_tells (Double bits) = Decides-ltb bits (2 ^ 64)
entry_tells Unusable = (λ h. tt, λ h. refl)
entry_tells (Class text) = short_tells text
entry_tells (String text) = short_tells text
entry_tells (Fieldref class pair) = indices_tell class pair
entry_tells (Methodref class pair) = indices_tell class pair
entry_tells (InterfaceMethodref class pair) = indices_tell class pair
entry_tells (NameAndType name descriptor) = indices_tell name descriptor
entry_tells (MethodHandle kind reference) = Decides-and (ltb kind (2 ^ 8)) (is_short reference) (Decides-ltb kind (2 ^ 8)) (short_tells reference)
entry_tells (MethodType descriptor) = short_tells descriptor
entry_tells (InvokeDynamic bootstrap pair) = indices_tell bootstrap pair

-- ---- where entries stand

unusable_says : (e : Entry) → is_unusable e ≡ true → e ≡ Unusable
unusable_says Unusable h = refl
unusable_says _ h = absurd cc

usable : (e : Entry) → is_unusable e ≡ false → e ≢ Unusable
usable Unusable h is = absurd cc
usable _ h is = absurd cc

usable_told : (e : Entry) → e ≢ Unusable → is_unusable e ≡ false
usable_told Unusable h = absurd (h refl)
usable_told _ h = refl

free_says : (b fits : Bool) → not b && fits ≡ true → (b ≡ false) × (fits ≡ true)
free_says true fits h = absurd cc
free_says false fits h = (refl, h)

slots_say : (i : ℕ) (b : Bool) (es : List Entry) (u : Unit {0}) → checked_slots i b es ≡ Ok u → AllByRecursion EntryFits es × AreSpaced b es
unfolding checked_slots
slots_say i false [] u h = (tt, tt)
slots_say i true [] u h = absurd cc
slots_say i true (e ∷ es) u h =
    let k = choice_ok (is_unusable e) (checked_slots (i + 1) (is_wide e) es) (BadPool (i + 1)) u h in
    let is : e ≡ Unusable = unusable_says e k.0 in
    let others = slots_say (i + 1) (is_wide e) es u k.1 in
    ((subst EntryFits (sym is) tt, others.0), (is, subst (λ (b : Bool). AreSpaced b es) (ap is_wide is) others.1))
slots_say i false (e ∷ es) u h =
    let k = choice_ok (not (is_unusable e) && entry_fits e) (checked_slots (i + 1) (is_wide e) es) (BadPool (i + 1)) u h in
    let f = free_says (is_unusable e) (entry_fits e) k.0 in
    let others = slots_say (i + 1) (is_wide e) es u k.1 in
    (((entry_tells e).0 f.1, others.0), (usable e f.0, others.1))

slots_told : (i : ℕ) (b : Bool) (es : List Entry) → AllByRecursion EntryFits es → AreSpaced b es → checked_slots i b es ≡ Ok tt
unfolding checked_slots
slots_told i false [] fits s = refl
slots_told i true [] fits s = absurd s
slots_told i true (e ∷ es) fits s =
    let spaced : AreSpaced (is_wide e) es = subst (λ (b : Bool). AreSpaced b es) (sym (ap is_wide s.0)) s.1 in
    rw (ap is_unusable s.0, slots_told (i + 1) (is_wide e) es fits.1 spaced) refl
slots_told i false (e ∷ es) fits s = rw (usable_told e s.0, (entry_tells e).1 fits.0, slots_told (i + 1) (is_wide e) es fits.1 s.1) refl

pub pool_says : (pool : List Entry) (u : Unit {0}) → checked_pool pool ≡ Ok u → PoolFits pool
unfolding checked_pool
pool_says pool u h =
    let k = choice_ok (is_short (length pool + 1)) (checked_slots 0 false pool) (BadPool 0) u h in
    let s = slots_say 0 false pool u k.1 in
    ((short_tells (length pool + 1)).0 k.0, s.0, s.1)

pub pool_told : (pool : List Entry) → PoolFits pool → checked_pool pool ≡ Ok tt
unfolding checked_pool
pool_told pool h = rw ((short_tells (length pool + 1)).1 h.0, slots_told 0 false pool h.1 h.2) refl

-- ---- what stands at an index is within the pool

below : (es : List Entry) (i : ℕ) (e : Entry) → at es i ≡ Some e → i ≤ length es
below es zero e h = absurd cc
below [] (suc i) e h = absurd cc
below (x ∷ es) (suc zero) e h = omega arith
below (x ∷ es) (suc (suc i)) e h = let k = below es (suc i) e h in omega arith

pub within : (pool : List Entry) (i : ℕ) (e : Entry) → length pool + 1 < 2 ^ 16 → at pool i ≡ Some e → i < 2 ^ 16
within pool i e few h = let k = below pool i e h in omega arith

-- What is left of a load falls with each frame that is pushed, goes on or ends.
use Rattle.std.proofs.Common.{append-nil, ◌≡◌, ℕ, zero, suc, ◌+◌, ◌-◌, ◌*◌, ◌<◌, ◌≤◌, List, [], ◌∷◌, ◌++◌, length, Some, None, ap, subst, slice_get, arith, length-append}
use Rattle.std.proofs.Math.Nat.{mul-le-mul_left, mul-le-mul_right}
use Rattle.std.proofs.lemmas.Option.{slice_get_within}
use Rattle.cl_model.specs.declared.class.Class.{Class}
use Rattle.cl_model.specs.Classes.{Above, supers}
use Rattle.cl_model.specs.Frames.{Frame, wanted_supertype, with_accepted}
use Rattle.cl_model.specs.Measures.{whole, supers_behind, left_under, left_loading, left_ended}

-- the last frame alone decides which is less
left_less : (most : ℕ) (f g : ℕ → ℕ) (xs ys zs : List Frame) (room : ℕ) → length xs ≤ room → ((r : ℕ) → length xs + r ≡ room → left_under most f r ys < left_under most g r zs) → left_under most f room (xs ++ ys) < left_under most g room (xs ++ zs)
left_less most f g [] ys zs room h k = k room (omega arith)
left_less most f g (x ∷ xs) ys zs zero h k = absurd (omega arith)
left_less most f g (x ∷ xs) ys zs (suc room) h k = add_less (suc (supers_behind x * whole most room)) (left_under most f room (xs ++ ys)) (left_under most g room (xs ++ zs)) (left_less most f g xs ys zs room (omega arith) (λ r e. k r (omega arith)))
  where
    add_less : (a b c : ℕ) → b < c → (a + b) < (a + c)
    add_less a b c h = omega arith

nothing_more : (most : ℕ) (g : ℕ → ℕ) (room : ℕ) (xs : List Frame) → left_under most g room (xs ++ []) ≡ left_under most g room xs
nothing_more most g room xs = ap (λ (l : List Frame). left_under most g room l) (append-nil xs)

-- of two lists that go on alike the longer one is less
less_than : (most : ℕ) (f g : ℕ → ℕ) (xs ys : List Frame) (room : ℕ) → length xs ≤ room → ((r : ℕ) → length xs + r ≡ room → left_under most f r ys < g r) → left_under most f room (xs ++ ys) < left_under most g room xs
less_than most f g xs ys room h k = subst (λ (n : ℕ). left_under most f room (xs ++ ys) < n) (nothing_more most g room xs) (left_less most f g xs ys [] room h k)

more_than : (most : ℕ) (f g : ℕ → ℕ) (xs zs : List Frame) (room : ℕ) → length xs ≤ room → ((r : ℕ) → length xs + r ≡ room → f r < left_under most g r zs) → left_under most f room xs < left_under most g room (xs ++ zs)
more_than most f g xs zs room h k = subst (λ (n : ℕ). n < left_under most g room (xs ++ zs)) (nothing_more most f room xs) (left_less most f g xs [] zs room h k)

times_less : (b w most : ℕ) → b + 1 ≤ most → suc (b * w) + w < 3 + most * w
times_less b w most h = let k : (b + 1) * w ≤ most * w = mul-le-mul_right w h in omega arith

pushed_less : (most r : ℕ) (x : Frame) → supers_behind x + 1 ≤ most → 1 ≤ r → left_under most (whole most) r (x ∷ []) < whole most r
pushed_less most zero x h k = absurd (omega arith)
pushed_less most (suc r) x h k = times_less (supers_behind x) (whole most r) most h

pub push_falls : (most room : ℕ) (xs : List Frame) (x : Frame) (a : Above) → length xs < room → length (supers x.file) ≤ most → x.accepted ≡ [] → wanted_supertype x ≡ Some a → left_loading most room (xs ++ x ∷ []) < left_loading most room xs
push_falls most room xs x a h k z want =
    let within : length x.accepted < length (supers x.file) = slice_get_within (supers x.file) (length x.accepted) a want in
    let none : length x.accepted ≡ 0 = ap length z in
    less_than most (whole most) (whole most) xs (x ∷ []) room (omega arith) (λ r e. pushed_less most r x (omega arith) (omega arith))

whole_more : (most r : ℕ) → 3 ≤ whole most r
whole_more most zero = omega arith
whole_more most (suc r) = omega arith

behind_none : (x : Frame) → wanted_supertype x ≡ None → supers_behind x ≡ 0
behind_none x h = past (supers x.file) (length x.accepted) h
  where
    past : {A : Type 0} (ys : List A) (k : ℕ) → slice_get ys k ≡ None → length ys - suc k ≡ 0
    past [] k h = omega arith
    past (y ∷ ys) zero h = absurd cc
    past (y ∷ ys) (suc k) h = let r = past ys k h in omega arith

rooted_less : (most r : ℕ) (x : Frame) → supers_behind x ≡ 0 → 1 ≤ r → left_under most (λ n. 1) r (x ∷ []) < whole most r
rooted_less most zero x h k = absurd (omega arith)
rooted_less most (suc r) x h k = none_less (supers_behind x) (whole most r) (most * whole most r) h
  where
    none_less : (b w y : ℕ) → b ≡ 0 → suc (b * w) + 1 < 3 + y
    none_less b w y h = let e : b * w ≡ 0 * w = ap (λ (z : ℕ). z * w) h in omega arith

pub root_falls : (most room : ℕ) (xs : List Frame) (x : Frame) → length xs < room → wanted_supertype x ≡ None → left_ended most room (xs ++ x ∷ []) < left_loading most room xs
root_falls most room xs x h none = less_than most (λ n. 1) (whole most) xs (x ∷ []) room (omega arith) (λ r e. rooted_less most r x (behind_none x none) (omega arith))

pub load_falls : (most room : ℕ) (xs : List Frame) → length xs ≤ room → left_ended most room xs < left_loading most room xs
load_falls most room xs h =
    subst (λ (n : ℕ). n < left_loading most room xs) (nothing_more most (λ n. 1) room xs)
    (less_than most (λ n. 1) (whole most) xs [] room h (λ r e. let m = whole_more most r in omega arith))

next_less : (b c w : ℕ) → c ≡ b + 1 → suc (b * w) + w < suc (c * w) + 1
next_less b c w h = let e : c * w ≡ (b + 1) * w = ap (λ (z : ℕ). z * w) h in omega arith

accepted_less : (most r : ℕ) (x y : Frame) → supers_behind x ≡ supers_behind y + 1 → 1 ≤ r → left_under most (whole most) r (y ∷ []) < left_under most (λ n. 1) r (x ∷ [])
accepted_less most zero x y h k = absurd (omega arith)
accepted_less most (suc r) x y h k = next_less (supers_behind y) (supers_behind x) (whole most r) h

pub accept_falls : (most room : ℕ) (xs : List Frame) (x : Frame) (t : Class) (b : Above) → length xs < room → wanted_supertype (with_accepted x t) ≡ Some b → left_loading most room (xs ++ with_accepted x t ∷ []) < left_ended most room (xs ++ x ∷ [])
accept_falls most room xs x t b h want =
    let within : length (x.accepted ++ t ∷ []) < length (supers x.file) = slice_get_within (supers x.file) (length (x.accepted ++ t ∷ [])) b want in
    let more : length (x.accepted ++ t ∷ []) ≡ length x.accepted + 1 = length-append x.accepted (t ∷ []) in
    left_less most (whole most) (λ n. 1) xs (with_accepted x t ∷ []) (x ∷ []) room (omega arith) (λ r e. accepted_less most r x (with_accepted x t) (omega arith) (omega arith))

popped_less : (most r : ℕ) (x : Frame) → 1 ≤ r → 1 < left_under most (λ n. 1) r (x ∷ [])
popped_less most zero x h = absurd (omega arith)
popped_less most (suc r) x h = omega arith

pub pop_falls : (most room : ℕ) (xs : List Frame) (x : Frame) → length xs < room → left_ended most room xs < left_ended most room (xs ++ x ∷ [])
pop_falls most room xs x h = more_than most (λ n. 1) (λ n. 1) xs (x ∷ []) room (omega arith) (λ r e. popped_less most r x (omega arith))

-- turns, so many for each step
pub turn_falls : (k a b p q : ℕ) → a < b → p < k → k * a + p < k * b + q
turn_falls k a b p q h l = let m : k * (a + 1) ≤ k * b = mul-le-mul_left k (less_is h) in let e : k * (a + 1) ≡ k * a + k = omega arith in omega arith
  where
    less_is : {x y : ℕ} → x < y → x + 1 ≤ y
    less_is h = omega arith

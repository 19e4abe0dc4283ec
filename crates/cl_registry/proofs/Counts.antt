-- How many requests of a round are open, as the rounds are counted.
use Rattle.std.proofs.Common.{◌≡◌, ◌+◌, ◌<◌, ◌≤◌, ◌∙◌, ℕ, zero, suc, Bool, true, false, List, [], ◌∷◌, length, Option, Some, None, refl, sym, ap, subst, arith, replicate, if◌then◌else◌, add-one}
use Rattle.std.specs.Prelude.{nat_eq, slice_get, slice_set, All}
use Rattle.std.proofs.lemmas.Option.{slice_get_within, get_or_from_slice_get}
use Rattle.cl_model.specs.declared.answer.Answer.{Answer}
use Rattle.cl_registry.specs.Kept.{open_in}
use Rattle.cl_registry.proofs.Histories.{eq_nat, less}

abbrev none : ℕ → List (Option Answer)
none q = replicate q None

pub open_none : (round : ℕ) (ns : List ℕ) → open_in round ns [] ≡ 0
open_none round [] = refl
open_none round (n ∷ ns) = refl

turn : (i j k l : ℕ) → j ≡ k + l → i + j ≡ k + (i + l)
turn i j k l h = omega arith

-- one request more of a round
open_suc : (round : ℕ) (ns : List ℕ) (q r : ℕ) → slice_get ns q ≡ Some r → open_in round ns (none (suc q)) ≡ (if nat_eq r round then 1 else 0) + open_in round ns (none q)
open_suc round [] q r e = absurd cc
open_suc round (n ∷ ns) zero r e =
    let same : n ≡ r = cc in
    ap (λ (i : ℕ). (if nat_eq i round then 1 else 0) + open_in round ns []) same ∙ ap (λ (i : ℕ). (if nat_eq r round then 1 else 0) + i) (open_none round ns)
open_suc round (n ∷ ns) (suc q) r e = turn (if nat_eq n round then 1 else 0) _ (if nat_eq r round then 1 else 0) _ (open_suc round ns q r e)

open_more : (round : ℕ) (ns : List ℕ) (q r : ℕ) → slice_get ns q ≡ Some r → open_in round ns (none (q + 1)) ≡ (if nat_eq r round then 1 else 0) + open_in round ns (none q)
open_more round ns q r e = rw add-one (open_suc round ns q r e)

pub open_le : (round : ℕ) (ns : List ℕ) (q : ℕ) → open_in round ns (none q) ≤ q
open_le round [] q = omega arith
open_le round (n ∷ ns) zero = omega arith
open_le round (n ∷ ns) (suc q) = more (nat_eq n round) _ q (open_le round ns q)
  where
    more : (b : Bool) (j q : ℕ) → j ≤ q → (if b then 1 else 0) + j ≤ suc q
    more true j q h = omega arith
    more false j q h = omega arith

-- what stands where a list was written
pub get_set_same : {X : Type 0} (xs : List X) (i : ℕ) (v c : X) → slice_get xs i ≡ Some c → slice_get (slice_set xs i v) i ≡ Some v
get_set_same [] i v c e = absurd cc
get_set_same (x ∷ xs) zero v c e = refl
get_set_same (x ∷ xs) (suc i) v c e = get_set_same xs i v c e

-- and elsewhere
pub get_set_other : {X : Type 0} (xs : List X) (i j : ℕ) (v : X) → nat_eq i j ≡ false → slice_get (slice_set xs i v) j ≡ slice_get xs j
get_set_other [] i j v e = refl
get_set_other (x ∷ xs) zero zero v e = absurd cc
get_set_other (x ∷ xs) zero (suc j) v e = refl
get_set_other (x ∷ xs) (suc i) zero v e = refl
get_set_other (x ∷ xs) (suc i) (suc j) v e = get_set_other xs i j v (less i j e)

some_is : (a b : ℕ) → Some a ≡ Some b → b ≡ a
some_is a b e = cc

-- the counts after one request more
pub counted : (ns counts : List ℕ) (q r c : ℕ) → ((round n : ℕ) → slice_get counts round ≡ Some n → n ≡ open_in round ns (none q)) → slice_get ns q ≡ Some r → slice_get counts r ≡ Some c
    → (round n : ℕ) → slice_get (slice_set counts r (c + 1)) round ≡ Some n → n ≡ open_in round ns (none (q + 1))
counted ns counts q r c was asked had round n is = by_test (nat_eq r round) refl
  where
    by_test : (b : Bool) → nat_eq r round ≡ b → n ≡ open_in round ns (none (q + 1))
    by_test true e =
        let same : r ≡ round = eq_nat r round e in
        let now : n ≡ c + 1 = some_is (c + 1) n (sym (get_set_same counts r (c + 1) c had) ∙ subst (λ (i : ℕ). slice_get (slice_set counts r (c + 1)) i ≡ Some n) (sym same) is) in
        let before : c ≡ open_in round ns (none q) = was round c (subst (λ (i : ℕ). slice_get counts i ≡ Some c) same had) in
        now ∙ plus_one c _ before ∙ sym (open_more round ns q r asked ∙ ap (λ (b : Bool). (if b then 1 else 0) + open_in round ns (none q)) e)
      where
        plus_one : (c d : ℕ) → c ≡ d → c + 1 ≡ 1 + d
        plus_one c d h = omega arith
    by_test false e =
        was round n (sym (get_set_other counts r round (c + 1) e) ∙ is)
        ∙ sym (open_more round ns q r asked ∙ ap (λ (b : Bool). (if b then 1 else 0) + open_in round ns (none q)) e ∙ zero_more (open_in round ns (none q)))
      where
        zero_more : (d : ℕ) → 0 + d ≡ d
        zero_more d = omega arith

-- the round of a request is one of the rounds
pub round_within : (ns : List ℕ) (rounds q r : ℕ) → All (λ n. n < rounds) ns → slice_get ns q ≡ Some r → r < rounds
round_within ns rounds q r all e = subst (λ (i : ℕ). i < rounds) (get_or_from_slice_get ns q r 0 e) (all q 0 (slice_get_within ns q r e))

pub index_below : (ns counts : List ℕ) (rounds q r : ℕ) → All (λ n. n < rounds) ns → slice_get ns q ≡ Some r → length counts ≡ rounds → r < length counts
index_below ns counts rounds q r all e each = subst (λ (n : ℕ). r < n) (sym each) (round_within ns rounds q r all e)

pub zeros_are : (rounds round n : ℕ) → slice_get (replicate rounds 0) round ≡ Some n → n ≡ 0
zeros_are zero round n e = absurd cc
zeros_are (suc k) zero n e = cc
zeros_are (suc k) (suc i) n e = zeros_are k i n e

-- Each kind of step keeps the rule.
use Rattle.std.proofs.Common.{◌≡◌, ◌≢◌, ◌==◌, ℕ, zero, suc, ◌+◌, ◌-◌, ◌%◌, ◌^◌, ◌<◌, ◌≤◌, List, [], ◌∷◌, ◌++◌, set, cond, refl, sym, ap, ◌∙◌, subst, ⊎_elim, arith, mod-eq_of_lt}
use Rattle.std.specs.Prelude.{slice_index, sum_by, nat_le}
use Rattle.std.proofs.lemmas.List.Sums.{sum_by-append, sum_by_push, sum_by-cons}
use Rattle.std.proofs.lemmas.Bool.Decides.{nat_tests}
use mathlib.Core.Option.{some, some-ne-none, some-injective}
use lib.ListN.{get_elem?}
use Rattle.atomic_table.specs.Table.{Step, Me, Act, keeps, Valid, stepped, carried_after, Allows, Splits, Joins}
use Rattle.atomic_table.proofs.Lists.{at_set, at_snoc, set_again}
use Rattle.cl_pool.specs.declared.hand.Hand.{Hand}
use Rattle.cl_pool.specs.declared.hand.Bounds.{Bounds}
use Rattle.cl_schedule.specs.Serving.{HasEachBelow, once_below, times}
use Rattle.cl_pool.specs.Numbers.{past, AllBelow, new_hand, one_split_less, after_draw, both, spent, IsFair, IsShared, DrawsNumber, LooksAt, Drawn, PlaysDraw, PlaysLook}
use Rattle.cl_pool.specs.declared.limits.TheConstants.{MOST_WORKERS}

-- a total after one view has changed
total_set : (f : Hand → ℕ) (views : List Hand) (id : ℕ) (v w : Hand) → get_elem? views id ≡ some v → sum_by f (set views id w) + f v ≡ sum_by f views + f w
total_set f [] id v w e = absurd (some-ne-none v (sym e))
total_set f (x ∷ xs) zero v w e = let same : f x ≡ f v = ap f (some-injective x v e) in omega (arith, sum_by-cons f x xs, sum_by-cons f w xs)
total_set f (x ∷ xs) (suc id) v w e = omega (arith, total_set f xs id v w e, sum_by-cons f x xs, sum_by-cons f x (set xs id w))

-- where each term is at most another, so is the total
total_le : (f g : Hand → ℕ) (views : List Hand) → ((id : ℕ) (v : Hand) → get_elem? views id ≡ some v → f v ≤ g v) → sum_by f views ≤ sum_by g views
total_le f g [] h = omega arith
total_le f g (x ∷ xs) h = omega (arith, total_le f g xs (λ id v e. h (suc id) v e), h zero x refl, sum_by-cons f x xs, sum_by-cons g x xs)

-- a total is at least each of its terms
part_le : (g : Hand → ℕ) (xs : List Hand) (id : ℕ) (v : Hand) → get_elem? xs id ≡ some v → g v ≤ sum_by g xs
part_le g [] id v e = absurd (some-ne-none v (sym e))
part_le g (y ∷ ys) zero v e = let same : g y ≡ g v = ap g (some-injective y v e) in omega (arith, sum_by-cons g y ys)
part_le g (y ∷ ys) (suc id) v e = omega (arith, sum_by-cons g y ys, part_le g ys id v e)

-- where g is all in one view, and f is nothing where g is, f is all there too
total_here : (f g : Hand → ℕ) (views : List Hand) (id : ℕ) (v : Hand) → get_elem? views id ≡ some v → sum_by g views ≡ g v → ((i : ℕ) (u : Hand) → get_elem? views i ≡ some u → g u ≡ 0 → f u ≡ 0) → sum_by f views ≡ f v
total_here f g [] id v e all h = absurd (some-ne-none v (sym e))
total_here f g (x ∷ xs) zero v e all h =
    let gx : g x ≡ g v = ap g (some-injective x v e) in
    let fx : f x ≡ f v = ap f (some-injective x v e) in
    let none : sum_by g xs ≡ 0 = omega (arith, sum_by-cons g x xs) in
    omega (arith, sum_by-cons f x xs, total_none f g xs none (λ i u e'. h (suc i) u e'))
  where
    total_none : (f g : Hand → ℕ) (xs : List Hand) → sum_by g xs ≡ 0 → ((i : ℕ) (u : Hand) → get_elem? xs i ≡ some u → g u ≡ 0 → f u ≡ 0) → sum_by f xs ≡ 0
    total_none f g [] z h = refl
    total_none f g (y ∷ ys) z h =
        let s = sum_by-cons g y ys in
        omega (arith, sum_by-cons f y ys, h zero y refl (omega arith), total_none f g ys (omega arith) (λ i u e. h (suc i) u e))
total_here f g (x ∷ xs) (suc id) v e all h =
    let s = sum_by-cons g x xs in
    let at_least : g v ≤ sum_by g xs = part_le g xs id v e in
    omega (arith, sum_by-cons f x xs, h zero x refl (omega arith), total_here f g xs id v e (omega arith) (λ i u e'. h (suc i) u e'))

fair_set : (k : Bounds) (views : List Hand) (id : ℕ) (w : Hand) → ((j : ℕ) (u : Hand) → get_elem? views j ≡ some u → IsFair k u) → IsFair k w → (j : ℕ) (u : Hand) → get_elem? (set views id w) j ≡ some u → IsFair k u
fair_set k views id w others mine j u e =
    ⊎_elim
    (λ (x : (j ≡ id) × (w ≡ u)). subst (IsFair k) x.1 mine)
    (λ (x : (j ≢ id) × (get_elem? views j ≡ some u)). others j u x.1)
    (at_set views id j w u e)

-- the word is at most the requests and the workers
word_le : (k : Bounds) (n : ℕ) (views : List Hand) → IsShared k n views → n ≤ k.requests + k.workers
word_le k n views h =
    let a = total_le (λ v. past k.requests v.drawn) (λ v. v.parts + v.splits) views (λ id v e. let f = (h.each id v e).few_past in omega arith) in
    let b = h.beyond in
    let c = h.whole in
    omega arith

-- while a seat may draw, the word is less
word_lt : (k : Bounds) (id n : ℕ) (v : Hand) (views : List Hand) → past k.requests v.drawn < v.parts → get_elem? views id ≡ some v → IsShared k n views → n < k.requests + k.workers
word_lt k id n v views may at h =
    let all = total_set (λ u. past k.requests u.drawn) views id v spent at in
    let parts = total_set (λ u. u.parts + u.splits) views id v spent at in
    let rest = total_le (λ u. past k.requests u.drawn) (λ u. u.parts + u.splits) (set views id spent)
    (λ j u e. let f = (fair_set k views id spent h.each (record { few_past = omega arith; empty = λ none. refl; none_left = λ none. refl }) j u e).few_past in omega arith) in
    let b = h.beyond in
    let c = h.whole in
    omega arith

-- a number from the word on is in no seat's list
none_yet : (k : Bounds) (id n : ℕ) (v : Hand) (views : List Hand) → get_elem? views id ≡ some v → IsShared k n views → AllBelow n v.drawn
none_yet k id n v views at h x le =
    let p = part_le (λ u. times x u.drawn) views id v at in
    let o = h.once x in
    let z : once_below x n ≡ 0 = grind (arith, nat_tests) in
    omega arith

once_more : (x n : ℕ) → once_below x (n + 1) ≡ once_below x n + cond (n == x) 1 0
once_more x n = grind (arith, nat_tests)

-- a seat that stands for all has each number below the word
all_here : (k : Bounds) (id n : ℕ) (v : Hand) (views : List Hand) → v.parts + v.splits ≡ k.workers → get_elem? views id ≡ some v → IsShared k n views → HasEachBelow n v.drawn
all_here k id n v views whole at h x =
    sym (total_here (λ u. times x u.drawn) (λ u. u.parts + u.splits) views id v at (h.whole ∙ sym whole)
    (λ i u e none. ap (times x) ((h.each i u e).empty (omega arith)))) ∙ h.once x

number_more : (v : Hand) (n : ℕ) → HasEachBelow n v.drawn → HasEachBelow (n + 1) (after_draw v n).drawn
number_more v n each x =
    let t : times x (after_draw v n).drawn ≡ times x v.drawn + cond (n == x) 1 0 = sum_by_push (λ y. cond (y == x) 1 0) v.drawn n in
    let o = once_more x n in
    let e = each x in
    omega arith

draws_shared : (k : Bounds) (id n : ℕ) (v : Hand) (views : List Hand) → past k.requests v.drawn < v.parts → get_elem? views id ≡ some v → IsShared k n views → IsShared k (n + 1) (set views id (after_draw v n))
draws_shared k id n v views may at h =
    let w = after_draw v n in
    let more : past k.requests w.drawn ≡ past k.requests v.drawn + cond (nat_le k.requests n) 1 0 = sum_by_push (λ y. cond (nat_le k.requests y) 1 0) v.drawn n in
    let one : cond (nat_le k.requests n) 1 0 ≤ 1 = grind (arith, nat_tests) in
    let step : n + 1 - k.requests ≡ n - k.requests + cond (nat_le k.requests n) 1 0 = grind (arith, nat_tests) in
    record {
      whole = let s = total_set (λ u. u.parts + u.splits) views id v w at in let p = h.whole in omega arith;
      once = λ x.
          let s = total_set (λ u. times x u.drawn) views id v w at in
          let p = h.once x in
          let t : times x w.drawn ≡ times x v.drawn + cond (n == x) 1 0 = sum_by_push (λ y. cond (y == x) 1 0) v.drawn n in
          let o = once_more x n in
          omega arith;
      beyond = let s = total_set (λ u. past k.requests u.drawn) views id v w at in let p = h.beyond in omega arith;
      each = fair_set k views id w h.each record {
        few_past = omega arith;
        empty = λ none. absurd (omega arith);
        none_left = λ none. absurd (omega arith);
      };
    }

splits_shared : (k : Bounds) (id n : ℕ) (v : Hand) (views : List Hand) → 0 < v.splits → get_elem? views id ≡ some v → IsShared k n views → IsShared k n (set views id (one_split_less v) ++ new_hand v ∷ [])
splits_shared k id n v views some_left at h =
    let w = one_split_less v in
    let new = new_hand v in
    let has : v.parts ≡ 0 → ⊥ = λ none. let z = (h.each id v at).none_left none in omega arith in
    record {
      whole = let s = total_set (λ u. u.parts + u.splits) views id v w at in let p = h.whole in omega (arith, sum_by_push (λ (u : Hand). u.parts + u.splits) (set views id w) new);
      once = λ x. let s = total_set (λ u. times x u.drawn) views id v w at in let p = h.once x in omega (arith, sum_by_push (λ (u : Hand). times x u.drawn) (set views id w) new);
      beyond = let s = total_set (λ u. past k.requests u.drawn) views id v w at in let p = h.beyond in omega (arith, sum_by_push (λ (u : Hand). past k.requests u.drawn) (set views id w) new);
      each = λ j u e. ⊎_elim
          (λ was. fair_set k views id w h.each (record { few_past = (h.each id v at).few_past; empty = (h.each id v at).empty; none_left = λ none. absurd (has none) }) j u was)
          (λ (same : new ≡ u). subst (IsFair k) same (record { few_past = omega arith; empty = λ none. refl; none_left = λ none. absurd (omega arith) }))
          (at_snoc (set views id w) new u j e);
    }

joins_shared : (k : Bounds) (id n : ℕ) (v : Hand) (other : ℕ) (w : Hand) (views : List Hand) → get_elem? views id ≡ some v → (other ≢ id) → get_elem? (set views id (both v w)) other ≡ some w → IsShared k n views → IsShared k n (set (set views id (both v w)) other spent)
joins_shared k id n v other w views at apart there h =
    let b = both v w in
    let theirs : IsFair k w = ⊎_elim (λ (t : (other ≡ id) × (b ≡ w)). absurd (apart t.0)) (λ (t : (other ≢ id) × (get_elem? views other ≡ some w)). h.each other w t.1) (at_set views id other b w there) in
    let mine = h.each id v at in
    let past_both : past k.requests b.drawn ≡ past k.requests v.drawn + past k.requests w.drawn = sum_by-append (λ y. cond (nat_le k.requests y) 1 0) v.drawn w.drawn in
    record {
      whole = let s = total_set (λ u. u.parts + u.splits) views id v b at in let t = total_set (λ u. u.parts + u.splits) (set views id b) other w spent there in let p = h.whole in omega arith;
      once = λ x. let s = total_set (λ u. times x u.drawn) views id v b at in let t = total_set (λ u. times x u.drawn) (set views id b) other w spent there in let p = h.once x in
          let a : times x b.drawn ≡ times x v.drawn + times x w.drawn = sum_by-append (λ y. cond (y == x) 1 0) v.drawn w.drawn in omega arith;
      beyond = let s = total_set (λ u. past k.requests u.drawn) views id v b at in let t = total_set (λ u. past k.requests u.drawn) (set views id b) other w spent there in let p = h.beyond in omega arith;
      each = fair_set k (set views id b) other spent
          (fair_set k views id b h.each record {
            few_past = let p = mine.few_past in let q = theirs.few_past in omega arith;
            empty = λ none. let e = mine.empty (omega arith) in let f = theirs.empty (omega arith) in ap (λ (xs : List ℕ). xs ++ w.drawn) e ∙ f;
            none_left = λ none. let e = mine.none_left (omega arith) in let f = theirs.none_left (omega arith) in omega arith;
          })
          record { few_past = omega arith; empty = λ none. refl; none_left = λ none. refl };
    }

-- a seat that drew a number of the script may draw again
pub may_again : (v w : Hand) (n requests : ℕ) → DrawsNumber v w n → v.of.requests ≡ requests → n < requests → past v.of.requests v.drawn < v.parts → past w.of.requests w.drawn < w.parts
may_again v w n requests drew is below may =
    let more : past v.of.requests (after_draw v n).drawn ≡ past v.of.requests v.drawn + cond (nat_le v.of.requests n) 1 0 = sum_by_push (λ y. cond (nat_le v.of.requests y) 1 0) v.drawn n in
    let less : n < v.of.requests = omega arith in
    let same : past v.of.requests (after_draw v n).drawn ≡ past v.of.requests v.drawn = more ∙ ap (λ (k : ℕ). past v.of.requests v.drawn + k) (not_past v.of.requests n less) ∙ none_more _ in
    subst (λ (h : Hand). past h.of.requests h.drawn < h.parts) (sym drew.hand) (subst (λ (k : ℕ). k < v.parts) (sym same) may)
  where
    not_past : (r n : ℕ) → n < r → cond {A = ℕ} (nat_le r n) 1 0 ≡ 0
    not_past r n less = grind (arith, nat_tests)

    none_more : (k : ℕ) → k + 0 ≡ k
    none_more k = omega arith

module _ {S : Type 0} where
  -- drawing a number keeps the rule
  pub draws : (k : Bounds) (slots id : ℕ) (me : Me S Hand) (st : Step S) → k.requests < 2 ^ 32 → k.workers ≤ MOST_WORKERS → me.0.of ≡ k → past k.requests me.0.drawn < me.0.parts
      → Allows (Drawn {S = S} k) slots id me 0 (λ n. (n + 1) % 2 ^ 64) (PlaysDraw st me)
  draws k slots id me st small few of may s h len at fits =
      let v = me.0 in
      let n : ℕ = h.0 in
      let w = after_draw v n in
      let bound : n ≤ k.requests + k.workers = word_le k n s.views h.2 in
      let next : (n + 1) % 2 ^ 64 ≡ n + 1 = mod-eq_of_lt (omega arith) in
      let told : DrawsNumber v w n = record {
        hand = refl;
        later = none_yet k id n v s.views at h.2;
        most = subst (λ (b : Bounds). n < b.requests + b.workers) (sym of) (word_lt k id n v s.views may at h.2);
        all = λ whole. number_more v n (all_here k id n v s.views (whole ∙ ap (λ (b : Bounds). b.workers) of) at h.2);
      } in
      subst
      (λ (words : List ℕ). (w : Hand) × (a : Act S) × Valid s.homes me.1 a
      × Drawn k (stepped (record { words = words; homes = s.homes; views = s.views }) 0 ((slice_index words 0 + 1) % 2 ^ 64) id me.1 w a)
      × PlaysDraw st me (slice_index words 0) (w, carried_after me.1 a))
      (sym h.1)
      (w, keeps, tt, (n + 1, ap (λ (m : ℕ). m ∷ []) next, draws_shared k id n v s.views may at h.2), (refl, told))

  -- splitting a seat off keeps the rule
  pub splits : (k : Bounds) (id : ℕ) (v : Hand) → 0 < v.splits → Splits (Drawn {S = S} k) id v (one_split_less v) (new_hand v)
  splits k id v some_left s h at = (h.0, h.1, splits_shared k id h.0 v s.views some_left at h.2)

  -- taking a seat in keeps the rule
  pub joins : (k : Bounds) (id : ℕ) (v : Hand) (other : ℕ) (w : Hand) → Joins (Drawn {S = S} k) id v other w (both v w) spent
  joins k id v other w s h at apart there = (h.0, h.1, joins_shared k id h.0 v other w s.views at apart there h.2)

  -- looking at the word changes nothing
  pub looks : (k : Bounds) (slots id : ℕ) (me : Me S Hand) (st : Step S) → me.0.of ≡ k
      → Allows (Drawn {S = S} k) slots id me 0 (λ n. n) (PlaysLook st me)
  looks k slots id me st of s h len at fits =
      let v = me.0 in
      let workers : v.of.workers ≡ k.workers = ap (λ (b : Bounds). b.workers) of in
      let told : LooksAt v v h.0 = record {
        hand = refl;
        most = let p = part_le (λ u. u.parts + u.splits) s.views id v at in let q = h.2.whole in omega arith;
        all = λ whole. all_here k id h.0 v s.views (whole ∙ workers) at h.2;
      } in
      subst
      (λ (words : List ℕ). (w : Hand) × (a : Act S) × Valid s.homes me.1 a
      × Drawn k (stepped (record { words = words; homes = s.homes; views = s.views }) 0 (slice_index words 0) id me.1 w a)
      × PlaysLook st me (slice_index words 0) (w, carried_after me.1 a))
      (sym h.1)
      (v, keeps, tt, (h.0, refl, subst (IsShared k h.0) (sym (set_again s.views id v at)) h.2), (refl, told))

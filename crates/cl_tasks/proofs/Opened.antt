-- What is still to be recorded: it lessens by a record, and how much it is at most.
use Rattle.std.proofs.Common.{◌≡◌, ◌≤◌, inl, inr, ℕ, ◌+◌, ◌*◌, Bool, true, false, cond, ◌&&◌, ◌||◌, not, if◌then◌else◌, List, [], ◌∷◌, length, Option, Some, None, refl, sym, subst, arith}
use Rattle.std.specs.Prelude.{sum_by, count_by}
use Rattle.std.specs.List.{list_any}
use Rattle.std.proofs.lemmas.List.Sums.{sum_by-cons, sum_by-le-sum_by, count_by-le-length}
use Rattle.cl_classfile.specs.Files.{Name}
use Rattle.cl_model.specs.Homes.{World}
use Rattle.cl_model.specs.Plans.{Plan, edges_of, homes_of, nodes_of, same_ask}
use Rattle.cl_model.specs.States.{State, recorded_definer}
use Rattle.cl_model.specs.Works.{Ask}
use Rattle.cl_model.proofs.Marks.{In}
use Rattle.cl_tasks.specs.Calls.{is_own_home, own_homes, record_calls, is_unrecorded, is_to_record, if_so, open_calls}

-- ---- numbers that count where a test passes

so_le : (b d : Bool) (n : ℕ) → (b ≡ true → d ≡ true) → if_so b n ≤ if_so d n
so_le true true n h = omega arith
so_le true false n h = absurd (let e : false ≡ true = h refl in cc)
so_le false true n h = omega arith
so_le false false n h = omega arith

so_falls : (b d : Bool) (n : ℕ) → b ≡ false → d ≡ true → if_so b n + n ≤ if_so d n
so_falls true d n e f = absurd cc
so_falls false true n e f = omega arith
so_falls false false n e f = absurd cc

so_most : (b : Bool) (n : ℕ) → if_so b n ≤ n
so_most true n = omega arith
so_most false n = omega arith

-- the sum of such numbers
abbrev Sum : {A : Type 0} → (A → ℕ) → (A → Bool) → List A → ℕ
Sum calls p xs = sum_by (λ x. if_so (p x) (calls x)) xs

sums_le : {A : Type 0} (calls : A → ℕ) (p q : A → Bool) (xs : List A) → ((x : A) → q x ≡ true → p x ≡ true) → Sum calls q xs ≤ Sum calls p xs
sums_le {A} calls p q xs h = sum_by-le-sum_by (λ (x : A). if_so (q x) (calls x)) (λ (x : A). if_so (p x) (calls x)) xs (λ x. so_le (q x) (p x) (calls x) (h x))

sums_fall : {A : Type 0} (calls : A → ℕ) (p q : A → Bool) (xs : List A) (x : A) → ((y : A) → q y ≡ true → p y ≡ true) → In x xs → p x ≡ true → q x ≡ false → Sum calls q xs + calls x ≤ Sum calls p xs
sums_fall calls p q [] x h i a b = absurd i
sums_fall {A} calls p q (y ∷ xs) x h (inl e) a b =
    let rest = sums_le calls p q xs h in
    let one : if_so (q y) (calls y) + calls x ≤ if_so (p y) (calls y) = subst (λ (z : A). if_so (q z) (calls z) + calls x ≤ if_so (p z) (calls z)) (sym e) (so_falls (q x) (p x) (calls x) b a) in
    let after : Sum calls q (y ∷ xs) ≡ if_so (q y) (calls y) + Sum calls q xs = sum_by-cons (λ (z : A). if_so (q z) (calls z)) y xs in
    let before : Sum calls p (y ∷ xs) ≡ if_so (p y) (calls y) + Sum calls p xs = sum_by-cons (λ (z : A). if_so (p z) (calls z)) y xs in
    omega arith
sums_fall {A} calls p q (y ∷ xs) x h (inr i) a b =
    let rest = sums_fall calls p q xs x h i a b in
    let one = so_le (q y) (p y) (calls y) (h y) in
    let after : Sum calls q (y ∷ xs) ≡ if_so (q y) (calls y) + Sum calls q xs = sum_by-cons (λ (z : A). if_so (q z) (calls z)) y xs in
    let before : Sum calls p (y ∷ xs) ≡ if_so (p y) (calls y) + Sum calls p xs = sum_by-cons (λ (z : A). if_so (p z) (calls z)) y xs in
    omega arith

-- ---- what is open lessens

-- what is open in the second way is open in the first: no more is left
pub open_le : (w : World) (p : Plan) (s t : State) (absent less hand more : List Ask) → ((a : Ask) → is_to_record t less more a ≡ true → is_to_record s absent hand a ≡ true) → open_calls w p t less more ≤ open_calls w p s absent hand
open_le w p s t absent less hand more h =
    let nodes = sums_le (record_calls w) (is_to_record s absent hand) (is_to_record t less more) (nodes_of w p) h in
    let homes = sums_le (edges_of w) (is_to_record s absent hand) (is_to_record t less more) (homes_of w p) h in
    omega arith

-- and without one of the nodes, its records less
pub node_falls : (w : World) (p : Plan) (s t : State) (absent less hand more : List Ask) → ((a : Ask) → is_to_record t less more a ≡ true → is_to_record s absent hand a ≡ true) → (a : Ask) → In a (nodes_of w p) → is_to_record s absent hand a ≡ true → is_to_record t less more a ≡ false
    → open_calls w p t less more + record_calls w a ≤ open_calls w p s absent hand
node_falls w p s t absent less hand more h a i before after =
    let nodes = sums_fall (record_calls w) (is_to_record s absent hand) (is_to_record t less more) (nodes_of w p) a h i before after in
    let homes = sums_le (edges_of w) (is_to_record s absent hand) (is_to_record t less more) (homes_of w p) h in
    omega arith

-- and without one of the homes, the looks for its supertypes less too
pub home_falls : (w : World) (p : Plan) (s t : State) (absent less hand more : List Ask) → ((a : Ask) → is_to_record t less more a ≡ true → is_to_record s absent hand a ≡ true) → (a : Ask) → In a (nodes_of w p) → In a (homes_of w p) → is_to_record s absent hand a ≡ true → is_to_record t less more a ≡ false
    → open_calls w p t less more + (record_calls w a + edges_of w a) ≤ open_calls w p s absent hand
home_falls w p s t absent less hand more h a i j before after =
    let nodes = sums_fall (record_calls w) (is_to_record s absent hand) (is_to_record t less more) (nodes_of w p) a h i before after in
    let homes = sums_fall (edges_of w) (is_to_record s absent hand) (is_to_record t less more) (homes_of w p) a h j before after in
    omega arith

-- ---- what is recorded stays so

none_at : (o : Option ℕ) → (elim o as (λ x. Bool) [
  | None ↦ true
  | Some place ↦ false
]) ≡ true → o ≡ None
none_at None h = refl
none_at (Some place) h = absurd cc

at_none : (o : Option ℕ) → o ≡ None → (elim o as (λ x. Bool) [
  | None ↦ true
  | Some place ↦ false
]) ≡ true
at_none None h = refl
at_none (Some place) h = absurd cc

still_open : (b c d e : Bool) → (c ≡ true → d ≡ true) → ((b || c) && e) ≡ true → ((b || d) && e) ≡ true
still_open true c d e h k = k
still_open false true d e h k = subst (λ (x : Bool). (x && e) ≡ true) (sym (h refl)) k
still_open false false d e h k = absurd cc

-- where no fewer names are recorded, no more is left
pub open_lessens : (w : World) (p : Plan) (s t : State) (absent hand : List Ask) → ((l : ℕ) (n : Name) → recorded_definer t.records l n ≡ None → recorded_definer s.records l n ≡ None) → open_calls w p t absent hand ≤ open_calls w p s absent hand
open_lessens w p s t absent hand h =
    open_le w p s t absent absent hand hand (λ a. still_open (list_any (same_ask a) absent) (is_unrecorded t a) (is_unrecorded s a) (not (list_any (same_ask a) hand))
    (λ e. at_none (recorded_definer s.records a.loader a.name) (h a.loader a.name (none_at (recorded_definer t.records a.loader a.name) e))))

-- ---- how much is open at most

record_most : (b o : Bool) → if_so b (if o then 1 else 2) + cond o 1 0 ≤ 2
record_most true true = omega arith
record_most true false = omega arith
record_most false true = omega arith
record_most false false = omega arith

records_most : (w : World) (p : Ask → Bool) (xs : List Ask) → Sum (record_calls w) p xs + count_by (is_own_home w) xs ≤ 2 * length xs
records_most w p [] = omega arith
records_most w p (x ∷ xs) =
    let rest = records_most w p xs in
    let one : if_so (p x) (record_calls w x) + cond (is_own_home w x) 1 0 ≤ 2 = record_most (p x) (is_own_home w x) in
    let sum : Sum (record_calls w) p (x ∷ xs) ≡ if_so (p x) (record_calls w x) + Sum (record_calls w) p xs = sum_by-cons (λ (z : Ask). if_so (p z) (record_calls w z)) x xs in
    let count : count_by (is_own_home w) (x ∷ xs) ≡ cond (is_own_home w x) 1 0 + count_by (is_own_home w) xs = sum_by-cons (λ (z : Ask). cond (is_own_home w z) 1 0) x xs in
    omega arith

-- at most two calls for each node, one less for a home, and the looks for all supertypes
pub open_most : (w : World) (p : Plan) (s : State) (absent hand : List Ask) → open_calls w p s absent hand + own_homes w p ≤ 2 * length (nodes_of w p) + sum_by (edges_of w) (homes_of w p)
open_most w p s absent hand =
    let nodes = records_most w (is_to_record s absent hand) (nodes_of w p) in
    let homes : Sum (edges_of w) (is_to_record s absent hand) (homes_of w p) ≤ sum_by (edges_of w) (homes_of w p) =
    sum_by-le-sum_by (λ (a : Ask). if_so (is_to_record s absent hand a) (edges_of w a)) (edges_of w) (homes_of w p) (λ a. so_most (is_to_record s absent hand a) (edges_of w a)) in
    omega arith

-- no more homes than nodes
pub own_within : (w : World) (p : Plan) → own_homes w p ≤ length (nodes_of w p)
own_within w p = count_by-le-length (is_own_home w) (nodes_of w p)

-- Reading many of a structure, one after the other, as a loop does.
use Rattle.std.proofs.Common.{◌≡◌, ℕ, suc, ◌-◌, ◌+◌, ◌≤◌, ◌<◌, List, [], ◌∷◌, ◌++◌, Result, Ok, Err, refl, sym, ap, ◌∙◌, append_assoc, arith}
use Rattle.std.proofs.lemmas.List.{append-nil}
use Rattle.cl_classfile.specs.declared.fault.Fault.{Fault}
use Rattle.cl_classfile.specs.declared.fault.ReadError.{ReadError}
use Rattle.cl_classfile.specs.declared.fault.ReadError.TheVariants as errors
use Rattle.cl_names.specs.Steps.{◌>>=◌}
use Rattle.cl_classfile.specs.Checking.{GivesFault}
use Rattle.cl_classfile.specs.Reading.{Reader, many_at, each_at}

-- what was read before, and what is still read
abbrev pub with_front : {A : Type 0} → List A → Result (List A × List ℕ) Fault → Result (List A × List ℕ) Fault
with_front front read = read >>= λ x. Ok (front ++ x.0, x.1)

regroup : {A : Type 0} (front : List A) (n : A) (read : Result (List A × List ℕ) Fault) → with_front front (read >>= λ x. Ok (n ∷ x.0, x.1)) ≡ with_front (front ++ n ∷ []) read
regroup {A} front n (Ok x) = ap (λ (ns : List A). Ok (ns, x.1)) (simp append_assoc)
regroup front n (Err f) = refl

pub goes_on : {C A : Type 0} (step : C → Reader A) (next : C → A → C) (front : List A) (count i : ℕ) (c : C) (bytes : List ℕ) (n : A) (after : List ℕ) (total : Result (List A × List ℕ) Fault) → i < count → step c bytes ≡ Ok (n, after)
    → with_front front (many_at step next (count - i) c bytes) ≡ total → with_front (front ++ n ∷ []) (many_at step next (count - (i + 1)) (next c n) after) ≡ total
unfolding many_at
goes_on step next front count i c bytes n after total lt h so_far =
    let k : count - i ≡ suc (count - (i + 1)) = omega arith in
    let one : with_front front (many_at step next (count - i) c bytes) ≡ with_front (front ++ n ∷ []) (many_at step next (count - (i + 1)) (next c n) after) = rw (k, h) (regroup front n (many_at step next (count - (i + 1)) (next c n) after)) in
    sym one ∙ so_far

pub ends : {C A : Type 0} (step : C → Reader A) (next : C → A → C) (f : Fault) (front : List A) (count i : ℕ) (c : C) (bytes : List ℕ) (total : Result (List A × List ℕ) Fault) → i < count → step c bytes ≡ Err f
    → with_front front (many_at step next (count - i) c bytes) ≡ total → total ≡ Err f
unfolding many_at
ends step next f front count i c bytes total lt h so_far =
    let k : count - i ≡ suc (count - (i + 1)) = omega arith in
    let one : with_front front (many_at step next (count - i) c bytes) ≡ Err f = rw (k, h) refl in
    sym so_far ∙ one

pub is_done : {C A : Type 0} (step : C → Reader A) (next : C → A → C) (front : List A) (count i : ℕ) (c : C) (bytes : List ℕ) (total : Result (List A × List ℕ) Fault) → count ≤ i → with_front front (many_at step next (count - i) c bytes) ≡ total → total ≡ Ok (front, bytes)
unfolding many_at
is_done {A = A} step next front count i c bytes total le so_far =
    let k : count - i ≡ 0 = omega arith in
    let one : with_front front (many_at step next (count - i) c bytes) ≡ Ok (front, bytes) = rw k (ap (λ (ns : List A). Ok (ns, bytes)) (append-nil front)) in
    sym so_far ∙ one

with_none : {A : Type 0} (read : Result (List A × List ℕ) Fault) → with_front [] read ≡ read
with_none (Ok x) = refl
with_none (Err f) = refl

pub starts : {C A : Type 0} (step : C → Reader A) (next : C → A → C) (count : ℕ) (c : C) (bytes : List ℕ) → with_front [] (many_at step next (count - 0) c bytes) ≡ many_at step next count c bytes
starts step next count c bytes = let k : count - 0 ≡ count = omega arith in rw k (with_none (many_at step next count c bytes))

-- ---- the same, where each is read the same way

pub all_start : {A : Type 0} (r : Reader A) (count : ℕ) (bytes : List ℕ) → with_front [] (each_at r (count - 0) bytes) ≡ each_at r count bytes
all_start r count bytes = starts {C = ℕ} (λ i. r) (λ i a. i) count 0 bytes

pub all_go_on : {A : Type 0} (r : Reader A) (front : List A) (count i : ℕ) (bytes : List ℕ) (n : A) (after : List ℕ) (total : Result (List A × List ℕ) Fault) → i < count → r bytes ≡ Ok (n, after)
    → with_front front (each_at r (count - i) bytes) ≡ total → with_front (front ++ n ∷ []) (each_at r (count - (i + 1)) after) ≡ total
all_go_on r front count i bytes n after total lt h so_far = goes_on {C = ℕ} (λ i. r) (λ i a. i) front count i 0 bytes n after total lt h so_far

pub all_end : {A : Type 0} (r : Reader A) (f : Fault) (front : List A) (count i : ℕ) (bytes : List ℕ) (total : Result (List A × List ℕ) Fault) → i < count → r bytes ≡ Err f
    → with_front front (each_at r (count - i) bytes) ≡ total → total ≡ Err f
all_end r f front count i bytes total lt h so_far = ends {C = ℕ} (λ i. r) (λ i a. i) f front count i 0 bytes total lt h so_far

pub all_done : {A : Type 0} (r : Reader A) (front : List A) (count i : ℕ) (bytes : List ℕ) (total : Result (List A × List ℕ) Fault) → count ≤ i → with_front front (each_at r (count - i) bytes) ≡ total → total ≡ Ok (front, bytes)
all_done r front count i bytes total le so_far = is_done {C = ℕ} (λ i. r) (λ i a. i) front count i 0 bytes total le so_far

pub all_fail : {A : Type 0} (r : Reader A) (e : ReadError) (front : List A) (count i : ℕ) (bytes : List ℕ) (total : Result (List A × List ℕ) Fault) → i < count → GivesFault e (r bytes)
    → with_front front (each_at r (count - i) bytes) ≡ total → GivesFault e total
all_fail r errors.Memory front count i bytes total lt h so_far = tt
all_fail r (errors.Fault f) front count i bytes total lt h so_far = all_end r f front count i bytes total lt h so_far

-- A reader and a spelling that undo each other, and how they are put together.
use Rattle.std.proofs.Common.{◌≡◌, ℕ, zero, suc, ◌+◌, ◌^◌, ◌<◌, ◌≤◌, Bool, true, false, cond, ltb, ◌&&◌, List, [], ◌∷◌, ◌++◌, length, get_or, take, drop, Result, Ok, Err, refl, sym, ap, subst, ◌∙◌, append_assoc, arith, inl, inr}
use Rattle.std.specs.Int.{Width, w16, w32, w64, byte_len, from_be_bytes, to_be_bytes}
use Rattle.std.specs.List.{flat_map, AllByRecursion}
use Rattle.std.proofs.lemmas.Bool.{cases_lt, ltb-false, le-ltb}
use Rattle.std.proofs.lemmas.List.{take_at, drop_at, take-append-drop, length-append, length-take, get_or-drop, get_or-take, get_or_past}
use Rattle.std.proofs.lemmas.List.Concat.{flat_map-cons}
use Rattle.std.proofs.lemmas.Nat.{be_bytes_2, be_bytes_4, be_bytes_8, from_be_bytes-to_be_bytes_2, from_be_bytes-to_be_bytes_4, from_be_bytes-to_be_bytes_8}
use Rattle.cl_classfile.specs.declared.fault.Fault.{Fault}
use Rattle.cl_classfile.specs.declared.fault.Fault.TheVariants.{Truncated}
use Rattle.cl_names.specs.Steps.{◌>>=◌}
use Rattle.cl_classfile.specs.Reading.{Reader, many_at, number_at, then_at, test_at, map_at, bytes_at, sized_at}

abbrev pub IsBytes : List ℕ → Type 0
IsBytes bytes = (i : ℕ) → get_or bytes i 0 < 256

pub IsBytes-drop : (n : ℕ) (bytes : List ℕ) → IsBytes bytes → IsBytes (drop n bytes)
IsBytes-drop n bytes h i = rw get_or-drop (h (n + i))

pub IsBytes-take : (n : ℕ) (bytes : List ℕ) → IsBytes bytes → IsBytes (take n bytes)
IsBytes-take n bytes h i =
    elim (cases_lt i n) [
      | inl lt ↦ rw (get_or-take n bytes i 0 lt) (h i)
      | inr le ↦ rw (get_or_past (take n bytes) i 0 (omega (arith, length-take n bytes))) (omega arith)
    ]

-- the value of a step that did not fail
pub bind_ok : {A B : Type 0} (r : Result A Fault) (f : A → Result B Fault) (y : B) → (r >>= f) ≡ Ok y → (x : A) × (r ≡ Ok x) × (f x ≡ Ok y)
bind_ok (Ok x) f y e = (x, refl, e)
bind_ok (Err d) f y e = absurd cc

-- a test that did not fail
pub guard_ok : {A : Type 0} (b : Bool) (d : Fault) (x y : A) → cond b (Err d) (Ok x) ≡ Ok y → (b ≡ false) × (x ≡ y)
guard_ok true d x y e = absurd cc
guard_ok false d x y e = (refl, cc)

pub test_ok : {A : Type 0} (b : Bool) (d : Fault) (x y : A) → cond b (Ok x) (Err d) ≡ Ok y → (b ≡ true) × (x ≡ y)
test_ok true d x y e = (refl, cc)
test_ok false d x y e = absurd cc

pub ok_is : {A : Type 0} (x y : A) → (let r : Result A Fault = Ok x in r) ≡ Ok y → x ≡ y
ok_is x y e = cc

pub both : (a b : Bool) → a && b ≡ true → (a ≡ true) × (b ≡ true)
both true true e = (refl, refl)
both true false e = absurd cc
both false b e = absurd cc

-- what a reader took from the front
pub record Takes (bytes text rest : List ℕ) : Type 0 where
  pub parts : bytes ≡ text ++ rest
  pub rest_fits : IsBytes rest

pub Takes-then : (a x b y c : List ℕ) → Takes a x b → Takes b y c → Takes a (x ++ y) c
Takes-then a x b y c p q = record { parts = p.parts ∙ ap (λ (t : List ℕ). x ++ t) q.parts ∙ sym (append_assoc x y c); rest_fits = q.rest_fits }

-- what a reader takes is spelled so, and what is spelled so it takes
pub record IsCodec {A : Type 0} (read : Reader A) (spell : A → List ℕ) (Fits : A → Type 0) : Type 0 where
  pub takes : (bytes : List ℕ) (x : A × List ℕ) → IsBytes bytes → read bytes ≡ Ok x → Takes bytes (spell x.0) x.1 × Fits x.0
  pub again : (x : A) (rest : List ℕ) → Fits x → read (spell x ++ rest) ≡ Ok (x, rest)

-- ---- numbers

pub record IsWide (w : Width) (limit : ℕ) : Type 0 where
  pub len : (n : ℕ) → length (to_be_bytes w n) ≡ byte_len w
  pub back : (bytes : List ℕ) → length bytes ≡ byte_len w → IsBytes bytes → to_be_bytes w (from_be_bytes w bytes) ≡ bytes
  pub again : (n : ℕ) → n < limit → from_be_bytes w (to_be_bytes w n) ≡ n
  pub below : (bytes : List ℕ) → IsBytes bytes → from_be_bytes w bytes < limit

wide16 : IsWide w16 (2 ^ 16)
wide16 = record {
  len = λ n. refl;
  back = λ bytes len fits. be_bytes_2 bytes _ len fits refl;
  again = λ n lt. from_be_bytes-to_be_bytes_2 n lt;
  below = λ bytes fits. omega (arith, fits 0, fits 1);
}

wide32 : IsWide w32 (2 ^ 32)
wide32 = record {
  len = λ n. refl;
  back = λ bytes len fits. be_bytes_4 bytes _ len fits refl;
  again = λ n lt. from_be_bytes-to_be_bytes_4 n lt;
  below = λ bytes fits. omega (arith, fits 0, fits 1, fits 2, fits 3);
}

wide64 : IsWide w64 (2 ^ 64)
wide64 = record {
  len = λ n. refl;
  back = λ bytes len fits. be_bytes_8 bytes _ len fits refl;
  again = λ n lt. from_be_bytes-to_be_bytes_8 n lt;
  below = λ bytes fits. omega (arith, fits 0, fits 1, fits 2, fits 3, fits 4, fits 5, fits 6, fits 7);
}

number : (w : Width) (limit : ℕ) → IsWide w limit → IsCodec (number_at w) (to_be_bytes w) (λ n. n < limit)
number w limit wide = record {
  takes = λ bytes x fits e.
      let g = guard_ok (ltb (length bytes) (byte_len w)) Truncated (from_be_bytes w (take (byte_len w) bytes), drop (byte_len w) bytes) x e in
      let long : byte_len w ≤ length bytes = ltb-false _ _ g.0 in
      let front : to_be_bytes w (from_be_bytes w (take (byte_len w) bytes)) ≡ take (byte_len w) bytes = wide.back (take (byte_len w) bytes) (omega (arith, length-take (byte_len w) bytes)) (IsBytes-take (byte_len w) bytes fits) in
      subst (λ (y : ℕ × List ℕ). Takes bytes (to_be_bytes w y.0) y.1 × (y.0 < limit)) g.1
      (record { parts = rw front (sym (take-append-drop (byte_len w) bytes)); rest_fits = IsBytes-drop (byte_len w) bytes fits }, wide.below (take (byte_len w) bytes) (IsBytes-take (byte_len w) bytes fits));
  again = λ n rest lt.
      let len = wide.len n in
      let long : ltb (length (to_be_bytes w n ++ rest)) (byte_len w) ≡ false = le-ltb _ _ (omega (arith, length-append (to_be_bytes w n) rest)) in
      rw (long, take_at (to_be_bytes w n) rest (byte_len w) len, drop_at (to_be_bytes w n) rest (byte_len w) len, wide.again n lt) refl;
}

pub number16 : IsCodec (number_at w16) (to_be_bytes w16) (λ n. n < 2 ^ 16)
number16 = number w16 (2 ^ 16) wide16

pub number32 : IsCodec (number_at w32) (to_be_bytes w32) (λ n. n < 2 ^ 32)
number32 = number w32 (2 ^ 32) wide32

pub number64 : IsCodec (number_at w64) (to_be_bytes w64) (λ n. n < 2 ^ 64)
number64 = number w64 (2 ^ 64) wide64

pub bytes_of : (n : ℕ) → IsCodec (bytes_at n) (λ t. t) (λ t. length t ≡ n)
bytes_of n = record {
  takes = λ bytes x fits e.
      let g = guard_ok (ltb (length bytes) n) Truncated (take n bytes, drop n bytes) x e in
      let long : n ≤ length bytes = ltb-false _ _ g.0 in
      subst (λ (y : List ℕ × List ℕ). Takes bytes y.0 y.1 × (length y.0 ≡ n)) g.1 (record { parts = sym (take-append-drop n bytes); rest_fits = IsBytes-drop n bytes fits }, omega (arith, length-take n bytes));
  again = λ t rest len.
      let long : ltb (length (t ++ rest)) n ≡ false = le-ltb _ _ (omega (arith, length-append t rest)) in
      rw (long, take_at t rest n len, drop_at t rest n len) refl;
}

-- ---- put together

pub one_then : {A B : Type 0} (r : Reader A) (q : A → Reader B) (s : A → List ℕ) (t : A → B → List ℕ) (F : A → Type 0) (G : A → B → Type 0)
    → IsCodec r s F → ((a : A) → IsCodec (q a) (t a) (G a)) → IsCodec (then_at r q) (λ p. s p.0 ++ t p.0 p.1) (λ p. F p.0 × G p.0 p.1)
one_then {A} {B} r q s t F G first second = record {
  takes = λ bytes x fits e.
      let a = bind_ok (r bytes) (λ y. q y.0 y.1 >>= λ z. Ok ((y.0, z.0), z.1)) x e in
      let b = bind_ok (q a.0.0 a.0.1) (λ z. Ok ((a.0.0, z.0), z.1)) x a.2 in
      let one = first.takes bytes a.0 fits a.1 in
      let two = (second a.0.0).takes a.0.1 b.0 one.0.rest_fits b.1 in
      subst (λ (y : (A × B) × List ℕ). Takes bytes (s y.0.0 ++ t y.0.0 y.0.1) y.1 × (F y.0.0 × G y.0.0 y.0.1)) (ok_is ((a.0.0, b.0.0), b.0.1) x b.2)
      (Takes-then bytes (s a.0.0) a.0.1 (t a.0.0 b.0.0) b.0.1 one.0 two.0, (one.1, two.1));
  again = λ p rest h.
      rw (append_assoc (s p.0) (t p.0 p.1) rest, first.again p.0 (t p.0 p.1 ++ rest) h.0, (second p.0).again p.1 rest h.1) refl;
}

-- one structure, and then another
pub also : {A B : Type 0} (r : Reader A) (q : Reader B) (s : A → List ℕ) (t : B → List ℕ) (F : A → Type 0) (G : B → Type 0) → IsCodec r s F → IsCodec q t G → IsCodec (then_at r (λ a. q)) (λ p. s p.0 ++ t p.1) (λ p. F p.0 × G p.1)
also r q s t F G first second = one_then r (λ a. q) s (λ a. t) F (λ a. G) first (λ a. second)

pub tested : {A : Type 0} (r : Reader A) (s : A → List ℕ) (F : A → Type 0) (test : A → Bool) (fault : Fault) → IsCodec r s F → IsCodec (test_at r test fault) s (λ a. F a × (test a ≡ true))
tested {A} r s F test fault c = record {
  takes = λ bytes x fits e.
      let a = bind_ok (r bytes) (λ y. cond (test y.0) (Ok y) (Err fault)) x e in
      let g = test_ok (test a.0.0) fault a.0 x a.2 in
      let one = c.takes bytes a.0 fits a.1 in
      subst (λ (y : A × List ℕ). Takes bytes (s y.0) y.1 × (F y.0 × (test y.0 ≡ true))) g.1 (one.0, (one.1, g.0));
  again = λ a rest h. rw (c.again a rest h.0, h.1) refl;
}

-- a field seen in another way
pub mapped : {A B : Type 0} (r : Reader A) (s : A → List ℕ) (F : A → Type 0) (view : A → B) (back : B → A) (t : B → List ℕ) (G : B → Type 0) → IsCodec r s F
    → ((a : A) → F a → (s a ≡ t (view a)) × G (view a)) → ((b : B) → G b → F (back b) × (s (back b) ≡ t b) × (view (back b) ≡ b)) → IsCodec (map_at r view) t G
mapped {A} {B} r s F view back t G c there again = record {
  takes = λ bytes x fits e.
      let a = bind_ok (r bytes) (λ y. Ok (view y.0, y.1)) x e in
      let one = c.takes bytes a.0 fits a.1 in
      let k = there a.0.0 one.1 in
      subst (λ (y : B × List ℕ). Takes bytes (t y.0) y.1 × G y.0) (ok_is (view a.0.0, a.0.1) x a.2)
      (subst (λ (text : List ℕ). Takes bytes text a.0.1) k.0 one.0, k.1);
  again = λ b rest h.
      let k = again b h in
      let one : r (t b ++ rest) ≡ Ok (back b, rest) = ap (λ (text : List ℕ). r (text ++ rest)) (sym k.1) ∙ c.again (back b) rest k.0 in
      rw one (ap (λ (y : B). let z : Result (B × List ℕ) Fault = Ok (y, rest) in z) k.2);
}

-- each of many fits where it stands
abbrev pub EachFits : {C A : Type 0} → (C → A → Type 0) → (C → A → C) → C → List A → Type 0
EachFits Fits next c [] = Unit {0}
EachFits Fits next c (x ∷ xs) = Fits c x × EachFits Fits next (next c x) xs

many_take : {C A : Type 0} (step : C → Reader A) (next : C → A → C) (spell : A → List ℕ) (F : C → A → Type 0) → ((c : C) → IsCodec (step c) spell (F c)) → (n : ℕ) (c : C) (bytes : List ℕ) (x : List A × List ℕ)
    → IsBytes bytes → many_at step next n c bytes ≡ Ok x → Takes bytes (flat_map spell x.0) x.1 × ((length x.0 ≡ n) × EachFits F next c x.0)
unfolding many_at
many_take {A = A} step next spell F each zero c bytes x fits e =
    subst (λ (y : List A × List ℕ). Takes bytes (flat_map spell y.0) y.1 × ((length y.0 ≡ 0) × EachFits F next c y.0)) (ok_is ([], bytes) x e) (record { parts = refl; rest_fits = fits }, (refl, tt))
many_take {A = A} step next spell F each (suc n) c bytes x fits e =
    let a = bind_ok (step c bytes) (λ first. many_at step next n (next c first.0) first.1 >>= λ others. Ok (first.0 ∷ others.0, others.1)) x e in
    let b = bind_ok (many_at step next n (next c a.0.0) a.0.1) (λ others. Ok (a.0.0 ∷ others.0, others.1)) x a.2 in
    let first = (each c).takes bytes a.0 fits a.1 in
    let second = many_take step next spell F each n (next c a.0.0) a.0.1 b.0 first.0.rest_fits b.1 in
    let both = Takes-then bytes (spell a.0.0) a.0.1 (flat_map spell b.0.0) b.0.1 first.0 second.0 in
    let made : List A × List ℕ = (a.0.0 ∷ b.0.0, b.0.1) in
    subst (λ (y : List A × List ℕ). Takes bytes (flat_map spell y.0) y.1 × ((length y.0 ≡ suc n) × EachFits F next c y.0)) (ok_is made x b.2) (rw flat_map-cons both, (ap suc second.1.0, (first.1, second.1.1)))

many_again : {C A : Type 0} (step : C → Reader A) (next : C → A → C) (spell : A → List ℕ) (F : C → A → Type 0) → ((c : C) → IsCodec (step c) spell (F c)) → (xs : List A) (c : C) (rest : List ℕ)
    → EachFits F next c xs → many_at step next (length xs) c (flat_map spell xs ++ rest) ≡ Ok (xs, rest)
unfolding many_at
many_again step next spell F each [] c rest fits = refl
many_again step next spell F each (x ∷ xs) c rest fits =
    let regrouped : flat_map spell (x ∷ xs) ++ rest ≡ spell x ++ (flat_map spell xs ++ rest) = ap (λ (text : List ℕ). text ++ rest) (flat_map-cons spell x xs) ∙ append_assoc (spell x) (flat_map spell xs) rest in
    ap (many_at step next (suc (length xs)) c) regrouped ∙ rw ((each c).again x (flat_map spell xs ++ rest) fits.0, many_again step next spell F each xs (next c x) rest fits.1) refl

-- that many of a structure
pub many : {C A : Type 0} (step : C → Reader A) (next : C → A → C) (spell : A → List ℕ) (F : C → A → Type 0) → ((c : C) → IsCodec (step c) spell (F c)) → (n : ℕ) (c : C)
    → IsCodec (many_at step next n c) (flat_map spell) (λ xs. (length xs ≡ n) × EachFits F next c xs)
many step next spell F each n c = record {
  takes = λ bytes x fits e. many_take step next spell F each n c bytes x fits e;
  again = λ xs rest h. ap (λ (k : ℕ). many_at step next k c (flat_map spell xs ++ rest)) (sym h.0) ∙ many_again step next spell F each xs c rest h.1;
}

-- where each fits wherever it stands
pub each_of_all : {C A : Type 0} (F : A → Type 0) (next : C → A → C) (c : C) (xs : List A) → AllByRecursion F xs → EachFits (λ place x. F x) next c xs
each_of_all F next c [] h = tt
each_of_all F next c (x ∷ xs) h = (h.0, each_of_all F next (next c x) xs h.1)

pub all_of_each : {C A : Type 0} (F : A → Type 0) (next : C → A → C) (c : C) (xs : List A) → EachFits (λ place x. F x) next c xs → AllByRecursion F xs
all_of_each F next c [] h = tt
all_of_each F next c (x ∷ xs) h = (h.0, all_of_each F next (next c x) xs h.1)

-- a length, and that many bytes
pub sized : (w : Width) (limit : ℕ) → IsCodec (number_at w) (to_be_bytes w) (λ n. n < limit) → IsCodec (sized_at w) (λ t. to_be_bytes w (length t) ++ t) (λ t. length t < limit)
sized w limit number = record {
  takes = λ bytes x fits e.
      let b = bind_ok (number_at w bytes) (λ n. bytes_at n.0 n.1) x e in
      let one = number.takes bytes b.0 fits b.1 in
      let two = (bytes_of b.0.0).takes b.0.1 x one.0.rest_fits b.2 in
      let whole = Takes-then bytes (to_be_bytes w b.0.0) b.0.1 x.0 x.1 one.0 two.0 in
      (subst (λ (k : ℕ). Takes bytes (to_be_bytes w k ++ x.0) x.1) (sym two.1) whole, omega (arith, two.1, one.1));
  again = λ t rest h.
      ap (sized_at w) (append_assoc (to_be_bytes w (length t)) t rest) ∙ rw (number.again (length t) (t ++ rest) h, (bytes_of (length t)).again t rest refl) refl;
}

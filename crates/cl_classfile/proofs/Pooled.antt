-- The pool: each entry is read from what spells it, and the index behind a long or a double is skipped.
use Rattle.std.proofs.Common.{◌≡◌, ◌≢◌, ℕ, suc, ◌+◌, ◌-◌, ◌^◌, ◌<◌, ◌≤◌, Bool, true, false, cond, eqb, leb, ltb, List, [], ◌∷◌, ◌++◌, length, Result, Ok, Err, refl, sym, ap, subst, ◌∙◌, append_assoc, arith}
use Rattle.std.specs.Prelude.{FitsSigned}
use Rattle.std.specs.Int.{Width, w16, w32, w64, to_be_bytes, cast_signed, cast_unsigned}
use Rattle.std.specs.List.{flat_map, AllByRecursion}
use Rattle.std.proofs.lemmas.Bool.{eqb-true, leb-true, ltb-true, lt-ltb}
use Rattle.std.proofs.lemmas.Bool.Decides.{nat_tests}
use Rattle.std.proofs.Math.Facts.{sfits_to_z, to_z-of_z, of_z-to_z, Fits-of_lt, Fits-of_z, Fits-lt-pow}
use mir.Val.{bits}
use Rattle.cl_classfile.specs.declared.entry.Entry.{Entry}
use Rattle.cl_classfile.specs.declared.entry.Entry.TheVariants.{Utf8, Integer, Float, Long, Double, Unusable, Class, String, Fieldref, Methodref, InterfaceMethodref, NameAndType, MethodHandle, MethodType, InvokeDynamic}
use Rattle.cl_classfile.specs.declared.fault.Fault.{Fault}
use Rattle.cl_classfile.specs.declared.fault.Fault.TheVariants.{BadPool}
use Rattle.cl_classfile.specs.Pool.{entry_spelling, two_indices, EntryFits, IsIndex, is_wide, AreSpaced}
use Rattle.cl_classfile.specs.Structure.{pool_spelling, PoolFits}
use Rattle.cl_classfile.specs.Tags as tags
use Rattle.cl_classfile.specs.Reading.{Reader, number_at, test_at, map_at, utf8_at, byte_at, signed_at, two_at, handle_at, tagged_at, entry_at, slot_at, next_place, entries_at, pool_at}
use Rattle.cl_classfile.proofs.Codec.{IsBytes, bind_ok, ok_is, Takes, Takes-then, IsCodec, number16, number32, number64, also, tested, mapped, many, EachFits, sized}

-- ---- what stands behind a tag

text : IsCodec utf8_at (λ t. to_be_bytes w16 (length t) ++ t) (λ t. length t < 2 ^ 16)
unfolding utf8_at
text = sized w16 (2 ^ 16) number16

byte_taken : (bytes : List ℕ) (x : ℕ × List ℕ) → IsBytes bytes → byte_at bytes ≡ Ok x → Takes bytes (x.0 ∷ []) x.1 × (x.0 < 2 ^ 8)
unfolding byte_at
byte_taken [] x fits e = absurd cc
byte_taken (b ∷ rest) x fits e = subst (λ (y : ℕ × List ℕ). Takes (b ∷ rest) (y.0 ∷ []) y.1 × (y.0 < 2 ^ 8)) (ok_is (b, rest) x e) (record { parts = refl; rest_fits = λ i. fits (suc i) }, fits 0)

byte : IsCodec byte_at (λ b. b ∷ []) (λ b. b < 2 ^ 8)
unfolding byte_at
byte = record { takes = byte_taken; again = λ b rest h. refl }

signed : (w : Width) → IsCodec (number_at w) (to_be_bytes w) (λ n. n < 2 ^ bits w) → IsCodec (signed_at w) (λ z. to_be_bytes w (cast_unsigned w z)) (FitsSigned w)
unfolding signed_at
signed w number =
    mapped (number_at w) (to_be_bytes w) (λ n. n < 2 ^ bits w) (cast_signed w) (cast_unsigned w) (λ z. to_be_bytes w (cast_unsigned w z)) (FitsSigned w) number
    (λ n h. (ap (to_be_bytes w) (sym (of_z-to_z (Fits-of_lt h))), sfits_to_z (Fits-of_lt h)))
    (λ z h. (Fits-lt-pow (Fits-of_z h), refl, to_z-of_z h))

signed32 : IsCodec (signed_at w32) (λ z. to_be_bytes w32 (cast_unsigned w32 z)) (FitsSigned w32)
signed32 = signed w32 number32

signed64 : IsCodec (signed_at w64) (λ z. to_be_bytes w64 (cast_unsigned w64 z)) (FitsSigned w64)
signed64 = signed w64 number64

pair : IsCodec two_at (λ p. two_indices p.0 p.1) (λ p. IsIndex p.0 × IsIndex p.1)
unfolding two_at
pair = also (number_at w16) (number_at w16) _ _ _ _ number16 number16

handle : IsCodec handle_at (λ p. (p.0 ∷ []) ++ to_be_bytes w16 p.1) (λ p. (p.0 < 2 ^ 8) × IsIndex p.1)
unfolding handle_at
handle = also byte_at (number_at w16) _ _ _ _ byte number16

-- ---- entries

-- an entry may stand at index i, of which n is the last
record IsPlaced (n i : ℕ) (e : Entry) : Type 0 where
  fits : EntryFits e
  usable : e ≢ Unusable
  room : is_wide e ≡ true → i < n

record IsTaken (n i : ℕ) (bytes : List ℕ) (r : Result (Entry × List ℕ) Fault) : Type 0 where
  taken : (x : Entry × List ℕ) → r ≡ Ok x → Takes bytes (entry_spelling x.0) x.1 × IsPlaced n i x.0

refused : (n i : ℕ) (bytes : List ℕ) (f : Fault) → IsTaken n i bytes (Err f)
refused n i bytes f = record { taken = λ x e. absurd cc }

choose : (n i : ℕ) (bytes : List ℕ) (b : Bool) (x y : Result (Entry × List ℕ) Fault) → (b ≡ true → IsTaken n i bytes x) → IsTaken n i bytes y → IsTaken n i bytes (cond b x y)
choose n i bytes true x y p q = p refl
choose n i bytes false x y p q = q

-- an entry of one kind: behind its tag stands what it is made of
kind : {B : Type 0} (n i tag given : ℕ) (rest : List ℕ) (r : Reader B) (s : B → List ℕ) (F : B → Type 0) (make : B → Entry) → IsCodec r s F
    → ((b : B) → F b → (entry_spelling (make b) ≡ tag ∷ s b) × IsPlaced n i (make b)) → IsBytes (given ∷ rest) → eqb given tag ≡ true → IsTaken n i (given ∷ rest) (map_at r make rest)
kind {B} n i tag given rest r s F make c spelled fits is = record {
  taken = λ x e.
      let a = bind_ok (r rest) (λ b. Ok (make b.0, b.1)) x e in
      let t = c.takes rest a.0 (λ k. fits (suc k)) a.1 in
      let k = spelled a.0.0 t.1 in
      let parts : given ∷ rest ≡ entry_spelling (make a.0.0) ++ a.0.1 = ap (λ (d : ℕ). d ∷ rest) (eqb-true given tag is) ∙ ap (λ (w : List ℕ). tag ∷ w) t.0.parts ∙ ap (λ (w : List ℕ). w ++ a.0.1) (sym k.0) in
      subst (λ (y : Entry × List ℕ). Takes (given ∷ rest) (entry_spelling y.0) y.1 × IsPlaced n i y.0) (ok_is (make a.0.0, a.0.1) x a.2) (record { parts = parts; rest_fits = t.0.rest_fits }, k.1);
}

narrow : (n i : ℕ) (e : Entry) → EntryFits e → e ≢ Unusable → is_wide e ≡ false → IsPlaced n i e
narrow n i e fits usable slim = record { fits = fits; usable = usable; room = λ w. absurd (let f : true ≡ false = sym w ∙ slim in cc) }

tagged_taken : (n i tag : ℕ) (rest : List ℕ) → IsBytes (tag ∷ rest) → IsTaken n i (tag ∷ rest) (tagged_at n i tag rest)
unfolding tagged_at
tagged_taken n i tag rest fits =
    choose n i (tag ∷ rest) (eqb tag tags.utf8) _ _ (kind n i tags.utf8 tag rest utf8_at _ _ (λ t. Utf8 t) text (λ t h. (refl, narrow n i (Utf8 t) h (λ is. absurd cc) refl)) fits)
    (choose n i (tag ∷ rest) (eqb tag tags.integer) _ _ (kind n i tags.integer tag rest (signed_at w32) _ _ (λ v. Integer v) signed32 (λ v h. (refl, narrow n i (Integer v) h (λ is. absurd cc) refl)) fits)
    (choose n i (tag ∷ rest) (eqb tag tags.float) _ _ (kind n i tags.float tag rest (number_at w32) _ _ (λ b. Float b) number32 (λ b h. (refl, narrow n i (Float b) h (λ is. absurd cc) refl)) fits)
    (choose n i (tag ∷ rest) (eqb tag tags.long) _ _ (λ is.
    choose n i (tag ∷ rest) (ltb i n) _ _
    (λ lt. kind n i tags.long tag rest (signed_at w64) _ _ (λ v. Long v) signed64 (λ v h. (refl, record { fits = h; usable = λ k. absurd cc; room = λ w. ltb-true i n lt })) fits is)
    (refused n i (tag ∷ rest) (BadPool i)))
    (choose n i (tag ∷ rest) (eqb tag tags.double) _ _ (λ is.
    choose n i (tag ∷ rest) (ltb i n) _ _
    (λ lt. kind n i tags.double tag rest (number_at w64) _ _ (λ b. Double b) number64 (λ b h. (refl, record { fits = h; usable = λ k. absurd cc; room = λ w. ltb-true i n lt })) fits is)
    (refused n i (tag ∷ rest) (BadPool i)))
    (choose n i (tag ∷ rest) (eqb tag tags.class) _ _ (kind n i tags.class tag rest (number_at w16) _ _ (λ k. Class k) number16 (λ k h. (refl, narrow n i (Class k) h (λ is. absurd cc) refl)) fits)
    (choose n i (tag ∷ rest) (eqb tag tags.string) _ _ (kind n i tags.string tag rest (number_at w16) _ _ (λ k. String k) number16 (λ k h. (refl, narrow n i (String k) h (λ is. absurd cc) refl)) fits)
    (choose n i (tag ∷ rest) (eqb tag tags.fieldref) _ _ (kind n i tags.fieldref tag rest two_at _ _ (λ p. Fieldref p.0 p.1) pair (λ p h. (refl, narrow n i (Fieldref p.0 p.1) h (λ is. absurd cc) refl)) fits)
    (choose n i (tag ∷ rest) (eqb tag tags.methodref) _ _ (kind n i tags.methodref tag rest two_at _ _ (λ p. Methodref p.0 p.1) pair (λ p h. (refl, narrow n i (Methodref p.0 p.1) h (λ is. absurd cc) refl)) fits)
    (choose n i (tag ∷ rest) (eqb tag tags.interface_methodref) _ _ (kind n i tags.interface_methodref tag rest two_at _ _ (λ p. InterfaceMethodref p.0 p.1) pair (λ p h. (refl, narrow n i (InterfaceMethodref p.0 p.1) h (λ is. absurd cc) refl)) fits)
    (choose n i (tag ∷ rest) (eqb tag tags.name_and_type) _ _ (kind n i tags.name_and_type tag rest two_at _ _ (λ p. NameAndType p.0 p.1) pair (λ p h. (refl, narrow n i (NameAndType p.0 p.1) h (λ is. absurd cc) refl)) fits)
    (choose n i (tag ∷ rest) (eqb tag tags.method_handle) _ _ (kind n i tags.method_handle tag rest handle_at _ _ (λ p. MethodHandle p.0 p.1) handle (λ p h. (refl, narrow n i (MethodHandle p.0 p.1) h (λ is. absurd cc) refl)) fits)
    (choose n i (tag ∷ rest) (eqb tag tags.method_type) _ _ (kind n i tags.method_type tag rest (number_at w16) _ _ (λ k. MethodType k) number16 (λ k h. (refl, narrow n i (MethodType k) h (λ is. absurd cc) refl)) fits)
    (choose n i (tag ∷ rest) (eqb tag tags.invoke_dynamic) _ _ (kind n i tags.invoke_dynamic tag rest two_at _ _ (λ p. InvokeDynamic p.0 p.1) pair (λ p h. (refl, narrow n i (InvokeDynamic p.0 p.1) h (λ is. absurd cc) refl)) fits)
    (refused n i (tag ∷ rest) (BadPool i)))))))))))))))

entry_taken : (n i : ℕ) (bytes : List ℕ) → IsBytes bytes → IsTaken n i bytes (entry_at n i bytes)
unfolding entry_at
entry_taken n i [] fits = record { taken = λ x e. absurd cc }
entry_taken n i (tag ∷ rest) fits = tagged_taken n i tag rest fits

entry_again : (n i : ℕ) (e : Entry) (rest : List ℕ) → IsPlaced n i e → entry_at n i (entry_spelling e ++ rest) ≡ Ok (e, rest)
unfolding entry_at tagged_at
entry_again n i (Utf8 t) rest h = rw (text.again t rest h.fits) refl
entry_again n i (Integer v) rest h = rw (signed32.again v rest h.fits) refl
entry_again n i (Float b) rest h = rw (number32.again b rest h.fits) refl
entry_again n i (Long v) rest h = let lt : ltb i n ≡ true = lt-ltb i n (h.room refl) in rw (lt, signed64.again v rest h.fits) refl
entry_again n i (Double b) rest h = let lt : ltb i n ≡ true = lt-ltb i n (h.room refl) in rw (lt, number64.again b rest h.fits) refl
entry_again n i Unusable rest h = absurd (h.usable refl)
entry_again n i (Class k) rest h = rw (number16.again k rest h.fits) refl
entry_again n i (String k) rest h = rw (number16.again k rest h.fits) refl
entry_again n i (Fieldref c p) rest h = rw (pair.again (c, p) rest h.fits) refl
entry_again n i (Methodref c p) rest h = rw (pair.again (c, p) rest h.fits) refl
entry_again n i (InterfaceMethodref c p) rest h = rw (pair.again (c, p) rest h.fits) refl
entry_again n i (NameAndType c p) rest h = rw (pair.again (c, p) rest h.fits) refl
entry_again n i (MethodHandle k r) rest h = rw (handle.again (k, r) rest h.fits) refl
entry_again n i (MethodType k) rest h = rw (number16.again k rest h.fits) refl
entry_again n i (InvokeDynamic c p) rest h = rw (pair.again (c, p) rest h.fits) refl

-- ---- where entries stand

-- behind an entry that takes this index too, or another
abbrev SlotFits : ℕ → ℕ → Bool → Entry → Type 0
SlotFits n i true e = e ≡ Unusable
SlotFits n i false e = IsPlaced n i e

slot_of : (n i : ℕ) (b : Bool) → IsCodec (slot_at n (i, b)) entry_spelling (SlotFits n i b)
unfolding slot_at
slot_of n i true = record {
  takes = λ bytes x fits e.
      subst (λ (y : Entry × List ℕ). Takes bytes (entry_spelling y.0) y.1 × (y.0 ≡ Unusable)) (ok_is (Unusable, bytes) x e) (record { parts = refl; rest_fits = fits }, refl);
  again = λ e rest h. subst (λ (y : Entry). slot_at n (i, true) (entry_spelling y ++ rest) ≡ Ok (y, rest)) (sym h) refl;
}
slot_of n i false = record { takes = λ bytes x fits e. (entry_taken n i bytes fits).taken x e; again = entry_again n i }

abbrev Each : ℕ → ℕ × Bool → List Entry → Type 0
Each n c es = EachFits (λ c e. SlotFits n c.0 c.1 e) next_place c es

entries : (n : ℕ) → IsCodec (entries_at n) (flat_map entry_spelling) (λ es. (length es ≡ n) × Each n (1, false) es)
unfolding entries_at
entries n = many (slot_at n) next_place entry_spelling (λ c e. SlotFits n c.0 c.1 e) (λ c. slot_of n c.0 c.1) n (1, false)

spaced_of_each : (n : ℕ) (es : List Entry) (i : ℕ) (b : Bool) → i + length es ≡ n + 1 → (b ≡ true → i ≤ n) → Each n (i, b) es → AllByRecursion EntryFits es × AreSpaced b es
spaced_of_each n [] i true count room h = absurd (omega (arith, room refl))
spaced_of_each n [] i false count room h = (tt, tt)
spaced_of_each n (e ∷ es) i true count room h =
    let slim : is_wide e ≡ false = ap is_wide h.0 in
    let others = spaced_of_each n es (i + 1) (is_wide e) (omega arith) (λ w. absurd (let f : true ≡ false = sym w ∙ slim in cc)) h.1 in
    ((subst EntryFits (sym h.0) tt, others.0), (h.0, subst (λ (b : Bool). AreSpaced b es) slim others.1))
spaced_of_each n (e ∷ es) i false count room h =
    let others = spaced_of_each n es (i + 1) (is_wide e) (omega arith) (λ w. omega (arith, h.0.room w)) h.1 in
    ((h.0.fits, others.0), (h.0.usable, others.1))

some_behind : (b : Bool) (es : List Entry) → b ≡ true → AreSpaced b es → 1 ≤ length es
some_behind true [] w s = absurd s
some_behind true (e ∷ es) w s = omega arith
some_behind false es w s = absurd cc

each_of_spaced : (n : ℕ) (es : List Entry) (i : ℕ) (b : Bool) → i + length es ≡ n + 1 → AllByRecursion EntryFits es → AreSpaced b es → Each n (i, b) es
each_of_spaced n [] i true count fits s = tt
each_of_spaced n [] i false count fits s = tt
each_of_spaced n (e ∷ es) i true count fits s =
    (s.0, each_of_spaced n es (i + 1) (is_wide e) (omega arith) fits.1 (subst (λ (b : Bool). AreSpaced b es) (sym (ap is_wide s.0)) s.1))
each_of_spaced n (e ∷ es) i false count fits s =
    (record { fits = fits.0; usable = s.0; room = λ w. omega (arith, some_behind (is_wide e) es w s.1) }, each_of_spaced n es (i + 1) (is_wide e) (omega arith) fits.1 s.1)

-- ---- the pool

pub pool : IsCodec pool_at pool_spelling PoolFits
unfolding pool_at
pool = record {
  takes = λ bytes x fits e.
      let a = bind_ok (test_at (number_at w16) (λ n. leb 1 n) (BadPool 0) bytes) (λ n. entries_at (n.0 - 1) n.1) x e in
      let one = (tested (number_at w16) (to_be_bytes w16) (λ n. n < 2 ^ 16) (λ n. leb 1 n) (BadPool 0) number16).takes bytes a.0 fits a.1 in
      let two = (entries (a.0.0 - 1)).takes a.0.1 x one.0.rest_fits a.2 in
      let some : 1 ≤ a.0.0 = leb-true 1 a.0.0 one.1.1 in
      let count : a.0.0 ≡ length x.0 + 1 = omega (arith, two.1.0) in
      let whole = Takes-then bytes (to_be_bytes w16 a.0.0) a.0.1 (flat_map entry_spelling x.0) x.1 one.0 two.0 in
      let spaced = spaced_of_each (a.0.0 - 1) x.0 1 false (omega (arith, count)) (λ w. absurd cc) two.1.1 in
      (subst (λ (k : ℕ). Takes bytes (to_be_bytes w16 k ++ flat_map entry_spelling x.0) x.1) count whole, (omega (arith, one.1.0, count), spaced.0, spaced.1));
  again = λ es rest h.
      let less : length es + 1 - 1 ≡ length es = omega arith in
      let some : leb 1 (length es + 1) ≡ true = grind (arith, nat_tests) in
      ap pool_at (append_assoc (to_be_bytes w16 (length es + 1)) (flat_map entry_spelling es) rest)
      ∙ rw (number16.again (length es + 1) (flat_map entry_spelling es ++ rest) h.0, some, less, (entries (length es)).again es rest (refl, each_of_spaced (length es) es 1 false (omega arith) h.1 h.2)) refl;
}

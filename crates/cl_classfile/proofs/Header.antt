-- The faults of the header, in the words of its bytes.
use Rattle.std.proofs.Common.{◌≡◌, ◌≢◌, ℕ, ◌^◌, ◌<◌, ◌≤◌, Bool, true, false, eqb, ltb, List, ◌++◌, length, take, drop, Ok, Err, refl, sym, ap, subst, ◌∙◌, arith, inl, inr}
use Rattle.std.specs.Int.{Width, w16, w32, byte_len, from_be_bytes, to_be_bytes}
use Rattle.std.proofs.lemmas.Bool.{cases_lt, lt-ltb, le-ltb, eqb-true}
use Rattle.std.proofs.lemmas.List.{take_at, length-drop}
use Rattle.cl_classfile.specs.declared.fault.Fault.TheVariants as faults
use Rattle.cl_classfile.specs.declared.fault.Fault.TheVariants.{BadMagic, Truncated}
use Rattle.cl_classfile.specs.declared.version.Version.{Version}
use Rattle.cl_classfile.specs.Versions.{is_supported, version_spelling, NumbersFit, SpellsOther}
use Rattle.cl_classfile.proofs.Spelled.{numbers}
use Rattle.cl_classfile.specs.Structure.{magic, HasOtherMagic, HasOtherVersion}
use Rattle.cl_classfile.specs.Reading.{Reader, number_at, then_at, map_at, magic_at, version_at, header_at, two_at}
use Rattle.cl_classfile.proofs.Codec.{IsBytes, IsBytes-drop, IsCodec, number32, ok_is}
use Rattle.cl_classfile.proofs.Judging.{tests}

-- a number stands where there are bytes enough
short : (w : Width) (bytes : List ℕ) → length bytes < byte_len w → number_at w bytes ≡ Err Truncated
short w bytes lt = let t : ltb (length bytes) (byte_len w) ≡ true = lt-ltb _ _ lt in rw t refl

long : (w : Width) (bytes : List ℕ) → byte_len w ≤ length bytes → number_at w bytes ≡ Ok (from_be_bytes w (take (byte_len w) bytes), drop (byte_len w) bytes)
long w bytes le = let t : ltb (length bytes) (byte_len w) ≡ false = le-ltb _ _ le in rw t refl

-- what was read is this value where the bytes are its spelling
same_value : {A : Type 0} (r : Reader A) (s : A → List ℕ) (F : A → Type 0) → IsCodec r s F → (bytes : List ℕ) (x : A × List ℕ) (a : A) → IsBytes bytes → r bytes ≡ Ok x → F a → s x.0 ≡ s a → x.0 ≡ a
same_value {A} r s F c bytes x a fits e h same =
    let one = c.takes bytes x fits e in
    let again : r bytes ≡ Ok (a, x.1) = ap r (one.0.parts ∙ ap (λ (t : List ℕ). t ++ x.1) same) ∙ c.again a x.1 h in
    ap (λ (p : A × List ℕ). p.0) (ok_is x (a, x.1) (sym e ∙ again))

-- the bytes that were read stand in front
front : {A : Type 0} (r : Reader A) (s : A → List ℕ) (F : A → Type 0) → IsCodec r s F → (bytes : List ℕ) (x : A × List ℕ) (n : ℕ) → IsBytes bytes → r bytes ≡ Ok x → length (s x.0) ≡ n → take n bytes ≡ s x.0
front r s F c bytes x n fits e len = let one = c.takes bytes x fits e in ap (take n) one.0.parts ∙ take_at (s x.0) x.1 n len

differ : (b : Bool) → b ≡ false → b ≡ true → ⊥
differ true e f = absurd cc
differ false e f = absurd cc

-- ---- the magic

data Magic (bytes : List ℕ) : Type 0 where
  Cut : length bytes < 4 → magic_at bytes ≡ Err Truncated → Magic bytes
  Other : 4 ≤ length bytes → take 4 bytes ≢ magic → magic_at bytes ≡ Err BadMagic → Magic bytes
  Right : 4 ≤ length bytes → take 4 bytes ≡ magic → (n : ℕ) → magic_at bytes ≡ Ok (n, drop 4 bytes) → Magic bytes

magic_of : (bytes : List ℕ) → IsBytes bytes → Magic bytes
unfolding magic_at
magic_of bytes fits =
    elim (cases_lt (length bytes) 4) [
      | inl lt ↦ Cut lt (rw (short w32 bytes lt) refl)
      | inr le ↦
          let n : ℕ = from_be_bytes w32 (take 4 bytes) in
          let read : number_at w32 bytes ≡ Ok (n, drop 4 bytes) = long w32 bytes le in
          let stands : take 4 bytes ≡ to_be_bytes w32 n = front (number_at w32) (to_be_bytes w32) (λ n. n < 2 ^ 32) number32 bytes (n, drop 4 bytes) 4 fits read refl in
          elim (tests (eqb n 0xcafebabe)) [
            | inl t ↦ Right le (stands ∙ ap (to_be_bytes w32) (eqb-true n 0xcafebabe t)) n (rw (read, t) refl)
            | inr t ↦
                Other le
                (λ is. differ (eqb n 0xcafebabe) t (ap (λ (k : ℕ). eqb k 0xcafebabe) (same_value (number_at w32) (to_be_bytes w32) (λ n. n < 2 ^ 32) number32 bytes (n, drop 4 bytes) 0xcafebabe fits read (omega arith) (sym stands ∙ is))))
                (rw (read, t) refl)
          ]
    ]

-- ---- the version

data Two (bytes : List ℕ) : Type 0 where
  Cut : length bytes < 4 → version_at bytes ≡ Err Truncated → Two bytes
  Other : 4 ≤ length bytes → SpellsOther (take 4 bytes) → version_at bytes ≡ Err faults.Version → Two bytes
  Right : 4 ≤ length bytes → (v : Version) → (SpellsOther (take 4 bytes) → ⊥) → (rest : List ℕ) → version_at bytes ≡ Ok (v, rest) → Two bytes

abbrev numbers_at : Reader Version
numbers_at = map_at (then_at (number_at w16) (λ first. number_at w16)) (λ v. record { major = v.1; minor = v.0 })

cut_at : (bytes : List ℕ) → length bytes < 4 → numbers_at bytes ≡ Err Truncated
cut_at bytes lt =
    elim (cases_lt (length bytes) 2) [
      | inl few ↦ rw (short w16 bytes few) refl
      | inr le ↦ rw (long w16 bytes le, short w16 (drop 2 bytes) (omega (arith, length-drop 2 bytes))) refl
    ]

version_of : (bytes : List ℕ) → IsBytes bytes → Two bytes
unfolding version_at two_at
version_of bytes fits =
    elim (cases_lt (length bytes) 4) [
      | inl lt ↦ Cut lt (rw (cut_at bytes lt) refl)
      | inr le ↦
          let v : Version = record { major = from_be_bytes w16 (take 2 (drop 2 bytes)); minor = from_be_bytes w16 (take 2 bytes) } in
          let rest : List ℕ = drop 2 (drop 2 bytes) in
          let read : numbers_at bytes ≡ Ok (v, rest) = rw (long w16 bytes (omega arith), long w16 (drop 2 bytes) (omega (arith, length-drop 2 bytes))) refl in
          let stands : take 4 bytes ≡ version_spelling v = front numbers_at version_spelling NumbersFit numbers bytes (v, rest) 4 fits read refl in
          elim (tests (is_supported v)) [
            | inl t ↦
                Right le v
                (λ o. let same : v ≡ o.numbers = same_value numbers_at version_spelling NumbersFit numbers bytes (v, rest) o.numbers fits read o.fit (sym stands ∙ o.spelled) in differ (is_supported o.numbers) o.other (subst (λ (u : Version). is_supported u ≡ true) same t))
                rest (rw (read, t) refl)
            | inr t ↦ Other le (record { numbers = v; fit = (numbers.takes bytes (v, rest) fits read).1; spelled = stands; other = t }) (rw (read, t) refl)
          ]
    ]

-- ---- both

pub magic_says : (bytes : List ℕ) → IsBytes bytes → header_at bytes ≡ Err BadMagic → HasOtherMagic bytes
unfolding header_at
magic_says bytes fits e =
    elim (magic_of bytes fits) [
      | Magic.Cut lt h ↦ absurd (let k : header_at bytes ≡ Err Truncated = rw h refl in cc)
      | Magic.Other le differs h ↦ (le, differs)
      | Magic.Right le is n h ↦ elim (version_of (drop 4 bytes) (IsBytes-drop 4 bytes fits)) [
        | Two.Cut lt v ↦ absurd (let k : header_at bytes ≡ Err Truncated = rw (h, v) refl in cc)
        | Two.Other few differs v ↦ absurd (let k : header_at bytes ≡ Err faults.Version = rw (h, v) refl in cc)
        | Two.Right few w none rest v ↦ absurd (let k : header_at bytes ≡ Ok ((n, w), rest) = rw (h, v) refl in cc)
      ]
    ]

pub magic_told : (bytes : List ℕ) → IsBytes bytes → HasOtherMagic bytes → header_at bytes ≡ Err BadMagic
unfolding header_at
magic_told bytes fits o =
    elim (magic_of bytes fits) [
      | Magic.Cut lt h ↦ absurd (omega (arith, o.0))
      | Magic.Other le differs h ↦ rw h refl
      | Magic.Right le is n h ↦ absurd (o.1 is)
    ]

pub version_says : (bytes : List ℕ) → IsBytes bytes → header_at bytes ≡ Err faults.Version → HasOtherVersion bytes
unfolding header_at
version_says bytes fits e =
    elim (magic_of bytes fits) [
      | Magic.Cut lt h ↦ absurd (let k : header_at bytes ≡ Err Truncated = rw h refl in cc)
      | Magic.Other le differs h ↦ absurd (let k : header_at bytes ≡ Err BadMagic = rw h refl in cc)
      | Magic.Right le is n h ↦ elim (version_of (drop 4 bytes) (IsBytes-drop 4 bytes fits)) [
        | Two.Cut lt v ↦ absurd (let k : header_at bytes ≡ Err Truncated = rw (h, v) refl in cc)
        | Two.Other few differs v ↦ (omega (arith, length-drop 4 bytes), is, differs)
        | Two.Right few w none rest v ↦ absurd (let k : header_at bytes ≡ Ok ((n, w), rest) = rw (h, v) refl in cc)
      ]
    ]

pub version_told : (bytes : List ℕ) → IsBytes bytes → HasOtherVersion bytes → header_at bytes ≡ Err faults.Version
unfolding header_at
version_told bytes fits o =
    elim (magic_of bytes fits) [
      | Magic.Cut lt h ↦ absurd (omega (arith, o.0))
      | Magic.Other le differs h ↦ absurd (differs o.1)
      | Magic.Right le is n h ↦ elim (version_of (drop 4 bytes) (IsBytes-drop 4 bytes fits)) [
        | Two.Cut lt v ↦ absurd (omega (arith, o.0, length-drop 4 bytes))
        | Two.Other few differs v ↦ rw (h, v) refl
        | Two.Right few w none rest v ↦ absurd (none o.2)
      ]
    ]

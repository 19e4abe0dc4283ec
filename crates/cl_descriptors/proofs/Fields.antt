-- What is read as a type is spelled so, and what is spelled so is read.
use Rattle.std.proofs.Common.{◌≡◌, inl, inr, ℕ, zero, suc, ◌+◌, ◌<◌, true, false, cond, not, eqb, List, [], ◌∷◌, ◌++◌, length, take, drop, replicate, Option, Some, None, refl, sym, ap, subst, ◌∙◌, append_assoc, add-one, arith}
use Rattle.std.specs.Prelude.{codes, option_map, position}
use Rattle.std.specs.List.{AllByRecursion}
use Rattle.std.proofs.lemmas.Bool.{eqb-true, not-false}
use Rattle.std.proofs.lemmas.List.{take_at, drop_at, take-append-drop, length-append, length-replicate}
use Rattle.cl_names.specs.Kind.{IsNameOf, IsClass, is_class_name}
use Rattle.cl_names.proofs.Grammars.{class_from_test, class_test_of}
use Rattle.cl_descriptors.specs.Types.{spelling_of_base, spelling_of_field, IsBase}
use Rattle.cl_descriptors.specs.Reading.{base_of_letter, class_at, base_at, field_at}
use Rattle.cl_descriptors.specs.declared.types.Base.{Base}
use Rattle.cl_descriptors.specs.declared.types.Base.TheVariants.{Byte, Char, Double, Float, Int, Long, Short, Boolean, Class}
use Rattle.cl_descriptors.specs.declared.types.FieldType.{FieldType}
use Rattle.cl_descriptors.proofs.Codec.{then_some, map_some, test_some, chosen, IsCodec, position-at, position-is}
use Rattle.cl_descriptors.proofs.ClassNames.{no_semicolon}

-- ---- class names

class : IsCodec class_at (λ n. n ++ codes ";") (λ n. IsNameOf IsClass n)
unfolding class_at
class = record {
  takes = λ bytes x e.
      let a = then_some (λ k. cond (is_class_name (take k bytes)) (Some (take k bytes, drop (k + 1) bytes)) None) (position (λ b. eqb b 59) bytes) x e in
      let g = test_some (is_class_name (take a.0 bytes)) (take a.0 bytes, drop (a.0 + 1) bytes) x a.2 in
      let f = position-is (λ b. eqb b 59) bytes a.0 a.1 in
      let mark : f.at ≡ 59 = eqb-true _ _ f.passes in
      let parts : bytes ≡ take a.0 bytes ++ 59 ∷ drop (a.0 + 1) bytes = f.parts ∙ ap (λ (y : ℕ). take a.0 bytes ++ y ∷ drop (suc a.0) bytes) mark ∙ ap (λ (n : ℕ). take a.0 bytes ++ 59 ∷ drop n bytes) (sym (add-one a.0)) in
      subst (λ (y : List ℕ × List ℕ). (bytes ≡ (y.0 ++ codes ";") ++ y.1) × IsNameOf IsClass y.0) g.1
      (parts ∙ sym (append_assoc (take a.0 bytes) (59 ∷ []) (drop (a.0 + 1) bytes)), class_from_test (take a.0 bytes) g.0);
  again = λ n rest fits.
      let place : position (λ b. eqb b 59) ((n ++ 59 ∷ []) ++ rest) ≡ Some (length n) = ap (position (λ b. eqb b 59)) (append_assoc n (59 ∷ []) rest) ∙ position-at (λ b. eqb b 59) n 59 rest (no_semicolon n (class_test_of n fits)) refl in
      let front : take (length n) ((n ++ 59 ∷ []) ++ rest) ≡ n = ap (take (length n)) (append_assoc n (59 ∷ []) rest) ∙ take_at n (59 ∷ rest) (length n) refl in
      let back : drop (length n + 1) ((n ++ 59 ∷ []) ++ rest) ≡ rest = drop_at (n ++ 59 ∷ []) rest (length n + 1) (length-append n (59 ∷ [])) in
      rw (place, front, back, class_test_of n fits) refl;
}

-- ---- bases

-- the letter is the spelling of this base
abbrev IsLetter : ℕ → Base → Type 0
IsLetter c base = (c ∷ [] ≡ spelling_of_base base) × IsBase base

letter : (c n : ℕ) (made : Base) (others : Option Base) (x : Base) → IsLetter n made → (others ≡ Some x → IsLetter c x) → cond (eqb c n) (Some made) others ≡ Some x → IsLetter c x
letter c n made others x one rest e =
    elim (chosen (eqb c n) (Some made) others (Some x) e) [
      | inl h ↦
          let is : made ≡ x = cc in
          let same : n ≡ c = sym (eqb-true _ _ h.0) in
          subst (λ (b : Base). IsLetter c b) is (subst (λ (k : ℕ). IsLetter k made) same one)
      | inr h ↦ rest h.1
    ]

letter_takes : (c : ℕ) (x : Base) → base_of_letter c ≡ Some x → IsLetter c x
letter_takes c x e =
    letter c 66 Byte _ x (refl, tt)
    (letter c 67 Char _ x (refl, tt)
    (letter c 68 Double _ x (refl, tt)
    (letter c 70 Float _ x (refl, tt)
    (letter c 73 Int _ x (refl, tt)
    (letter c 74 Long _ x (refl, tt)
    (letter c 83 Short _ x (refl, tt)
    (letter c 90 Boolean _ x (refl, tt) (λ (none : None ≡ Some x). absurd cc)))))))) e

base_takes : (bytes : List ℕ) (x : Base × List ℕ) → base_at bytes ≡ Some x → (bytes ≡ spelling_of_base x.0 ++ x.1) × IsBase x.0
unfolding base_at
base_takes [] x e = absurd cc
base_takes (c ∷ rest) x e =
    elim (chosen (eqb c 76) (option_map (λ y. (Class y.0, y.1)) (class_at rest)) (option_map (λ b. (b, rest)) (base_of_letter c)) (Some x) e) [
      | inl h ↦
          let a = map_some (λ (y : List ℕ × List ℕ). let made : Base × List ℕ = (Class y.0, y.1) in made) (class_at rest) x h.1 in
          let t = class.takes rest a.0 a.1 in
          let is : c ≡ 76 = eqb-true _ _ h.0 in
          subst (λ (y : Base × List ℕ). (c ∷ rest ≡ spelling_of_base y.0 ++ y.1) × IsBase y.0) a.2
          (ap (λ (k : ℕ). k ∷ rest) is ∙ ap (λ (w : List ℕ). 76 ∷ w) t.0, t.1)
      | inr h ↦
          let a = map_some (λ (b : Base). let made : Base × List ℕ = (b, rest) in made) (base_of_letter c) x h.1 in
          let t = letter_takes c a.0 a.1 in
          subst (λ (y : Base × List ℕ). (c ∷ rest ≡ spelling_of_base y.0 ++ y.1) × IsBase y.0) a.2
          (ap (λ (w : List ℕ). w ++ rest) t.0, t.1)
    ]

base_again : (b : Base) (rest : List ℕ) → IsBase b → base_at (spelling_of_base b ++ rest) ≡ Some (b, rest)
unfolding base_at
base_again Byte rest fits = refl
base_again Char rest fits = refl
base_again Double rest fits = refl
base_again Float rest fits = refl
base_again Int rest fits = refl
base_again Long rest fits = refl
base_again Short rest fits = refl
base_again Boolean rest fits = refl
base_again (Class name) rest fits = rw (class.again name rest fits) refl

-- a base begins with a letter, and not with a bracket
record Begins (b : Base) : Type 0 where
  first : ℕ
  more : List ℕ
  spelled : spelling_of_base b ≡ first ∷ more
  other : not (eqb first 91) ≡ true

begins : (b : Base) → Begins b
begins Byte = record { first = 66; more = []; spelled = refl; other = refl }
begins Char = record { first = 67; more = []; spelled = refl; other = refl }
begins Double = record { first = 68; more = []; spelled = refl; other = refl }
begins Float = record { first = 70; more = []; spelled = refl; other = refl }
begins Int = record { first = 73; more = []; spelled = refl; other = refl }
begins Long = record { first = 74; more = []; spelled = refl; other = refl }
begins Short = record { first = 83; more = []; spelled = refl; other = refl }
begins Boolean = record { first = 90; more = []; spelled = refl; other = refl }
begins (Class name) = record { first = 76; more = name ++ 59 ∷ []; spelled = refl; other = refl }

-- ---- field types

brackets_are : (xs : List ℕ) → AllByRecursion (λ b. not (eqb b 91) ≡ false) xs → xs ≡ replicate (length xs) 91
brackets_are [] h = refl
brackets_are (x ∷ xs) h =
    let is : x ≡ 91 = eqb-true _ _ (not-false _ h.0) in
    ap (λ (y : ℕ). y ∷ xs) is ∙ ap (λ (ys : List ℕ). 91 ∷ ys) (brackets_are xs h.1)

brackets : (n : ℕ) → AllByRecursion (λ b. not (eqb b 91) ≡ false) (replicate n 91)
brackets zero = tt
brackets (suc n) = (refl, brackets n)

pub field : IsCodec field_at spelling_of_field (λ t. IsBase t.base)
unfolding field_at
field = record {
  takes = λ bytes x e.
      let a = then_some (λ n. option_map (λ y. let made : FieldType × List ℕ = (record { dims = n; base = y.0 }, y.1) in made) (base_at (drop n bytes))) (position (λ b. not (eqb b 91)) bytes) x e in
      let m = map_some (λ (y : Base × List ℕ). let made : FieldType × List ℕ = (record { dims = a.0; base = y.0 }, y.1) in made) (base_at (drop a.0 bytes)) x a.2 in
      let f = position-is (λ b. not (eqb b 91)) bytes a.0 a.1 in
      let t = base_takes (drop a.0 bytes) m.0 m.1 in
      let front : take a.0 bytes ≡ replicate a.0 91 = brackets_are (take a.0 bytes) f.fails ∙ ap (λ (n : ℕ). replicate n 91) f.long in
      let parts : bytes ≡ replicate a.0 91 ++ (spelling_of_base m.0.0 ++ m.0.1) = sym (take-append-drop a.0 bytes) ∙ ap (λ (w : List ℕ). w ++ drop a.0 bytes) front ∙ ap (λ (w : List ℕ). replicate a.0 91 ++ w) t.0 in
      subst (λ (y : FieldType × List ℕ). (bytes ≡ spelling_of_field y.0 ++ y.1) × IsBase y.0.base) m.2
      (parts ∙ sym (append_assoc (replicate a.0 91) (spelling_of_base m.0.0) m.0.1), t.1);
  again = λ t rest fits.
      let b = begins t.base in
      let tail : List ℕ = spelling_of_base t.base ++ rest in
      let regrouped : spelling_of_field t ++ rest ≡ replicate t.dims 91 ++ tail = append_assoc (replicate t.dims 91) (spelling_of_base t.base) rest in
      let begun : replicate t.dims 91 ++ tail ≡ replicate t.dims 91 ++ (b.first ∷ (b.more ++ rest)) = ap (λ (w : List ℕ). replicate t.dims 91 ++ (w ++ rest)) b.spelled in
      let place : position (λ c. not (eqb c 91)) (replicate t.dims 91 ++ tail) ≡ Some t.dims =
      ap (position (λ c. not (eqb c 91))) begun ∙ position-at (λ c. not (eqb c 91)) (replicate t.dims 91) b.first (b.more ++ rest) (brackets t.dims) b.other ∙ ap (λ (n : ℕ). Some n) (length-replicate t.dims 91) in
      let back : drop t.dims (replicate t.dims 91 ++ tail) ≡ tail = drop_at (replicate t.dims 91) tail t.dims (length-replicate t.dims 91) in
      ap field_at regrouped ∙ rw (place, back, base_again t.base rest fits) refl;
}

-- a descriptor is not empty
pub spelling_is_some : (t : FieldType) → 0 < length (spelling_of_field t)
spelling_is_some t =
    let b = begins t.base in
    omega (arith, length-append (replicate t.dims 91) (spelling_of_base t.base), ap length b.spelled)

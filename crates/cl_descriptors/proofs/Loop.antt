-- Reading types one after the other, as a loop does.
use Rattle.std.proofs.Common.{◌≡◌, ℕ, zero, suc, ◌+◌, ◌*◌, ◌<◌, ◌≤◌, Bool, true, false, cond, eqb, ◌&&◌, List, [], ◌∷◌, ◌++◌, length, Some, None, refl, sym, ap, ◌∙◌, append_assoc, arith}
use Rattle.std.specs.Prelude.{sum_by}
use Rattle.std.specs.List.{list_all}
use Rattle.std.proofs.lemmas.Bool.{and_parts}
use Rattle.std.proofs.lemmas.List.{append-nil, length-append}
use Rattle.std.proofs.lemmas.List.Folds.{list_all-append}
use Rattle.std.proofs.lemmas.List.Sums.{sum_by_push}
use Rattle.cl_descriptors.specs.Types.{spelling_of_field, is_shallow}
use Rattle.cl_descriptors.specs.Units.{units_of_base, units_of_field}
use Rattle.cl_descriptors.specs.Reading.{field_at, types_at, all_types}
use Rattle.cl_descriptors.specs.declared.types.Base.{Base}
use Rattle.cl_descriptors.specs.declared.types.Base.TheVariants.{Double, Long}
use Rattle.cl_descriptors.specs.declared.types.FieldType.{FieldType}
use Rattle.cl_descriptors.proofs.Fields.{field, spelling_is_some}

-- ---- the steps

pub types_at-some : (n : ℕ) (bytes : List ℕ) (t : FieldType) (rest : List ℕ) → field_at bytes ≡ Some (t, rest)
    → types_at (suc n) bytes ≡ (t ∷ (types_at n rest).0, (types_at n rest).1)
unfolding types_at
types_at-some n bytes t rest e = rw (e, types_at) refl

pub types_at-none : (n : ℕ) (bytes : List ℕ) → field_at bytes ≡ None → types_at n bytes ≡ ([], bytes)
unfolding types_at
types_at-none zero bytes e = refl
types_at-none (suc n) bytes e = rw (e, types_at) refl

-- a type takes at least one byte
pub shorter : (bytes : List ℕ) (t : FieldType) (rest : List ℕ) → field_at bytes ≡ Some (t, rest) → length rest < length bytes
shorter bytes t rest e =
    let parts : bytes ≡ spelling_of_field t ++ rest = (field.takes bytes (t, rest) e).0 in
    omega (arith, ap length parts, length-append (spelling_of_field t) rest, spelling_is_some t)

-- front has been read, and rest is still to be read
pub record Passed (bytes rest : List ℕ) (front : List FieldType) : Type 0 where
  pub left : ℕ
  pub enough : length rest ≤ left
  pub types : front ++ (types_at left rest).0 ≡ (all_types bytes).0
  pub after : (types_at left rest).1 ≡ (all_types bytes).1
  pub room : length front + length rest ≤ length bytes

pub begins : (bytes : List ℕ) → Passed bytes bytes []
begins bytes = record { left = length bytes; enough = omega arith; types = refl; after = refl; room = omega arith }

step : (bytes rest after : List ℕ) (front : List FieldType) (t : FieldType) (left : ℕ) → length rest ≤ left → length after < length rest
    → front ++ (types_at left rest).0 ≡ (all_types bytes).0 → (types_at left rest).1 ≡ (all_types bytes).1 → length front + length rest ≤ length bytes
    → field_at rest ≡ Some (t, after) → Passed bytes after (front ++ t ∷ [])
step bytes rest after front t zero enough less types end room e = absurd (omega arith)
step bytes rest after front t (suc n) enough less types end room e =
    let one = types_at-some n rest t after e in
    record {
      left = n;
      enough = omega arith;
      types = append_assoc front (t ∷ []) (types_at n after).0 ∙ ap (λ (x : List FieldType × List ℕ). front ++ x.0) (sym one) ∙ types;
      after = ap (λ (x : List FieldType × List ℕ). x.1) (sym one) ∙ end;
      room = omega (arith, length-append front (t ∷ []));
    }

pub goes_on : (bytes rest after : List ℕ) (front : List FieldType) (t : FieldType) → Passed bytes rest front → field_at rest ≡ Some (t, after) → Passed bytes after (front ++ t ∷ [])
goes_on bytes rest after front t p e = step bytes rest after front t p.left p.enough (shorter rest t after e) p.types p.after p.room e

pub types-end : (bytes rest : List ℕ) (front : List FieldType) → Passed bytes rest front → field_at rest ≡ None → front ≡ (all_types bytes).0
types-end bytes rest front p e =
    sym (append-nil front) ∙ ap (λ (ts : List FieldType). front ++ ts) (sym (ap (λ (x : List FieldType × List ℕ). x.0) (types_at-none p.left rest e))) ∙ p.types

pub after-end : (bytes rest : List ℕ) (front : List FieldType) → Passed bytes rest front → field_at rest ≡ None → rest ≡ (all_types bytes).1
after-end bytes rest front p e = sym (ap (λ (x : List FieldType × List ℕ). x.1) (types_at-none p.left rest e)) ∙ p.after

few_units_of_base : (b : Base) → units_of_base b ≤ 2
few_units_of_base Double = omega arith
few_units_of_base Long = omega arith
few_units_of_base _ = omega arith

few_units : (t : FieldType) → units_of_field t ≤ 2
few_units t = elim (eqb t.dims 0) as (λ b. cond b (units_of_base t.base) 1 ≤ 2) [ true ↦ few_units_of_base t.base | false ↦ omega arith ]

and_itself : (b : Bool) → (b && true) ≡ b
and_itself true = refl
and_itself false = refl

-- what was read so far counts so much
pub record Counted (bytes rest : List ℕ) (count units : ℕ) (shallow : Bool) : Type 0 where
  pub front : List FieldType
  pub passed : Passed bytes rest front
  pub count_is : count ≡ length front
  pub units_are : units ≡ sum_by units_of_field front
  pub few : units ≤ 2 * count
  pub shallow_is : shallow ≡ list_all is_shallow front

pub counted_none : (bytes : List ℕ) → Counted bytes bytes 0 0 true
counted_none bytes = record { front = []; passed = begins bytes; count_is = refl; units_are = refl; few = omega arith; shallow_is = refl }

pub counted_more : {count units count' units' : ℕ} {shallow shallow' : Bool} (bytes rest after : List ℕ) (t : FieldType) → Counted bytes rest count units shallow → field_at rest ≡ Some (t, after)
    → count' ≡ count + 1 → units' ≡ units + units_of_field t → shallow' ≡ (shallow && is_shallow t) → Counted bytes after count' units' shallow'
counted_more {shallow = shallow} bytes rest after t c e count-is units-is shallow-is = record {
  front = c.front ++ t ∷ [];
  passed = goes_on bytes rest after c.front t c.passed e;
  count_is = omega (arith, c.count_is, length-append c.front (t ∷ []));
  units_are = omega (arith, c.units_are, sum_by_push units_of_field c.front t);
  few = omega (arith, c.few, few_units t);
  shallow_is = shallow-is ∙ sym (list_all-append is_shallow c.front (t ∷ []) ∙ rw (sym c.shallow_is) (ap (λ (b : Bool). shallow && b) (and_itself (is_shallow t))));
}

-- what is still to be read next fits where all of it does
pub next_is_shallow : (bytes rest after : List ℕ) (front : List FieldType) (t : FieldType) → list_all is_shallow (all_types bytes).0 ≡ true → Passed bytes rest front → field_at rest ≡ Some (t, after) → is_shallow t ≡ true
next_is_shallow bytes rest after front t all p e =
    let q = goes_on bytes rest after front t p e in
    let parts : list_all is_shallow ((front ++ t ∷ []) ++ (types_at q.left after).0) ≡ true = ap (list_all is_shallow) q.types ∙ all in
    let first = and_parts (list_all is_shallow (front ++ t ∷ [])) (list_all is_shallow (types_at q.left after).0) (sym (list_all-append is_shallow (front ++ t ∷ []) (types_at q.left after).0) ∙ parts) in
    let last = and_parts (list_all is_shallow front) (list_all is_shallow (t ∷ [])) (sym (list_all-append is_shallow front (t ∷ [])) ∙ first.0) in
    (and_parts (is_shallow t) true last.1).0

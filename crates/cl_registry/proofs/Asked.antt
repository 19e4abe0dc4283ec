-- What the tests of plain tables tell of a registry's records.
use Rattle.std.proofs.Common.{◌≡◌, ◌≢◌, ◌∙◌, ◌<◌, ℕ, Bool, true, false, List, [], ◌∷◌, length, map, Option, Some, None, refl, sym, ap, subst, is_some}
use Rattle.std.specs.Prelude.{option_map, unwrap_or, IsSome, IfSome, MatchOption, MatchBool}
use Rattle.std.specs.List.{AllByRecursion}
use Rattle.cl_classfile.specs.Files.{file_of}
use Rattle.cl_model.specs.Content.{Content}
use Rattle.cl_model.specs.Classes.{Above, supers}
use Rattle.cl_model.specs.States.{recorded_definer}
use Rattle.cl_model.specs.Tables.{Records}
use Rattle.cl_delegation.specs.Searches.{Located}
use Rattle.cl_hierarchy.specs.Drafts.{Drafted}
use Rattle.cl_hierarchy.specs.Rows.{FitsAs, Rowed}
use Rattle.cl_registry.specs.declared.registry.RegistryFault.{RegistryFault}
use Rattle.cl_registry.specs.declared.registry.RegistryFault.TheVariants.{Memory, Stray, Violates, AlreadyPosted, NotYet}
use Rattle.cl_registry.specs.Refusals.{InitiateRefusedFor, MemoryOrStray}
use Rattle.cl_registry.specs.Parts.{EachHas, place_by, row_by}
use Rattle.cl_registry.specs.Tables.{Shown, records_of, IsKept, looked_row, row_for, recorded_place, state_of, LacksRecord, MayEnter, SupertypesFit, MayJoin, Defines, DefinedAs, Initiates, InitiatedAs}
use Rattle.cl_registry.proofs.Looked.{place_looked, looked_records, looked_lacks}

is_some_map : {A B : Type 0} (f : A → B) (o : Option A) → is_some (option_map f o) ≡ is_some o
is_some_map f None = refl
is_some_map f (Some x) = refl

map_map : {A B C : Type 0} (f : A → B) (g : B → C) (o : Option A) → option_map g (option_map f o) ≡ option_map (λ x. g (f x)) o
map_map f g None = refl
map_map f g (Some x) = refl

abbrev with_places : Drafted → List ℕ → Rowed
with_places d ps = record { class = d.class; file = d.file; definers = ps }

pub below_count : (raw loader count most : ℕ) → raw < count → raw ≡ loader → count ≡ most → loader < most
below_count raw loader count most h e f = subst (λ (n : ℕ). n < most) e (subst (λ (n : ℕ). raw < n) f h)

-- ---- one look-up

-- what was found is what the loader has recorded
module _ {Q R : Type 0} (now : Q → R) (value : R → Rowed) (told : Option Content) (x : Shown) (l : ℕ) (n : List ℕ) (k : IsKept told x) (at : Option R) (is : option_map value at ≡ looked_row x l n) where
  pub found_is : (o : Option Q) → option_map now o ≡ at → MatchOption o (LacksRecord x l n) (λ r. Records (state_of x) l n (value (now r)).class)
  found_is None e = looked_lacks told x l n k (sym (ap (option_map value) e ∙ is))
  found_is (Some r) e = looked_records told x l n (value (now r)) k (sym (ap (option_map value) e ∙ is))

  pub found_none : (o : Option Q) → option_map now o ≡ at → o ≡ None → LacksRecord x l n
  found_none o e f = looked_lacks told x l n k (sym (ap (λ (p : Option Q). option_map value (option_map now p)) (sym f) ∙ ap (option_map value) e ∙ is))

  pub found_row : (o : Option Q) → option_map now o ≡ at → option_map (λ r. value (now r)) o ≡ looked_row x l n
  found_row o e = sym (map_map now value o) ∙ ap (option_map value) e ∙ is

  pub found_some : (o : Option Q) (r : Q) → option_map now o ≡ at → o ≡ Some r → looked_row x l n ≡ Some (value (now r))
  found_some o r e f = sym is ∙ ap (option_map value) (sym e) ∙ ap (λ (p : Option Q). option_map value (option_map now p)) f

-- ---- a whole table

module _ {R : Type 0} (value : R → Rowed) (told : Option Content) (x : Shown) (k : IsKept told x) (at : ℕ → List ℕ → Option R) (rows : (l : ℕ) (n : List ℕ) → option_map value (at l n) ≡ looked_row x l n) where
  pub place_at : (l : ℕ) (n : List ℕ) → option_map (λ r. (value r).class.loader) (at l n) ≡ recorded_definer (records_of x) l n
  place_at l n = sym (map_map value (λ (r : Rowed). r.class.loader) (at l n)) ∙ ap (option_map (λ (r : Rowed). r.class.loader)) (rows l n) ∙ place_looked told x l n k

  pub known_at : (l : ℕ) (n : List ℕ) → is_some (at l n) ≡ is_some (recorded_definer (records_of x) l n)
  known_at l n = sym (is_some_map (λ r. (value r).class.loader) (at l n)) ∙ ap is_some (place_at l n)

  has_recorded : (l : ℕ) (xs : List Above) → EachHas (λ n. is_some (at l n)) xs → AllByRecursion (λ (a : Above). IsSome (recorded_definer (records_of x) l a.name)) xs
  has_recorded l [] all = tt
  has_recorded l (a ∷ xs) all = (sym (known_at l a.name) ∙ all.0, has_recorded l xs all.1)

  recorded_has : (l : ℕ) (xs : List Above) → AllByRecursion (λ (a : Above). IsSome (recorded_definer (records_of x) l a.name)) xs → EachHas (λ n. is_some (at l n)) xs
  recorded_has l [] all = tt
  recorded_has l (a ∷ xs) all = (known_at l a.name ∙ all.0, recorded_has l xs all.1)

  fit_rows : (d : Drafted) (xs : List Above) → AllByRecursion (λ (a : Above). IfSome (option_map value (at d.class.loader a.name)) (FitsAs d.class a)) xs → AllByRecursion (λ (a : Above). IfSome (looked_row x d.class.loader a.name) (FitsAs d.class a)) xs
  fit_rows d [] all = tt
  fit_rows d (a ∷ xs) all = (subst (λ (o : Option Rowed). IfSome o (FitsAs d.class a)) (rows d.class.loader a.name) all.0, fit_rows d xs all.1)

  rows_fit : (d : Drafted) (xs : List Above) → AllByRecursion (λ (a : Above). IfSome (looked_row x d.class.loader a.name) (FitsAs d.class a)) xs → AllByRecursion (λ (a : Above). IfSome (option_map value (at d.class.loader a.name)) (FitsAs d.class a)) xs
  rows_fit d [] all = tt
  rows_fit d (a ∷ xs) all = (subst (λ (o : Option Rowed). IfSome o (FitsAs d.class a)) (sym (rows d.class.loader a.name)) all.0, rows_fit d xs all.1)

  pub enters : (d : Drafted) → d.home.config ≡ x.config → d.class.loader < length x.config.loaders → EachHas (λ n. is_some (at d.class.loader n)) (supers (file_of d.file)) → SupertypesFit (λ l n. option_map value (at l n)) d → MayEnter x d
  enters d config loader has fit = record { config = config; loader = loader; above = has_recorded d.class.loader (supers (file_of d.file)) has; fit = fit_rows d (supers (file_of d.file)) fit }

  pub lacks_above : (d : Drafted) → (EachHas (λ n. is_some (at d.class.loader n)) (supers (file_of d.file)) → ⊥) → MayEnter x d → ⊥
  lacks_above d none may = none (recorded_has d.class.loader (supers (file_of d.file)) may.above)

  pub lacks_fit : (d : Drafted) → (SupertypesFit (λ l n. option_map value (at l n)) d → ⊥) → MayEnter x d → ⊥
  lacks_fit d none may = none (rows_fit d (supers (file_of d.file)) may.fit)

  pub enters_by : (d : Drafted) (b : Bool) → d.home.config ≡ x.config → d.class.loader < length x.config.loaders → EachHas (λ n. is_some (at d.class.loader n)) (supers (file_of d.file))
      → MatchBool b (SupertypesFit (λ l n. option_map value (at l n)) d) (SupertypesFit (λ l n. option_map value (at l n)) d → ⊥) → MatchBool b (MayEnter x d) (MayEnter x d → ⊥)
  enters_by d true config loader has fit = enters d config loader has fit
  enters_by d false config loader has none = lacks_fit d none

  same_places : (l : ℕ) (xs : List Above) → map (place_by (λ n. option_map (λ r. (value r).class.loader) (at l n))) xs ≡ map (recorded_place (records_of x) l) xs
  same_places l [] = refl
  same_places l (a ∷ xs) =
      ap (λ (o : Option ℕ). unwrap_or o 0 ∷ map (place_by (λ n. option_map (λ r. (value r).class.loader) (at l n))) xs) (place_at l a.name)
      ∙ ap (λ (ns : List ℕ). recorded_place (records_of x) l a ∷ ns) (same_places l xs)

  -- the row that the steps make is the one of the draft
  pub row_made : (d : Drafted) → row_by (λ n. option_map (λ r. (value r).class.loader) (at d.class.loader n)) d ≡ row_for x d
  row_made d = ap (λ (ps : List ℕ). with_places d ps) (same_places d.class.loader (supers (file_of d.file)))

  -- ---- the row of a home's class
  pub joins : {Q : Type 0} (now : Q → R) (h : Located) (o : Option Q) → h.config ≡ x.config → h.asked < length x.config.loaders → IfSome o (λ r. at h.definer h.name ≡ Some (now r))
      → MatchOption o (option_map (λ r. (value r).class.loader) (at h.definer h.name) ≢ Some h.definer) (λ r. (value (now r)).class.loader ≡ h.definer) → MatchOption o (MayJoin x h → ⊥) (λ r. MayJoin x h)
  joins now h None config loader row own = λ may. own (place_at h.definer h.name ∙ may.defined)
  joins now h (Some r) config loader row own = record { config = config; loader = loader; defined = sym (place_at h.definer h.name) ∙ ap (option_map (λ r. (value r).class.loader)) row ∙ ap (λ (p : ℕ). Some p) own }

  pub home_looked : {Q : Type 0} (now : Q → R) (h : Located) (o : Option Q) → IfSome o (λ r. at h.definer h.name ≡ Some (now r)) → IfSome o (λ r. looked_row x h.definer h.name ≡ Some (value (now r)))
  home_looked now h None row = tt
  home_looked now h (Some r) row = sym (rows h.definer h.name) ∙ ap (option_map value) row

-- a home whose class may not be joined, where the loader that was asked has no record
pub join_refused : (x : Shown) (h : Located) (fault : RegistryFault) → LacksRecord x h.asked h.name → MemoryOrStray (MayJoin x h) fault → InitiateRefusedFor x h fault
join_refused x h Memory fresh r = λ none. r
join_refused x h Stray fresh r = (fresh, r)
join_refused x h (Violates n) fresh r = absurd r
join_refused x h AlreadyPosted fresh r = r
join_refused x h NotYet fresh r = r

-- ---- a name that is recorded

pub known_defined : (x : Shown) (d : Drafted) (row : Rowed) → Records (state_of x) d.class.loader d.class.name row.class → looked_row x d.class.loader d.class.name ≡ Some row → Defines x x d row
known_defined x d row r is = subst (λ (o : Option ℕ). DefinedAs x x d row o) (sym r.1) (refl, is)

pub known_initiated : (x : Shown) (h : Located) (row : Rowed) → Records (state_of x) h.asked h.name row.class → looked_row x h.asked h.name ≡ Some row → Initiates x x h row
known_initiated x h row r is = subst (λ (o : Option ℕ). InitiatedAs x x h row o) (sym r.1) (refl, is)

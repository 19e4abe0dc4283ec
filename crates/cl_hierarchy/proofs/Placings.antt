-- The classes of a row's superinterfaces, and their rows, by their places in the file.
use Rattle.std.proofs.Common.{◌≡◌, ◌∙◌, ℕ, suc, zero, List, [], ◌∷◌, Option, Some, None, Result, Ok, Err, IfOk, map, refl, sym, ap}
use Rattle.std.specs.Prelude.{slice_get, option_and_then}
use Rattle.cl_classfile.specs.Files.{Name, file_of}
use Rattle.cl_classfile.specs.Structure.{Structure}
use Rattle.cl_model.specs.declared.class.Class.{Class}
use Rattle.cl_model.specs.Classes.{class, AsSuperinterface}
use Rattle.cl_hierarchy.specs.Frames.{accepted_of}
use Rattle.cl_hierarchy.specs.Rows.{Rowed}
use Rattle.cl_hierarchy.specs.Trees.{interface_definers, interfaces_in}
use Rattle.cl_hierarchy.specs.Lineages.{row_of}
use Rattle.cl_hierarchy.specs.Tours.{interface_row}

-- a name and a loader, if both are there
abbrev pub both : Option Name → Option ℕ → Option Class
both None definer = None
both (Some name) None = None
both (Some name) (Some definer) = Some (class name definer)

no_definer : (o : Option Name) → both o None ≡ None
no_definer None = refl
no_definer (Some n) = refl

nothing_at : (k : ℕ) → slice_get (let none : List Class = [] in none) k ≡ None
nothing_at zero = refl
nothing_at (suc k) = refl

no_name_at : (k : ℕ) → slice_get (let none : List Name = [] in none) k ≡ None
no_name_at zero = refl
no_name_at (suc k) = refl

no_definer_at : (k : ℕ) → slice_get (let none : List ℕ = [] in none) k ≡ None
no_definer_at zero = refl
no_definer_at (suc k) = refl

placed : (ns : List Name) (ps : List ℕ) (k : ℕ) → slice_get (accepted_of (map (λ n. record { name = n; role = AsSuperinterface }) ns) ps) k ≡ both (slice_get ns k) (slice_get ps k)
placed [] ps k = nothing_at k ∙ sym (ap (λ (o : Option Name). both o (slice_get ps k)) (no_name_at k))
placed (n ∷ ns) [] k = nothing_at k ∙ sym (ap (λ (o : Option ℕ). both (slice_get (n ∷ ns) k) o) (no_definer_at k) ∙ no_definer (slice_get (n ∷ ns) k))
placed (n ∷ ns) (p ∷ ps) zero = refl
placed (n ∷ ns) (p ∷ ps) (suc k) = placed ns ps k

at_place : (r : Rowed) (k : ℕ) → slice_get (interfaces_in r) k ≡ both (slice_get (file_of r.file).interfaces k) (slice_get (interface_definers r) k)
at_place r k = placed (file_of r.file).interfaces (interface_definers r) k

-- ---- the class at a place

pub class_unnamed : (r : Rowed) (x : Structure) (k : ℕ) → x ≡ r.file → None ≡ slice_get (file_of x).interfaces k → None ≡ slice_get (interfaces_in r) k
class_unnamed r x k same e =
    sym (at_place r k ∙ ap (λ (o : Option Name). both o (slice_get (interface_definers r) k)) (sym (e ∙ ap (λ (y : Structure). slice_get (file_of y).interfaces k) same)))

pub class_unplaced : (r : Rowed) (ps : List ℕ) (k : ℕ) → ps ≡ interface_definers r → None ≡ slice_get ps k → None ≡ slice_get (interfaces_in r) k
class_unplaced r ps k same e =
    sym (
    at_place r k ∙ ap (λ (o : Option ℕ). both (slice_get (file_of r.file).interfaces k) o) (sym (e ∙ ap (λ (y : List ℕ). slice_get y k) same))
    ∙ no_definer (slice_get (file_of r.file).interfaces k)
    )

pub class_at_place : (r : Rowed) (x : Structure) (ps : List ℕ) (k : ℕ) (n : Name) (p : ℕ) → x ≡ r.file → ps ≡ interface_definers r → Some n ≡ slice_get (file_of x).interfaces k → Some p ≡ slice_get ps k
    → Some (class n p) ≡ slice_get (interfaces_in r) k
class_at_place r x ps k n p same definers e f =
    sym (
    at_place r k ∙ ap (λ (o : Option Name). both o (slice_get (interface_definers r) k)) (sym (e ∙ ap (λ (y : Structure). slice_get (file_of y).interfaces k) same))
    ∙ ap (λ (o : Option ℕ). both (Some n) o) (sym (f ∙ ap (λ (y : List ℕ). slice_get y k) definers))
    )

-- ---- its row

row_so : (rows : List Rowed) (r : Rowed) (k : ℕ) (o : Option Class) → o ≡ slice_get (interfaces_in r) k → option_and_then (row_of rows) o ≡ interface_row rows r k
row_so rows r k o e = ap (λ (x : Option Class). option_and_then (row_of rows) x) e

pub unnamed : (rows : List Rowed) (r : Rowed) (x : Structure) (k : ℕ) → x ≡ r.file → None ≡ slice_get (file_of x).interfaces k → None ≡ interface_row rows r k
unnamed rows r x k same e = row_so rows r k None (class_unnamed r x k same e)

pub unplaced : (rows : List Rowed) (r : Rowed) (ps : List ℕ) (k : ℕ) → ps ≡ interface_definers r → None ≡ slice_get ps k → None ≡ interface_row rows r k
unplaced rows r ps k same e = row_so rows r k None (class_unplaced r ps k same e)

pub row_at_place : (rows : List Rowed) (r : Rowed) (x : Structure) (ps : List ℕ) (k : ℕ) (n : Name) (p : ℕ) → x ≡ r.file → ps ≡ interface_definers r → Some n ≡ slice_get (file_of x).interfaces k → Some p ≡ slice_get ps k
    → row_of rows (class n p) ≡ interface_row rows r k
row_at_place rows r x ps k n p same definers e f = row_so rows r k (Some (class n p)) (class_at_place r x ps k n p same definers e f)

-- what was found is what was meant
pub found_so : {A E : Type 0} (f : A → Option Rowed) (o p : Option Rowed) (r : Result A E) → o ≡ p → IfOk r (λ a. f a ≡ o) → IfOk r (λ a. f a ≡ p)
found_so f o p (Ok a) e h = h ∙ e
found_so f o p (Err x) e h = tt

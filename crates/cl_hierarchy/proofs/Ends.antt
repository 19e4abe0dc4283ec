-- The last of a list, of a table, and of the frames of a path.
use Rattle.std.proofs.Common.{◌≡◌, ◌∙◌, ◌-◌, ℕ, suc, List, [], ◌∷◌, ◌++◌, length, map, Some, slice_get, refl, ap, subst, arith, length-append}
use Rattle.std.specs.List.{AllByRecursion}
use Rattle.std.specs.Prelude.{option_and_then}
use Rattle.std.proofs.lemmas.List.{map_push}
use Rattle.indexmap.specs.IndexMap.{set_value_at}
use Rattle.cl_classfile.specs.Files.{File}
use Rattle.cl_model.specs.declared.class.Class.{Class}
use Rattle.cl_model.specs.Frames.{wanted_supertype, asking_loader}
use Rattle.cl_hierarchy.specs.Frames.{Framed, frame_of}
use Rattle.cl_hierarchy.specs.Kept.{first_name, frames_in, last_wants}
use Rattle.cl_hierarchy.specs.Paths.{name_of, sought_name, misfit_in, misfit_under}

-- ---- lists

-- what stands at the end
pub record Ends {A : Type 0} (es : List A) (e : A) : Type 0 where
  pub before : List A
  pub split : es ≡ before ++ e ∷ []

pub last_split : {A : Type 0} (es : List A) (e : A) → slice_get es (length es - 1) ≡ Some e → Ends es e
last_split [] e h = absurd cc
last_split (x ∷ []) e h = let same : x ≡ e = cc in record { before = []; split = ap (λ y. y ∷ []) same }
last_split {A} (x ∷ (y ∷ ys)) e h =
    let n : length (x ∷ (y ∷ ys)) - 1 ≡ suc (length (y ∷ ys) - 1) = omega arith in
    let later : slice_get (y ∷ ys) (length (y ∷ ys) - 1) ≡ Some e = subst (λ (k : ℕ). slice_get (x ∷ (y ∷ ys)) k ≡ Some e) n h in
    let r = last_split (y ∷ ys) e later in
    record { before = x ∷ r.before; split = ap (λ (zs : List A). x ∷ zs) r.split }

last_place : {A : Type 0} (before : List A) (e : A) → length (before ++ e ∷ []) - 1 ≡ length before
last_place before e = let n = length-append before (e ∷ []) in omega arith

pub at_length : {A : Type 0} (before : List A) (e : A) → slice_get (before ++ e ∷ []) (length before) ≡ Some e
at_length [] e = refl
at_length (x ∷ before) e = at_length before e

pub last_of : {A : Type 0} (before : List A) (e : A) → slice_get (before ++ e ∷ []) (length (before ++ e ∷ []) - 1) ≡ Some e
last_of before e = ap (λ (n : ℕ). slice_get (before ++ e ∷ []) n) (last_place before e) ∙ at_length before e

pub all_push : {A : Type 0} (P : A → Type 0) (xs : List A) (x : A) → AllByRecursion P xs → P x → AllByRecursion P (xs ++ x ∷ [])
all_push P [] x all p = (p, tt)
all_push P (y ∷ ys) x all p = (all.0, all_push P ys x all.1 p)

pub all_pop : {A : Type 0} (P : A → Type 0) (xs : List A) (x : A) → AllByRecursion P (xs ++ x ∷ []) → AllByRecursion P xs × P x
all_pop P [] x all = (tt, all.0)
all_pop P (y ∷ ys) x all = let r = all_pop P ys x all.1 in ((all.0, r.0), r.1)

-- ---- tables

set_length : {K X : Type 0} (before : List (K × X)) (k : K) (x w : X) → set_value_at (before ++ (k, x) ∷ []) (length before) w ≡ before ++ (k, w) ∷ []
set_length [] k x w = refl
set_length (e ∷ before) k x w = ap (λ es. e ∷ es) (set_length before k x w)

-- a write to the last value
pub set_last : {K X : Type 0} (es before : List (K × X)) (k : K) (x w : X) → es ≡ before ++ (k, x) ∷ [] → set_value_at es (length es - 1) w ≡ before ++ (k, w) ∷ []
set_last {K} {X} es before k x w e =
    ap (λ (l : List (K × X)). set_value_at l (length l - 1) w) e ∙ ap (λ (n : ℕ). set_value_at (before ++ (k, x) ∷ []) n w) (last_place before (k, x)) ∙ set_length before k x w

pub frames_push : (es : List (Class × Framed)) (k : Class) (x : Framed) → frames_in (es ++ (k, x) ∷ []) ≡ frames_in es ++ x ∷ []
frames_push es k x = map_push (λ (e : Class × Framed). e.1) es (k, x)

pub last_wants_of : (es before : List (Class × Framed)) (k : Class) (x : Framed) → es ≡ before ++ (k, x) ∷ [] → last_wants es ≡ wanted_supertype (frame_of x)
last_wants_of es before k x e = ap last_wants e ∙ ap (option_and_then (λ (e : Class × Framed). wanted_supertype (frame_of e.1))) (last_of before (k, x))

-- ---- frames

pub asking_push : (loader : ℕ) (xs : List Framed) (x : Framed) → asking_loader loader (map frame_of (xs ++ x ∷ [])) ≡ x.draft.class.loader
asking_push loader [] x = refl
asking_push loader (y ∷ ys) x = asking_push y.draft.class.loader ys x

pub sought_push : (name : List ℕ) (xs : List Framed) (x : Framed) → sought_name name (xs ++ x ∷ []) ≡ name_of (wanted_supertype (frame_of x))
sought_push name [] x = refl
sought_push name (y ∷ ys) x = sought_push (name_of (wanted_supertype (frame_of y))) ys x

pub first_push : (xs : List Framed) (x : Framed) (at : List ℕ) → first_name (xs ++ x ∷ []) at ≡ first_name xs x.draft.class.name
first_push [] x at = refl
first_push (y ∷ ys) x at = refl

-- what is wrong is told by the last
pub under_last : (xs : List Framed) (x : Framed) (t : Class) (f : File) → misfit_under (xs ++ x ∷ []) t f ≡ misfit_in x (wanted_supertype (frame_of x)) t f
under_last [] x t f = refl
under_last (y ∷ []) x t f = refl
under_last (y ∷ (z ∷ zs)) x t f = under_last (z ∷ zs) x t f

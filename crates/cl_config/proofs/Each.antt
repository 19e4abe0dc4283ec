-- A loop over a list, each read behind those before it.
use Rattle.std.proofs.Common.{◌≡◌, ℕ, ◌+◌, ◌≤◌, ◌<◌, List, [], ◌∷◌, ◌++◌, length, get_or, drop, Result, Ok, Err, refl, sym, ◌∙◌, arith, length-append}
use Rattle.std.proofs.lemmas.List.{drop_all, drop_more}
use Rattle.toml.specs.Data.{Data}
use Rattle.toml.specs.View.{view, items_view}
use Rattle.toml.specs.declared.value.Value.{Value}
use Rattle.cl_config.specs.declared.fault.ConfigFault.{ConfigFault}
use Rattle.cl_config.specs.declared.fault.ConfigError.{ConfigError}
use Rattle.cl_config.specs.declared.fault.ConfigError.TheVariants as errors
use Rattle.cl_config.specs.Steps.{◌>>=◌, AgreesOnFault}
use Rattle.cl_config.specs.Fields.{each_from, list_from}

-- how one is read, behind those before it
abbrev pub One : Type 0 → Type 0 → Type 0
One A B = List B → A → Result B ConfigFault

-- those so far, and what reading the others behind them gives
pub record IsSoFar {A B : Type 0} (one : One A B) (front : List B) (i : ℕ) (xs : List A) (total : Result (List B) ConfigFault) : Type 0 where
  pub count : length front ≡ i
  pub rest : list_from one front (drop i xs) ≡ total

same_steps : {A B : Type 0} (r : Result A ConfigFault) (f g : A → Result B ConfigFault) → ((x : A) → f x ≡ g x) → (r >>= f) ≡ (r >>= g)
same_steps (Ok x) f g same = same x
same_steps (Err e) f g same = refl

pub each_is : {B : Type 0} (one : One Data B) (front : List B) (vs : List Value) → list_from (λ before v. one before (view v)) front vs ≡ each_from one front (items_view vs)
unfolding list_from each_from
each_is one front [] = refl
each_is one front (v ∷ vs) = same_steps (one front (view v)) _ _ (λ x. each_is one (front ++ x ∷ []) vs)

opened : {A B : Type 0} (one : One A B) (front : List B) (xs : List A) (i : ℕ) (x : A) → i < length xs → x ≡ get_or xs i x
    → list_from one front (drop i xs) ≡ (one front x >>= λ y. list_from one (front ++ y ∷ []) (drop (i + 1) xs))
unfolding list_from
opened one front xs i x lt is = rw (drop_more xs i x lt, ← is) refl

pub goes_on : {A B : Type 0} (one : One A B) (front new : List B) (xs : List A) (i : ℕ) (x : A) (y : B) (total : Result (List B) ConfigFault) → i < length xs → x ≡ get_or xs i x → one front x ≡ Ok y → new ≡ front ++ y ∷ []
    → IsSoFar one front i xs total → IsSoFar one new (i + 1) xs total
goes_on {B = B} one front new xs i x y total lt is read grown so_far = rw grown (record {
  count = omega (arith, length-append {A = B}, so_far.count);
  rest = sym (rw read at (opened one front xs i x lt is)) ∙ so_far.rest;
})

pub ends : {A B : Type 0} (one : One A B) (e : ConfigError) (front : List B) (xs : List A) (i : ℕ) (x : A) (total : Result (List B) ConfigFault) → i < length xs → x ≡ get_or xs i x → AgreesOnFault e (one front x)
    → IsSoFar one front i xs total → AgreesOnFault e total
ends one errors.Memory front xs i x total lt is read so_far = tt
ends one (errors.Fault f) front xs i x total lt is read so_far = sym so_far.rest ∙ rw read at (opened one front xs i x lt is)

pub is_done : {A B : Type 0} (one : One A B) (front : List B) (xs : List A) (i : ℕ) (total : Result (List B) ConfigFault) → length xs ≤ i
    → IsSoFar one front i xs total → total ≡ Ok front
unfolding list_from
is_done one front xs i total le so_far = sym so_far.rest ∙ rw (drop_all i xs le) refl

-- Good and failing: never both, one error, and the same at greater heights.
use Rattle.std.proofs.Common.{◌≡◌, inl, inr, ℕ, zero, suc, List, [], ◌∷◌, Some, None, Result, Ok, Err, sym, ap, subst, ◌∙◌}
use Rattle.std.specs.List.{AllByRecursion}
use Rattle.cl_classfile.specs.Files.{Name, File}
use Rattle.cl_model.specs.Homes.{World}
use Rattle.cl_model.specs.declared.class.Class.{Class}
use Rattle.cl_model.specs.Classes.{class, Error, Above, supers, misfit, AtHome, Fitting, FitsAt, Good, FirstWrong, WrongAt, Fails}
use Rattle.cl_model.proofs.Bind.{some_same}

pub some_none : {A : Type 0} {x : A} → Some x ≡ None → ⊥
some_none e = cc

abbrev pub of_file : File → Result File Error
of_file f = Ok f

abbrev pub of_error : Error → Result File Error
of_error e = Err e

pub ok_is : {x y : File} → of_file x ≡ of_file y → x ≡ y
ok_is e = cc

pub ok_err : {x : File} {y : Error} → of_file x ≡ of_error y → ⊥
ok_err e = cc

-- what all fit, none is the first wrong of
none_wrong : (fits fits' wrong : Above → Type 0) → ((a : Above) → fits a → wrong a → ⊥) → (others : List Above) → AllByRecursion fits others → FirstWrong fits' wrong others → ⊥
none_wrong fits fits' wrong never [] all first = first
none_wrong fits fits' wrong never (a ∷ others) all first = elim first [ inl h ↦ never a all.0 h | inr h ↦ none_wrong fits fits' wrong never others all.1 h.1 ]

-- what holds at one home holds at the same home, found again
pub at_same : (w : World) (c : Class) (P Q : Class → Type 0) (name : Name) → (x : AtHome w c P name) (y : AtHome w c Q name) → P (class name y.place)
at_same w c P Q name x y = subst (λ (l : ℕ). P (class name l)) (some_same _ _ (sym x.found ∙ y.found)) x.holds

-- a supertype that fits is not one that does not
one_judgement : (w : World) (c : Class) (a : Above) (s : Class) (e : Error) → Fitting w c a.role None s → Fitting w c a.role (Some e) s → ⊥
one_judgement w c a s e x y =
    let same : x.file ≡ y.file = ok_is (sym x.has_file ∙ y.has_file) in
    some_none (sym y.judged ∙ sym (ap (λ (f : File). misfit c a.role s f) same) ∙ x.judged)

pub good_or_fails : (w : World) (n m : ℕ) (c : Class) (e : Error) → Good w n c → Fails w m c e → ⊥
good_or_fails w zero m c e g f = g
good_or_fails w (suc n) zero c e g f = f
good_or_fails w (suc n) (suc m) c e g f =
    elim f [
      | inl h ↦ ok_err (sym g.1 ∙ h)
      | inr h ↦ none_wrong (FitsAt w c (Good w n)) (FitsAt w c (Good w m)) (WrongAt w c (Good w m) (λ s. Fails w m s e) e) (λ a fit wrong.
          elim wrong [
            | inl k ↦ some_none (sym fit.found ∙ k.0)
            | inr rest ↦ elim rest [
              | inl k ↦ good_or_fails w n m (class a.name k.place) e (at_same w c (λ s. Good w n s × Fitting w c a.role None s) (λ s. Fails w m s e) a.name fit k).0 k.holds
              | inr k ↦ one_judgement w c a (class a.name k.place) e (at_same w c (λ s. Good w n s × Fitting w c a.role None s) (λ s. Good w m s × Fitting w c a.role (Some e) s) a.name fit k).1 k.holds.1
            ]
          ]) (supers g.0) g.2 (subst (λ (x : File). FirstWrong (FitsAt w c (Good w m)) (WrongAt w c (Good w m) (λ s. Fails w m s e) e) (supers x)) (ok_is (sym h.1 ∙ g.1)) h.2)
    ]

-- ---- greater heights

pub all_map : {A : Type 0} (P Q : A → Type 0) → ((x : A) → P x → Q x) → (xs : List A) → AllByRecursion P xs → AllByRecursion Q xs
all_map P Q f [] h = tt
all_map P Q f (x ∷ xs) h = (f x h.0, all_map P Q f xs h.1)

pub first_map : (P Q R S : Above → Type 0) → ((a : Above) → P a → Q a) → ((a : Above) → R a → S a) → (others : List Above) → FirstWrong P R others → FirstWrong Q S others
first_map P Q R S f g [] h = h
first_map P Q R S f g (a ∷ others) h = elim h [ inl k ↦ inl (g a k) | inr k ↦ inr (f a k.0, first_map P Q R S f g others k.1) ]

at_map : (w : World) (c : Class) (P Q : Class → Type 0) → ((s : Class) → P s → Q s) → (name : Name) → AtHome w c P name → AtHome w c Q name
at_map w c P Q f name h = record { place = h.place; found = h.found; holds = f (class name h.place) h.holds }

pub fits_map : (w : World) (c : Class) (P Q : Class → Type 0) → ((s : Class) → P s → Q s) → (a : Above) → FitsAt w c P a → FitsAt w c Q a
fits_map w c P Q f a h = at_map w c (λ s. P s × Fitting w c a.role None s) (λ s. Q s × Fitting w c a.role None s) (λ s k. (f s k.0, k.1)) a.name h

wrong_map : (w : World) (c : Class) (P Q F G : Class → Type 0) (e : Error) → ((s : Class) → P s → Q s) → ((s : Class) → F s → G s) → (a : Above) → WrongAt w c P F e a → WrongAt w c Q G e a
wrong_map w c P Q F G e f g a h = elim h [
  | inl k ↦ inl k
  | inr k ↦ elim k [
    | inl x ↦ inr (inl (at_map w c F G g a.name x))
    | inr x ↦ inr (inr (at_map w c (λ s. P s × Fitting w c a.role (Some e) s) (λ s. Q s × Fitting w c a.role (Some e) s) (λ s y. (f s y.0, y.1)) a.name x))
  ]
]

pub good_grows : (w : World) (n : ℕ) (c : Class) → Good w n c → Good w (suc n) c
good_grows w zero c h = absurd h
good_grows w (suc n) c h = (h.0, h.1, all_map (FitsAt w c (Good w n)) (FitsAt w c (Good w (suc n))) (fits_map w c (Good w n) (Good w (suc n)) (good_grows w n)) (supers h.0) h.2)

pub fails_grows : (w : World) (n : ℕ) (c : Class) (e : Error) → Fails w n c e → Fails w (suc n) c e
fails_grows w zero c e h = absurd h
fails_grows w (suc n) c e h = elim h [
  | inl k ↦ inl k
  | inr k ↦ inr (
    k.0,
    k.1,
    first_map (FitsAt w c (Good w n)) (FitsAt w c (Good w (suc n))) (WrongAt w c (Good w n) (λ s. Fails w n s e) e) (WrongAt w c (Good w (suc n)) (λ s. Fails w (suc n) s e) e)
        (fits_map w c (Good w n) (Good w (suc n)) (good_grows w n))
        (wrong_map w c (Good w n) (Good w (suc n)) (λ s. Fails w n s e) (λ s. Fails w (suc n) s e) e (good_grows w n) (λ s x. fails_grows w n s e x))
        (supers k.0) k.2,
  )
]

-- ---- one error

-- what fits is not wrong
pub fit_not_wrong : (w : World) (n m : ℕ) (c : Class) (e : Error) (a : Above) → FitsAt w c (Good w n) a → WrongAt w c (Good w m) (λ s. Fails w m s e) e a → ⊥
fit_not_wrong w n m c e a fit wrong = elim wrong [
  | inl k ↦ some_none (sym fit.found ∙ k.0)
  | inr rest ↦ elim rest [
    | inl k ↦ good_or_fails w n m (class a.name k.place) e (at_same w c (λ s. Good w n s × Fitting w c a.role None s) (λ s. Fails w m s e) a.name fit k).0 k.holds
    | inr k ↦ one_judgement w c a (class a.name k.place) e (at_same w c (λ s. Good w n s × Fitting w c a.role None s) (λ s. Good w m s × Fitting w c a.role (Some e) s) a.name fit k).1 k.holds.1
  ]
]

-- two judgements of one class in one role agree
same_judgement : (w : World) (c : Class) (a : Above) (s : Class) (e d : Error) → Fitting w c a.role (Some e) s → Fitting w c a.role (Some d) s → e ≡ d
same_judgement w c a s e d x y =
    let same : x.file ≡ y.file = ok_is (sym x.has_file ∙ y.has_file) in
    some_same _ _ (sym x.judged ∙ ap (λ (f : File). misfit c a.role s f) same ∙ y.judged)

-- a supertype is wrong in one way
one_wrong : (w : World) (n m : ℕ) (c : Class) (e d : Error) → ((s : Class) → Fails w n s e → Fails w m s d → e ≡ d) → (a : Above) → WrongAt w c (Good w n) (λ s. Fails w n s e) e a → WrongAt w c (Good w m) (λ s. Fails w m s d) d a → e ≡ d
one_wrong w n m c e d ih a (inl x) (inl y) = x.1 ∙ sym y.1
one_wrong w n m c e d ih a (inl x) (inr (inl y)) = absurd (some_none (sym y.found ∙ x.0))
one_wrong w n m c e d ih a (inl x) (inr (inr y)) = absurd (some_none (sym y.found ∙ x.0))
one_wrong w n m c e d ih a (inr (inl x)) (inl y) = absurd (some_none (sym x.found ∙ y.0))
one_wrong w n m c e d ih a (inr (inr x)) (inl y) = absurd (some_none (sym x.found ∙ y.0))
one_wrong w n m c e d ih a (inr (inl x)) (inr (inl y)) = ih (class a.name y.place) (at_same w c (λ s. Fails w n s e) (λ s. Fails w m s d) a.name x y) y.holds
one_wrong w n m c e d ih a (inr (inl x)) (inr (inr y)) = absurd (good_or_fails w m n (class a.name y.place) e y.holds.0 (at_same w c (λ s. Fails w n s e) (λ s. Good w m s × Fitting w c a.role (Some d) s) a.name x y))
one_wrong w n m c e d ih a (inr (inr x)) (inr (inl y)) = absurd (good_or_fails w n m (class a.name y.place) d (at_same w c (λ s. Good w n s × Fitting w c a.role (Some e) s) (λ s. Fails w m s d) a.name x y).0 y.holds)
one_wrong w n m c e d ih a (inr (inr x)) (inr (inr y)) = same_judgement w c a (class a.name y.place) e d (at_same w c (λ s. Good w n s × Fitting w c a.role (Some e) s) (λ s. Good w m s × Fitting w c a.role (Some d) s) a.name x y).1 y.holds.1

one_first : (w : World) (n m : ℕ) (c : Class) (e d : Error) → ((s : Class) → Fails w n s e → Fails w m s d → e ≡ d) → (others : List Above) → FirstWrong (FitsAt w c (Good w n)) (WrongAt w c (Good w n) (λ s. Fails w n s e) e) others → FirstWrong (FitsAt w c (Good w m)) (WrongAt w c (Good w m) (λ s. Fails w m s d) d) others → e ≡ d
one_first w n m c e d ih [] x y = absurd x
one_first w n m c e d ih (a ∷ others) (inl x) (inl y) = one_wrong w n m c e d ih a x y
one_first w n m c e d ih (a ∷ others) (inl x) (inr y) = absurd (fit_not_wrong w m n c e a y.0 x)
one_first w n m c e d ih (a ∷ others) (inr x) (inl y) = absurd (fit_not_wrong w n m c d a x.0 y)
one_first w n m c e d ih (a ∷ others) (inr x) (inr y) = one_first w n m c e d ih others x.1 y.1

pub one_error : (w : World) (n m : ℕ) (c : Class) (e d : Error) → Fails w n c e → Fails w m c d → e ≡ d
one_error w zero m c e d x y = absurd x
one_error w (suc n) zero c e d x y = absurd y
one_error w (suc n) (suc m) c e d (inl x) (inl y) = error_is (sym x ∙ y)
  where
    error_is : {a b : Error} → of_error a ≡ of_error b → a ≡ b
    error_is h = cc
one_error w (suc n) (suc m) c e d (inl x) (inr y) = absurd (ok_err (sym y.1 ∙ x))
one_error w (suc n) (suc m) c e d (inr x) (inl y) = absurd (ok_err (sym x.1 ∙ y))
one_error w (suc n) (suc m) c e d (inr x) (inr y) =
    one_first w n m c e d (λ s. one_error w n m s e d) (supers y.0) (subst (λ (f : File). FirstWrong (FitsAt w c (Good w n)) (WrongAt w c (Good w n) (λ s. Fails w n s e) e) (supers f)) (ok_is (sym x.1 ∙ y.1)) x.2) y.2

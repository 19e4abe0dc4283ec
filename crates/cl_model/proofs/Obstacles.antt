-- A derivation that ends in an error: it fails with that error, or it met a class again on a walk.
use Rattle.std.proofs.Common.{◌≡◌, ◌⊎◌, inl, inr, ℕ, zero, suc, Bool, true, false, List, [], ◌∷◌, ◌++◌, Some, None, Err, refl, sym, ap, ◌∙◌}
use Rattle.std.specs.List.{AllByRecursion}
use Rattle.cl_classfile.specs.Files.{Name, File}
use Rattle.cl_model.specs.Homes.{World, home}
use Rattle.cl_model.specs.declared.class.Class.{Class}
use Rattle.cl_model.specs.Classes.{class, Error, Above, is_among, NoClassDef, ClassCircularity, read_class, misfit, superclass_of, superinterfaces_of, supers, HasFile, AtHome, FitsAt, Good, IsGood, FirstWrong, WrongAt, Fails, Returns}
use Rattle.cl_model.specs.Lineages.{Forest, Bare, Kin}
use Rattle.cl_model.specs.States.{Entry}
use Rattle.cl_model.specs.Works.{Work, Made, ask, or_fail, unless_wrong, of_result}
use Rattle.cl_model.specs.Plans.{initiating_needs, load_by, loads_above, derive_new, derive}
use Rattle.cl_model.proofs.Bind.{bind_err, ok_not_err, err_same, step_is, or_fail_ok, or_fail_err, unless_ok, unless_err, result_ok, result_err, then_done_not}
use Rattle.cl_model.proofs.Heights.{loaded, found, sought, grown, others_after, checked, finished, interfaces_next, superclass_next, circle_or}
use Rattle.cl_model.proofs.Derived.{load_ok, above_good, derive_yields, Yields}

-- a load that ends ill: no home, or a derivation that does
pub record IsIll (w : World) (d : Class → Work Kin) (loader : ℕ) (name : Name) (e : Error) : Type 0 where
  pub place : ℕ
  pub found : home w loader name ≡ Some place
  pub below : Made Kin
  pub made : d (class name place) ≡ Some below
  pub ends : below.ends ≡ Err e

pub load_err : (w : World) (d : Class → Work Kin) (absent : Class → Error) (loader : ℕ) (name : Name) (m : Made Kin) (e : Error) → load_by w d absent loader name ≡ Some m → m.ends ≡ Err e → ((home w loader name ≡ None) × (e ≡ absent (class name loader))) ⊎ IsIll w d loader name e
load_err w d absent loader name m e h k =
    elim (bind_err (ask loader name) (sought w d absent loader name) m e h k) [
      | inr s ↦ absurd (ok_not_err tt e s.first.ends (step_is _ s.first s.made).1 s.ended)
      | inl asked ↦ elim (bind_err (or_fail (absent (class name loader)) (home w loader name)) (found w d loader name) asked.second e asked.next asked.ends) [
        | inr s ↦ inl (or_fail_err (absent (class name loader)) (home w loader name) s.first e s.made s.ended)
        | inl at ↦ elim (bind_err (d (class name at.value)) (loaded w loader name at.value) at.second e at.next at.ends) [
          | inr s ↦ inr (record { place = at.value; found = (or_fail_ok (absent (class name loader)) (home w loader name) at.first at.value at.made at.ended).0; below = s.first; made = s.made; ends = s.ended })
          | inl b ↦ absurd (then_done_not (initiating_needs loader name at.value) [] b.value b.second e b.next b.ends)
        ]
      ]
    ]

-- the list of supertypes that are loaded ends ill at one after others that are good and fit
abbrev pub Blocked : World → Class → (Class → Type 0) → (Above → Type 0) → List Above → Type 0
Blocked w c good at others = FirstWrong (FitsAt w c good) at others

-- what is wrong there: what makes the derivation fail, or an error from below
abbrev pub BlockedAt : World → (Class → Work Kin) → Class → (Class → Type 0) → Error → Above → Type 0
BlockedAt w d c good e a = WrongAt w c good (λ s. ⊥) e a ⊎ IsIll w d c.loader a.name e

above_err : (w : World) (d : Class → Work Kin) (P : Class → Type 0) → Yields w d P → (c : Class) (others : List Above) (m : Made Forest) (e : Error) → loads_above w d c others ≡ Some m → m.ends ≡ Err e → Blocked w c P (BlockedAt w d c P e) others
above_err w d P y c [] m e h k = absurd (ok_not_err Bare e m.ends (step_is _ m h).1 k)
above_err w d P y c (a ∷ others) m e h k =
    elim (bind_err (load_by w d NoClassDef c.loader a.name) (checked w d c a others) m e h k) [
      | inr s ↦ elim (load_err w d NoClassDef c.loader a.name s.first e s.made s.ended) [
        | inl n ↦ inl (inl (inl n))
        | inr i ↦ inl (inr i)
      ]
      | inl one ↦
          let l = load_ok w d NoClassDef c.loader a.name one.first one.value one.made one.ended in
          let s = y (class a.name l.place) l.below one.value l.made l.ends in
          elim (bind_err (unless_wrong (misfit c a.role one.value.class one.value.file)) (others_after w d c others one.value) one.second e one.next one.ends) [
            | inr t ↦ inl (inl (inr (inr (record {
              place = l.place;
              found = l.found;
              holds = (s.0, record { file = one.value.file; has_file = s.2; judged = ap (λ (x : Class). misfit c a.role x one.value.file) (sym s.1) ∙ unless_err (misfit c a.role one.value.class one.value.file) t.first e t.made t.ended });
            }))))
            | inl t ↦ elim (bind_err (loads_above w d c others) (grown one.value) t.second e t.next t.ends) [
              | inl u ↦ absurd (ok_not_err _ e u.second.ends (step_is _ u.second u.next).1 u.ends)
              | inr u ↦ inr (
                record {
                  place = l.place;
                  found = l.found;
                  holds = (s.0, record { file = one.value.file; has_file = s.2; judged = ap (λ (x : Class). misfit c a.role x one.value.file) (sym s.1) ∙ (unless_ok (misfit c a.role one.value.class one.value.file) t.first t.value t.made t.ended).0 });
                },
                above_err w d P y c others u.first e u.made u.ended,
              )
            ]
          ]
    ]

-- the first wrong of a list is that of a longer one, and that of what follows things that fit too
pub wrong_left : (fits wrong : Above → Type 0) (xs ys : List Above) → FirstWrong fits wrong xs → FirstWrong fits wrong (xs ++ ys)
wrong_left fits wrong [] ys h = absurd h
wrong_left fits wrong (x ∷ xs) ys h = elim h [ inl k ↦ inl k | inr k ↦ inr (k.0, wrong_left fits wrong xs ys k.1) ]

pub wrong_right : (fits wrong : Above → Type 0) (xs ys : List Above) → AllByRecursion fits xs → FirstWrong fits wrong ys → FirstWrong fits wrong (xs ++ ys)
wrong_right fits wrong [] ys all h = h
wrong_right fits wrong (x ∷ xs) ys all h = inr (all.0, wrong_right fits wrong xs ys all.1 h)

-- the file is at fault, or a supertype
abbrev NewErr : World → (Class → Work Kin) → Class → (Class → Type 0) → Error → Type 0
NewErr w d c good e = (read_class w c ≡ Err e) ⊎ ((f : File) × HasFile w c f × Blocked w c good (BlockedAt w d c good e) (supers f))

new_err : (w : World) (d : Class → Work Kin) (P : Class → Type 0) → Yields w d P → (c : Class) (m : Made Kin) (e : Error) → derive_new w d c ≡ Some m → m.ends ≡ Err e → NewErr w d c P e
new_err w d P y c m e h k =
    elim (bind_err (of_result (read_class w c)) (superclass_next w d c) m e h k) [
      | inr s ↦ inl (result_err (read_class w c) s.first e s.made s.ended)
      | inl read ↦
          let file = (result_ok (read_class w c) read.first read.value read.made read.ended).0 in
          elim (bind_err (loads_above w d c (superclass_of read.value)) (interfaces_next w d c read.value) read.second e read.next read.ends) [
            | inr s ↦ inr (read.value, file, wrong_left (FitsAt w c P) (BlockedAt w d c P e) (superclass_of read.value) (superinterfaces_of read.value) (above_err w d P y c (superclass_of read.value) s.first e s.made s.ended))
            | inl up ↦ elim (bind_err (loads_above w d c (superinterfaces_of read.value)) (finished c read.value up.value) up.second e up.next up.ends) [
              | inl over ↦ absurd (then_done_not (Entry c.loader c.name c.loader ∷ []) [] _ over.second e over.next over.ends)
              | inr s ↦ inr (
                read.value,
                file,
                wrong_right (FitsAt w c P) (BlockedAt w d c P e) (superclass_of read.value) (superinterfaces_of read.value)
                    (above_good w d P y c (superclass_of read.value) up.first up.value up.made up.ended)
                    (above_err w d P y c (superinterfaces_of read.value) s.first e s.made s.ended),
              )
            ]
          ]
    ]

-- a walk ends in this error
abbrev pub Walks : World → List Class → Class → Error → Type 0
Walks w path c e = (x : Class) × (e ≡ ClassCircularity x) × Returns w path c x

-- it fails with that error, or a walk ends in it
abbrev pub FailsOrWalks : World → ℕ → List Class → Class → Error → Type 0
FailsOrWalks w n path c e = Fails w n c e ⊎ Walks w path c e

-- what stands below: each failure or walk there is one here
each_err : (w : World) (n : ℕ) (path : List Class) (c : Class) (d : Class → Work Kin) (e : Error) → ((s : Class) (m : Made Kin) → d s ≡ Some m → m.ends ≡ Err e → FailsOrWalks w n path s e) → (others : List Above) → Blocked w c (Good w n) (BlockedAt w d c (Good w n) e) others
    → FirstWrong (FitsAt w c (Good w n)) (WrongAt w c (Good w n) (λ s. Fails w n s e) e) others ⊎ ((s : Class) × FirstWrong (FitsAt w c (IsGood w)) (λ a. AtHome w c (λ t. t ≡ s) a.name) others × Walks w path s e)
each_err w n path c d e ih [] h = absurd h
each_err w n path c d e ih (a ∷ others) h =
    elim h [
      | inr k ↦ elim (each_err w n path c d e ih others k.1) [
        | inl x ↦ inl (inr (k.0, x))
        | inr x ↦ inr (x.0, inr (record { place = k.0.place; found = k.0.found; holds = ((n, k.0.holds.0), k.0.holds.1) }, x.1), x.2)
      ]
      | inl k ↦ elim k [
        | inl x ↦ elim x [
          | inl y ↦ inl (inl (inl y))
          | inr y ↦ elim y [
            | inl z ↦ absurd (z.holds)
            | inr z ↦ inl (inl (inr (inr z)))
          ]
        ]
        | inr x ↦ elim (ih (class a.name x.place) x.below x.made x.ends) [
          | inl y ↦ inl (inl (inr (inl (record { place = x.place; found = x.found; holds = y }))))
          | inr y ↦ inr (class a.name x.place, inl (record { place = x.place; found = x.found; holds = refl }), y)
        ]
      ]
    ]

circle_err : (w : World) (n : ℕ) (path : List Class) (c : Class) (a : Work Kin) (t : Bool) (m : Made Kin) (e : Error) → is_among path c ≡ t → circle_or c a t ≡ Some m → m.ends ≡ Err e → (a ≡ Some m) × (t ≡ false) ⊎ Walks w path c e
circle_err w n path c a true m e is h k = inr ((c, err_same {A = Kin} e (ClassCircularity c) m.ends k (step_is _ m h).1, record { steps = []; along = (is, refl) }))
circle_err w n path c a false m e is h k = inl (h, refl)

pub derive_err : (w : World) (n : ℕ) (path : List Class) (c : Class) (m : Made Kin) (e : Error) → derive w n path c ≡ Some m → m.ends ≡ Err e → FailsOrWalks w n path c e
derive_err w zero path c m e h k = absurd cc
derive_err w (suc n) path c m e h k =
    elim (bind_err (ask c.loader c.name) (λ (a : Unit {0}). circle_or c (derive_new w (derive w n (c ∷ path)) c) (is_among path c)) m e h k) [
      | inr s ↦ absurd (ok_not_err tt e s.first.ends (step_is _ s.first s.made).1 s.ended)
      | inl b ↦ elim (circle_err w n path c (derive_new w (derive w n (c ∷ path)) c) (is_among path c) b.second e refl b.next b.ends) [
        | inr x ↦ inr x
        | inl x ↦ elim (new_err w (derive w n (c ∷ path)) (Good w n) (derive_yields w n (c ∷ path)) c b.second e x.0 b.ends) [
          | inl y ↦ inl (inl y)
          | inr y ↦ elim (each_err w n (c ∷ path) c (derive w n (c ∷ path)) e (λ s m2 h2 k2. derive_err w n (c ∷ path) s m2 e h2 k2) (supers y.0) y.2) [
            | inl z ↦ inl (inr (y.0, y.1, z))
            | inr z ↦ inr ((z.2.0, z.2.1, record { steps = z.0 ∷ z.2.2.steps; along = (x.1, (y.0, y.1, z.1), z.2.2.along) }))
          ]
        ]
      ]
    ]

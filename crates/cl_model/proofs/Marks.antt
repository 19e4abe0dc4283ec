-- What a step of a service closes: a name without a record, a class that is not prepared, an equality that is not imposed, a reference that is not settled.
use Rattle.std.proofs.Common.{◌≡◌, ◌⊎◌, ◌≤◌, inl, inr, ℕ, suc, ◌+◌, Bool, true, false, ◌==◌, ◌&&◌, ◌||◌, not, if◌then◌else◌, List, [], ◌∷◌, ◌++◌, length, map, Option, Some, None, refl, sym, ap, subst, ◌∙◌, arith, is_some}
use Rattle.std.specs.Prelude.{option_map, find, Contains}
use Rattle.std.specs.List.{AllByRecursion, list_any}
use Rattle.std.proofs.lemmas.Bool.{eqb-true, and_parts}
use Rattle.std.proofs.lemmas.List.Elements.{Contains-append_left, Contains-append_right}
use Rattle.std.proofs.lemmas.Cmp.{nat_eq_equiv, nat_list_eq_equiv}
use Rattle.cl_classfile.specs.Files.{Name, same_name}
use Rattle.cl_model.specs.declared.class.Class.{Class}
use Rattle.cl_model.specs.Classes.{same_class, is_among}
use Rattle.cl_model.specs.States.{State, Equality, Settled, Need, Entry, Equal, Verdict, recorded_definer, settled_to, MayAdd}
use Rattle.cl_model.specs.Works.{Ask}
use Rattle.cl_model.specs.Machine.{Step, Define, Initiate, Constrain, Settle, Prepare, Post, NextRound, Stray, after, step_for}
use Rattle.cl_model.proofs.Complete.{is_class}
use Rattle.cl_model.proofs.Runs.{after_later, joined_link, names_equal}
use Rattle.cl_model.proofs.Sound.{settled_stay}
use Rattle.cl_model.proofs.Ancestors.{same_self}
use Rattle.cl_model.proofs.Service.{no_record, made_met}

-- ---- lists

-- a value stands in a list
abbrev pub In : {A : Type 0} → A → List A → Type 0
In x [] = ⊥
In x (y ∷ ys) = (y ≡ x) ⊎ In x ys

pub in_left : {A : Type 0} (x : A) (xs ys : List A) → In x xs → In x (xs ++ ys)
in_left x [] ys h = absurd h
in_left x (z ∷ xs) ys (inl e) = inl e
in_left x (z ∷ xs) ys (inr h) = inr (in_left x xs ys h)

pub in_right : {A : Type 0} (x : A) (xs ys : List A) → In x ys → In x (xs ++ ys)
in_right x [] ys h = h
in_right x (z ∷ xs) ys h = inr (in_right x xs ys h)

pub in_split : {A : Type 0} (x : A) (xs ys : List A) → In x (xs ++ ys) → In x xs ⊎ In x ys
in_split x [] ys h = inr h
in_split x (z ∷ xs) ys (inl e) = inl (inl e)
in_split x (z ∷ xs) ys (inr h) = elim (in_split x xs ys h) [ inl k ↦ inl (inr k) | inr k ↦ inr k ]

pub in_map : {A B : Type 0} (f : A → B) (x : A) (xs : List A) → In x xs → In (f x) (map f xs)
in_map f x [] h = absurd h
in_map f x (y ∷ xs) (inl e) = inl (ap f e)
in_map f x (y ∷ xs) (inr h) = inr (in_map f x xs h)

pub all_in : {A : Type 0} (P : A → Type 0) (xs : List A) (x : A) → AllByRecursion P xs → In x xs → P x
all_in P [] x all h = absurd h
all_in P (y ∷ xs) x all (inl e) = subst P e all.0
all_in P (y ∷ xs) x all (inr h) = all_in P xs x all.1 h

-- a list without one of its values
pub record Without {A : Type 0} (x : A) (xs : List A) : Type 0 where
  pub rest : List A
  pub shorter : length xs ≡ suc (length rest)
  pub keeps : (y : A) → In y xs → (x ≡ y → ⊥) → In y rest

pub without : {A : Type 0} (x : A) (xs : List A) → In x xs → Without x xs
without x [] h = absurd h
without {A} x (z ∷ xs) (inl e) = record { rest = xs; shorter = refl; keeps = λ y k ne. elim k [ inl d ↦ absurd (ne (sym e ∙ d)) | inr d ↦ d ] }
without {A} x (z ∷ xs) (inr h) =
    let w = without x xs h in
    record { rest = z ∷ w.rest; shorter = ap (λ (n : ℕ). suc n) w.shorter; keeps = λ y k ne. elim k [ inl d ↦ inl d | inr d ↦ inr (w.keeps y d ne) ] }

-- ---- what is left open

-- how many of these pass a test
abbrev pub left : {A : Type 0} → (A → Bool) → List A → ℕ
left test [] = 0
left test (x ∷ xs) = (if test x then 1 else 0) + left test xs

pub left_length : {A : Type 0} (test : A → Bool) (xs : List A) → left test xs ≤ length xs
left_length test [] = omega arith
left_length test (x ∷ xs) = at (test x) (left_length test xs)
  where
    at : (b : Bool) → left test xs ≤ length xs → (if b then 1 else 0) + left test xs ≤ suc (length xs)
    at true h = omega arith
    at false h = omega arith

pub left_le : {A : Type 0} (p q : A → Bool) (xs : List A) → ((x : A) → q x ≡ true → p x ≡ true) → left q xs ≤ left p xs
left_le p q [] h = omega arith
left_le p q (x ∷ xs) h = at (q x) (p x) (h x) (left_le p q xs h)
  where
    at : (b d : Bool) → (b ≡ true → d ≡ true) → left q xs ≤ left p xs → (if b then 1 else 0) + left q xs ≤ (if d then 1 else 0) + left p xs
    at true true f k = omega arith
    at true false f k = absurd (let e : false ≡ true = f refl in cc)
    at false true f k = omega arith
    at false false f k = omega arith

pub left_less : {A : Type 0} (p q : A → Bool) (xs : List A) (x : A) → ((y : A) → q y ≡ true → p y ≡ true) → In x xs → p x ≡ true → q x ≡ false → left q xs + 1 ≤ left p xs
left_less p q [] x h i a b = absurd i
left_less p q (y ∷ xs) x h (inl e) a b =
    let rest = left_le p q xs h in
    at (q y) (p y) (subst (λ (z : _). q z ≡ false) (sym e) b) (subst (λ (z : _). p z ≡ true) (sym e) a) rest
  where
    at : (b d : Bool) → b ≡ false → d ≡ true → left q xs ≤ left p xs → ((if b then 1 else 0) + left q xs) + 1 ≤ (if d then 1 else 0) + left p xs
    at true d f g k = absurd cc
    at false true f g k = omega arith
    at false false f g k = absurd cc
left_less p q (y ∷ xs) x h (inr i) a b = at (q y) (p y) (h y) (left_less p q xs x h i a b)
  where
    at : (b d : Bool) → (b ≡ true → d ≡ true) → left q xs + 1 ≤ left p xs → ((if b then 1 else 0) + left q xs) + 1 ≤ (if d then 1 else 0) + left p xs
    at true true f k = omega arith
    at true false f k = absurd (let e : false ≡ true = f refl in cc)
    at false true f k = omega arith
    at false false f k = omega arith

-- ---- what a step may close

-- a loader and a name without a record, a class that is not prepared, an equality that is not imposed, a reference that is not settled
pub data Mark : Type 0 where
  OfAsk : (ask : Ask) → Mark
  OfClass : (class : Class) → Mark
  OfEqual : (name : Name) → (one : ℕ) → (other : ℕ) → Mark
  OfReference : (class : Class) → (index : ℕ) → Mark

pub imposed : List Equality → Name → ℕ → ℕ → Bool
imposed ks name a b = list_any (λ (e : Equality). same_name e.name name && ((e.one == a) && (e.other == b))) ks

abbrev pub open_in : State → Mark → Bool
open_in s (OfAsk a) = not (is_some (recorded_definer s.records a.loader a.name))
open_in s (OfClass c) = not (is_among s.prepared c)
open_in s (OfEqual name a b) = not (imposed s.equalities name a b)
open_in s (OfReference d i) = not (is_some (settled_to s.settled d i))

not_false : (b : Bool) → not b ≡ true → b ≡ true → ⊥
not_false true h k = cc
not_false false h k = cc

any_left : {A : Type 0} (p : A → Bool) (xs ys : List A) → list_any p xs ≡ true → list_any p (xs ++ ys) ≡ true
any_left p [] ys h = absurd cc
any_left p (x ∷ xs) ys h = at (p x) (any_left p xs ys) h
  where
    at : (b : Bool) → (list_any p xs ≡ true → list_any p (xs ++ ys) ≡ true) → (b || list_any p xs) ≡ true → (b || list_any p (xs ++ ys)) ≡ true
    at true ih k = refl
    at false ih k = ih k

any_last : {A : Type 0} (p : A → Bool) (xs : List A) (x : A) → p x ≡ true → list_any p (xs ++ x ∷ []) ≡ true
any_last p [] x h = ap (λ (b : Bool). b || false) h
any_last p (y ∷ xs) x h = at (p y) (any_last p xs x h)
  where
    at : (b : Bool) → list_any p (xs ++ x ∷ []) ≡ true → (b || list_any p (xs ++ x ∷ [])) ≡ true
    at true k = refl
    at false k = k

any_contains : {A : Type 0} (p : A → Bool) (xs : List A) → list_any p xs ≡ true → (x : A) × (p x ≡ true) × Contains xs x
any_contains p [] h = absurd cc
any_contains {A} p (x ∷ xs) h = at (p x) refl (any_contains p xs) h
  where
    at : (b : Bool) → p x ≡ b → (list_any p xs ≡ true → (y : A) × (p y ≡ true) × Contains xs y) → (b || list_any p xs) ≡ true → (y : A) × (p y ≡ true) × Contains (x ∷ xs) y
    at true e ih k = (x, e, Contains-append_left (x ∷ []) xs x (0, omega arith, refl))
    at false e ih k = let r = ih k in (r.0, r.1, Contains-append_right (x ∷ []) xs r.0 r.2)

-- what is closed stays so
prepared_more : (s : State) (e : Step) (c : Class) → is_among s.prepared c ≡ true → is_among (after s e).prepared c ≡ true
prepared_more s (Define d) c h = h
prepared_more s (Initiate name place loader) c h = h
prepared_more s (Constrain name a b) c h = h
prepared_more s (Settle d i v) c h = h
prepared_more s (Prepare d) c h = any_left (same_class c) s.prepared (d ∷ []) h
prepared_more s (Post q a) c h = h
prepared_more s NextRound c h = h
prepared_more s Stray c h = h

imposed_more : (s : State) (e : Step) (name : Name) (a b : ℕ) → imposed s.equalities name a b ≡ true → imposed (after s e).equalities name a b ≡ true
unfolding imposed
imposed_more s (Define d) name a b h = h
imposed_more s (Initiate n place loader) name a b h = h
imposed_more s (Constrain n x y) name a b h = any_left (λ (e : Equality). same_name e.name name && ((e.one == a) && (e.other == b))) s.equalities (record { name = n; one = x; other = y } ∷ []) h
imposed_more s (Settle d i v) name a b h = h
imposed_more s (Prepare d) name a b h = h
imposed_more s (Post q x) name a b h = h
imposed_more s NextRound name a b h = h
imposed_more s Stray name a b h = h

stays_closed : (b d : Bool) → (b ≡ true → d ≡ true) → not d ≡ true → not b ≡ true
stays_closed true d h k = absurd (not_false d k (h refl))
stays_closed false d h k = refl

some_stays : {A : Type 0} (o p : Option A) → ((x : A) → o ≡ Some x → p ≡ Some x) → is_some o ≡ true → is_some p ≡ true
some_stays None p h k = absurd cc
some_stays (Some x) p h k = ap is_some (h x refl)

pub open_before : (s : State) (e : Step) (m : Mark) → open_in (after s e) m ≡ true → open_in s m ≡ true
open_before s e (OfAsk a) h =
    stays_closed (is_some (recorded_definer s.records a.loader a.name)) (is_some (recorded_definer (after s e).records a.loader a.name))
    (some_stays (recorded_definer s.records a.loader a.name) (recorded_definer (after s e).records a.loader a.name) (λ p k. (after_later s e).records a.loader p a.name k)) h
open_before s e (OfClass c) h = stays_closed (is_among s.prepared c) (is_among (after s e).prepared c) (prepared_more s e c) h
open_before s e (OfEqual name a b) h = stays_closed (imposed s.equalities name a b) (imposed (after s e).equalities name a b) (imposed_more s e name a b) h
open_before s e (OfReference d i) h =
    stays_closed (is_some (settled_to s.settled d i)) (is_some (settled_to (after s e).settled d i))
    (some_stays (settled_to s.settled d i) (settled_to (after s e).settled d i) (λ v k. settled_stay s (e ∷ []) d i v k)) h

-- ---- what a step of a service closes

-- a mark is test before a step, and no more after it
pub record Closes (s : State) (e : Step) (m : Mark) : Type 0 where
  pub before : open_in s m ≡ true
  pub after_it : open_in (after s e) m ≡ false

none_open : {A : Type 0} (o : Option A) → o ≡ None → not (is_some o) ≡ true
none_open o h = ap (λ (x : Option _). not (is_some x)) h

some_closed : {A : Type 0} (o : Option A) (x : A) → o ≡ Some x → not (is_some o) ≡ false
some_closed o x h = ap (λ (y : Option _). not (is_some y)) h

false_open : (b : Bool) → (b ≡ true → ⊥) → not b ≡ true
false_open true h = absurd (h refl)
false_open false h = refl

true_closed : (b : Bool) → b ≡ true → not b ≡ false
true_closed b h = ap not h

-- what stands once a need does
abbrev pub mark_of : Need → Mark
mark_of (Entry loader name place) = OfAsk (record { loader = loader; name = name })
mark_of (Equal name a b) = OfEqual name a b

unimposed : (s : State) (name : Name) (a b : ℕ) → MayAdd s (Equal name a b) → imposed s.equalities name a b ≡ true → ⊥
unfolding imposed
unimposed s name a b may h =
    let x = any_contains (λ (e : Equality). same_name e.name name && ((e.one == a) && (e.other == b))) s.equalities h in
    let named = and_parts (same_name x.0.name name) ((x.0.one == a) && (x.0.other == b)) x.1 in
    let ends = and_parts (x.0.one == a) (x.0.other == b) named.1 in
    may.unmet (joined_link s.equalities name a b (record { equality = x.0; imposed = x.2; named = names_equal x.0.name name named.0; ends = inl (eqb-true x.0.one a ends.0, eqb-true x.0.other b ends.1) }))

imposed_last : (ks : List Equality) (name : Name) (a b : ℕ) → imposed (ks ++ record { name = name; one = a; other = b } ∷ []) name a b ≡ true
unfolding imposed
imposed_last ks name a b =
    any_last (λ (e : Equality). same_name e.name name && ((e.one == a) && (e.other == b))) ks (record { name = name; one = a; other = b })
    (rw (nat_list_eq_equiv.refl name, nat_eq_equiv.refl a, nat_eq_equiv.refl b) refl)

pub need_closes : (s : State) (n : Need) → MayAdd s n → Closes s (step_for n) (mark_of n)
need_closes s (Entry loader name place) may = record {
  before = none_open (recorded_definer s.records loader name) (no_record s loader place name may (recorded_definer s.records loader name) refl);
  after_it = some_closed (recorded_definer (after s (step_for (Entry loader name place))).records loader name) place (made_met s (Entry loader name place) may);
}
need_closes s (Equal name a b) may = record {
  before = false_open (imposed s.equalities name a b) (unimposed s name a b may);
  after_it = true_closed (imposed (after s (Constrain name a b)).equalities name a b) (imposed_last s.equalities name a b);
}

pub prepare_closes : (s : State) (c : Class) → (Contains s.prepared c → ⊥) → Closes s (Prepare c) (OfClass c)
prepare_closes s c free = record {
  before = false_open (is_among s.prepared c) (λ h. let x = any_contains (same_class c) s.prepared h in free (subst (λ (d : Class). Contains s.prepared d) (sym (is_class c x.0 x.1)) x.2));
  after_it = true_closed (is_among (after s (Prepare c)).prepared c) (any_last (same_class c) s.prepared c (same_self c));
}

settled_found : (rs : List Settled) (d : Class) (i : ℕ) (v : Verdict) → settled_to rs d i ≡ None → settled_to (rs ++ record { class = d; index = i; verdict = v } ∷ []) d i ≡ Some v
settled_found [] d i v h = rw (same_self d, nat_eq_equiv.refl i) refl
settled_found (r ∷ rs) d i v h = at (same_class r.class d && (r.index == i)) (settled_found rs d i v) h
  where
    at : (b : Bool) → (settled_to rs d i ≡ None → settled_to (rs ++ record { class = d; index = i; verdict = v } ∷ []) d i ≡ Some v)
        → option_map (λ (x : Settled). x.verdict) (if b then Some r else find (λ (x : Settled). same_class x.class d && (x.index == i)) rs) ≡ None
        → option_map (λ (x : Settled). x.verdict) (if b then Some r else find (λ (x : Settled). same_class x.class d && (x.index == i)) (rs ++ record { class = d; index = i; verdict = v } ∷ [])) ≡ Some v
    at true ih k = absurd cc
    at false ih k = ih k

pub settle_closes : (s : State) (d : Class) (i : ℕ) (v : Verdict) → settled_to s.settled d i ≡ None → Closes s (Settle d i v) (OfReference d i)
settle_closes s d i v free = record {
  before = none_open (settled_to s.settled d i) free;
  after_it = some_closed (settled_to (after s (Settle d i v)).settled d i) v (settled_found s.settled d i v free);
}

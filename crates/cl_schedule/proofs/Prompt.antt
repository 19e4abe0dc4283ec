-- Pieces of a history that are added one by one: whom they take, and what is known of one by those before it (JVMS SE 8, 5.3 to 5.4.3).
use Rattle.std.proofs.Common.{◌≡◌, ◌⊎◌, inl, inr, ◌∙◌, ℕ, suc, Bool, true, false, List, [], ◌∷◌, ◌++◌, Option, Some, None, refl, sym, ap, subst, arith}
use Rattle.std.specs.Prelude.{if◌then◌else◌, unwrap_or}
use Rattle.std.proofs.lemmas.List.{append_cancel_left}
use Rattle.cl_config.specs.Loaders.{schedule_of}
use Rattle.cl_model.specs.Content.{Content}
use Rattle.cl_model.specs.States.{State, Answer}
use Rattle.cl_model.specs.Machine.{Setting, Step, Post, NextRound, state_after}
use Rattle.cl_model.specs.Service.{PassesRounds}
use Rattle.cl_registry.specs.Tables.{Shown, state_of, steps, machine}
use Rattle.cl_registry.proofs.Histories.{eq_nat}
use Rattle.cl_schedule.specs.Choices.{Chooses, IsInTime, IsPrompt, Piece, first_taken, is_of, piece, takings}
use Rattle.cl_schedule.specs.Known.{HasVerdict}
use Rattle.cl_schedule.specs.Nearing.{by_verdict}
use Rattle.cl_schedule.specs.Paying.{by_plan}
use Rattle.cl_schedule.specs.Takings.{PostsInTime}
use Rattle.cl_schedule.proofs.Places.{same_nat, true_false}
use Rattle.cl_model.proofs.Bind.{some_same}

-- ---- whom a piece takes

of_this : (q : ℕ) (o : Option ℕ) → o ≡ Some q → is_of q o ≡ true
of_this q o is = ap (is_of q) is ∙ same_nat q

pub this_of : (q : ℕ) (o : Option ℕ) → is_of q o ≡ true → o ≡ Some q
this_of q None is = absurd cc
this_of q (Some p) is = ap (λ (n : ℕ). Some n) (eq_nat p q is)

pub of_other : (q p : ℕ) (o : Option ℕ) → o ≡ Some p → is_of q o ≡ false → q ≡ p → ⊥
of_other q p o is apart same = true_false (is_of q o) (of_this q o (is ∙ ap (λ (n : ℕ). Some n) (sym same))) apart

pub takings_this : (q : ℕ) (ps : List Piece) (p : Piece) → is_of q p.taken ≡ true → takings q (ps ++ p ∷ []) ≡ suc (takings q ps)
takings_this q [] p is = ap (λ (b : Bool). if b then suc 0 else 0) is
takings_this q (x ∷ xs) p is = ap (λ (n : ℕ). if is_of q x.taken then suc n else n) (takings_this q xs p is) ∙ one_more (is_of q x.taken) (takings q xs)
  where
    one_more : (b : Bool) (n : ℕ) → (if b then suc (suc n) else suc n) ≡ suc (if b then suc n else n)
    one_more true n = refl
    one_more false n = refl

pub takings_other : (q : ℕ) (ps : List Piece) (p : Piece) → is_of q p.taken ≡ false → takings q (ps ++ p ∷ []) ≡ takings q ps
takings_other q [] p is = ap (λ (b : Bool). if b then suc 0 else 0) is
takings_other q (x ∷ xs) p is = ap (λ (n : ℕ). if is_of q x.taken then suc n else n) (takings_other q xs p is)

-- the state in which a request was taken first, or this piece was
pub first_since : (q : ℕ) (ps : List Piece) (p : Piece) (s : State) → first_taken q (ps ++ p ∷ []) ≡ Some s → s ≡ unwrap_or (first_taken q ps) p.state
first_since q [] p s first = by_this (is_of q p.taken) first
  where
    by_this : (b : Bool) → (if b then Some p.state else None) ≡ Some s → s ≡ p.state
    by_this true e = sym (some_same p.state s e)
    by_this false e = absurd cc
first_since q (x ∷ xs) p s first = by_first (is_of q x.taken) (first_taken q xs) (first_taken q (xs ++ p ∷ [])) first (first_since q xs p s)
  where
    by_first : (b : Bool) (one more : Option State) → (if b then Some x.state else more) ≡ Some s → (more ≡ Some s → s ≡ unwrap_or one p.state) → s ≡ unwrap_or (if b then Some x.state else one) p.state
    by_first true one more e f = sym (some_same x.state s e)
    by_first false one more e f = f e

pub untaken_none : (q : ℕ) (ps : List Piece) → first_taken q ps ≡ None → takings q ps ≡ 0
untaken_none q [] none = refl
untaken_none q (x ∷ xs) none = by_first (is_of q x.taken) (first_taken q xs) (takings q xs) none (untaken_none q xs)
  where
    by_first : (b : Bool) (one : Option State) (n : ℕ) → (if b then Some x.state else one) ≡ None → (one ≡ None → n ≡ 0) → (if b then suc n else n) ≡ 0
    by_first true one n e f = absurd cc
    by_first false one n e f = f e

pub untaken_before : (q : ℕ) (ps : List Piece) (p : Piece) → first_taken q (ps ++ p ∷ []) ≡ None → (first_taken q ps ≡ None) × (is_of q p.taken ≡ false)
untaken_before q [] p none = (refl, by_this (is_of q p.taken) none)
  where
    by_this : (b : Bool) → (if b then Some p.state else None) ≡ None → b ≡ false
    by_this true e = absurd cc
    by_this false e = refl
untaken_before q (x ∷ xs) p none = by_first (is_of q x.taken) (first_taken q xs) (first_taken q (xs ++ p ∷ [])) none (untaken_before q xs p)
  where
    by_first : (b : Bool) (one more : Option State) → (if b then Some x.state else more) ≡ None → (more ≡ None → (one ≡ None) × (is_of q p.taken ≡ false)) → ((if b then Some x.state else one) ≡ None) × (is_of q p.taken ≡ false)
    by_first true one more e f = absurd cc
    by_first false one more e f = f e

-- ---- pieces, one after another

head_is : {A : Type 0} (x y : A) (xs ys : List A) → x ∷ xs ≡ y ∷ ys → x ≡ y
head_is x y xs ys e = cc

tail_is : {A : Type 0} (x y : A) (xs ys : List A) → x ∷ xs ≡ y ∷ ys → xs ≡ ys
tail_is x y xs ys e = cc

no_end : (before behind : List Piece) (p : Piece) → [] ≡ before ++ p ∷ behind → ⊥
no_end [] behind p e = cc
no_end (b ∷ before) behind p e = cc

split_last : (xs before : List Piece) (x p : Piece) (behind : List Piece) → xs ++ x ∷ [] ≡ before ++ p ∷ behind → ((before ≡ xs) × (p ≡ x)) ⊎ ((more : List Piece) × (xs ≡ before ++ p ∷ more))
split_last [] [] x p behind e = inl (refl, sym (head_is x p [] behind e))
split_last [] (b ∷ before) x p behind e = absurd (no_end before behind p (tail_is x b [] (before ++ p ∷ behind) e))
split_last (y ∷ ys) [] x p behind e = inr (ys, ap (λ (k : Piece). k ∷ ys) (head_is y p (ys ++ x ∷ []) behind e))
split_last (y ∷ ys) (b ∷ before) x p behind e = both (head_is y b (ys ++ x ∷ []) (before ++ p ∷ behind) e) (split_last ys before x p behind (tail_is y b (ys ++ x ∷ []) (before ++ p ∷ behind) e))
  where
    both : y ≡ b → ((before ≡ ys) × (p ≡ x)) ⊎ ((more : List Piece) × (ys ≡ before ++ p ∷ more)) → (((b ∷ before) ≡ (y ∷ ys)) × (p ≡ x)) ⊎ ((more : List Piece) × ((y ∷ ys) ≡ (b ∷ before) ++ p ∷ more))
    both one (inl (same, is)) = inl (ap (λ (k : Piece). k ∷ before) (sym one) ∙ ap (λ (ks : List Piece). y ∷ ks) same, is)
    both one (inr (more, is)) = inr (more, ap (λ (k : Piece). k ∷ ys) one ∙ ap (λ (ks : List Piece). b ∷ ks) is)

-- what holds of each piece by those before it, as ArePrompt and AreInTime
abbrev pub AreEach : (List Piece → Piece → Type 0) → List Piece → Type 0
AreEach Is pieces = (before behind : List Piece) (p : Piece) → pieces ≡ before ++ p ∷ behind → Is before p

pub each_none : (Is : List Piece → Piece → Type 0) → AreEach Is []
each_none Is = λ before behind p whole. absurd (no_end before behind p whole)

pub each_push : (Is : List Piece → Piece → Type 0) (ps : List Piece) (p : Piece) → AreEach Is ps → Is ps p → AreEach Is (ps ++ p ∷ [])
each_push Is ps p all last = λ before behind k whole. elim (split_last ps before p k behind whole) [
  | inl same ↦ subst (λ (b : List Piece). Is b k) (sym same.0) (subst (λ (m : Piece). Is ps m) (sym same.1) last)
  | inr more ↦ all before more.0 k more.1
]

-- ---- what the piece is of which it is known what it posts

only_post : (g : Setting) (s t : State) (c q : ℕ) (a : Answer) (one rounds rest : List Step) → Chooses g s c one → PassesRounds g t rounds → one ++ rounds ≡ Post q a ∷ rest → one ≡ Post q a ∷ []
only_post g s t c q a [] [] rest chosen passed whole = absurd cc
only_post g s t c q a [] (e ∷ es) rest chosen passed whole = absurd (no_round passed.0 (head_is e (Post q a) es rest whole))
  where
    no_round : e ≡ NextRound → e ≡ Post q a → ⊥
    no_round one two = cc
only_post g s t c q a (e ∷ []) rounds rest chosen passed whole = ap (λ (k : Step). k ∷ []) (head_is e (Post q a) rounds rest whole)
only_post g s t c q a (e ∷ f ∷ more) rounds rest chosen passed whole = absurd chosen

this_post : (old new : Shown) (content : Content) (c q : ℕ) (a : Answer) (one rounds rest : List Step) → steps new ≡ steps old ++ (one ++ rounds) → Chooses (machine old content) (state_of old) c one → PassesRounds (machine old content) (state_after (state_of old) one) rounds → steps new ≡ steps old ++ Post q a ∷ rest → one ≡ Post q a ∷ []
this_post old new content c q a one rounds rest whole chosen passed post =
    only_post (machine old content) (state_of old) (state_after (state_of old) one) c q a one rounds rest chosen passed (append_cancel_left (steps old) (one ++ rounds) (Post q a ∷ rest) (sym whole ∙ post))

pub is_prompt : (A : Type 0) (old new : Shown) (content : Content) (c : ℕ) (one rounds : List Step) (ps : List Piece) → PostsInTime {A = A} by_verdict old new c ps → steps new ≡ steps old ++ (one ++ rounds) → Chooses (machine old content) (state_of old) c one → PassesRounds (machine old content) (state_after (state_of old) one) rounds
    → IsPrompt (schedule_of old.script) ps (piece (schedule_of old.script) (state_of old) c one rounds)
is_prompt A old new content c one rounds ps posts whole chosen passed = λ q r s v taken twice asked first has.
    let k = posts q r v taken asked (subst (λ (o : Option State). HasVerdict (unwrap_or o (state_of old)) r.request v) (sym first) has) (omega arith) in (
      k.0,
      k.2,
      this_post old new content c q k.0 one rounds k.1 whole chosen passed k.3,
    )

pub is_in_time : (A : Type 0) (old new : Shown) (content : Content) (c : ℕ) (one rounds : List Step) (ps : List Piece) → PostsInTime {A = A} (by_plan (Some content) old.config) old new c ps → steps new ≡ steps old ++ (one ++ rounds) → Chooses (machine old content) (state_of old) c one → PassesRounds (machine old content) (state_after (state_of old) one) rounds
    → IsInTime (machine old content) ps (piece (schedule_of old.script) (state_of old) c one rounds)
is_in_time A old new content c one rounds ps posts whole chosen passed = λ q r plan taken asked is within.
    let k = posts q r ((machine old content).world, plan) taken asked (record { content = content; told_so = refl; world = refl; planned = is }) within in
    (k.0, this_post old new content c q k.0 one rounds k.1 whole chosen passed k.3)

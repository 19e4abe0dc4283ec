-- A text is one script, or has one first line that is wrong.
use Rattle.std.proofs.Common.{◌≡◌, ◌⊎◌, ℕ, ◌≤◌, List, [], ◌∷◌, ◌++◌, length, Some, None, Option, Ok, refl, sym, ap, subst, ◌∙◌, arith, inl, inr, append_assoc}
use Rattle.cl_model.specs.declared.request.Request.{Request}
use Rattle.cl_model.specs.declared.request.Request.TheVariants.{Load, Resolve, Link}
use Rattle.cl_lines.specs.Lines.{Numbered, stated_from}
use Rattle.cl_config.specs.declared.script.Action.{Action}
use Rattle.cl_config.specs.declared.script.Said.{Said}
use Rattle.cl_config.specs.declared.script.Said.TheVariants.{Ask, Then}
use Rattle.cl_config.specs.declared.script.ScriptFault.TheVariants.{Memory, BadLine, UnknownLoader, TooMany}
use Rattle.cl_config.specs.Views.{Scripted, loader_named}
use Rattle.cl_config.specs.Scripts.{AsksFor, IsBad, LacksLoader, ScriptAsks, ScriptSays, ScriptSaysAll, requests_in, thens_in, ScriptFits, script_from, ScriptStopsAt, TellsScript, IsTooMany, script_of}
use Rattle.cl_config.specs.ScriptLaws.{ScriptHasOneFault, ScriptOrItsFault}
use Rattle.cl_config.proofs.Requests.{one_asked, request_is_no_round, one_said, all_one_said}

-- ---- one line

-- a line that says nothing
SaysNot : List (List ℕ) → Numbered → Type 0
SaysNot names line = (x : Said) → ScriptSays names line.text x → ⊥

bad_asks_not : (names : List (List ℕ)) (line : Numbered) (r : Request) → IsBad line.text → ScriptAsks names line.text r → ⊥
bad_asks_not names line (Load l n) bad t = bad.request _ t.word n t.request
bad_asks_not names line (Resolve l n i) bad t = bad.request _ t.word n t.request
bad_asks_not names line (Link l n) bad t = bad.request _ t.word n t.request

bad_says_not : (names : List (List ℕ)) (line : Numbered) → IsBad line.text → SaysNot names line
unfolding SaysNot
bad_says_not names line bad (Ask r) t = bad_asks_not names line r bad t
bad_says_not names line bad Then t = bad.round t

none_or_some : (o : Option ℕ) (n : ℕ) → o ≡ None → o ≡ Some n → ⊥
none_or_some o n e f = absurd cc

lacks_calls_not : (names : List (List ℕ)) (line : List ℕ) (a : Action) (l : ℕ) (n : List ℕ) → LacksLoader names line → AsksFor names line a l n → ⊥
lacks_calls_not names line a l n v t =
    let one = one_asked line v.action a v.word t.word v.name n v.request t.request in
    none_or_some (loader_named names v.word) l v.unknown (ap (loader_named names) one.loaders ∙ t.known)

lacks_asks_not : (names : List (List ℕ)) (line : Numbered) (r : Request) → LacksLoader names line.text → ScriptAsks names line.text r → ⊥
lacks_asks_not names line (Load l n) v t = lacks_calls_not names line.text _ l n v t
lacks_asks_not names line (Resolve l n i) v t = lacks_calls_not names line.text _ l n v t
lacks_asks_not names line (Link l n) v t = lacks_calls_not names line.text _ l n v t

lacks_says_not : (names : List (List ℕ)) (line : Numbered) → LacksLoader names line.text → SaysNot names line
unfolding SaysNot
lacks_says_not names line v (Ask r) t = lacks_asks_not names line r v t
lacks_says_not names line v Then t = request_is_no_round line.text v.action v.word v.name v.request t

-- ---- lines and what they say, cut at the same place

-- what is said up to a line, there, and behind it
pub record IsSplit (names : List (List ℕ)) (front : List Numbered) (line : Numbered) (behind : List Numbered) (xs : List Said) : Type 0 where
  pub before : List Said
  pub here : Said
  pub after : List Said
  pub is : xs ≡ before ++ here ∷ after
  pub first : ScriptSaysAll names front before
  pub says : ScriptSays names line.text here

split : (names : List (List ℕ)) (front : List Numbered) (line : Numbered) (behind : List Numbered) (xs : List Said) → ScriptSaysAll names (front ++ line ∷ behind) xs → IsSplit names front line behind xs
split names [] line behind [] t = absurd t
split names [] line behind (x ∷ xs) t = record { before = []; here = x; after = xs; is = refl; first = tt; says = t.0 }
split names (l ∷ ls) line behind [] t = absurd t
split names (l ∷ ls) line behind (x ∷ xs) t =
    let s = split names ls line behind xs t.1 in
    record { before = x ∷ s.before; here = s.here; after = s.after; is = ap (λ ys. x ∷ ys) s.is; first = (t.0, s.first); says = s.says }

-- a line stands before another one
pub record IsBefore (front : List Numbered) (line : Numbered) (other : List Numbered) : Type 0 where
  pub behind : List Numbered
  pub is : other ≡ front ++ line ∷ behind

-- two lines of the same lines are one, or one stands before the other
pub record AreSame (front : List Numbered) (line : Numbered) (other_front : List Numbered) (other : Numbered) : Type 0 where
  pub fronts : front ≡ other_front
  pub lines : line ≡ other

Cut : List Numbered → Numbered → List Numbered → Numbered → Type 0
Cut front line other_front other = AreSame front line other_front other ⊎ (IsBefore front line other_front ⊎ IsBefore other_front other front)

same_head : {l m : Numbered} {ls ms : List Numbered} → l ∷ ls ≡ m ∷ ms → l ≡ m
same_head e = cc

same_tail : {l m : Numbered} {ls ms : List Numbered} → l ∷ ls ≡ m ∷ ms → ls ≡ ms
same_tail e = cc

one_more : (l m : Numbered) (front other_front : List Numbered) (line other : Numbered) → l ≡ m → Cut front line other_front other → Cut (l ∷ front) line (m ∷ other_front) other
unfolding Cut
one_more l m front other_front line other e (inl h) = inl (record { fronts = both e h.fronts; lines = h.lines })
  where
    both : {l m : Numbered} {ls ms : List Numbered} → l ≡ m → ls ≡ ms → l ∷ ls ≡ m ∷ ms
    both e f = cc
one_more l m front other_front line other e (inr (inl h)) = inr (inl (record { behind = h.behind; is = ap (λ ls. m ∷ ls) h.is ∙ ap (λ k. k ∷ (front ++ line ∷ h.behind)) (sym e) }))
one_more l m front other_front line other e (inr (inr h)) = inr (inr (record { behind = h.behind; is = ap (λ ls. l ∷ ls) h.is ∙ ap (λ k. k ∷ (other_front ++ other ∷ h.behind)) e }))

cut_of : (front other_front : List Numbered) (line other : Numbered) (behind other_behind : List Numbered) → front ++ line ∷ behind ≡ other_front ++ other ∷ other_behind → Cut front line other_front other
unfolding Cut
cut_of [] [] line other behind other_behind e = inl (record { fronts = refl; lines = same_head e })
cut_of [] (m ∷ ms) line other behind other_behind e = inr (inl (record { behind = ms; is = ap (λ k. k ∷ ms) (sym (same_head e)) }))
cut_of (l ∷ ls) [] line other behind other_behind e = inr (inr (record { behind = ls; is = ap (λ k. k ∷ ls) (same_head e) }))
cut_of (l ∷ ls) (m ∷ ms) line other behind other_behind e = one_more l m ls ms line other (same_head e) (cut_of ls ms line other behind other_behind (same_tail e))

-- ---- stops

-- where two stops of one text stand
stops_cut : (names : List (List ℕ)) (lines : List Numbered) (P Q : List Said → Numbered → Type 0) (v : ScriptStopsAt names lines P) (w : ScriptStopsAt names lines Q) → Cut v.front v.line w.front w.line
stops_cut names lines P Q v w = cut_of v.front w.front v.line w.line v.behind w.behind (sym v.cut ∙ w.cut)

-- what stands before a stop says something
before_says : (names : List (List ℕ)) (front : List Numbered) (line : Numbered) (other : List Numbered) (xs : List Said) → IsBefore front line other → ScriptSaysAll names other xs → SaysNot names line → ⊥
unfolding SaysNot
before_says names front line other xs b t none = let s = split names front line b.behind xs (subst (λ ls. ScriptSaysAll names ls xs) b.is t) in none s.here s.says

-- two lines that say nothing and where the reading stops are one
same_line : (names : List (List ℕ)) (lines : List Numbered) (P Q : List Said → Numbered → Type 0) (v : ScriptStopsAt names lines P) (w : ScriptStopsAt names lines Q) → SaysNot names v.line → SaysNot names w.line → v.line ≡ w.line
unfolding Cut
same_line names lines P Q v w none neither =
    elim (stops_cut names lines P Q v w) [
      | inl h ↦ h.lines
      | inr (inl h) ↦ absurd (before_says names v.front v.line w.front w.said h w.says none)
      | inr (inr h) ↦ absurd (before_says names w.front w.line v.front v.said h v.says neither)
    ]

-- ---- too many

requests_front : (xs ys : List Said) → length (requests_in xs) ≤ length (requests_in (xs ++ ys))
requests_front [] ys = omega arith
requests_front (Ask r ∷ xs) ys = let rest = requests_front xs ys in omega arith
requests_front (Then ∷ xs) ys = requests_front xs ys

thens_front : (xs ys : List Said) → thens_in xs ≤ thens_in (xs ++ ys)
thens_front [] ys = omega arith
thens_front (Ask r ∷ xs) ys = thens_front xs ys
thens_front (Then ∷ xs) ys = let rest = thens_front xs ys in omega arith

front_fits : (xs ys : List Said) → ScriptFits (xs ++ ys) → ScriptFits xs
front_fits xs ys f = record { requests = omega (arith, requests_front xs ys, f.requests); thens = omega (arith, thens_front xs ys, f.thens) }

-- a line with which there are too many stands before none that fits
over_before : (names : List (List ℕ)) (front : List Numbered) (line : Numbered) (behind : List Numbered) (said xs : List Said) → ScriptSaysAll names front said → IsTooMany names said line
    → ScriptSaysAll names (front ++ line ∷ behind) xs → ScriptFits xs → ⊥
over_before names front line behind said xs t o u f =
    let s = split names front line behind xs u in
    let same_front : s.before ≡ said = all_one_said names front s.before said s.first t in
    let same_here : s.here ≡ o.one = one_said names line.text s.here o.one s.says o.says in
    let whole : xs ≡ (said ++ o.one ∷ []) ++ s.after = s.is ∙ ap (λ ys. ys ++ s.here ∷ s.after) same_front ∙ ap (λ x. said ++ x ∷ s.after) same_here ∙ sym (append_assoc said (o.one ∷ []) s.after) in
    o.over (front_fits (said ++ o.one ∷ []) s.after (subst (λ ys. ScriptFits ys) whole f))

-- a line that says nothing is not one too many, and stands elsewhere than where there are
wrong_or_over : (names : List (List ℕ)) (lines : List Numbered) (P : List Said → Numbered → Type 0) (v : ScriptStopsAt names lines P) → SaysNot names v.line → ScriptStopsAt names lines (IsTooMany names) → ⊥
unfolding Cut SaysNot
wrong_or_over names lines P v none w =
    elim (stops_cut names lines P (IsTooMany names) v w) [
      | inl h ↦ none w.here.one (subst (λ (l : Numbered). ScriptSays names l.text w.here.one) (sym h.lines) w.here.says)
      | inr (inl h) ↦ before_says names v.front v.line w.front w.said h w.says none
      | inr (inr h) ↦ over_before names w.front w.line h.behind w.said v.said w.says w.here (subst (λ ls. ScriptSaysAll names ls v.said) h.is v.says) v.fits
    ]

-- ---- the laws

bad_not : (names : List (List ℕ)) (lines : List Numbered) (n : ℕ) (v : ScriptStopsAt names lines (λ said line. (n ≡ line.number) × IsBad line.text)) → SaysNot names v.line
bad_not names lines n v = bad_says_not names v.line v.here.1

lacks_not : (names : List (List ℕ)) (lines : List Numbered) (n : ℕ) (v : ScriptStopsAt names lines (λ said line. (n ≡ line.number) × LacksLoader names line.text)) → SaysNot names v.line
lacks_not names lines n v = lacks_says_not names v.line v.here.1

one_number : (m n : ℕ) (a b : Numbered) → m ≡ a.number → n ≡ b.number → a ≡ b → m ≡ n
one_number m n a b e f h = e ∙ ap (λ (l : Numbered). l.number) h ∙ sym f

-- a line that is none of a script lacks no loader
bad_or_lacks : (names : List (List ℕ)) (a b : Numbered) → a ≡ b → IsBad a.text → LacksLoader names b.text → ⊥
bad_or_lacks names a b e bad lacks = let same = subst (λ (l : Numbered). IsBad l.text) e bad in same.request lacks.action lacks.word lacks.name lacks.request

pub script_has_one_fault : ScriptHasOneFault
script_has_one_fault names text Memory g v w some other = absurd (some refl)
script_has_one_fault names text f Memory v w some other = absurd (other refl)
script_has_one_fault names text (BadLine m) (BadLine n) v w some other =
    let ls = stated_from 1 text in
    ap (λ (i : ℕ). BadLine i) (one_number m n v.line w.line v.here.0 w.here.0 (same_line names ls _ _ v w (bad_not names ls m v) (bad_not names ls n w)))
script_has_one_fault names text (UnknownLoader m) (UnknownLoader n) v w some other =
    let ls = stated_from 1 text in
    ap (λ (i : ℕ). UnknownLoader i) (one_number m n v.line w.line v.here.0 w.here.0 (same_line names ls _ _ v w (lacks_not names ls m v) (lacks_not names ls n w)))
script_has_one_fault names text (BadLine m) (UnknownLoader n) v w some other =
    let ls = stated_from 1 text in absurd (bad_or_lacks names v.line w.line (same_line names ls _ _ v w (bad_not names ls m v) (lacks_not names ls n w)) v.here.1 w.here.1)
script_has_one_fault names text (UnknownLoader m) (BadLine n) v w some other =
    let ls = stated_from 1 text in absurd (bad_or_lacks names w.line v.line (same_line names ls _ _ w v (bad_not names ls n w) (lacks_not names ls m v)) w.here.1 v.here.1)
script_has_one_fault names text (BadLine m) TooMany v w some other = absurd (wrong_or_over names (stated_from 1 text) _ v (bad_not names (stated_from 1 text) m v) w)
script_has_one_fault names text (UnknownLoader m) TooMany v w some other = absurd (wrong_or_over names (stated_from 1 text) _ v (lacks_not names (stated_from 1 text) m v) w)
script_has_one_fault names text TooMany (BadLine n) v w some other = absurd (wrong_or_over names (stated_from 1 text) _ w (bad_not names (stated_from 1 text) n w) v)
script_has_one_fault names text TooMany (UnknownLoader n) v w some other = absurd (wrong_or_over names (stated_from 1 text) _ w (lacks_not names (stated_from 1 text) n w) v)
script_has_one_fault names text TooMany TooMany v w some other = refl

-- lines that all say something stop at none that says nothing
tells_or_wrong : (names : List (List ℕ)) (lines : List Numbered) (P : List Said → Numbered → Type 0) (s : Scripted) → TellsScript names lines s → (w : ScriptStopsAt names lines P) → SaysNot names w.line → ⊥
tells_or_wrong names lines P s t w none = before_says names w.front w.line lines t.said (record { behind = w.behind; is = w.cut }) t.says none

tells_or_over : (names : List (List ℕ)) (lines : List Numbered) (s : Scripted) → TellsScript names lines s → ScriptStopsAt names lines (IsTooMany names) → ⊥
tells_or_over names lines s t w = over_before names w.front w.line w.behind w.said t.said w.says w.here (subst (λ ls. ScriptSaysAll names ls t.said) w.cut t.says) t.fits

pub script_or_its_fault : ScriptOrItsFault
script_or_its_fault names text s Memory v w some = some refl
script_or_its_fault names text s (BadLine n) v w some = tells_or_wrong names (stated_from 1 text) _ s v w (bad_not names (stated_from 1 text) n w)
script_or_its_fault names text s (UnknownLoader n) v w some = tells_or_wrong names (stated_from 1 text) _ s v w (lacks_not names (stated_from 1 text) n w)
script_or_its_fault names text s TooMany v w some = tells_or_over names (stated_from 1 text) s v w

pub one_scripted : (names : List (List ℕ)) (text : List ℕ) (a b : Scripted) → script_of names text (Ok a) → script_of names text (Ok b) → a ≡ b
one_scripted names text a b v w = v.is ∙ ap script_from (all_one_said names (stated_from 1 text) v.said w.said v.says w.says) ∙ sym w.is

-- Reading the lines of a script.
use Rattle.std.proofs.Common.{suc, zero, slice_get, ◌≤◌, ◌<◌, Bool, true, false, cond, nat_lt, nat_eq, Some, None, ◌≡◌, ℕ, ◌+◌, List, [], ◌∷◌, ◌++◌, length, append_assoc, append-nil, codes, refl, sym, ap, subst, ◌∙◌, arith, length-append}
use Rattle.std.specs.Prelude.{All}
use Rattle.std.specs.List.{position_or_len}
use Rattle.std.specs.Cmp.Lexicographic.{pointwise}
use Rattle.std.proofs.lemmas.Bool.Decides.{nat_tests}
use Rattle.std.proofs.lemmas.List.Elements.{All-nil, All-cons}
use Rattle.cl_model.specs.declared.request.Request.{Request}
use Rattle.cl_model.specs.declared.request.Request.TheVariants.{Load, Resolve, Link}
use Rattle.cl_names.specs.Escape.{WritesName}
use Rattle.cl_names.proofs.Escapes.{name_alone}
use Rattle.cl_lines.specs.Lines.{Numbered, words_of}
use Rattle.cl_lines.specs.Numbers.{WritesNumber}
use Rattle.std.specs.Str.Parse.{digits_value}
use Rattle.cl_config.specs.declared.script.Action.{Action}
use Rattle.cl_config.specs.declared.script.Action.TheVariants as actions
use Rattle.cl_config.specs.declared.script.Said.{Said}
use Rattle.cl_config.specs.declared.script.Said.TheVariants.{Ask, Then}
use Rattle.cl_config.specs.Views.{Scripted, loader_named}
use Rattle.cl_config.specs.Scripts.{HasLoader, HasLoaders, HasWords, IsRequest, IsThen, AsksFor, ScriptAsks, ScriptSays, ScriptSaysAll, requests_in, rounds_in, thens_in, ScriptFits, ScriptStopsAt, TellsScript, IsTooMany, IsScript}
use Rattle.cl_names.specs.Name.{WritesClass}
use Rattle.cl_config.specs.declared.limits.TheConstants.{MOST_REQUESTS, MOST_THENS}

-- ---- the words of a request

-- two lists of words that are the same
record SameWords (a b : List ℕ) (l m t u : List ℕ) (xs ys : List (List ℕ)) : Type 0 where
  pub first : a ≡ b
  pub loaders : l ≡ m
  pub texts : t ≡ u
  pub rests : xs ≡ ys

same_words : (words : List (List ℕ)) (a b l m t u : List ℕ) (xs ys : List (List ℕ)) → words ≡ a ∷ l ∷ t ∷ xs → words ≡ b ∷ m ∷ u ∷ ys → SameWords a b l m t u xs ys
same_words words a b l m t u xs ys h k = record { first = cc; loaders = cc; texts = cc; rests = cc }

same_index : (n m : List ℕ) (i j : ℕ) → n ∷ [] ≡ m ∷ [] → WritesNumber n i → WritesNumber m j → i ≡ j
same_index n m i j e v w = let same : n ≡ m = cc in v.value ∙ ap (digits_value 10) same ∙ sym w.value

-- what a test tells apart is not the same
apart : {a b : List ℕ} {C : Type 0} (test : List ℕ → Bool) → test a ≡ true → test b ≡ false → a ≡ b → C
apart test holds fails same = let told = sym holds ∙ ap test same ∙ fails in absurd cc

-- what two readings of a line's words agree on
pub record AreOne (a b : Action) (l m t u : List ℕ) : Type 0 where
  pub actions : a ≡ b
  pub loaders : l ≡ m
  pub texts : t ≡ u

pub words_alone : (line : List ℕ) (a b : Action) (l m t u : List ℕ) → HasWords line a l t → HasWords line b m u → AreOne a b l m t u
words_alone line actions.Load actions.Load l m t u h k = let w = same_words (words_of line) _ _ l m t u _ _ h k in record { actions = refl; loaders = w.loaders; texts = w.texts }
words_alone line actions.Load (actions.Resolve j) l m t u h k = let w = same_words (words_of line) _ _ l m t u _ _ h k.1 in apart (pointwise nat_eq (codes "load")) refl refl w.first
words_alone line actions.Load actions.Link l m t u h k = let w = same_words (words_of line) _ _ l m t u _ _ h k in apart (pointwise nat_eq (codes "load")) refl refl w.first
words_alone line (actions.Resolve i) actions.Load l m t u h k = let w = same_words (words_of line) _ _ l m t u _ _ h.1 k in apart (pointwise nat_eq (codes "resolve")) refl refl w.first
words_alone line (actions.Resolve i) (actions.Resolve j) l m t u h k =
    let w = same_words (words_of line) _ _ l m t u _ _ h.1 k.1 in
    record { actions = ap (λ (n : ℕ). actions.Resolve n) (same_index h.0 k.0 i j w.rests h.2 k.2); loaders = w.loaders; texts = w.texts }
words_alone line (actions.Resolve i) actions.Link l m t u h k = let w = same_words (words_of line) _ _ l m t u _ _ h.1 k in apart (pointwise nat_eq (codes "resolve")) refl refl w.first
words_alone line actions.Link actions.Load l m t u h k = let w = same_words (words_of line) _ _ l m t u _ _ h k in apart (pointwise nat_eq (codes "link")) refl refl w.first
words_alone line actions.Link (actions.Resolve j) l m t u h k = let w = same_words (words_of line) _ _ l m t u _ _ h k.1 in apart (pointwise nat_eq (codes "link")) refl refl w.first
words_alone line actions.Link actions.Link l m t u h k = let w = same_words (words_of line) _ _ l m t u _ _ h k in record { actions = refl; loaders = w.loaders; texts = w.texts }

words_no_round : (line : List ℕ) (a : Action) (l t : List ℕ) → HasWords line a l t → IsThen line → ⊥
words_no_round line actions.Load l t h e = absurd cc
words_no_round line (actions.Resolve i) l t h e = let words = h.1 in absurd cc
words_no_round line actions.Link l t h e = absurd cc

-- a line whose third word writes no class's name
pub no_request : (line : List ℕ) (a b : Action) (word text loader name : List ℕ) → HasWords line a word text → ((name : List ℕ) → WritesClass text name → ⊥) → IsRequest line b loader name → ⊥
no_request line a b word text loader name words none t = none name (subst (λ w. WritesClass w name) (words_alone line b a loader word t.text text t.words words).texts t.writes)

-- a line asks for one thing, of one class
pub record AsksOne (a b : Action) (l m n o : List ℕ) : Type 0 where
  pub actions : a ≡ b
  pub loaders : l ≡ m
  pub names : n ≡ o

pub one_asked : (line : List ℕ) (a b : Action) (l m n o : List ℕ) → IsRequest line a l n → IsRequest line b m o → AsksOne a b l m n o
one_asked line a b l m n o t u =
    let w = words_alone line a b l m t.text u.text t.words u.words in
    record { actions = w.actions; loaders = w.loaders; names = name_alone u.text n o (subst (λ v. WritesName v n) w.texts t.writes.written) u.writes.written }

pub request_is_no_round : (line : List ℕ) (a : Action) (loader name : List ℕ) → IsRequest line a loader name → IsThen line → ⊥
request_is_no_round line a loader name t u = words_no_round line a loader t.text t.words u

-- ---- one thing more is said

all_say_more : (names : List (List ℕ)) (front : List Numbered) (xs : List Said) (line : Numbered) (x : Said) → ScriptSaysAll names front xs → ScriptSays names line.text x → ScriptSaysAll names (front ++ line ∷ []) (xs ++ x ∷ [])
all_say_more names [] [] line x all here = (here, tt)
all_say_more names [] (y ∷ ys) line x all here = absurd all
all_say_more names (l ∷ ls) [] line x all here = absurd all
all_say_more names (l ∷ ls) (y ∷ ys) line x all here = (all.0, all_say_more names ls ys line x all.1 here)

requests_more : (xs : List Said) (r : Request) → requests_in (xs ++ Ask r ∷ []) ≡ requests_in xs ++ r ∷ []
requests_more [] r = refl
requests_more (Ask q ∷ xs) r = ap (λ qs. q ∷ qs) (requests_more xs r)
requests_more (Then ∷ xs) r = requests_more xs r

requests_same : (xs : List Said) → requests_in (xs ++ Then ∷ []) ≡ requests_in xs
requests_same [] = refl
requests_same (Ask q ∷ xs) = ap (λ qs. q ∷ qs) (requests_same xs)
requests_same (Then ∷ xs) = requests_same xs

thens_same : (xs : List Said) (r : Request) → thens_in (xs ++ Ask r ∷ []) ≡ thens_in xs
thens_same [] r = refl
thens_same (Ask q ∷ xs) r = thens_same xs r
thens_same (Then ∷ xs) r = ap (λ n. n + 1) (thens_same xs r)

thens_more : (xs : List Said) → thens_in (xs ++ Then ∷ []) ≡ thens_in xs + 1
thens_more [] = refl
thens_more (Ask q ∷ xs) = thens_more xs
thens_more (Then ∷ xs) = ap (λ n. n + 1) (thens_more xs)

rounds_more : (n : ℕ) (xs : List Said) (r : Request) → rounds_in n (xs ++ Ask r ∷ []) ≡ rounds_in n xs ++ (n + thens_in xs) ∷ []
rounds_more n [] r = let same : n ≡ n + 0 = omega arith in ap (λ m. m ∷ []) same
rounds_more n (Ask q ∷ xs) r = ap (λ ns. n ∷ ns) (rounds_more n xs r)
rounds_more n (Then ∷ xs) r = let same : n + 1 + thens_in xs ≡ n + (thens_in xs + 1) = omega arith in rounds_more (n + 1) xs r ∙ ap (λ m. rounds_in (n + 1) xs ++ m ∷ []) same

-- the same from the first round on
rounds_grow : (xs : List Said) (r : Request) → rounds_in 0 (xs ++ Ask r ∷ []) ≡ rounds_in 0 xs ++ thens_in xs ∷ []
rounds_grow xs r = let same : 0 + thens_in xs ≡ thens_in xs = omega arith in rounds_more 0 xs r ∙ ap (λ m. rounds_in 0 xs ++ m ∷ []) same

rounds_same : (n : ℕ) (xs : List Said) → rounds_in n (xs ++ Then ∷ []) ≡ rounds_in n xs
rounds_same n [] = refl
rounds_same n (Ask q ∷ xs) = ap (λ ns. n ∷ ns) (rounds_same n xs)
rounds_same n (Then ∷ xs) = rounds_same (n + 1) xs

-- ---- reading on, line after line

-- so far each line said something, which is held so; these lines are left
pub record IsRead (names : List (List ℕ)) (lines left : List Numbered) (requests : List Request) (rounds_of : List ℕ) (round : ℕ) : Type 0 where
  pub front : List Numbered
  pub said : List Said
  pub cut : lines ≡ front ++ left
  pub says : ScriptSaysAll names front said
  pub fits : ScriptFits said
  pub requests_are : requests ≡ requests_in said
  pub rounds_are : rounds_of ≡ rounds_in 0 said
  pub round_is : round ≡ thens_in said

pub none_read : (names : List (List ℕ)) (lines : List Numbered) → IsRead names lines lines [] [] 0
none_read names lines = record { front = []; said = []; cut = refl; says = tt; fits = record { requests = omega arith; thens = omega arith }; requests_are = refl; rounds_are = refl; round_is = refl }

-- one more line asks for a request
pub more_asked : (names : List (List ℕ)) (lines left rest : List Numbered) (requests more : List Request) (rounds_of more_rounds : List ℕ) (round : ℕ) (line : Numbered) (request : Request) (count : ℕ)
    → IsRead names lines left requests rounds_of round → left ≡ line ∷ rest → ScriptAsks names line.text request → more ≡ requests ++ request ∷ [] → more_rounds ≡ rounds_of ++ round ∷ []
    → count ≡ length requests → (count ≡ MOST_REQUESTS → ⊥) → IsRead names lines rest more more_rounds round
more_asked names lines left rest requests more rounds_of more_rounds round line request count t first here grown longer counted room = record {
  front = t.front ++ line ∷ [];
  said = t.said ++ Ask request ∷ [];
  cut = t.cut ∙ ap (λ l. t.front ++ l) first ∙ sym (append_assoc t.front (line ∷ []) rest);
  says = all_say_more names t.front t.said line (Ask request) t.says here;
  fits = record {
    requests = rw (requests_more t.said request) (omega (arith, length-append {A = Request}, ap length t.requests_are, t.fits.requests, room));
    thens = rw (thens_same t.said request) t.fits.thens;
  };
  requests_are = grown ∙ ap (λ rs. rs ++ request ∷ []) t.requests_are ∙ sym (requests_more t.said request);
  rounds_are = longer ∙ rw (t.rounds_are, t.round_is) (sym (rounds_grow t.said request));
  round_is = t.round_is ∙ sym (thens_same t.said request);
}

-- one more line begins a round
pub more_begun : (names : List (List ℕ)) (lines left rest : List Numbered) (requests : List Request) (rounds_of : List ℕ) (round next : ℕ) (line : Numbered)
    → IsRead names lines left requests rounds_of round → left ≡ line ∷ rest → IsThen line.text → next ≡ round + 1 → (round ≡ MOST_THENS → ⊥) → IsRead names lines rest requests rounds_of next
more_begun names lines left rest requests rounds_of round next line t first here is room = record {
  front = t.front ++ line ∷ [];
  said = t.said ++ Then ∷ [];
  cut = t.cut ∙ ap (λ l. t.front ++ l) first ∙ sym (append_assoc t.front (line ∷ []) rest);
  says = all_say_more names t.front t.said line Then t.says here;
  fits = record {
    requests = rw (requests_same t.said) t.fits.requests;
    thens = rw (thens_more t.said) (omega (arith, t.round_is, t.fits.thens, room));
  };
  requests_are = t.requests_are ∙ sym (requests_same t.said);
  rounds_are = t.rounds_are ∙ sym (rounds_same 0 t.said);
  round_is = is ∙ ap (λ n. n + 1) t.round_is ∙ sym (thens_more t.said);
}

-- a line stops the reading
pub stops_here : (names : List (List ℕ)) (lines left rest : List Numbered) (requests : List Request) (rounds_of : List ℕ) (round : ℕ) (line : Numbered) (P : List Said → Numbered → Type 0)
    → (t : IsRead names lines left requests rounds_of round) → left ≡ line ∷ rest → P t.said line → ScriptStopsAt names lines P
stops_here names lines left rest requests rounds_of round line P t first here = record {
  front = t.front;
  line = line;
  behind = rest;
  said = t.said;
  cut = t.cut ∙ ap (λ l. t.front ++ l) first;
  says = t.says;
  fits = t.fits;
  here = here;
}

-- a request more than there may be
pub one_request_over : (names : List (List ℕ)) (lines left rest : List Numbered) (requests : List Request) (rounds_of : List ℕ) (round : ℕ) (line : Numbered) (request : Request) (count : ℕ)
    → IsRead names lines left requests rounds_of round → left ≡ line ∷ rest → ScriptAsks names line.text request → count ≡ length requests → count ≡ MOST_REQUESTS → ScriptStopsAt names lines (IsTooMany names)
one_request_over names lines left rest requests rounds_of round line request count t first here counted many =
    stops_here names lines left rest requests rounds_of round line (IsTooMany names) t first (record {
      one = Ask request;
      says = here;
      over = λ f. let g = rw (requests_more t.said request) at f.requests in absurd (omega (arith, g, length-append {A = Request}, ap length t.requests_are));
    })

-- a round more than there may be
pub one_round_over : (names : List (List ℕ)) (lines left rest : List Numbered) (requests : List Request) (rounds_of : List ℕ) (round : ℕ) (line : Numbered)
    → IsRead names lines left requests rounds_of round → left ≡ line ∷ rest → IsThen line.text → round ≡ MOST_THENS → ScriptStopsAt names lines (IsTooMany names)
one_round_over names lines left rest requests rounds_of round line t first here many =
    stops_here names lines left rest requests rounds_of round line (IsTooMany names) t first (record {
      one = Then;
      says = here;
      over = λ f. let g = rw (thens_more t.said) at f.thens in absurd (omega (arith, g, t.round_is));
    })

abbrev scripted : List Request → List ℕ → ℕ → Scripted
scripted rs ns n = record { requests = rs; rounds_of = ns; rounds = n }

-- no line is left
pub whole_read : (names : List (List ℕ)) (lines left : List Numbered) (requests : List Request) (rounds_of : List ℕ) (round rounds : ℕ)
    → IsRead names lines left requests rounds_of round → left ≡ [] → rounds ≡ round + 1 → TellsScript names lines (record { requests = requests; rounds_of = rounds_of; rounds = rounds })
whole_read names lines left requests rounds_of round rounds t none is = record {
  said = t.said;
  says = subst (λ ls. ScriptSaysAll names ls t.said) (sym (t.cut ∙ ap (λ l. t.front ++ l) none ∙ append-nil t.front)) t.says;
  fits = t.fits;
  is = same t.requests_are t.rounds_are (is ∙ ap (λ n. n + 1) t.round_is);
}
  where
    same : {a b : List Request} {m n : List ℕ} {j k : ℕ} → a ≡ b → m ≡ n → j ≡ k → scripted a m j ≡ scripted b n k
    same e f g = cc

-- ---- what is so of what is read

-- a name that is found stands among the names
within : (b : Bool) (n count l : ℕ) → b ≡ nat_lt n count → cond b (Some n) None ≡ Some l → l < count
within true n count l e f = let same : n ≡ l = cc in grind (arith, nat_tests)
within false n count l e f = absurd cc

has_loader : (names : List (List ℕ)) (line : List ℕ) (request : Request) → ScriptAsks names line request → HasLoader (length names) request
has_loader names line (Load loader name) t = within _ (position_or_len (λ name. pointwise nat_eq name t.word) names) (length names) loader refl t.known
has_loader names line (Resolve loader name index) t = within _ (position_or_len (λ name. pointwise nat_eq name t.word) names) (length names) loader refl t.known
has_loader names line (Link loader name) t = within _ (position_or_len (λ name. pointwise nat_eq name t.word) names) (length names) loader refl t.known

have_loaders : (names : List (List ℕ)) (lines : List Numbered) (xs : List Said) → ScriptSaysAll names lines xs → HasLoaders (length names) (requests_in xs)
have_loaders names [] [] t = All-nil (HasLoader (length names))
have_loaders names [] (x ∷ xs) t = absurd t
have_loaders names (l ∷ ls) [] t = absurd t
have_loaders names (l ∷ ls) (Ask r ∷ xs) t = All-cons (HasLoader (length names)) r (requests_in xs) (has_loader names l.text r t.0) (have_loaders names ls xs t.1)
have_loaders names (l ∷ ls) (Then ∷ xs) t = have_loaders names ls xs t.1

pub script_loaders : (names : List (List ℕ)) (lines : List Numbered) (s : Scripted) → TellsScript names lines s → HasLoaders (length names) s.requests
script_loaders names lines s t = subst (λ (s : Scripted). HasLoaders (length names) s.requests) (sym t.is) (have_loaders names lines t.said t.says)

rounds_above : (n : ℕ) (xs : List Said) (q m : ℕ) → slice_get (rounds_in n xs) q ≡ Some m → n ≤ m
rounds_above n [] q m e = absurd cc
rounds_above n (Ask r ∷ xs) zero m e = let same : n ≡ m = cc in omega (arith, same)
rounds_above n (Ask r ∷ xs) (suc q) m e = rounds_above n xs q m e
rounds_above n (Then ∷ xs) q m e = let above = rounds_above (n + 1) xs q m e in omega (arith, above)

rounds_ordered : (n : ℕ) (xs : List Said) (p q k m : ℕ) → p < q → slice_get (rounds_in n xs) p ≡ Some k → slice_get (rounds_in n xs) q ≡ Some m → k ≤ m
rounds_ordered n [] p q k m lt e f = absurd cc
rounds_ordered n (Ask r ∷ xs) zero zero k m lt e f = absurd (omega (arith, lt))
rounds_ordered n (Ask r ∷ xs) zero (suc q) k m lt e f = let same : n ≡ k = cc in let above = rounds_above n xs q m f in omega (arith, same, above)
rounds_ordered n (Ask r ∷ xs) (suc p) zero k m lt e f = absurd (omega (arith, lt))
rounds_ordered n (Ask r ∷ xs) (suc p) (suc q) k m lt e f = rounds_ordered n xs p q k m (omega (arith, lt)) e f
rounds_ordered n (Then ∷ xs) p q k m lt e f = rounds_ordered (n + 1) xs p q k m lt e f

each_has_round : (n : ℕ) (xs : List Said) → length (rounds_in n xs) ≡ length (requests_in xs)
each_has_round n [] = refl
each_has_round n (Ask r ∷ xs) = ap suc (each_has_round n xs)
each_has_round n (Then ∷ xs) = each_has_round (n + 1) xs

rounds_below : (n top : ℕ) (xs : List Said) → n + thens_in xs < top → All (λ m. m < top) (rounds_in n xs)
rounds_below n top [] h = All-nil (λ m. m < top)
rounds_below n top (Ask r ∷ xs) h = All-cons (λ m. m < top) n (rounds_in n xs) (omega arith) (rounds_below n top xs h)
rounds_below n top (Then ∷ xs) h = rounds_below (n + 1) top xs (omega arith)

pub tells_script : (names : List (List ℕ)) (lines : List Numbered) (s : Scripted) → TellsScript names lines s → IsScript s
tells_script names lines s t = subst (λ (s : Scripted). IsScript s) (sym t.is) (record {
  few = t.fits.requests;
  each = each_has_round 0 t.said;
  within = rounds_below 0 (thens_in t.said + 1) t.said (omega arith);
  in_order = rounds_ordered 0 t.said;
  rounds = omega (arith, t.fits.thens);
})

-- ---- a line says one thing at most

some_same : {a b : ℕ} → Some a ≡ Some b → a ≡ b
some_same h = cc

-- the same is asked for, of the same class through the same loader
record AreSame (a b : Action) (l m : ℕ) (n o : List ℕ) : Type 0 where
  pub actions : a ≡ b
  pub loaders : l ≡ m
  pub names : n ≡ o

one_call : (names : List (List ℕ)) (line : List ℕ) (a b : Action) (l m : ℕ) (n o : List ℕ) → AsksFor names line a l n → AsksFor names line b m o → AreSame a b l m n o
one_call names line a b l m n o t u =
    let one = one_asked line a b t.word u.word n o t.request u.request in
    record { actions = one.actions; loaders = some_same (sym t.known ∙ ap (loader_named names) one.loaders ∙ u.known); names = one.names }

one_request : (names : List (List ℕ)) (line : List ℕ) (r s : Request) → ScriptAsks names line r → ScriptAsks names line s → r ≡ s
one_request names line (Load l n) (Load m o) t u = let one = one_call names line _ _ l m n o t u in cc
one_request names line (Load l n) (Resolve m o i) t u = let one = (one_call names line _ _ l m n o t u).actions in absurd cc
one_request names line (Load l n) (Link m o) t u = let one = (one_call names line _ _ l m n o t u).actions in absurd cc
one_request names line (Resolve l n i) (Load m o) t u = let one = (one_call names line _ _ l m n o t u).actions in absurd cc
one_request names line (Resolve l n i) (Resolve m o j) t u = let one = one_call names line _ _ l m n o t u in cc
one_request names line (Resolve l n i) (Link m o) t u = let one = (one_call names line _ _ l m n o t u).actions in absurd cc
one_request names line (Link l n) (Load m o) t u = let one = (one_call names line _ _ l m n o t u).actions in absurd cc
one_request names line (Link l n) (Resolve m o i) t u = let one = (one_call names line _ _ l m n o t u).actions in absurd cc
one_request names line (Link l n) (Link m o) t u = let one = one_call names line _ _ l m n o t u in cc

no_round : (names : List (List ℕ)) (line : List ℕ) (r : Request) → ScriptAsks names line r → IsThen line → ⊥
no_round names line (Load l n) t u = request_is_no_round line _ t.word n t.request u
no_round names line (Resolve l n i) t u = request_is_no_round line _ t.word n t.request u
no_round names line (Link l n) t u = request_is_no_round line _ t.word n t.request u

pub one_said : (names : List (List ℕ)) (line : List ℕ) (x y : Said) → ScriptSays names line x → ScriptSays names line y → x ≡ y
one_said names line (Ask r) (Ask s) t u = ap (λ q. Ask q) (one_request names line r s t u)
one_said names line (Ask r) Then t u = absurd (no_round names line r t u)
one_said names line Then (Ask s) t u = absurd (no_round names line s u t)
one_said names line Then Then t u = refl

pub all_one_said : (names : List (List ℕ)) (lines : List Numbered) (xs ys : List Said) → ScriptSaysAll names lines xs → ScriptSaysAll names lines ys → xs ≡ ys
all_one_said names [] [] [] t u = refl
all_one_said names [] [] (y ∷ ys) t u = absurd u
all_one_said names [] (x ∷ xs) ys t u = absurd t
all_one_said names (l ∷ ls) [] ys t u = absurd t
all_one_said names (l ∷ ls) (x ∷ xs) [] t u = absurd u
all_one_said names (l ∷ ls) (x ∷ xs) (y ∷ ys) t u = let first : x ≡ y = one_said names l.text x y t.0 u.0 in let others : xs ≡ ys = all_one_said names ls xs ys t.1 u.1 in cc

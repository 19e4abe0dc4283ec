-- Which requests are posted, and what a report tells of a registry.
use Rattle.std.proofs.Common.{◌≡◌, ◌∙◌, ◌+◌, ◌<◌, ◌≤◌, ◌∷◌, ◌++◌, [], ℕ, zero, suc, Bool, true, false, List, length, Option, Some, None, map, refl, ap, sym, subst, arith, is_some, add-one}
use Rattle.std.specs.Prelude.{◌||◌, nat_eq, slice_get, slice_index_or}
use Rattle.std.specs.List.{list_any, range_with_len}
use Rattle.std.proofs.lemmas.Bool.Decides.{nat_tests}
use Rattle.std.proofs.lemmas.Option.{slice_get_within}
use Rattle.cl_model.specs.declared.answer.Answer.{Answer}
use Rattle.cl_model.specs.declared.request.Request as requests
use Rattle.cl_model.specs.declared.request.Request.{Request}
use Rattle.cl_model.specs.Content.{Content}
use Rattle.cl_findings.specs.Findings.{loader_of}
use Rattle.cl_config.specs.Scripts.{HasLoader, HasLoaders}
use Rattle.cl_model.specs.Views.{answers_of, answer_at}
use Rattle.cl_registry.specs.declared.report.Report.{Report}
use Rattle.cl_config.specs.Views.{Configured}
use Rattle.cl_registry.specs.Tables.{Shown, IsTrusted, RunsAs, IsOpen, posts}
use Rattle.cl_registry.specs.Reports.{IsReport}
use Rattle.cl_registry.proofs.Histories.{unposted}
use Rattle.cl_schedule.specs.Serving.{reported_registry}

pub numbers_push : (a n j : ℕ) → a + n ≡ j → range_with_len a n ++ j ∷ [] ≡ range_with_len a (suc n)
numbers_push a zero j e = let same : j ≡ a = omega arith in ap (λ (k : ℕ). k ∷ []) same
numbers_push a (suc n) j e = ap (λ (xs : List ℕ). a ∷ xs) (numbers_push (a + 1) n j (omega arith))

pub next_upto : (q : ℕ) (xs ys : List ℕ) → xs ≡ ys ++ q ∷ [] → ys ≡ range_with_len 0 q → xs ≡ range_with_len 0 (q + 1)
next_upto q xs ys e h = e ∙ ap (λ (zs : List ℕ). zs ++ q ∷ []) h ∙ numbers_push 0 q q (omega arith) ∙ ap (range_with_len 0) (sym (add-one q))

-- what a report tells of a registry: all but its rows
abbrev pub bare : Shown → Shown
bare x = record x { rows = [] }

pub report_tells : (x : Shown) (r : Report) (c : Configured) → IsReport x r → x.config ≡ c → bare x ≡ reported_registry c r
report_tells x r c is e = same x.config c x.script r.script.value x.history r.history x.answers (map (λ a. Some a) r.answers) e is.script is.history is.answers
  where
    same : (f e : Configured) (s u : _) (h k : _) (a b : List (Option Answer)) → f ≡ e → u ≡ s → k ≡ h → b ≡ a
        → (let y : Shown = record { config = f; script = s; rows = []; history = h; answers = a } in y) ≡ record { config = e; script = u; rows = []; history = k; answers = b }
    same f e s u h k a b w p q t = rw (w, p, q, t) refl

pub bare_trusted : (x : Shown) → IsTrusted x → IsTrusted (bare x)
bare_trusted x t = record { script = t.script; tables = t.tables; posted = t.posted; whole = t.whole; earlier = t.earlier }

pub bare_runs : (told : Option Content) (x : Shown) → RunsAs told x → RunsAs told (bare x)
bare_runs None x run = tt
bare_runs (Some content) x run = run

-- ---- which requests are posted

pub in_numbers : (a n q : ℕ) → a ≤ q → q < a + n → list_any (nat_eq q) (range_with_len a n) ≡ true
in_numbers a zero q least below = absurd (omega arith)
in_numbers a (suc n) q least below = by_test (nat_eq q a) refl (λ more. in_numbers (a + 1) n q more (omega arith))
  where
    by_test : (b : Bool) → nat_eq q a ≡ b → (a + 1 ≤ q → list_any (nat_eq q) (range_with_len (a + 1) n) ≡ true) → (b || list_any (nat_eq q) (range_with_len (a + 1) n)) ≡ true
    by_test true e behind = refl
    by_test false e behind = behind (grind (arith, nat_tests))

pub not_in_numbers : (a n q : ℕ) → a + n ≤ q → list_any (nat_eq q) (range_with_len a n) ≡ false
not_in_numbers a zero q above = refl
not_in_numbers a (suc n) q above = ap (λ (b : Bool). b || list_any (nat_eq q) (range_with_len (a + 1) n)) other ∙ not_in_numbers (a + 1) n q (omega arith)
  where
    other : nat_eq q a ≡ false
    other = grind (arith, nat_tests)

-- where the requests before this number are posted, it is not
pub next_is_open : (x : Shown) (q : ℕ) → IsTrusted x → posts x.history ≡ range_with_len 0 q → q < length x.script.requests → IsOpen x q
next_is_open x q t order below =
    unanswered x.answers q (subst (λ (n : ℕ). q < n) (sym t.whole) below) (sym (t.posted q) ∙ ap (list_any (nat_eq q)) order ∙ not_in_numbers 0 q q (omega arith))
  where
    unanswered : (xs : List (Option Answer)) (p : ℕ) → p < length xs → is_some (answer_at (answers_of xs) p) ≡ false → slice_get xs p ≡ Some None
    unanswered [] p l e = absurd (omega arith)
    unanswered (None ∷ xs) zero l e = refl
    unanswered (Some a ∷ xs) zero l e = absurd cc
    unanswered (a ∷ xs) (suc p) l e = unanswered xs p (omega arith) e

-- where all requests are posted, none is open
pub none_is_open : (x : Shown) (n : ℕ) → IsTrusted x → posts x.history ≡ range_with_len 0 n → length x.script.requests ≡ n → (q : ℕ) × IsOpen x q → ⊥
none_is_open x n t order whole (q, is) =
    let below : q < n = subst (λ (k : ℕ). q < k) (t.whole ∙ whole) (in_range x.answers q is) in
    let there : list_any (nat_eq q) (posts x.history) ≡ true = ap (list_any (nat_eq q)) order ∙ in_numbers 0 n q (omega arith) (omega arith) in
    let out : list_any (nat_eq q) (posts x.history) ≡ false = unposted x q t is in
    absurd cc
  where
    in_range : (xs : List (Option Answer)) (p : ℕ) → slice_get xs p ≡ Some None → p < length xs
    in_range [] p e = absurd cc
    in_range (x ∷ xs) zero e = omega arith
    in_range (x ∷ xs) (suc p) e = let below = in_range xs p e in omega arith

-- ---- the requests of the script

asked_is : (rs : List Request) (q : ℕ) (r d : Request) → slice_get rs q ≡ Some r → slice_index_or rs q d ≡ r
asked_is [] q r d e = absurd cc
asked_is (x ∷ rs) zero r d e = let same : x ≡ r = cc in same
asked_is (x ∷ rs) (suc q) r d e = asked_is rs q r d e

names_loader : (n : ℕ) (r : Request) → HasLoader n r → loader_of r < n
names_loader n (requests.TheVariants.Load loader name) h = h
names_loader n (requests.TheVariants.Resolve loader name index) h = h
names_loader n (requests.TheVariants.Link loader name) h = h

pub has_loader : (n : ℕ) (rs : List Request) (q : ℕ) (r : Request) → HasLoaders n rs → slice_get rs q ≡ Some r → loader_of r < n
has_loader n rs q r all e = names_loader n r (subst (HasLoader n) (asked_is rs q r r e) (all q r (slice_get_within rs q r e)))

-- What the pairs of one name say of joined loaders and their homes.
use Rattle.std.proofs.Common.{◌≡◌, ◌≢◌, ◌⊎◌, ◌↔◌, inl, inr, ℕ, Bool, true, false, ◌==◌, ◌&&◌, ◌||◌, not, List, [], ◌∷◌, ◌++◌, Some, None, find, map, refl, sym, ap, subst, ◌∙◌, eq-eqb}
use Rattle.std.specs.Prelude.{option_map, if◌then◌else◌}
use Rattle.std.specs.List.{AllByRecursion, list_any}
use Rattle.std.proofs.lemmas.Bool.{and_from, and_parts, eqb-true, eqb-false, ne_eqb, not-true, not_from_false, or_left, or_right}
use Rattle.std.proofs.lemmas.List.Sums.{fold-append}
use Rattle.cl_constraints.specs.declared.plain.Pair.{Pair}
use Rattle.cl_constraints.specs.declared.plain.Placed.{Placed}
use Rattle.cl_constraints.specs.Pairs.{Paired, home_at, next_by, end_in, ArePaired, KeepsEnd, KeepsEnds, differs_at, divides_at, moved_record}
use Rattle.cl_model.specs.States.{Differs, Divides}
use Rattle.cl_constraints.specs.Singles.{Joins, TellsFit, TellsAgreement}
use Rattle.cl_constraints.proofs.Recording.{home_elsewhere, home_here}

-- ---- what one of the records passes

module _ (P : Placed → Type 0) (test : Placed → Bool) where
  -- it is one of which P holds
  passing : (rs : List Placed) → AllByRecursion P rs → list_any test rs ≡ true → (r : Placed) × P r × (test r ≡ true)
  passing [] all h = absurd cc
  passing (r ∷ rs) all h = by (test r) refl (λ k. passing rs all.1 k) h
    where
      by : (b : Bool) → test r ≡ b → (list_any test rs ≡ true → (q : Placed) × P q × (test q ≡ true)) → (b || list_any test rs) ≡ true → (q : Placed) × P q × (test q ≡ true)
      by true e later k = (r, all.0, e)
      by false e later k = later k

  -- where a loader has a home, a record of both is one of them
  passed : (rs : List Placed) (x place : ℕ) → AllByRecursion P rs → home_at rs x ≡ Some place → ((r : Placed) → P r → r.loader ≡ x → r.home ≡ place → test r ≡ true) → list_any test rs ≡ true
  passed [] x place all h t = absurd cc
  passed (r ∷ rs) x place all h t = by (r.loader == x) refl (λ k. passed rs x place all.1 k t) h
    where
      by : (b : Bool) → (r.loader == x) ≡ b → (home_at rs x ≡ Some place → list_any test rs ≡ true) → option_map (λ (q : Placed). q.home) (if b then Some r else find (λ (q : Placed). q.loader == x) rs) ≡ Some place → (test r || list_any test rs) ≡ true
      by true e later k =
          let same : r.home ≡ place = cc in
          or_left (test r) (list_any test rs) (t r all.0 (eqb-true r.loader x e) same)
      by false e later k = or_right (test r) (list_any test rs) (later k)

-- ---- what the tests tell

module _ (v : Paired) (all : KeepsEnds v) where
  differs_from : (loader place : ℕ) → differs_at v.records (end_in v.pairs loader) place ≡ true → Differs (λ x. home_at v.records x) (λ x y. ArePaired v.pairs x y) loader place
  differs_from loader place h =
      let found = passing (KeepsEnd v) (λ r. (r.end == end_in v.pairs loader) && not (r.home == place)) v.records all h in
      let parts = and_parts (found.0.end == end_in v.pairs loader) (not (found.0.home == place)) found.2 in
      record {
        other = found.0.loader;
        other_place = found.0.home;
        joined = sym (eqb-true found.0.end (end_in v.pairs loader) parts.0) ∙ found.1.ended;
        recorded_there = found.1.own;
        differ = λ same. eqb-false found.0.home place (not-true (found.0.home == place) parts.1) (sym same);
      }

  differs_to : (loader place : ℕ) → Differs (λ x. home_at v.records x) (λ x y. ArePaired v.pairs x y) loader place → differs_at v.records (end_in v.pairs loader) place ≡ true
  differs_to loader place d =
      passed (KeepsEnd v) (λ r. (r.end == end_in v.pairs loader) && not (r.home == place)) v.records d.other d.other_place all d.recorded_there (
      λ r ok its homes. and_from (r.end == end_in v.pairs loader) (not (r.home == place)) (eq-eqb r.end (end_in v.pairs loader) (ok.ended ∙ ap (end_in v.pairs) its ∙ sym d.joined)) (not_from_false (r.home == place) (ne_eqb r.home place (λ same. d.differ (sym same ∙ homes))))
      )

  divides_from : (a b : ℕ) → divides_at v.records (end_in v.pairs a) (end_in v.pairs b) ≡ true → Divides (λ x. home_at v.records x) (λ x y. ArePaired v.pairs x y) a b
  divides_from a b h =
      let found = passing (KeepsEnd v) (λ r. (r.end == end_in v.pairs a) && differs_at v.records (end_in v.pairs b) r.home) v.records all h in
      let parts = and_parts (found.0.end == end_in v.pairs a) (differs_at v.records (end_in v.pairs b) found.0.home) found.2 in
      record {
        one = found.0.loader;
        place = found.0.home;
        joined = sym (eqb-true found.0.end (end_in v.pairs a) parts.0) ∙ found.1.ended;
        recorded_there = found.1.own;
        differs = differs_from b found.0.home parts.1;
      }

  divides_to : (a b : ℕ) → Divides (λ x. home_at v.records x) (λ x y. ArePaired v.pairs x y) a b → divides_at v.records (end_in v.pairs a) (end_in v.pairs b) ≡ true
  divides_to a b d =
      passed (KeepsEnd v) (λ r. (r.end == end_in v.pairs a) && differs_at v.records (end_in v.pairs b) r.home) v.records d.one d.place all d.recorded_there (
      λ r ok its homes. and_from (r.end == end_in v.pairs a) (differs_at v.records (end_in v.pairs b) r.home) (eq-eqb r.end (end_in v.pairs a) (ok.ended ∙ ap (end_in v.pairs) its ∙ sym d.joined)) (subst (λ place. differs_at v.records (end_in v.pairs b) place ≡ true) (sym homes) (differs_to b d.place d.differs))
      )

  -- the tests tell whether a record fits, and whether loaders agree
  pub fit_told : (loader place : ℕ) → TellsFit (λ x. home_at v.records x) (λ x y. ArePaired v.pairs x y) loader place (not (differs_at v.records (end_in v.pairs loader) place))
  fit_told loader place = by (differs_at v.records (end_in v.pairs loader) place) refl
    where
      by : (b : Bool) → differs_at v.records (end_in v.pairs loader) place ≡ b → TellsFit (λ x. home_at v.records x) (λ x y. ArePaired v.pairs x y) loader place (not b)
      by true e = differs_from loader place e
      by false e = λ d. let z : true ≡ false = sym (differs_to loader place d) ∙ e in absurd cc

  pub agreement_told : (a b : ℕ) → TellsAgreement (λ x. home_at v.records x) (λ x y. ArePaired v.pairs x y) a b (not (divides_at v.records (end_in v.pairs a) (end_in v.pairs b)))
  agreement_told a b = by (divides_at v.records (end_in v.pairs a) (end_in v.pairs b)) refl
    where
      by : (r : Bool) → divides_at v.records (end_in v.pairs a) (end_in v.pairs b) ≡ r → TellsAgreement (λ x. home_at v.records x) (λ x y. ArePaired v.pairs x y) a b (not r)
      by true e = divides_from a b e
      by false e = λ d. let z : true ≡ false = sym (divides_to a b d) ∙ e in absurd cc

-- ---- one record more

all_push : (P Q : Placed → Type 0) (rs : List Placed) (n : Placed) → ((r : Placed) → P r → Q r) → AllByRecursion P rs → Q n → AllByRecursion Q (rs ++ n ∷ [])
all_push P Q [] n still all new = (new, tt)
all_push P Q (r ∷ rs) n still all new = (still r all.0, all_push P Q rs n still all.1 new)

-- the constraints with one record more
abbrev pub with_record : Paired → Placed → Paired
with_record v n = record { records = v.records ++ n ∷ []; pairs = v.pairs }

pub placed_more : (v : Paired) (n : Placed) → KeepsEnds v → home_at v.records n.loader ≡ None → n.end ≡ end_in v.pairs n.loader → KeepsEnds (with_record v n)
placed_more v n all fresh at_end = all_push (KeepsEnd v) (KeepsEnd (with_record v n)) v.records n still all (record { own = home_here (λ (q : Placed). q.loader) (λ (q : Placed). q.home) v.records n fresh; ended = at_end })
  where
    still : (r : Placed) → KeepsEnd v r → KeepsEnd (with_record v n) r
    still r ok =
        let ne : r.loader ≢ n.loader = λ same. (let z : Some r.home ≡ None = sym ok.own ∙ ap (home_at v.records) same ∙ fresh in absurd cc) in
        record { own = home_elsewhere (λ (q : Placed). q.loader) (λ (q : Placed). q.home) v.records n r.loader ne ∙ ok.own; ended = ok.ended }

-- ---- one pair more

all_moved : (P Q : Placed → Type 0) (f : Placed → Placed) (rs : List Placed) → ((r : Placed) → P r → Q (f r)) → AllByRecursion P rs → AllByRecursion Q (map f rs)
all_moved P Q f [] on all = tt
all_moved P Q f (r ∷ rs) on all = (on r all.0, all_moved P Q f rs on all.1)

-- records keep their homes
pub home_moved : (p : Pair) (rs : List Placed) (x : ℕ) → home_at (map (moved_record p) rs) x ≡ home_at rs x
home_moved p [] x = refl
home_moved p (r ∷ rs) x = by (r.loader == x) (home_moved p rs x)
  where
    by : (b : Bool) → home_at (map (moved_record p) rs) x ≡ home_at rs x → option_map (λ (q : Placed). q.home) (if b then Some (moved_record p r) else find (λ (q : Placed). q.loader == x) (map (moved_record p) rs)) ≡ option_map (λ (q : Placed). q.home) (if b then Some r else find (λ (q : Placed). q.loader == x) rs)
    by true ih = refl
    by false ih = ih

-- the constraints with one pair more
abbrev pub with_pair : Paired → Pair → Paired
with_pair v p = record { records = map (moved_record p) v.records; pairs = v.pairs ++ p ∷ [] }

pub placed_on : (v : Paired) (p : Pair) → KeepsEnds v → KeepsEnds (with_pair v p)
placed_on v p all = all_moved (KeepsEnd v) (KeepsEnd (with_pair v p)) (moved_record p) v.records go_on all
  where
    go_on : (r : Placed) → KeepsEnd v r → KeepsEnd (with_pair v p) (moved_record p r)
    go_on r ok =
        record {
          own = home_moved p v.records r.loader ∙ ok.own;
          ended = ap (λ here. next_by here p) ok.ended ∙ sym (fold-append next_by r.loader v.pairs (p ∷ []));
        }

-- where two searches go on from their ends, by a pair of two other ends
met_by : (a b x y : ℕ) (p q : Bool) → (a == x) ≡ p → (a == y) ≡ q → ((if p then b else x) ≡ (if q then b else y)) ↔ ((x ≡ y) ⊎ ((x ≡ a) × (b ≡ y)) ⊎ ((x ≡ b) × (a ≡ y)))
met_by a b x y true true i j = (λ e. inl (sym (eqb-true a x i) ∙ eqb-true a y j), λ k. refl)
met_by a b x y true false i j = (λ e. inr (inl (sym (eqb-true a x i), e)), back)
  where
    back : ((x ≡ y) ⊎ ((x ≡ a) × (b ≡ y)) ⊎ ((x ≡ b) × (a ≡ y))) → b ≡ y
    back (inl e) = absurd (eqb-false a y j (eqb-true a x i ∙ e))
    back (inr (inl k)) = k.1
    back (inr (inr k)) = absurd (eqb-false a y j k.1)
met_by a b x y false true i j = (λ e. inr (inr (e, eqb-true a y j)), back)
  where
    back : ((x ≡ y) ⊎ ((x ≡ a) × (b ≡ y)) ⊎ ((x ≡ b) × (a ≡ y))) → x ≡ b
    back (inl e) = absurd (eqb-false a x i (eqb-true a y j ∙ sym e))
    back (inr (inl k)) = absurd (eqb-false a x i (sym k.0))
    back (inr (inr k)) = k.0
met_by a b x y false false i j = (λ e. inl e, back)
  where
    back : ((x ≡ y) ⊎ ((x ≡ a) × (b ≡ y)) ⊎ ((x ≡ b) × (a ≡ y))) → x ≡ y
    back (inl e) = e
    back (inr (inl k)) = absurd (eqb-false a x i (sym k.0))
    back (inr (inr k)) = absurd (eqb-false a y j k.1)

-- a pair of the ends of two loaders joins them, each with all that it was joined with
pub paired_more : (ps : List Pair) (a b x y : ℕ) → ArePaired (ps ++ record { one = end_in ps a; other = end_in ps b } ∷ []) x y ↔ Joins (λ p q. ArePaired ps p q) a b x y
paired_more ps a b x y = (λ h. met.0 (sym (on x) ∙ h ∙ on y), λ k. on x ∙ met.1 k ∙ sym (on y))
  where
    pair : Pair
    pair = record { one = end_in ps a; other = end_in ps b }

    on : (l : ℕ) → end_in (ps ++ pair ∷ []) l ≡ next_by (end_in ps l) pair
    on l = fold-append next_by l ps (pair ∷ [])

    met : (next_by (end_in ps x) pair ≡ next_by (end_in ps y) pair) ↔ Joins (λ p q. ArePaired ps p q) a b x y
    met = met_by (end_in ps a) (end_in ps b) (end_in ps x) (end_in ps y) (end_in ps a == end_in ps x) (end_in ps a == end_in ps y) refl refl

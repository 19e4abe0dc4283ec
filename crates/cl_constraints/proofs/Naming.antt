-- What a book of names stands for, as one name's constraints change.
use Rattle.std.proofs.Common.{◌≡◌, ◌≢◌, ◌⊎◌, inl, inr, ◌↔◌, ℕ, Bool, true, false, ◌==◌, ◌&&◌, if◌then◌else◌, List, [], ◌∷◌, ◌++◌, Option, Some, None, refl, sym, ap, subst, ◌∙◌, nat_eq, IsSome, arith, cond}
use Rattle.std.specs.Prelude.{find, option_map, option_and_then, Contains, MatchOption, not}
use Rattle.std.specs.Option.{option_or}
use Rattle.std.specs.Bool.{FalseIff}
use Rattle.std.specs.HashMap.{UpdatesBy, WritesThrough}
use Rattle.std.specs.Map.{set_value}
use Rattle.std.specs.Cmp.Lexicographic.{pointwise, bytes_decides}
use Rattle.std.proofs.lemmas.List.Folds.{find-append}
use Rattle.std.proofs.lemmas.Bool.{eqb-true}
use Rattle.std.proofs.lemmas.Cmp.{nat_eq_equiv, nat_list_eq_equiv}
use Rattle.indexmap.specs.IndexMap.{IndexMap}
use Rattle.cl_classfile.specs.Files.{Name, same_name}
use Rattle.cl_model.specs.States.{State, start, Record, Equality, Need, Entry, Equal, recorded_definer, Joined, Violated, Met, Clashes, Refused, with_need, Differs, Divides}
use Rattle.cl_model.specs.States as States
use Rattle.cl_names.specs.Truth.{Decides}
use Rattle.cl_model.proofs.Runs.{added_later, joined_later, joined_then, joined_back, joined_link, last_linked, met_clash, adds, record_found, start_unviolated, names_equal, path_added}
use Rattle.cl_constraints.specs.Books.{IsBookOf}
use Rattle.cl_constraints.specs.Singles.{Enters, Joins}
use Rattle.cl_constraints.specs.Named.{found_named, home_of, joins_of, Sets, EntersAt, JoinsAt}

-- ---- one name of a book

-- `home_of` and `joins_of`, by what stands of the name
abbrev home_or_none : {N : Type 0} → (N → ℕ → Option ℕ) → ℕ → Option N → Option ℕ
home_or_none record_at l o = option_and_then (λ one. record_at one l) o

abbrev joins_or_same : {N : Type 0} → (N → ℕ → ℕ → Type 0) → ℕ → ℕ → Option N → Type 0
joins_or_same joins a b o = MatchOption o (a ≡ b) (λ one. joins one a b)

other_name : (name m : Name) → m ≢ name → pointwise nat_eq name m ≡ false
other_name name m differ = by (pointwise nat_eq name m) refl
  where
    by : (b : Bool) → pointwise nat_eq name m ≡ b → pointwise nat_eq name m ≡ false
    by true e = absurd (differ (sym ((bytes_decides name m).0 e)))
    by false e = e

-- what a map's update at a name comes to
pub updated : {N S : Type 0} (m n : IndexMap Name N S) (name : Name) (one : N) → UpdatesBy (pointwise nat_eq) (pointwise nat_eq name) m n (Some one) → Sets m.entries n.entries name one
updated m n name one u = record { here = u.1; others = λ x d. u.2 x (other_name name x d) }

-- what is written through a borrow of what stands of a name
pub written : {N S : Type 0} (m n : IndexMap Name N S) (book : List (Name × N)) (name : Name) (one w : N) → m.entries ≡ book → Some one ≡ found_named m.entries name → WritesThrough (pointwise nat_eq) (pointwise nat_eq name) m w n → Sets book n.entries name w
written {N} m n book name one w view there h = subst (λ (b : List (Name × N)). Sets b n.entries name w) view (updated m n name w (h.3 (subst (λ o. IsSome o) there refl)))

same_value : {N : Type 0} (book : List (Name × N)) (name : Name) (w : N) → found_named book name ≡ Some w → set_value (pointwise nat_eq name) book w ≡ book
same_value [] name w e = refl
same_value (x ∷ xs) name w e = by (pointwise nat_eq name x.0) (same_value xs name w) e
  where
    by : (b : Bool) → (found_named xs name ≡ Some w → set_value (pointwise nat_eq name) xs w ≡ xs) → cond b (Some x.1) (found_named xs name) ≡ Some w → cond b ((x.0, w) ∷ xs) (x ∷ set_value (pointwise nat_eq name) xs w) ≡ x ∷ xs
    by true ih k = let same : x.1 ≡ w = cc in ap (λ v. (x.0, v) ∷ xs) (sym same)
    by false ih k = ap (λ rest. x ∷ rest) (ih k)

-- writing what stood changes nothing
pub rewritten : {N S : Type 0} (m n : IndexMap Name N S) (book : List (Name × N)) (name : Name) (one w : N) → m.entries ≡ book → Some one ≡ found_named m.entries name → w ≡ one → WritesThrough (pointwise nat_eq) (pointwise nat_eq name) m w n → n.entries ≡ book
rewritten m n book name one w view there same h = h.0 ∙ ap (set_value (pointwise nat_eq name) m.entries) same ∙ same_value m.entries name one (sym there) ∙ view

module _ {N : Type 0} (record_at : N → ℕ → Option ℕ) (joins : N → ℕ → ℕ → Type 0) (old new : List (Name × N)) (name : Name) where
  -- one record more of a name of which something stood
  pub entered_some : (one w : N) (loader place : ℕ) → found_named old name ≡ Some one → Sets old new name w → Enters (record_at one) (record_at w) loader place → ((a b : ℕ) → joins w a b ↔ joins one a b) → EntersAt record_at joins old new name loader place
  entered_some one w loader place e s more same =
      record {
        records = subst (λ o. Enters (λ l. home_or_none record_at l o) (home_of record_at new name) loader place) (sym e) (subst (λ o. Enters (record_at one) (λ l. home_or_none record_at l o) loader place) (sym s.here) more);
        joined = λ a b. subst (λ o. joins_or_same joins a b (found_named new name) ↔ joins_or_same joins a b o) (sym e) (subst (λ o. joins_or_same joins a b o ↔ joins one a b) (sym s.here) (same a b));
        others = s.others;
      }

  -- and of one of which nothing did
  pub entered_none : (one w : N) (loader place : ℕ) → found_named old name ≡ None → ((l : ℕ) → record_at one l ≡ None) → ((a b : ℕ) → joins one a b ↔ (a ≡ b)) → Sets old new name w → Enters (record_at one) (record_at w) loader place → ((a b : ℕ) → joins w a b ↔ joins one a b) → EntersAt record_at joins old new name loader place
  entered_none one w loader place e none alone s more same =
      let first : Enters (λ l. None) (record_at w) loader place = record { here = more.here; elsewhere = λ l d. more.elsewhere l d ∙ none l } in
      record {
        records = subst (λ o. Enters (λ l. home_or_none record_at l o) (home_of record_at new name) loader place) (sym e) (subst (λ o. Enters (λ l. None) (λ l. home_or_none record_at l o) loader place) (sym s.here) first);
        joined = λ a b. subst (λ o. joins_or_same joins a b (found_named new name) ↔ joins_or_same joins a b o) (sym e) (subst (λ o. joins_or_same joins a b o ↔ (a ≡ b)) (sym s.here) (λ j. (alone a b).0 ((same a b).0 j), λ i. (same a b).1 ((alone a b).1 i)));
        others = s.others;
      }

  -- two loaders more are joined, for a name of which something stood
  pub joined_some : (one w : N) (a b : ℕ) → found_named old name ≡ Some one → Sets old new name w → ((l : ℕ) → record_at w l ≡ record_at one l) → ((x y : ℕ) → joins w x y ↔ Joins (joins one) a b x y) → JoinsAt record_at joins old new name a b
  joined_some one w a b e s same more =
      record {
        records = λ l. ap (home_or_none record_at l) s.here ∙ same l ∙ sym (ap (home_or_none record_at l) e);
        joined = λ x y. subst (λ o. joins_or_same joins x y (found_named new name) ↔ Joins (λ p q. joins_or_same joins p q o) a b x y) (sym e) (subst (λ o. joins_or_same joins x y o ↔ Joins (joins one) a b x y) (sym s.here) (more x y));
        others = s.others;
      }

  pub joined_none : (one w : N) (a b : ℕ) → found_named old name ≡ None → ((l : ℕ) → record_at one l ≡ None) → ((x y : ℕ) → joins one x y ↔ (x ≡ y)) → Sets old new name w → ((l : ℕ) → record_at w l ≡ record_at one l) → ((x y : ℕ) → joins w x y ↔ Joins (joins one) a b x y) → JoinsAt record_at joins old new name a b
  joined_none one w a b e none alone s same more =
      record {
        records = λ l. ap (home_or_none record_at l) s.here ∙ same l ∙ none l ∙ sym (ap (home_or_none record_at l) e);
        joined = λ x y. subst (λ o. joins_or_same joins x y (found_named new name) ↔ Joins (λ p q. joins_or_same joins p q o) a b x y) (sym e) (subst (λ o. joins_or_same joins x y o ↔ Joins (λ p q. p ≡ q) a b x y) (sym s.here) (λ j. to x y ((more x y).0 j), λ j. (more x y).1 (from x y j)));
        others = s.others;
      }
    where
      to : (x y : ℕ) → Joins (joins one) a b x y → Joins (λ p q. p ≡ q) a b x y
      to x y (inl j) = inl ((alone x y).0 j)
      to x y (inr (inl j)) = inr (inl ((alone x a).0 j.0, (alone b y).0 j.1))
      to x y (inr (inr j)) = inr (inr ((alone x b).0 j.0, (alone a y).0 j.1))

      from : (x y : ℕ) → Joins (λ p q. p ≡ q) a b x y → Joins (joins one) a b x y
      from x y (inl j) = inl ((alone x y).1 j)
      from x y (inr (inl j)) = inr (inl ((alone x a).1 j.0, (alone b y).1 j.1))
      from x y (inr (inr j)) = inr (inr ((alone x b).1 j.0, (alone a y).1 j.1))

-- ---- what a book stands for

module _ (home : Name → ℕ → Option ℕ) (joins : Name → ℕ → ℕ → Type 0) (s : State) (book : IsBookOf home joins s) where
  differs_to : (name : Name) (loader place : ℕ) → Differs (home name) (joins name) loader place → Clashes s (Entry loader name place)
  differs_to name loader place d =
      record { other = d.other; other_place = d.other_place; joined = (book.joined name loader d.other).0 d.joined; recorded_there = book.records name d.other ∙ d.recorded_there; differ = d.differ }

  differs_from : (name : Name) (loader place : ℕ) → Clashes s (Entry loader name place) → Differs (home name) (joins name) loader place
  differs_from name loader place d =
      record { other = d.other; other_place = d.other_place; joined = (book.joined name loader d.other).1 d.joined; recorded_there = sym (book.records name d.other) ∙ d.recorded_there; differ = d.differ }

  divides_to : (name : Name) (a b : ℕ) → Divides (home name) (joins name) a b → Clashes s (Equal name a b)
  divides_to name a b d =
      record { one = d.one; place = d.place; joined = (book.joined name a d.one).0 d.joined; recorded_there = book.records name d.one ∙ d.recorded_there; differs = differs_to name b d.place d.differs }

  divides_from : (name : Name) (a b : ℕ) → Clashes s (Equal name a b) → Divides (home name) (joins name) a b
  divides_from name a b d =
      record { one = d.one; place = d.place; joined = (book.joined name a d.one).1 d.joined; recorded_there = sym (book.records name d.one) ∙ d.recorded_there; differs = differs_from name b d.place d.differs }

  refused_by : (need : Need) → Clashes s need → Refused s need
  refused_by need c = record { unmet = λ m. book.unviolated (met_clash s need m c); clashes = c }

  pub refused_entry : (name : Name) (loader place : ℕ) → Differs (home name) (joins name) loader place → Refused s (Entry loader name place)
  refused_entry name loader place d = refused_by (Entry loader name place) (differs_to name loader place d)

  pub fitting_entry : (name : Name) (loader place : ℕ) → (Differs (home name) (joins name) loader place → ⊥) → Refused s (Entry loader name place) → ⊥
  fitting_entry name loader place fits r = fits (differs_from name loader place r.clashes)

  pub refused_equal : (name : Name) (a b : ℕ) → Divides (home name) (joins name) a b → Refused s (Equal name a b)
  refused_equal name a b d = refused_by (Equal name a b) (divides_to name a b d)

  pub fitting_equal : (name : Name) (a b : ℕ) → (Divides (home name) (joins name) a b → ⊥) → Refused s (Equal name a b) → ⊥
  fitting_equal name a b fits r = fits (divides_from name a b r.clashes)

  -- a test of one name tells of the state
  pub admits_so : (answer : Bool) (name : Name) (loader place : ℕ) → FalseIff answer (Differs (home name) (joins name) loader place) → FalseIff answer (Refused s (Entry loader name place))
  admits_so true name loader place fits = fitting_entry name loader place fits
  admits_so false name loader place d = refused_entry name loader place d

  pub refuses_so : (answer : Bool) (name : Name) (a b : ℕ) → FalseIff answer (Divides (home name) (joins name) a b)
      → Decides (not answer) (Refused s (Equal name a b))
  refuses_so true name a b fits = fitting_equal name a b fits
  refuses_so false name a b d = refused_equal name a b d

  pub joined_so : (answer : Bool) (name : Name) (a b : ℕ) → Decides answer (joins name a b) → Decides answer (Met s (Equal name a b))
  joined_so true name a b j = (book.joined name a b).0 j
  joined_so false name a b apart = λ j. apart ((book.joined name a b).1 j)

same_or_other : (name m : Name) → (name ≡ m) ⊎ (m ≢ name)
same_or_other name m = by (pointwise nat_eq name m) refl
  where
    by : (b : Bool) → pointwise nat_eq name m ≡ b → (name ≡ m) ⊎ (m ≢ name)
    by true e = inl ((bytes_decides name m).0 e)
    by false e = inr (λ same. let t : pointwise nat_eq name m ≡ true = (bytes_decides name m).1 (sym same) in let f : true ≡ false = sym t ∙ e in absurd cc)

or_none : {A : Type 0} (o : Option A) → option_or o None ≡ o
or_none None = refl
or_none (Some x) = refl

same_record : (loader : ℕ) (name : Name) → ((loader == loader) && same_name name name) ≡ true
same_record loader name = rw (nat_eq_equiv.refl loader) (nat_list_eq_equiv.refl name)

-- a record more changes no other
recorded_apart : (rs : List Record) (r : Record) (l : ℕ) (m : Name) → ((r.loader == l) && same_name r.name m) ≡ false → recorded_definer (rs ++ r ∷ []) l m ≡ recorded_definer rs l m
recorded_apart rs r l m e =
    let test = λ (x : Record). (x.loader == l) && same_name x.name m in
    let last : find test (r ∷ []) ≡ None = ap (λ (b : Bool). if b then Some r else None) e in
    ap (option_map (λ (x : Record). x.place)) (find-append test rs (r ∷ []) ∙ ap (option_or (find test rs)) last ∙ or_none (find test rs))

both_tests : (a b : Bool) → (a && b) ≡ true → (a ≡ true) × (b ≡ true)
both_tests true b e = (refl, e)
both_tests false b e = absurd cc

module _ {N : Type 0} (record_at : N → ℕ → Option ℕ) (joins : N → ℕ → ℕ → Type 0) (old new : List (Name × N)) (s : State) (book : IsBookOf (home_of record_at old) (joins_of joins old) s) (name : Name) where
  -- the book stands for the state with one record more
  pub entered_book : (loader place : ℕ) → EntersAt record_at joins old new name loader place → home_of record_at old name loader ≡ None → (Differs (home_of record_at old name) (joins_of joins old name) loader place → ⊥) → IsBookOf (home_of record_at new) (joins_of joins new) (with_need s (Entry loader name place))
  entered_book loader place e fresh fits =
      record {
        records = λ m l. by m l ((loader == l) && same_name name m) refl;
        joined = λ m a b. elim (same_or_other name m) as (λ _. joins_of joins new m a b ↔ Joined s.equalities m a b) [
          | inl q ↦ subst (λ (z : Name). joins_of joins new z a b ↔ Joined s.equalities z a b) q (λ j. (book.joined name a b).0 ((e.joined a b).0 j), λ j. (e.joined a b).1 ((book.joined name a b).1 j))
          | inr d ↦ subst (λ o. joins_or_same joins a b o ↔ Joined s.equalities m a b) (sym (e.others m d)) (book.joined m a b)
        ];
        unviolated = adds s (Entry loader name place) (λ d. fits (differs_from (home_of record_at old) (joins_of joins old) s book name loader place d)) book.unviolated;
      }
    where
      r : Record
      r = record { loader = loader; name = name; place = place }

      stays : (m : Name) (l : ℕ) → ((loader == l) && same_name name m) ≡ false → home_of record_at old m l ≡ home_of record_at new m l
      stays m l f =
          elim (same_or_other name m) as (λ _. home_of record_at old m l ≡ home_of record_at new m l) [
            | inl q ↦ subst (λ (z : Name). home_of record_at old z l ≡ home_of record_at new z l) q (sym (e.records.elsewhere l (λ k. (let t : ((loader == l) && same_name name m) ≡ true = subst (λ (z : Name). ((loader == l) && same_name name z) ≡ true) q (subst (λ (z : ℕ). ((loader == z) && same_name name name) ≡ true) (sym k) (same_record loader name)) in let z : true ≡ false = sym t ∙ f in absurd cc))))
            | inr d ↦ sym (ap (home_or_none record_at l) (e.others m d))
          ]

      by : (m : Name) (l : ℕ) (b : Bool) → ((loader == l) && same_name name m) ≡ b → recorded_definer (s.records ++ r ∷ []) l m ≡ home_of record_at new m l
      by m l true t =
          let both = both_tests (loader == l) (same_name name m) t in
          let here : recorded_definer (s.records ++ r ∷ []) loader name ≡ home_of record_at new name loader = record_found s.records r (book.records name loader ∙ fresh) ∙ sym e.records.here in
          subst (λ (z : Name). recorded_definer (s.records ++ r ∷ []) l z ≡ home_of record_at new z l) (names_equal name m both.1) (subst (λ (z : ℕ). recorded_definer (s.records ++ r ∷ []) z name ≡ home_of record_at new name z) (eqb-true loader l both.0) here)
      by m l false f = recorded_apart s.records r l m f ∙ book.records m l ∙ stays m l f

  -- the book stands for the state with one equality more
  pub joined_book : (a b : ℕ) → JoinsAt record_at joins old new name a b → (Divides (home_of record_at old name) (joins_of joins old name) a b → ⊥) → IsBookOf (home_of record_at new) (joins_of joins new) (with_need s (Equal name a b))
  joined_book a b j fits =
      record {
        records = λ m l. book.records m l ∙ stays m l;
        joined = λ m x y. (to m x y (same_or_other name m), λ h. from m x y (same_or_other name m) (path_added s.equalities k m x h.path y h.along));
        unviolated = adds s (Equal name a b) (λ d. fits (divides_from (home_of record_at old) (joins_of joins old) s book name a b d)) book.unviolated;
      }
    where
      k : Equality
      k = record { name = name; one = a; other = b }

      t : State
      t = with_need s (Equal name a b)

      later : (m : Name) (x y : ℕ) → joins_of joins old m x y → Joined t.equalities m x y
      later m x y i = joined_later s t (added_later s (Equal name a b)) m x y ((book.joined m x y).0 i)

      link : Joined t.equalities name a b
      link = joined_link t.equalities name a b (last_linked s.equalities name a b)

      stays : (m : Name) (l : ℕ) → home_of record_at old m l ≡ home_of record_at new m l
      stays m l =
          elim (same_or_other name m) as (λ _. home_of record_at old m l ≡ home_of record_at new m l) [
            | inl q ↦ subst (λ (z : Name). home_of record_at old z l ≡ home_of record_at new z l) q (sym (j.records l))
            | inr d ↦ sym (ap (home_or_none record_at l) (j.others m d))
          ]

      through : (x y : ℕ) → Joins (joins_of joins old name) a b x y → Joined t.equalities name x y
      through x y (inl i) = later name x y i
      through x y (inr (inl i)) = joined_then t.equalities name x a y (later name x a i.0) (joined_then t.equalities name a b y link (later name b y i.1))
      through x y (inr (inr i)) = joined_then t.equalities name x b y (later name x b i.0) (joined_then t.equalities name b a y (joined_back t.equalities name a b link) (later name a y i.1))

      to : (m : Name) (x y : ℕ) → (name ≡ m) ⊎ (m ≢ name) → joins_of joins new m x y → Joined t.equalities m x y
      to m x y (inl q) = subst (λ (z : Name). joins_of joins new z x y → Joined t.equalities z x y) q (λ i. through x y ((j.joined x y).0 i))
      to m x y (inr d) = λ i. later m x y (subst (λ o. joins_or_same joins x y o) (j.others m d) i)

      kept : (m : Name) (x y : ℕ) → (name ≡ m) ⊎ (m ≢ name) → Joined s.equalities m x y → joins_of joins new m x y
      kept m x y (inl q) = subst (λ (z : Name). Joined s.equalities z x y → joins_of joins new z x y) q (λ i. (j.joined x y).1 (inl ((book.joined name x y).1 i)))
      kept m x y (inr d) = λ i. subst (λ o. joins_or_same joins x y o) (sym (j.others m d)) ((book.joined m x y).1 i)

      crossed : (m : Name) (x y : ℕ) → name ≡ m → Joined s.equalities m x y ⊎ (Joined s.equalities m x a × Joined s.equalities m b y) ⊎ (Joined s.equalities m x b × Joined s.equalities m a y) → joins_of joins new m x y
      crossed m x y q = subst (λ (z : Name). Joined s.equalities z x y ⊎ (Joined s.equalities z x a × Joined s.equalities z b y) ⊎ (Joined s.equalities z x b × Joined s.equalities z a y) → joins_of joins new z x y) q (λ c. (j.joined x y).1 (old_of c))
        where
          old_of : Joined s.equalities name x y ⊎ (Joined s.equalities name x a × Joined s.equalities name b y) ⊎ (Joined s.equalities name x b × Joined s.equalities name a y) → Joins (joins_of joins old name) a b x y
          old_of (inl i) = inl ((book.joined name x y).1 i)
          old_of (inr (inl i)) = inr (inl ((book.joined name x a).1 i.0, (book.joined name b y).1 i.1))
          old_of (inr (inr i)) = inr (inr ((book.joined name x b).1 i.0, (book.joined name a y).1 i.1))

      from : (m : Name) (x y : ℕ) → (name ≡ m) ⊎ (m ≢ name) → Joined s.equalities m x y ⊎ ((name ≡ m) × (Joined s.equalities m x y ⊎ (Joined s.equalities m x a × Joined s.equalities m b y) ⊎ (Joined s.equalities m x b × Joined s.equalities m a y))) → joins_of joins new m x y
      from m x y q (inl i) = kept m x y q i
      from m x y q (inr i) = crossed m x y i.0 i.1

-- a book of nothing stands for the start
pub start_book : {N : Type 0} (record_at : N → ℕ → Option ℕ) (joins : N → ℕ → ℕ → Type 0) (book : List (Name × N)) → book ≡ [] → IsBookOf (home_of record_at book) (joins_of joins book) start
start_book {N} record_at joins book e = subst (λ (z : List (Name × N)). IsBookOf (home_of record_at z) (joins_of joins z) start) (sym e) (record { records = λ m l. refl; joined = λ m a b. (λ i. record { path = []; along = i }, λ h. alone m a h.path b h.along); unviolated = start_unviolated })
  where
    alone : (m : Name) (a : ℕ) (path : List ℕ) (b : ℕ) → States.IsPathBetween [] m a path b → a ≡ b
    alone m a [] b h = h
    alone m a (c ∷ cs) b h = absurd (none h.0.imposed)
      where
        none : Contains [] h.0.equality → ⊥
        none i = omega arith

-- ---- what is asked of one name

module _ {N : Type 0} (record_at : N → ℕ → Option ℕ) (joins : N → ℕ → ℕ → Type 0) (book : List (Name × N)) (name : Name) (one : N) (there : found_named book name ≡ Some one) (a b : ℕ) where
  pub agrees_so : (answer : Bool) → FalseIff answer (Divides (record_at one) (joins one) a b) → FalseIff answer (Divides (home_of record_at book name) (joins_of joins book name) a b)
  agrees_so answer h = subst (λ o. FalseIff answer (Divides (λ l. home_or_none record_at l o) (λ x y. joins_or_same joins x y o) a b)) (sym there) h

  pub agrees_here : (Divides (home_of record_at book name) (joins_of joins book name) a b → ⊥) → Divides (record_at one) (joins one) a b → ⊥
  agrees_here h = subst (λ o. Divides (λ l. home_or_none record_at l o) (λ x y. joins_or_same joins x y o) a b → ⊥) there h

  pub fits_here : (Differs (home_of record_at book name) (joins_of joins book name) a b → ⊥) → Differs (record_at one) (joins one) a b → ⊥
  fits_here h = subst (λ o. Differs (λ l. home_or_none record_at l o) (λ x y. joins_or_same joins x y o) a b → ⊥) there h

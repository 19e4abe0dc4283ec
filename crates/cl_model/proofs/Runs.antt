-- What runs keep.
use Rattle.std.proofs.Common.{◌≡◌, ◌⊎◌, inl, inr, ℕ, zero, suc, Bool, true, false, ◌==◌, ◌&&◌, if◌then◌else◌, List, [], ◌∷◌, ◌++◌, Option, Some, None, refl, sym, ap, subst, ◌∙◌}
use Rattle.std.specs.Prelude.{find, option_map, Contains}
use Rattle.std.specs.Option.{option_or}
use Rattle.std.proofs.lemmas.List.Folds.{find-append}
use Rattle.std.proofs.lemmas.List.Elements.{Contains-append_left, Contains-append_right, Contains-append_cases}
use Rattle.std.proofs.lemmas.Bool.{eqb-true, and_parts}
use Rattle.std.proofs.Common.{nat_eq, ◌≢◌, ◌<◌, arith, slice_index_or}
use Rattle.std.proofs.lemmas.Cmp.{nat_eq_equiv, nat_list_eq_equiv}
use Rattle.cl_classfile.specs.Files.{Name, same_name}
use Rattle.cl_model.specs.States.{State, start, Record, Equality, Need, Entry, Equal, Verdict, recorded_definer, Linked, IsPathBetween, Joined, Violated, Met, Clashes, Refused, with_need, IsFresh}
use Rattle.cl_model.specs.Machine.{Setting, Step, Define, Initiate, Constrain, Settle, Prepare, Post, NextRound, Stray, May, after, state_after, Run, Answers}

pub run_goes_on : (g : Setting) (s : State) (es : List Step) (e : Step) → Run g s es → May g (state_after s es) e → Run g s (es ++ e ∷ [])
run_goes_on g s [] e run may = (may, tt)
run_goes_on g s (f ∷ es) e run may = (run.0, run_goes_on g (after s f) es e run.1 may)

-- a later state has all records and equalities of an earlier one
pub record IsLater (s t : State) : Type 0 where
  pub records : (loader place : ℕ) (name : Name) → recorded_definer s.records loader name ≡ Some place → recorded_definer t.records loader name ≡ Some place
  pub equalities : (e : Equality) → Contains s.equalities e → Contains t.equalities e

pub or_map : {A B : Type 0} (f : A → B) (a b : Option A) (y : B) → option_map f a ≡ Some y → option_map f (option_or a b) ≡ Some y
or_map f None b y h = absurd cc
or_map f (Some x) b y h = h

recorded_more : (rs more : List Record) (loader place : ℕ) (name : Name) → recorded_definer rs loader name ≡ Some place → recorded_definer (rs ++ more) loader name ≡ Some place
recorded_more rs more loader place name h =
    let p = λ (r : Record). (r.loader == loader) && same_name r.name name in
    rw (find-append p rs more) (or_map (λ (r : Record). r.place) (find p rs) (find p more) place h)

same_later : (s : State) → IsLater s s
same_later s = record { records = λ l p n h. h; equalities = λ e h. h }

later_later : (s t u : State) → IsLater s t → IsLater t u → IsLater s u
later_later s t u a b = record { records = λ l p n h. b.records l p n (a.records l p n h); equalities = λ e h. b.equalities e (a.equalities e h) }

pub added_later : (s : State) (n : Need) → IsLater s (with_need s n)
added_later s (Entry loader name place) = record { records = λ l p n h. recorded_more s.records (record { loader = loader; name = name; place = place } ∷ []) l p n h; equalities = λ e h. h }
added_later s (Equal name a b) = record { records = λ l p n h. h; equalities = λ e h. Contains-append_left s.equalities (record { name = name; one = a; other = b } ∷ []) e h }

pub after_later : (s : State) (e : Step) → IsLater s (after s e)
after_later s (Define c) = added_later s (Entry c.loader c.name c.loader)
after_later s (Initiate name place loader) = added_later s (Entry loader name place)
after_later s (Constrain name a b) = added_later s (Equal name a b)
after_later s (Settle d i v) = record { records = λ l p n h. h; equalities = λ e h. h }
after_later s (Prepare c) = record { records = λ l p n h. h; equalities = λ e h. h }
after_later s (Post q a) = record { records = λ l p n h. h; equalities = λ e h. h }
after_later s NextRound = record { records = λ l p n h. h; equalities = λ e h. h }
after_later s Stray = record { records = λ l p n h. h; equalities = λ e h. h }

pub run_later : (s : State) (es : List Step) → IsLater s (state_after s es)
run_later s [] = same_later s
run_later s (e ∷ es) = later_later s (after s e) (state_after s (e ∷ es)) (after_later s e) (run_later (after s e) es)

pub records_stay : (s : State) (es : List Step) (loader place : ℕ) (name : Name) → recorded_definer s.records loader name ≡ Some place → recorded_definer (state_after s es).records loader name ≡ Some place
records_stay s es loader place name h = (run_later s es).records loader place name h

path_later : (s t : State) → IsLater s t → (name : Name) (a : ℕ) (path : List ℕ) (b : ℕ) → IsPathBetween s.equalities name a path b → IsPathBetween t.equalities name a path b
path_later s t l name a [] b h = h
path_later s t l name a (c ∷ cs) b h =
    (record { equality = h.0.equality; imposed = l.equalities h.0.equality h.0.imposed; named = h.0.named; ends = h.0.ends }, path_later s t l name c cs b h.1)

pub joined_later : (s t : State) → IsLater s t → (name : Name) (a b : ℕ) → Joined s.equalities name a b → Joined t.equalities name a b
joined_later s t l name a b h = record { path = h.path; along = path_later s t l name a h.path b h.along }

pub met_later : (s t : State) → IsLater s t → (n : Need) → Met s n → Met t n
met_later s t l (Entry loader name place) h = l.records loader place name h
met_later s t l (Equal name a b) h = joined_later s t l name a b h

pub met_stays : (s : State) (es : List Step) (n : Need) → Met s n → Met (state_after s es) n
met_stays s es n h = met_later s (state_after s es) (run_later s es) n h

-- what violates a state violates one with the same records and equalities
pub violated_as : (s t : State) → s.records ≡ t.records → s.equalities ≡ t.equalities → Violated t → Violated s
violated_as s t r e v =
    record {
      name = v.name;
      one = v.one;
      place = v.place;
      first = subst (λ (x : List Record). recorded_definer x v.one v.name ≡ Some v.place) (sym r) v.first;
      differs = record {
        other = v.differs.other;
        other_place = v.differs.other_place;
        joined = subst (λ (x : List Equality). Joined x v.name v.one v.differs.other) (sym e) v.differs.joined;
        recorded_there = subst (λ (x : List Record). recorded_definer x v.differs.other v.name ≡ Some v.differs.other_place) (sym r) v.differs.recorded_there;
        differ = v.differs.differ;
      };
    }

-- ---- paths

path_then : (ks : List Equality) (name : Name) (a : ℕ) (path : List ℕ) (b : ℕ) → IsPathBetween ks name a path b → (more : List ℕ) (c : ℕ) → IsPathBetween ks name b more c → IsPathBetween ks name a (path ++ more) c
path_then ks name a [] b h more c k = subst (λ (x : ℕ). IsPathBetween ks name x more c) (sym h) k
path_then ks name a (d ∷ ds) b h more c k = (h.0, path_then ks name d ds b h.1 more c k)

pub joined_then : (ks : List Equality) (name : Name) (a b c : ℕ) → Joined ks name a b → Joined ks name b c → Joined ks name a c
joined_then ks name a b c h k = record { path = h.path ++ k.path; along = path_then ks name a h.path b h.along k.path c k.along }

pub joined_self : (ks : List Equality) (name : Name) (a : ℕ) → Joined ks name a a
joined_self ks name a = record { path = []; along = refl }

linked_back : (ks : List Equality) (name : Name) (a b : ℕ) → Linked ks name a b → Linked ks name b a
linked_back ks name a b h = record { equality = h.equality; imposed = h.imposed; named = h.named; ends = elim (h.ends) [ inl x ↦ inr x | inr x ↦ inl x ] }

pub joined_link : (ks : List Equality) (name : Name) (a b : ℕ) → Linked ks name a b → Joined ks name a b
joined_link ks name a b h = record { path = b ∷ []; along = (h, refl) }

path_back : (ks : List Equality) (name : Name) (a : ℕ) (path : List ℕ) (b : ℕ) → IsPathBetween ks name a path b → Joined ks name b a
path_back ks name a [] b h = record { path = []; along = sym h }
path_back ks name a (c ∷ cs) b h = joined_then ks name b c a (path_back ks name c cs b h.1) (joined_link ks name c a (linked_back ks name a c h.0))

pub joined_back : (ks : List Equality) (name : Name) (a b : ℕ) → Joined ks name a b → Joined ks name b a
joined_back ks name a b h = path_back ks name a h.path b h.along

-- ---- what is refused stays refused

differs_later : (s t : State) → IsLater s t → (name : Name) (loader place : ℕ) → Clashes s (Entry loader name place) → Clashes t (Entry loader name place)
differs_later s t l name loader place h =
    record { other = h.other; other_place = h.other_place; joined = joined_later s t l name loader h.other h.joined; recorded_there = l.records h.other h.other_place name h.recorded_there; differ = h.differ }

pub clash_later : (s t : State) → IsLater s t → (n : Need) → Clashes s n → Clashes t n
clash_later s t l (Entry loader name place) h = differs_later s t l name loader place h
clash_later s t l (Equal name a b) h =
    record { one = h.one; place = h.place; joined = joined_later s t l name a h.one h.joined; recorded_there = l.records h.one h.place name h.recorded_there; differs = differs_later s t l name b h.place h.differs }

-- a need that is met and clashes violates
pub met_clash : (s : State) (n : Need) → Met s n → Clashes s n → Violated s
met_clash s (Entry loader name place) m h =
    record { name = name; one = loader; place = place; first = m; differs = h }
met_clash s (Equal name a b) m h =
    record {
      name = name;
      one = h.one;
      place = h.place;
      first = h.recorded_there;
      differs = record {
        other = h.differs.other;
        other_place = h.differs.other_place;
        joined = joined_then s.equalities name h.one a h.differs.other (joined_back s.equalities name a h.one h.joined) (joined_then s.equalities name a b h.differs.other m h.differs.joined);
        recorded_there = h.differs.recorded_there;
        differ = h.differs.differ;
      };
    }

pub refused_later : (s t : State) → IsLater s t → (Violated t → ⊥) → (n : Need) → Refused s n → Refused t n
refused_later s t l u n h = record { unmet = λ m. u (met_clash t n m (clash_later s t l n h.clashes)); clashes = clash_later s t l n h.clashes }

pub answers_later : (s t : State) → IsLater s t → (Violated t → ⊥) → (ns : List Need) (ends v : Verdict) → Answers s ns ends v → Answers t ns ends v
answers_later s t l u [] ends v h = h
answers_later s t l u (n ∷ ns) ends v h =
    elim h [
      | inl x ↦ inl (met_later s t l n x.0, answers_later s t l u ns ends v x.1)
      | inr x ↦ inr (refused_later s t l u n x.0, x.1)
    ]

-- ---- what may be added violates nothing

-- two names that test as the same are equal
pub names_equal : (a b : Name) → same_name a b ≡ true → a ≡ b
names_equal [] [] h = refl
names_equal [] (y ∷ ys) h = absurd cc
names_equal (x ∷ xs) [] h = absurd cc
names_equal (x ∷ xs) (y ∷ ys) h =
    let both : (nat_eq x y ≡ true) × (same_name xs ys ≡ true) = and_parts (nat_eq x y) (same_name xs ys) h in
    let head : x ≡ y = eqb-true x y both.0 in
    let rest : xs ≡ ys = names_equal xs ys both.1 in
    cc

-- an added record is found, or one that stood
found_added : (r : Record) (loader place : ℕ) (name : Name) (b : Bool) → ((r.loader == loader) && same_name r.name name) ≡ b → option_map (λ (x : Record). x.place) (if b then Some r else None) ≡ Some place → (r.loader ≡ loader) × (r.name ≡ name) × (r.place ≡ place)
found_added r loader place name true e h =
    let both : ((r.loader == loader) ≡ true) × (same_name r.name name ≡ true) = and_parts (r.loader == loader) (same_name r.name name) e in
    (eqb-true r.loader loader both.0, names_equal r.name name both.1, cc)
found_added r loader place name false e h = absurd cc

or_found : (r : Record) (loader place : ℕ) (name : Name) (a : Option Record) → option_map (λ (x : Record). x.place) (option_or a (if (r.loader == loader) && same_name r.name name then Some r else None)) ≡ Some place → (option_map (λ (x : Record). x.place) a ≡ Some place) ⊎ ((r.loader ≡ loader) × (r.name ≡ name) × (r.place ≡ place))
or_found r loader place name None h = inr (found_added r loader place name ((r.loader == loader) && same_name r.name name) refl h)
or_found r loader place name (Some x) h = inl h

pub recorded_added : (rs : List Record) (r : Record) (loader place : ℕ) (name : Name) → recorded_definer (rs ++ r ∷ []) loader name ≡ Some place → (recorded_definer rs loader name ≡ Some place) ⊎ ((r.loader ≡ loader) × (r.name ≡ name) × (r.place ≡ place))
recorded_added rs r loader place name h =
    let test = λ (x : Record). (x.loader == loader) && same_name x.name name in
    or_found r loader place name (find test rs) (rw (find-append test rs (r ∷ [])) at h)

-- the same loader, name and place, in other words
moved : (s : State) (name m : Name) (x y p q : ℕ) → x ≡ y → name ≡ m → p ≡ q → (other other_place : ℕ) → Joined s.equalities m y other → recorded_definer s.records other m ≡ Some other_place → q ≢ other_place → Clashes s (Entry x name p)
moved s name m x y p q ex em ep other other_place j r d =
    record {
      other = other;
      other_place = other_place;
      joined = subst (λ (n : Name). Joined s.equalities n x other) (sym em) (subst (λ (z : ℕ). Joined s.equalities m z other) (sym ex) j);
      recorded_there = subst (λ (n : Name). recorded_definer s.records other n ≡ Some other_place) (sym em) r;
      differ = λ e. d (sym ep ∙ e);
    }

entry_kept : (s : State) (loader place : ℕ) (name : Name) → Violated (with_need s (Entry loader name place)) → Violated s ⊎ Clashes s (Entry loader name place)
entry_kept s loader place name v =
    elim (recorded_added s.records (record { loader = loader; name = name; place = place }) v.one v.place v.name v.first) [
      | inl a ↦ elim (recorded_added s.records (record { loader = loader; name = name; place = place }) v.differs.other v.differs.other_place v.name v.differs.recorded_there) [
        | inl b ↦ inl (record { name = v.name; one = v.one; place = v.place; first = a; differs = record { other = v.differs.other; other_place = v.differs.other_place; joined = v.differs.joined; recorded_there = b; differ = v.differs.differ } })
        | inr b ↦ inr (moved s name v.name loader v.differs.other place v.differs.other_place b.0 b.1 b.2 v.one v.place (joined_back s.equalities v.name v.one v.differs.other v.differs.joined) a (λ e. v.differs.differ (sym e)))
      ]
      | inr a ↦ elim (recorded_added s.records (record { loader = loader; name = name; place = place }) v.differs.other v.differs.other_place v.name v.differs.recorded_there) [
        | inl b ↦ inr (moved s name v.name loader v.one place v.place a.0 a.1 a.2 v.differs.other v.differs.other_place v.differs.joined b v.differs.differ)
        | inr b ↦ absurd (v.differs.differ (sym a.2 ∙ b.2))
      ]
    ]

-- joined without an equality of a and b, or through it
abbrev Across : List Equality → Name → ℕ → ℕ → ℕ → ℕ → Type 0
Across ks name a b x y = Joined ks name x y ⊎ (Joined ks name x a × Joined ks name b y) ⊎ (Joined ks name x b × Joined ks name a y)

across_step : (ks : List Equality) (name : Name) (a b x z y : ℕ) → Joined ks name x z → Across ks name a b z y → Across ks name a b x y
across_step ks name a b x z y j (inl h) = inl (joined_then ks name x z y j h)
across_step ks name a b x z y j (inr (inl h)) = inr (inl (joined_then ks name x z a j h.0, h.1))
across_step ks name a b x z y j (inr (inr h)) = inr (inr (joined_then ks name x z b j h.0, h.1))

joined_equal : (ks : List Equality) (name : Name) (a b : ℕ) → a ≡ b → Joined ks name b a
joined_equal ks name a b e = record { path = []; along = sym e }

joined_from : (ks : List Equality) (name : Name) (a b y : ℕ) → a ≡ b → Joined ks name b y → Joined ks name a y
joined_from ks name a b y e j = joined_then ks name a b y (joined_equal ks name b a (sym e)) j

across_edge : (ks : List Equality) (name : Name) (a b x c y : ℕ) → a ≡ x → b ≡ c → Across ks name a b c y → Across ks name a b x y
across_edge ks name a b x c y p q (inl j) = inr (inl (joined_equal ks name a x p, joined_from ks name b c y q j))
across_edge ks name a b x c y p q (inr (inl h)) = inr (inl (joined_equal ks name a x p, h.1))
across_edge ks name a b x c y p q (inr (inr h)) = inl (joined_from ks name x a y (sym p) h.1)

across_back : (ks : List Equality) (name : Name) (a b x c y : ℕ) → a ≡ c → b ≡ x → Across ks name a b c y → Across ks name a b x y
across_back ks name a b x c y p q (inl j) = inr (inr (joined_equal ks name b x q, joined_from ks name a c y p j))
across_back ks name a b x c y p q (inr (inl h)) = inl (joined_from ks name x b y (sym q) h.1)
across_back ks name a b x c y p q (inr (inr h)) = inr (inr (joined_equal ks name b x q, h.1))

pub contains_one : {A : Type 0} (e x : A) → Contains (e ∷ []) x → e ≡ x
contains_one e x h = one_at h.0 h.1 h.2
  where
    one_at : (k : ℕ) → k < 1 → slice_index_or (e ∷ []) k x ≡ x → e ≡ x
    one_at zero l r = r
    one_at (suc k) l r = absurd (omega arith)

link_added : (ks : List Equality) (e : Equality) (name : Name) (x y : ℕ) → Linked (ks ++ e ∷ []) name x y → Linked ks name x y ⊎ ((e.name ≡ name) × (((e.one ≡ x) × (e.other ≡ y)) ⊎ ((e.one ≡ y) × (e.other ≡ x))))
link_added ks e name x y h =
    elim (Contains-append_cases ks (e ∷ []) h.equality h.imposed) [
      | inl k ↦ inl (record { equality = h.equality; imposed = k; named = h.named; ends = h.ends })
      | inr k ↦ inr (subst (λ (z : Equality). (z.name ≡ name) × (((z.one ≡ x) × (z.other ≡ y)) ⊎ ((z.one ≡ y) × (z.other ≡ x)))) (sym (contains_one e h.equality k)) (h.named, h.ends))
    ]

-- a path with one more equality is one without it, or one through it
abbrev Through : List Equality → Equality → Name → ℕ → ℕ → Type 0
Through ks e name x y = Joined ks name x y ⊎ ((e.name ≡ name) × Across ks name e.one e.other x y)

-- a link that stood
through_step : (ks : List Equality) (e : Equality) (name : Name) (x c y : ℕ) → Joined ks name x c → Through ks e name c y → Through ks e name x y
through_step ks e name x c y j (inl h) = inl (joined_then ks name x c y j h)
through_step ks e name x c y j (inr h) = inr (h.0, across_step ks name e.one e.other x c y j h.1)

across_of : (ks : List Equality) (e : Equality) (name : Name) (c y : ℕ) → Through ks e name c y → Across ks name e.one e.other c y
across_of ks e name c y (inl h) = inl h
across_of ks e name c y (inr h) = h.1

-- the link that is new
through_edge : (ks : List Equality) (e : Equality) (name : Name) (x c y : ℕ) → (((e.one ≡ x) × (e.other ≡ c)) ⊎ ((e.one ≡ c) × (e.other ≡ x))) → Through ks e name c y → Across ks name e.one e.other x y
through_edge ks e name x c y (inl k) t = across_edge ks name e.one e.other x c y k.0 k.1 (across_of ks e name c y t)
through_edge ks e name x c y (inr k) t = across_back ks name e.one e.other x c y k.0 k.1 (across_of ks e name c y t)

pub path_added : (ks : List Equality) (e : Equality) (name : Name) (x : ℕ) (path : List ℕ) (y : ℕ) → IsPathBetween (ks ++ e ∷ []) name x path y → Through ks e name x y
path_added ks e name x [] y h = inl (record { path = []; along = h })
path_added ks e name x (c ∷ cs) y h =
    elim (link_added ks e name x c h.0) [
      | inl l ↦ through_step ks e name x c y (joined_link ks name x c l) (path_added ks e name c cs y h.1)
      | inr l ↦ inr (l.0, through_edge ks e name x c y l.1 (path_added ks e name c cs y h.1))
    ]

-- what an equality would join divides two records
divided : (s : State) (name m : Name) (a b x y p q : ℕ) → name ≡ m → Joined s.equalities m x a → Joined s.equalities m b y → recorded_definer s.records x m ≡ Some p → recorded_definer s.records y m ≡ Some q → p ≢ q → Clashes s (Equal name a b)
divided s name m a b x y p q e j k r t d =
    record {
      one = x;
      place = p;
      joined = subst (λ (n : Name). Joined s.equalities n a x) (sym e) (joined_back s.equalities m x a j);
      recorded_there = subst (λ (n : Name). recorded_definer s.records x n ≡ Some p) (sym e) r;
      differs = moved s name m b b p p refl e refl y q k t d;
    }

equal_kept_at : (s : State) (name : Name) (a b : ℕ) → (v : Violated (with_need s (Equal name a b))) → Through s.equalities (record { name = name; one = a; other = b }) v.name v.one v.differs.other → Violated s ⊎ Clashes s (Equal name a b)
equal_kept_at s name a b v (inl j) = inl (record { name = v.name; one = v.one; place = v.place; first = v.first; differs = record { other = v.differs.other; other_place = v.differs.other_place; joined = j; recorded_there = v.differs.recorded_there; differ = v.differs.differ } })
equal_kept_at s name a b v (inr h) =
    elim (h.1) [
      | inl j ↦ inl (record { name = v.name; one = v.one; place = v.place; first = v.first; differs = record { other = v.differs.other; other_place = v.differs.other_place; joined = j; recorded_there = v.differs.recorded_there; differ = v.differs.differ } })
      | inr k ↦ elim k [
        | inl x ↦ inr (divided s name v.name a b v.one v.differs.other v.place v.differs.other_place h.0 x.0 x.1 v.first v.differs.recorded_there v.differs.differ)
        | inr x ↦ inr (divided s name v.name a b v.differs.other v.one v.differs.other_place v.place h.0 (joined_back s.equalities v.name a v.differs.other x.1) (joined_back s.equalities v.name v.one b x.0) v.differs.recorded_there v.first (λ e. v.differs.differ (sym e)))
      ]
    ]

-- where adding a need violates, it clashes, or something was violated before
pub violation_clashes : (s : State) (n : Need) → Violated (with_need s n) → Violated s ⊎ Clashes s n
violation_clashes s (Entry loader name place) v = entry_kept s loader place name v
violation_clashes s (Equal name a b) v = equal_kept_at s name a b v (path_added s.equalities (record { name = name; one = a; other = b }) v.name v.one v.differs.joined.path v.differs.other v.differs.joined.along)

pub adds : (s : State) (n : Need) → (Clashes s n → ⊥) → (Violated s → ⊥) → Violated (with_need s n) → ⊥
adds s n fits u v = elim (violation_clashes s n v) [ inl k ↦ u k | inr k ↦ fits k ]

pub keeps : (g : Setting) (s : State) (e : Step) → May g s e → (Violated s → ⊥) → Violated (after s e) → ⊥
keeps g s (Define c) may u v = adds s (Entry c.loader c.name c.loader) may.may_add.fits u v
keeps g s (Initiate name place loader) may u v = adds s (Entry loader name place) may.may_add.fits u v
keeps g s (Constrain name a b) may u v = adds s (Equal name a b) may.may_add.fits u v
keeps g s (Settle d i x) may u v = u (violated_as s (after s (Settle d i x)) refl refl v)
keeps g s (Prepare c) may u v = u (violated_as s (after s (Prepare c)) refl refl v)
keeps g s (Post q a) may u v = u (violated_as s (after s (Post q a)) refl refl v)
keeps g s NextRound may u v = u (violated_as s (after s NextRound) refl refl v)
keeps g s Stray may u v = absurd may

pub stays_unviolated : (g : Setting) (s : State) (es : List Step) → (Violated s → ⊥) → Run g s es → Violated (state_after s es) → ⊥
stays_unviolated g s [] u run v = u v
stays_unviolated g s (e ∷ es) u run v = stays_unviolated g (after s e) es (keeps g s e run.0 u) run.1 v

pub start_unviolated : Violated start → ⊥
start_unviolated v = let h : None ≡ Some v.place = v.first in absurd cc

pub never_violated : (g : Setting) (es : List Step) → Run g start es → Violated (state_after start es) → ⊥
never_violated g es run v = stays_unviolated g start es start_unviolated run v

pub one_answer : (s : State) (ns : List Need) (ends v u : Verdict) → Answers s ns ends v → Answers s ns ends u → v ≡ u
one_answer s [] ends v u a b = cc
one_answer s (n ∷ ns) ends v u a b =
    elim a [
      | inl x ↦ elim b [ inl y ↦ one_answer s ns ends v u x.1 y.1 | inr y ↦ absurd (y.0.unmet x.0) ]
      | inr x ↦ elim b [ inl y ↦ absurd (x.0.unmet y.0) | inr y ↦ x.1 ∙ sym y.1 ]
    ]

pub answers_stay : (g : Setting) (s : State) (es : List Step) (ns : List Need) (ends v : Verdict) → (Violated s → ⊥) → Run g s es → Answers s ns ends v → Answers (state_after s es) ns ends v
answers_stay g s es ns ends v u run h = answers_later s (state_after s es) (run_later s es) (stays_unviolated g s es u run) ns ends v h

-- ---- what clashes would violate

pub record_found : (rs : List Record) (r : Record) → recorded_definer rs r.loader r.name ≡ None → recorded_definer (rs ++ r ∷ []) r.loader r.name ≡ Some r.place
record_found [] r h = ap (λ (b : Bool). option_map (λ (x : Record). x.place) (if b then Some r else None)) (self r.loader r.name)
  where
    self : (l : ℕ) (n : Name) → ((l == l) && same_name n n) ≡ true
    self l n = rw (nat_eq_equiv.refl l) (nat_list_eq_equiv.refl n)
record_found (x ∷ rs) r h = at ((x.loader == r.loader) && same_name x.name r.name) (λ q. record_found rs r q) h
  where
    at : (b : Bool) → (recorded_definer rs r.loader r.name ≡ None → recorded_definer (rs ++ r ∷ []) r.loader r.name ≡ Some r.place) → option_map (λ (y : Record). y.place) (if b then Some x else find (λ (y : Record). (y.loader == r.loader) && same_name y.name r.name) rs) ≡ None → option_map (λ (y : Record). y.place) (if b then Some x else find (λ (y : Record). (y.loader == r.loader) && same_name y.name r.name) (rs ++ r ∷ [])) ≡ Some r.place
    at true ih k = absurd cc
    at false ih k = ih k

pub last_linked : (ks : List Equality) (name : Name) (a b : ℕ) → Linked (ks ++ record { name = name; one = a; other = b } ∷ []) name a b
last_linked ks name a b = record { equality = record { name = name; one = a; other = b }; imposed = Contains-append_right ks (record { name = name; one = a; other = b } ∷ []) (record { name = name; one = a; other = b }) (0, omega arith, refl); named = refl; ends = inl (refl, refl) }

-- a fresh need that clashes would violate, if it were added
pub clash_violates : (s : State) (n : Need) → IsFresh s n → Clashes s n → Violated (with_need s n)
clash_violates s (Entry loader name place) fresh h =
    let n = Entry loader name place in
    met_clash (with_need s n) n (record_found s.records (record { loader = loader; name = name; place = place }) fresh) (clash_later s (with_need s n) (added_later s n) n h)
clash_violates s (Equal name a b) fresh h =
    let n = Equal name a b in
    met_clash (with_need s n) n (joined_link (with_need s n).equalities name a b (last_linked s.equalities name a b)) (clash_later s (with_need s n) (added_later s n) n h)

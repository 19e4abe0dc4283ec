-- What a request has left from the beginning is within its cost, and so is what it has left past its load.
use Rattle.std.proofs.Common.{◌≡◌, ◌≤◌, inl, inr, ℕ, suc, ◌+◌, ◌*◌, Bool, true, false, ◌==◌, cond, List, [], ◌∷◌, ◌++◌, map, length, drop, filter, flat_map, count_by, Option, Some, None, refl, sym, ap, subst, ◌∙◌, arith, append-nil, length-append}
use Rattle.std.specs.List.{AllByRecursion}
use Rattle.std.proofs.lemmas.Cmp.{nat_eq_equiv}
use Rattle.std.proofs.lemmas.List.Sums.{sum_by-cons, sum_by-append, length-filter}
use Rattle.cl_classfile.specs.Files.{Name}
use Rattle.cl_model.specs.declared.class.Class.{Class}
use Rattle.cl_model.specs.declared.need.Equality.{Equality}
use Rattle.cl_model.specs.declared.request.Request as request
use Rattle.cl_model.specs.declared.request.Request.TheVariants as requests
use Rattle.cl_model.specs.Classes.{Above, superclass_of, superinterfaces_of, IsAtHome}
use Rattle.cl_model.specs.Homes.{World, home}
use Rattle.cl_model.specs.Lineages.{Forest, Bare, Tree, Kin, StandsFor, IsLineage, alone, postorder, lineage}
use Rattle.cl_model.specs.Machine.{HasLineage, IsPlan}
use Rattle.cl_model.specs.Plans.{Request, Link, Plan, asked_at_home, cost, is_equal, nodes_of}
use Rattle.cl_model.specs.Preparation.{constraints_of}
use Rattle.cl_model.specs.References.{PlanGoesOn}
use Rattle.cl_model.specs.States.{State, Need, Entry, Equal, Verdict}
use Rattle.cl_model.proofs.Ancestors.{lineage_once}
use Rattle.cl_model.proofs.Asks.{AskedFor, reached_asked, distinct_has, lineage_within}
use Rattle.cl_model.proofs.Ending.{file_at_home}
use Rattle.cl_model.proofs.Marks.{In, in_left, all_in}
use Rattle.cl_model.proofs.Planned.{one_plan}
use Rattle.cl_model.proofs.Progress.{IsEquality, constraints_are, flat_are, once_kept}
use Rattle.cl_model.proofs.Trees.{lineage_of}
use Rattle.cl_model.proofs.Derived.{all_both}
use Rattle.cl_model.proofs.Costs.{link_more}
use Rattle.cl_tasks.specs.Calls.{is_own_home, ask_for, own_homes, equalities_in, all_calls, calls_in, link_calls}
use Rattle.cl_tasks.proofs.Opened.{open_most, own_within}

-- ---- from the beginning

-- the calls of a request are within its cost
pub starts_within : (w : World) (r : request.Request) (p : Plan) (s : State) → calls_in (all_calls r) w p s ≤ cost w p
starts_within w (requests.Load loader name) p s =
    let most = open_most w p s [] [] in
    let few = own_within w p in
    omega arith
starts_within w (requests.Resolve loader name i) p s =
    let most = open_most w p s [] [] in
    let few = own_within w p in
    omega arith
starts_within w (requests.Link loader name) p s =
    let most = open_most w p s [] [] in
    let few = own_within w p in
    omega arith

-- ---- equalities

count_both : (xs ys : List Need) → count_by is_equal (xs ++ ys) ≡ count_by is_equal xs + count_by is_equal ys
count_both xs ys = sum_by-append (λ (n : Need). cond (is_equal n) 1 0) xs ys

-- what a plan still needs past a load has no more equalities than the whole plan
pub gone_on_counts : (w : World) (s : State) (r : Request) (c : Class) (needs : List Need) (v : Verdict) (p : Plan) → PlanGoesOn w s r c needs v → IsPlan w r p → count_by is_equal needs ≤ equalities_in p
gone_on_counts w s r c needs v p goes is =
    subst (λ (q : Plan). count_by is_equal needs ≤ equalities_in q) (one_plan w r goes.plan p goes.planned is)
    (let whole = count_both goes.plan.own goes.plan.more in
    let more : count_by is_equal goes.plan.more ≡ count_by is_equal (goes.before ++ needs) = ap (λ (ns : List Need). count_by is_equal ns) goes.more in
    let last = count_both goes.before needs in
    omega arith)

-- equalities alone
pub equals_counted : (es : List Equality) → count_by is_equal (map (λ (e : Equality). Equal e.name e.one e.other) es) ≡ length es
equals_counted [] = refl
equals_counted (e ∷ es) =
    let rest = equals_counted es in
    let first : count_by is_equal (map (λ (e : Equality). Equal e.name e.one e.other) (e ∷ es)) ≡ 1 + count_by is_equal (map (λ (e : Equality). Equal e.name e.one e.other) es) =
    sum_by-cons (λ (n : Need). cond (is_equal n) 1 0) (Equal e.name e.one e.other) (map (λ (e : Equality). Equal e.name e.one e.other) es) in
    omega arith

all_counted : (ns : List Need) → AllByRecursion IsEquality ns → count_by is_equal ns ≡ length ns
all_counted [] all = refl
all_counted (Entry loader name place ∷ ns) all = absurd all.0
all_counted (Equal name a b ∷ ns) all =
    let rest = all_counted ns all.1 in
    let first : count_by is_equal (Equal name a b ∷ ns) ≡ 1 + count_by is_equal ns = sum_by-cons (λ (n : Need). cond (is_equal n) 1 0) (Equal name a b) ns in
    omega arith

-- ---- the classes that a link prepares

-- the calls of a lineage in two parts
pub link_split : (front behind : List Kin) → link_calls (front ++ behind) ≡ link_calls front + link_calls behind
link_split [] behind = omega arith
link_split (k ∷ front) behind = let rest = link_split front behind in omega arith

-- without so many at its front, a lineage begins with the class behind them
pub link_drop : (ks front behind : List Kin) (k : Kin) → ks ≡ front ++ k ∷ behind → (drop (length front) ks ≡ k ∷ behind) × (drop (length front + 1) ks ≡ behind)
link_drop ks front behind k h =
    let next : suc (length front) ≡ length front + 1 = omega arith in
    (ap (λ (l : List Kin). drop (length front) l) h ∙ behind_it front, ap (λ (n : ℕ). drop n ks) (sym next) ∙ ap (λ (l : List Kin). drop (suc (length front)) l) h ∙ past_it front)
  where
    behind_it : (xs : List Kin) → drop (length xs) (xs ++ k ∷ behind) ≡ k ∷ behind
    behind_it [] = refl
    behind_it (x ∷ xs) = behind_it xs

    past_it : (xs : List Kin) → drop (suc (length xs)) (xs ++ k ∷ behind) ≡ behind
    past_it [] = refl
    past_it (x ∷ xs) = past_it xs

-- a class of a lineage is at home
abbrev Homely : World → Kin → Type 0
Homely w k = IsAtHome w k.class

forest_homely : (w : World) (c : Class) (fs : Forest) (others : List Above) → StandsFor w c fs others → AllByRecursion (Homely w) (postorder fs)
forest_homely w c Bare others h = tt
forest_homely w c (Tree t f sup ints rest) [] h = absurd h
forest_homely w c (Tree t f sup ints rest) (a ∷ more) h =
    all_both (Homely w) (postorder sup ++ postorder ints) (record { class = t; file = f; superclass = sup; interfaces = ints } ∷ postorder rest)
    (all_both (Homely w) (postorder sup) (postorder ints) (forest_homely w t sup (superclass_of f) h.1) (forest_homely w t ints (superinterfaces_of f) h.2))
    (file_at_home w t f h.0.has_file, forest_homely w c rest more h.3)

lineage_homely : (w : World) (k : Kin) → IsLineage w k → AllByRecursion (Homely w) (lineage k)
lineage_homely w k h =
    once_kept (Homely w) [] (postorder (alone k))
    (all_both (Homely w) (postorder k.superclass ++ postorder k.interfaces) (k ∷ [])
    (all_both (Homely w) (postorder k.superclass) (postorder k.interfaces) (forest_homely w k.class k.superclass (superclass_of k.file) h.above) (forest_homely w k.class k.interfaces (superinterfaces_of k.file) h.over))
    (file_at_home w k.class k.file h.has_file, tt))

own_home_at : (loader : ℕ) (o : Option ℕ) → o ≡ Some loader → (elim o as (λ x. Bool) [
  | None ↦ false
  | Some place ↦ place == loader
]) ≡ true
own_home_at loader None h = absurd cc
own_home_at loader (Some place) h = subst (λ (x : Option ℕ). (elim x as (λ y. Bool) [ None ↦ false | Some place ↦ place == loader ]) ≡ true) (sym h) (nat_eq_equiv.refl loader)

in_filter : {A : Type 0} (p : A → Bool) (x : A) (xs : List A) → In x xs → p x ≡ true → In x (filter p xs)
in_filter p x [] i h = absurd i
in_filter {A} p x (y ∷ xs) i h = at (p y) refl i (λ j. in_filter p x xs j h)
  where
    at : (b : Bool) → p y ≡ b → In x (y ∷ xs) → (In x xs → In x (filter p xs)) → In x (cond b (y ∷ filter p xs) (filter p xs))
    at true e (inl k) ih = inl k
    at true e (inr k) ih = inr (ih k)
    at false e (inl k) ih = absurd (let passes : p y ≡ true = subst (λ (z : A). p z ≡ true) (sym k) h in cc)
    at false e (inr k) ih = ih k

-- a lineage that a plan reaches is no longer than the plan has homes
pub lineage_homes : (w : World) (q : Request) (p : Plan) (d : Class) (k : Kin) → IsPlan w q p → p.reached ≡ Some d → HasLineage w d k → length (lineage k) ≤ own_homes w p
lineage_homes w q p d k is r lin =
    let asked = reached_asked w q p d k is r lin in
    let homely = lineage_homely w k (lineage_of w d k lin).1 in
    let few : length (lineage k) ≤ length (filter (is_own_home w) (nodes_of w p)) =
    lineage_within (lineage k) (filter (is_own_home w) (nodes_of w p)) (lineage_once k) (λ x i.
    in_filter (is_own_home w) (ask_for x.class) (nodes_of w p)
    (distinct_has (ask_for x.class) (p.asked ++ flat_map (asked_at_home w) p.asked) (in_left (ask_for x.class) p.asked (flat_map (asked_at_home w) p.asked) (all_in (AskedFor p.asked) (lineage k) x asked i)))
    (own_home_at x.class.loader (home w x.class.loader x.class.name) (all_in (Homely w) (lineage k) x homely i))) in
    subst (λ (n : ℕ). length (lineage k) ≤ n) (length-filter (is_own_home w) (nodes_of w p)) few

link_counts : (ks : List Kin) → link_calls ks ≡ 2 * length ks + length (flat_map constraints_of ks)
link_counts [] = omega arith
link_counts (k ∷ ks) =
    let rest = link_counts ks in
    let both : length (flat_map constraints_of (k ∷ ks)) ≡ length (constraints_of k) + length (flat_map constraints_of ks) = length-append (constraints_of k) (flat_map constraints_of ks) in
    omega arith

-- the calls that prepare a lineage are within those that a link has left past its load
pub links_within : (w : World) (loader : ℕ) (name : Name) (p : Plan) (d : Class) (k : Kin) → IsPlan w (Link loader name) p → p.reached ≡ Some d → HasLineage w d k → link_calls (lineage k) ≤ 2 * own_homes w p + equalities_in p
links_within w loader name p d k is r lin =
    let homes = lineage_homes w (Link loader name) p d k is r lin in
    let calls = link_counts (lineage k) in
    let needs = flat_map constraints_of (lineage k) in
    let all : count_by is_equal needs ≡ length needs = all_counted needs (flat_are constraints_of (λ c. constraints_are c) (lineage k)) in
    let more : count_by is_equal p.more ≡ count_by is_equal needs = ap (λ (ns : List Need). count_by is_equal ns) (link_more w loader name p d k is r lin ∙ append-nil needs) in
    let whole = count_both p.own p.more in
    omega arith

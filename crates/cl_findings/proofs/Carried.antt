-- What the refusal of a link's equality rests on stands wherever it is the answer.
use Rattle.std.proofs.Common.{◌≡◌, inl, inr, ◌∙◌, ℕ, zero, suc, Bool, true, false, if◌then◌else◌, List, [], ◌∷◌, ◌++◌, Option, Some, None, Result, Ok, Err, refl, sym, ap, subst, append_assoc, arith}
use Rattle.std.specs.Prelude.{◌==◌, flat_map, length, option_map, slice_get, take, Contains}
use Rattle.std.specs.List.{AllByRecursion}
use Rattle.std.proofs.lemmas.Grind.{flat_map-append}
use Rattle.std.proofs.lemmas.List.{take-map}
use Rattle.std.proofs.lemmas.List.Elements.{Contains-append_right}
use Rattle.std.proofs.lemmas.Option.{slice_get-map}
use Rattle.cl_model.specs.declared.class.Class.{Class}
use Rattle.cl_model.specs.declared.need.Equality.{Equality}
use Rattle.cl_model.specs.declared.verdict.Verdict as verdict
use Rattle.cl_model.specs.declared.request.Request as request
use Rattle.cl_model.specs.Content.{Content}
use Rattle.cl_model.specs.Homes.{World, home}
use Rattle.cl_model.specs.Classes.{class, Error, Above, is_among, ClassNotFound, NoClassDef, misfit, read_class, superclass_of, superinterfaces_of}
use Rattle.cl_model.specs.Lineages.{Kin, IsLineage, classes, lineage}
use Rattle.cl_model.specs.Preparation.{constraints_of}
use Rattle.cl_model.specs.States.{State, Need, Entry, Verdict, Wrong, IsLinked, Linkage, recorded_definer, AllMet, IsRecorded, Refused}
use Rattle.cl_model.specs.Works.{Work, Made, end_with, need, ask, or_fail, unless_wrong, of_result, ◌>>=◌}
use Rattle.cl_model.specs.Plans.{initiating_needs, load_by, loads_above, derive_new, derive, load, Request, Link, loaded_by, go_on_with, Plan, plan_after, plan_from, plan_needs}
use Rattle.cl_model.specs.Machine.{Setting, HasLineage, IsClosed, IsPlan, Answers, AnswersPlan}
use Rattle.cl_model.specs.Tables.{Records}
use Rattle.cl_model.specs.Views.{need_of, request_of, verdict_of}
use Rattle.cl_model.proofs.Bind.{none_not_some, pieces, some_same, value_same}
use Rattle.cl_model.proofs.Closed.{all_left, all_right}
use Rattle.cl_model.proofs.Derived.{all_both}
use Rattle.cl_model.proofs.Gone.{link_goes_on}
use Rattle.cl_model.proofs.Heights.{loaded, found, sought, grown, others_after, checked, finished, interfaces_next, superclass_next, circle_or}
use Rattle.cl_model.proofs.Planned.{one_lineage, one_plan}
use Rattle.cl_model.proofs.Progress.{IsEntry, IsEquality, IsKept, lineage_kept, never_both}
use Rattle.cl_model.proofs.Reached.{answers_after, map_some, then_some}
use Rattle.cl_model.proofs.Tables.{reached_records}
use Rattle.cl_model.proofs.Trees.{lineage_is_derived}
use Rattle.cl_config.specs.Views.{Configured, Scripted}
use Rattle.cl_delegation.specs.Worlds.{setting_of, world_of}
use Rattle.cl_hierarchy.specs.Imposed.{IsListed, Listed, equal_need, needs_of}
use Rattle.cl_hierarchy.specs.Lineages.{IsLined, Lined, kin_of, rows_in}
use Rattle.cl_hierarchy.specs.Rows.{Rowed}
use Rattle.cl_findings.specs.Findings.{Based, BasisStands, Carries, loader_of}
use Rattle.cl_findings.specs.Laws.{RefusalIsBorne}
use Rattle.cl_findings.specs.References.{AreLinked, AreOfRows, all_needs, imposed_basis}
use Rattle.cl_findings.proofs.Links.{lineage_at, lineage_classes, preparation_of, row_classes, row_lineage, split_at}

-- ---- the needs of a load are records

abbrev Entries : {A : Type 0} → Work A → Type 0
Entries {A} a = (m : Made A) → a ≡ Some m → AllByRecursion IsEntry m.needs

few_entries : {A : Type 0} (m : Made A) → AllByRecursion IsEntry m.needs → Entries (Some m)
few_entries m all x h = subst (λ (y : Made _). AllByRecursion IsEntry y.needs) (some_same m x h) all

then_entries : {A B : Type 0} (a : Work A) (f : A → Work B) → Entries a → ((x : A) → Entries (f x)) → Entries (a >>= f)
then_entries {A = A} {B = B} a f one two m h = elim (pieces a f m m.ends h refl) [
  | inl b ↦ subst (λ (ns : List Need). AllByRecursion IsEntry ns) (sym b.needs) (all_both IsEntry b.first.needs b.second.needs (one b.first b.made) (two b.value b.second b.next))
  | inr e ↦ subst (λ (ns : List Need). AllByRecursion IsEntry ns) (sym e.2.needs) (one e.2.first e.2.made)
]

or_fail_entries : {A : Type 0} (e : Error) (o : Option A) → Entries (or_fail e o)
or_fail_entries e None = few_entries _ tt
or_fail_entries e (Some x) = few_entries _ tt

unless_entries : (o : Option Error) → Entries (unless_wrong o)
unless_entries None = few_entries _ tt
unless_entries (Some e) = few_entries _ tt

initiating_entries : (loader : ℕ) (name : List ℕ) (place : ℕ) (b : Bool) → AllByRecursion IsEntry (if b then [] else Entry loader name place ∷ [])
initiating_entries loader name place true = tt
initiating_entries loader name place false = (tt, tt)

load_entries : (w : World) (d : Class → Work Kin) → ((c : Class) → Entries (d c)) → (absent : Class → Error) (loader : ℕ) (name : List ℕ) → Entries (load_by w d absent loader name)
load_entries w d ih absent loader name =
    then_entries (ask loader name) (sought w d absent loader name) (few_entries _ tt) (λ a.
    then_entries (or_fail (absent (class name loader)) (home w loader name)) (found w d loader name) (or_fail_entries (absent (class name loader)) (home w loader name)) (λ place.
    then_entries (d (class name place)) (loaded w loader name place) (ih (class name place)) (λ k.
    then_entries (need (initiating_needs loader name place)) (λ (b : Unit {0}). end_with k) (few_entries _ (initiating_entries loader name place (loader == place))) (λ b. few_entries _ tt))))

above_entries : (w : World) (d : Class → Work Kin) → ((c : Class) → Entries (d c)) → (c : Class) (others : List Above) → Entries (loads_above w d c others)
above_entries w d ih c [] = few_entries _ tt
above_entries w d ih c (a ∷ others) =
    then_entries (load_by w d NoClassDef c.loader a.name) (checked w d c a others) (load_entries w d ih NoClassDef c.loader a.name) (λ k.
    then_entries (unless_wrong (misfit c a.role k.class k.file)) (others_after w d c others k) (unless_entries (misfit c a.role k.class k.file)) (λ b.
    then_entries (loads_above w d c others) (grown k) (above_entries w d ih c others) (λ ks. few_entries _ tt)))

new_entries : (w : World) (d : Class → Work Kin) → ((c : Class) → Entries (d c)) → (c : Class) → Entries (derive_new w d c)
new_entries w d ih c =
    then_entries (of_result (read_class w c)) (superclass_next w d c) (few_entries _ tt) (λ f.
    then_entries (loads_above w d c (superclass_of f)) (interfaces_next w d c f) (above_entries w d ih c (superclass_of f)) (λ sup.
    then_entries (loads_above w d c (superinterfaces_of f)) (finished c f sup) (above_entries w d ih c (superinterfaces_of f)) (λ ints.
    then_entries (need (Entry c.loader c.name c.loader ∷ [])) (λ (b : Unit {0}). end_with (record { class = c; file = f; superclass = sup; interfaces = ints })) (few_entries _ (tt, tt)) (λ b. few_entries _ tt))))

circle_entries : (c : Class) (a : Work Kin) (t : Bool) → Entries a → Entries (circle_or c a t)
circle_entries c a true h = few_entries _ tt
circle_entries c a false h = h

derive_entries : (w : World) (n : ℕ) (path : List Class) (c : Class) → Entries (derive w n path c)
derive_entries w zero path c = λ m h. absurd cc
derive_entries w (suc n) path c =
    then_entries (ask c.loader c.name) (λ (a : Unit {0}). circle_or c (derive_new w (derive w n (c ∷ path)) c) (is_among path c)) (few_entries _ tt) (λ a.
    circle_entries c (derive_new w (derive w n (c ∷ path)) c) (is_among path c) (new_entries w (derive w n (c ∷ path)) (λ t. derive_entries w n (c ∷ path) t) c))

-- the own needs of a plan are records; one that reaches no class has no others, and ends in an error
record PlanParts (p : Plan) : Type 0 where
  pub own : AllByRecursion IsEntry p.own
  pub stuck : p.reached ≡ None → (p.more ≡ []) × ((n : Need) → p.ends ≡ Linkage n → ⊥)

stuck_wrong : (e : Error) (n : Need) → Wrong e ≡ Linkage n → ⊥
stuck_wrong e n h = cc

plan_parts : (w : World) (q : Request) (p : Plan) → IsPlan w q p → PlanParts p
plan_parts w q p is =
    let n = is.height in
    let l = then_some (plan_from w n q) (load w n ClassNotFound (loaded_by q).loader (loaded_by q).name) p is.planned in
    at l.0 (load_entries w (derive w n []) (derive_entries w n []) ClassNotFound (loaded_by q).loader (loaded_by q).name l.0 l.1) l.0.ends l.2
  where
    at : (m : Made Kin) → AllByRecursion IsEntry m.needs → (e : Result Kin Error) → (elim e as (λ x. Option Plan) [
      | Err x ↦ Some (record { own = m.needs; more = []; asked = m.asked; reached = None; ends = Wrong x })
      | Ok k ↦ option_map (plan_after m k) (go_on_with w is.height q k)
    ]) ≡ Some p → PlanParts p
    at m all (Err x) h = subst PlanParts (some_same _ p h) (record { own = all; stuck = λ r. (refl, stuck_wrong x) })
    at m all (Ok k) h =
        let on = map_some (plan_after m k) (go_on_with w is.height q k) p h in
        subst PlanParts on.2 (record { own = all; stuck = λ r. absurd (none_not_some (Some k.class) r refl) })

-- ---- the class of a link whose equality is refused is recorded

linkage_same : (a b : Need) → Linkage a ≡ Linkage b → a ≡ b
linkage_same a b h = cc

own_met : (s : State) (own more : List Need) (ends : Verdict) (n : Need) → AllByRecursion IsEntry own → IsEquality n → Answers s (own ++ more) ends (Linkage n) → AllMet s own
own_met s [] more ends n all is h = tt
own_met s (x ∷ own) more ends n all is (inl h) = (h.0, own_met s own more ends n all.1 is h.1)
own_met s (x ∷ own) more ends n all is (inr h) = absurd (never_both x all.0 (subst IsEquality (linkage_same n x h.1) is))

link_is_recorded : (g : Setting) (s : State) (loader : ℕ) (name : List ℕ) (n : Need) → IsEquality n → AnswersPlan g s (Link loader name) (Linkage n) → (d : Class) × Records s loader name d
link_is_recorded g s loader name n is h =
    let p = h.plan in
    let parts = plan_parts g.world (Link loader name) p h.planned in
    let met = own_met s p.own p.more p.ends n parts.own is h.answered in
    at met (parts.stuck) p.reached refl
  where
    at : AllMet s h.plan.own → (h.plan.reached ≡ None → (h.plan.more ≡ []) × ((m : Need) → h.plan.ends ≡ Linkage m → ⊥)) → (o : Option Class) → h.plan.reached ≡ o → (d : Class) × Records s loader name d
    at met stuck (Some d) e = (d, reached_records g.world s (Link loader name) h.plan d h.planned e met)
    at met stuck None e =
        let none = stuck e in
        let rest : Answers s [] h.plan.ends (Linkage n) = subst (λ (ns : List Need). Answers s ns h.plan.ends (Linkage n)) none.0 (answers_after s h.plan.own h.plan.more h.plan.ends (Linkage n) met h.answered) in
        absurd (none.1 n (sym rest))

-- ---- the first need that is refused

refused_in : (s : State) (ns : List Need) (n : Need) (ends : Verdict) → Answers s ns ends (Linkage n) → (ends ≡ Linkage n → ⊥) → Refused s n
refused_in s [] n ends h other = absurd (other (sym h))
refused_in s (x ∷ ns) n ends (inl h) other = refused_in s ns n ends h.1 other
refused_in s (x ∷ ns) n ends (inr h) other = subst (Refused s) (sym (linkage_same n x h.1)) h.0

refused_there : (s : State) (xs ys : List Need) (n : Need) (ends : Verdict) → Answers s (xs ++ n ∷ ys) ends (Linkage n) → (Contains xs n → ⊥) → (ends ≡ Linkage n → ⊥) → AllMet s xs × Refused s n
refused_there s [] ys n ends (inl h) first other = absurd ((refused_in s ys n ends h.1 other).unmet h.0)
refused_there s [] ys n ends (inr h) first other = (tt, h.0)
refused_there s (x ∷ xs) ys n ends (inl h) first other =
    let more = refused_there s xs ys n ends h.1 (λ c. first (Contains-append_right (x ∷ []) xs n c)) other in
    ((h.0, more.0), more.1)
refused_there s (x ∷ xs) ys n ends (inr h) first other = absurd (first (0, omega arith, sym (linkage_same n x h.1)))

-- ---- the lists of the classes before

equal_at : (es : List Equality) (k : ℕ) (n : Need) → slice_get (needs_of es) k ≡ Some n → IsEquality n
equal_at [] k n h = absurd cc
equal_at (e ∷ es) zero n h = subst IsEquality (some_same (equal_need e) n h) tt
equal_at (e ∷ es) (suc k) n h = equal_at es k n h

taken_at : (ns : List Need) (k : ℕ) (n : Need) → slice_get ns k ≡ Some n → (rest : List Need) × (ns ≡ take k ns ++ n ∷ rest)
taken_at [] k n h = absurd cc
taken_at (x ∷ ns) zero n h = (ns, ap (λ (y : Need). y ∷ ns) (some_same x n h))
taken_at (x ∷ ns) (suc k) n h = let at = taken_at ns k n h in (at.0, ap (λ (xs : List Need). x ∷ xs) at.1)

nothing_more : {c : Class} {cs : List Class} → [] ≡ c ∷ cs → ⊥
nothing_more h = cc

one_more : {c : Class} {cs : List Class} → c ∷ cs ≡ [] → ⊥
one_more h = cc

first_same : {c d : Class} {cs ds : List Class} → c ∷ cs ≡ d ∷ ds → c ≡ d
first_same h = cc

rest_same : {c d : Class} {cs ds : List Class} → c ∷ cs ≡ d ∷ ds → cs ≡ ds
rest_same h = cc

-- the constraints of the first classes of a lineage are those of their lists
lists_are : (content : Content) (c : Configured) (s : State) (ks : List Kin) (rows : List Rowed) (es : List Listed) → AreOfRows c rows es → AllByRecursion (IsListed (Some content)) es → classes ks ≡ row_classes (take (length es) rows)
    → AllByRecursion (IsKept (world_of c content) s) ks → flat_map constraints_of ks ≡ all_needs es
lists_are content c s [] [] [] are listed same kept = refl
lists_are content c s [] (r ∷ rows) [] are listed same kept = refl
lists_are content c s (k ∷ ks) [] [] are listed same kept = absurd (one_more same)
lists_are content c s (k ∷ ks) (r ∷ rows) [] are listed same kept = absurd (one_more same)
lists_are content c s ks [] (e ∷ es) are listed same kept = absurd are
lists_are content c s [] (r ∷ rows) (e ∷ es) are listed same kept = absurd (nothing_more same)
lists_are content c s (k ∷ ks) (r ∷ rows) (e ∷ es) are listed same kept =
    let w = world_of c content in
    let here : HasLineage w k.class (kin_of are.0.at) = subst (λ (d : Class). HasLineage w d (kin_of are.0.at)) (sym (first_same same)) (row_lineage content c r e are.0 listed.0) in
    let kin : k ≡ kin_of are.0.at = one_lineage w k.class k (kin_of are.0.at) (lineage_is_derived w k kept.0.1) here in
    let needs : constraints_of k ≡ needs_of e.needs = ap constraints_of kin ∙ sym (preparation_of e.origin are.0.at (needs_of e.needs) are.0.prepares listed.0.are) in
    ap (λ (ns : List Need). ns ++ flat_map constraints_of ks) needs ∙ ap (λ (ns : List Need). needs_of e.needs ++ ns) (lists_are content c s ks rows es are.1 listed.1 (rest_same same) kept.1)

-- ---- the refusal

ends_linked : (c : Class) (n : Need) → IsLinked c ≡ Linkage n → ⊥
ends_linked c n h = cc

carried : (content : Content) (script : Scripted) (s : State) (r : request.Request) (l : Lined) (es : List Listed) (e : Listed) (k : ℕ) (n : Need) → AreLinked r l (length es) e.origin → AreOfRows l.config (rows_in l) es → slice_get (needs_of e.needs) k ≡ Some n
    → IsLined (Some content) l → AllByRecursion (IsListed (Some content)) (es ++ e ∷ []) → home (world_of l.config content) (loader_of r) l.own.class.name ≡ Some l.own.class.loader → (Contains (all_needs es ++ take k (needs_of e.needs)) n → ⊥)
    → IsClosed (world_of l.config content) s → AnswersPlan (setting_of l.config script content) s (request_of r) (Linkage n) → Carries s (imposed_basis r l es e k (Some n))
carried content script s r l es e k n linked are there lined listed found first closed answered =
    let w = world_of l.config content in
    let g = setting_of l.config script content in
    let loader = loader_of r in
    let c = l.own.class in
    let at = linked.at in
    let ns = needs_of e.needs in
    let ks = lineage (kin_of l) in
    let here : AnswersPlan g s (Link loader c.name) (Linkage n) = subst (λ (q : request.Request). AnswersPlan g s (request_of q) (Linkage n)) linked.of answered in
    let reached = link_is_recorded g s loader c.name n (equal_at e.needs k n there) here in
    let same_loader : reached.0.loader ≡ c.loader = value_same reached.0.loader c.loader (home w loader c.name) (closed.homes loader reached.0.loader c.name reached.1.1) found in
    let recorded : recorded_definer s.records loader c.name ≡ Some c.loader = reached.1.1 ∙ ap (λ (p : ℕ). Some p) same_loader in
    let has = lineage_is_derived w (kin_of l) lined.lineage in
    let goes = link_goes_on w s loader c.loader c.name (kin_of l) closed recorded has in
    let whole : Answers s (goes.plan.own ++ goes.plan.more) goes.plan.ends (Linkage n) = subst (λ (p : Plan). Answers s (plan_needs p) p.ends (Linkage n)) (one_plan w (Link loader c.name) here.plan goes.plan here.planned goes.planned) here.answered in
    let past : Answers s (goes.before ++ flat_map constraints_of ks) goes.plan.ends (Linkage n) = subst (λ (ms : List Need). Answers s ms goes.plan.ends (Linkage n)) goes.more (answers_after s goes.plan.own goes.plan.more goes.plan.ends (Linkage n) goes.past.1 whole) in
    let all : Answers s (flat_map constraints_of ks) (IsLinked c) (Linkage n) = subst (λ (v : Verdict). Answers s (flat_map constraints_of ks) v (Linkage n)) goes.ends (answers_after s goes.before (flat_map constraints_of ks) goes.plan.ends (Linkage n) goes.met past) in
    let list = lineage_classes l lined.order in
    let stands : slice_get (classes ks) (length es) ≡ Some at.own.class = ap (λ (xs : List Class). slice_get xs (length es)) list ∙ slice_get-map (λ (row : Rowed). row.class) (rows_in l) (length es) ∙ linked.there in
    let parts = split_at ks (length es) at.own.class stands in
    let fronts : classes parts.front ≡ row_classes (take (length es) (rows_in l)) = parts.are ∙ ap (λ (xs : List Class). take (length es) xs) list ∙ take-map (λ (row : Rowed). row.class) (length es) (rows_in l) in
    let own : IsRecorded s c = closed.own loader c.loader c.name recorded in
    let kept = subst (λ (xs : List Kin). AllByRecursion (IsKept w s) xs) parts.split (lineage_kept w s (kin_of l) closed own lined.lineage) in
    let kept_at = (all_right (IsKept w s) parts.front (parts.at ∷ parts.behind) kept).0 in
    let listed_at : IsListed (Some content) e = (all_right (IsListed (Some content)) es (e ∷ []) listed).0 in
    let at_lineage : IsLineage w (kin_of at) = subst (λ (x : Configured). IsLineage (world_of x content) (kin_of at)) linked.config (lineage_at (Some content) e.origin at linked.prepares listed_at.lineages) in
    let same : parts.at ≡ kin_of at = one_lineage w at.own.class parts.at (kin_of at) (subst (λ (x : Class). HasLineage w x parts.at) parts.class_is (lineage_is_derived w parts.at kept_at.1)) (lineage_is_derived w (kin_of at) at_lineage) in
    let needs : constraints_of parts.at ≡ ns = ap constraints_of same ∙ sym (preparation_of e.origin at ns linked.prepares listed_at.are) in
    let fore : flat_map constraints_of parts.front ≡ all_needs es = lists_are content l.config s parts.front (rows_in l) es are (all_left (IsListed (Some content)) es (e ∷ []) listed) fronts (all_left (IsKept w s) parts.front (parts.at ∷ parts.behind) kept) in
    let taken = taken_at ns k n there in
    let behind = flat_map constraints_of parts.behind in
    let order : flat_map constraints_of ks ≡ (all_needs es ++ take k ns) ++ n ∷ (taken.0 ++ behind) =
    ap (λ (xs : List Kin). flat_map constraints_of xs) parts.split
    ∙ flat_map-append constraints_of parts.front (parts.at ∷ parts.behind)
    ∙ ap (λ (xs : List Need). xs ++ (constraints_of parts.at ++ behind)) fore
    ∙ ap (λ (xs : List Need). all_needs es ++ (xs ++ behind)) (needs ∙ taken.1)
    ∙ ap (λ (xs : List Need). all_needs es ++ xs) (append_assoc (take k ns) (n ∷ taken.0) behind)
    ∙ sym (append_assoc (all_needs es) (take k ns) (n ∷ (taken.0 ++ behind))) in
    let last = refused_there s (all_needs es ++ take k ns) (taken.0 ++ behind) n (IsLinked c) (subst (λ (xs : List Need). Answers s xs (IsLinked c) (Linkage n)) order all) first (ends_linked c n) in
    ((recorded, last.0), tt, last.1)

pub refusal_is_borne : RefusalIsBorne
refusal_is_borne content c script s f v h closed answered =
    let l = h.lineage in
    let says : AnswersPlan (setting_of c script content) s (request_of f.request) (Linkage (need_of h.need)) = subst (λ (u : verdict.Verdict). AnswersPlan (setting_of c script content) s (request_of f.request) (verdict_of u)) h.refuses answered in
    subst (λ (o : Option Based). BasisStands c s o) (sym h.basis) (record {
      config = h.config;
      carried = carried content script s f.request l h.earlier h.list h.index (need_of h.need) h.linked h.are h.there h.kept h.listed
          (subst (λ (k : Configured). home (world_of k content) (loader_of f.request) l.own.class.name ≡ Some l.own.class.loader) (sym h.config) h.found) h.first
          (subst (λ (k : Configured). IsClosed (world_of k content) s) (sym h.config) closed)
          (subst (λ (k : Configured). AnswersPlan (setting_of k script content) s (request_of f.request) (Linkage (need_of h.need))) (sym h.config) says);
    })

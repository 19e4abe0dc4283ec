-- The refusal of an equality of a preparation comes next in a link, where the content is told.
use Rattle.std.proofs.Common.{◌≡◌, ◌∙◌, ℕ, zero, suc, List, [], ◌∷◌, ◌++◌, map, reverse, Option, Some, None, refl, sym, ap, subst, append_assoc}
use Rattle.std.specs.Prelude.{flat_map, length, option_map, slice_get, take}
use Rattle.std.specs.List.{AllByRecursion}
use Rattle.std.proofs.lemmas.Grind.{reverse_onto}
use Rattle.std.proofs.lemmas.List.{map_push, take-map}
use Rattle.std.proofs.lemmas.Option.{slice_get-map}
use Rattle.cl_model.specs.declared.class.Class.{Class}
use Rattle.cl_model.specs.declared.need.Need as rust
use Rattle.cl_model.specs.declared.verdict.Verdict.TheVariants as verdicts
use Rattle.cl_model.specs.declared.request.Request as request
use Rattle.cl_model.specs.Content.{Content}
use Rattle.cl_model.specs.Homes.{World}
use Rattle.cl_model.specs.Lineages.{Kin, IsLineage, classes, lineage}
use Rattle.cl_model.specs.Preparation.{constraints_of}
use Rattle.cl_model.specs.States.{State, Need, Entry, Equal, IsLinked, Linkage, recorded_definer, AllMet, IsNext, IsRecorded, Met}
use Rattle.cl_model.specs.Plans.{Link}
use Rattle.cl_model.specs.Machine.{HasLineage, IsClosed}
use Rattle.cl_model.specs.Service.{IsNextNeed}
use Rattle.cl_model.specs.Views.{need_of, request_of}
use Rattle.cl_model.proofs.Bind.{some_same}
use Rattle.cl_model.proofs.Gone.{gone_on_next, link_goes_on}
use Rattle.cl_model.proofs.Planned.{one_lineage}
use Rattle.cl_model.proofs.Progress.{IsKept, lineage_kept, met_split}
use Rattle.cl_model.proofs.Trees.{lineage_is_derived}
use Rattle.cl_model.proofs.Aims.{next_left, next_right}
use Rattle.cl_model.proofs.Closed.{all_left, all_right}
use Rattle.cl_config.specs.Views.{Configured}
use Rattle.cl_delegation.specs.Worlds.{world_of}
use Rattle.cl_hierarchy.specs.Imposed.{AreLineages, AreOf, IsListed, Listed, OfPreparation, Sprung, needs_of}
use Rattle.cl_hierarchy.specs.Lineages.{IsInOrder, IsLined, IsLineageOf, Lined, kin_of, rows_in}
use Rattle.cl_hierarchy.specs.Rows.{Rowed}
use Rattle.cl_hierarchy.specs.Trees.{kin_under, kins, kins_after}
use Rattle.cl_hierarchy.proofs.Tours.{classes_both}
use Rattle.cl_findings.specs.Findings.{HasImposed, IsRefusal, LinkIsPlaced, NeedIsPlaced, Rests, loader_of, grounded_answer}
use Rattle.cl_findings.specs.References.{AreLinked, AreOfRows, IsOfRow, all_needs, class_need, classes_before, imposed_basis, link_basis}
use Rattle.cl_findings.proofs.Plain.{linkage_apart}
use Rattle.cl_findings.proofs.References.{next_at}

-- ---- the classes of a lineage, in its order, are those of its rows

reverse_first : {A : Type 0} (x : A) (xs : List A) → reverse (x ∷ xs) ≡ reverse xs ++ x ∷ []
reverse_first x xs = reverse_onto xs x []

abbrev pub row_classes : List Rowed → List Class
row_classes rows = map (λ row. row.class) rows

kins_classes : (known : List Kin) (rows : List Rowed) → classes (reverse (kins_after known rows)) ≡ classes (reverse known) ++ row_classes rows
kins_classes known [] = sym (nothing (classes (reverse known)))
  where
    nothing : (cs : List Class) → cs ++ [] ≡ cs
    nothing [] = refl
    nothing (c ∷ cs) = ap (λ (ds : List Class). c ∷ ds) (nothing cs)
kins_classes known (r ∷ rows) =
    let k = kin_under known r in
    kins_classes (k ∷ known) rows
    ∙ ap (λ (ks : List Kin). classes ks ++ row_classes rows) (reverse_first k known)
    ∙ ap (λ (cs : List Class). cs ++ row_classes rows) (classes_both (reverse known) (k ∷ []))
    ∙ append_assoc (classes (reverse known)) (k.class ∷ []) (row_classes rows)

pub lineage_classes : (l : Lined) → IsInOrder l → classes (lineage (kin_of l)) ≡ row_classes (rows_in l)
lineage_classes l order =
    ap (λ (ks : List Kin). classes ks) (sym order.ordered)
    ∙ ap (λ (ks : List Kin). classes ks) (reverse_first (kin_of l) (kins l.above))
    ∙ classes_both (reverse (kins l.above)) (kin_of l ∷ [])
    ∙ ap (λ (cs : List Class). cs ++ l.own.class ∷ []) (kins_classes [] l.above)
    ∙ sym (map_push (λ (row : Rowed). row.class) l.above l.own)

-- ---- a place in it

pub record Split (ks : List Kin) (before : List Class) (c : Class) : Type 0 where
  pub front : List Kin
  pub at : Kin
  pub behind : List Kin
  pub split : ks ≡ front ++ at ∷ behind
  pub are : classes front ≡ before
  pub class_is : at.class ≡ c

pub split_at : (ks : List Kin) (place : ℕ) (c : Class) → slice_get (classes ks) place ≡ Some c → Split ks (take place (classes ks)) c
split_at [] place c e = absurd cc
split_at (k ∷ ks) zero c e = record { front = []; at = k; behind = ks; split = refl; are = refl; class_is = some_same k.class c e }
split_at (k ∷ ks) (suc place) c e =
    let s = split_at ks place c e in
    record { front = k ∷ s.front; at = s.at; behind = s.behind; split = ap (λ (xs : List Kin). k ∷ xs) s.split; are = ap (λ (cs : List Class). k.class ∷ cs) s.are; class_is = s.class_is }

-- ---- what comes next in it

pub next_in : (s : State) (front behind : List Kin) (k : Kin) (n : Need) → AllByRecursion (λ (b : Kin). AllMet s (constraints_of b)) front → IsNext s (constraints_of k) n → IsNext s (flat_map constraints_of (front ++ k ∷ behind)) n
next_in s [] behind k n all h = next_left s (constraints_of k) (flat_map constraints_of behind) n h
next_in s (b ∷ front) behind k n all h = next_right s (constraints_of b) (flat_map constraints_of (front ++ k ∷ behind)) n all.0 (next_in s front behind k n all.1 h)

-- classes of a lineage all of whose constraints are imposed
pub imposed_all : (w : World) (s : State) (ks : List Kin) → AllByRecursion (IsKept w s) ks → AllByRecursion (HasImposed w s) (classes ks) → AllByRecursion (λ (b : Kin). AllMet s (constraints_of b)) ks
imposed_all w s [] kept h = tt
imposed_all w s (k ∷ ks) kept h =
    let same = one_lineage w k.class h.0.kin k h.0.lineage (lineage_is_derived w k kept.0.1) in
    (subst (λ (x : Kin). AllMet s (constraints_of x)) same h.0.imposed, imposed_all w s ks kept.1 h.1)

placed_link : (w : World) (s : State) (loader : ℕ) (name : List ℕ) (n : Need) (cs : List Class) → LinkIsPlaced w s loader name n cs → NeedIsPlaced w s (Link loader name) n cs
placed_link w s loader name (Entry to other place) cs h = tt
placed_link w s loader name (Equal other a b) cs h = h

-- ---- the refusal

link_concludes : (content : Content) (loader : ℕ) (l at : Lined) (place k : ℕ) (needs : List Need) (n : Need) (s : State)
    → IsInOrder l → IsLineageOf (Some content) l → IsLineageOf (Some content) at → at.config ≡ l.config → option_map (λ (row : Rowed). row.class) (slice_get (rows_in l) place) ≡ Some at.own.class
    → needs ≡ constraints_of (kin_of at) → slice_get needs k ≡ Some n → IsClosed (world_of l.config content) s → recorded_definer s.records loader l.own.class.name ≡ Some l.own.class.loader → AllMet s (take k needs)
    → AllByRecursion (HasImposed (world_of l.config content) s) (row_classes (take place (rows_in l)))
    → IsNextNeed (world_of l.config content) s (Link loader l.own.class.name) n × NeedIsPlaced (world_of l.config content) s (Link loader l.own.class.name) n (row_classes (take place (rows_in l)))
link_concludes content loader l at place k needs n s order lin other config there are is closed rec met prepared =
    let w = world_of l.config content in
    let name = l.own.class.name in
    let ks = lineage (kin_of l) in
    let cs = row_classes (rows_in l) in
    let list = lineage_classes l order in
    let here : slice_get (classes ks) place ≡ Some at.own.class = ap (λ (xs : List Class). slice_get xs place) list ∙ slice_get-map (λ (row : Rowed). row.class) (rows_in l) place ∙ there in
    let parts = split_at ks place at.own.class here in
    let fronts : classes parts.front ≡ row_classes (take place (rows_in l)) = parts.are ∙ ap (λ (xs : List Class). take place xs) list ∙ take-map (λ (row : Rowed). row.class) place (rows_in l) in
    let own : IsRecorded s l.own.class = closed.own loader l.own.class.loader name rec in
    let kept = subst (λ (xs : List Kin). AllByRecursion (IsKept w s) xs) parts.split (lineage_kept w s (kin_of l) closed own lin) in
    let kept_at = (all_right (IsKept w s) parts.front (parts.at ∷ parts.behind) kept).0 in
    let same_world : IsLineage w (kin_of at) = subst (λ (c : Configured). IsLineage (world_of c content) (kin_of at)) config other in
    let same : parts.at ≡ kin_of at = one_lineage w at.own.class parts.at (kin_of at) (subst (λ (c : Class). HasLineage w c parts.at) parts.class_is (lineage_is_derived w parts.at kept_at.1)) (lineage_is_derived w (kin_of at) same_world) in
    let next_there : IsNext s (constraints_of parts.at) n = subst (λ (ns : List Need). IsNext s ns n) (are ∙ ap constraints_of (sym same)) (next_at s needs k n is met) in
    let imposed = imposed_all w s parts.front (all_left (IsKept w s) parts.front (parts.at ∷ parts.behind) kept) (subst (λ (xs : List Class). AllByRecursion (HasImposed w s) xs) (sym fronts) prepared) in
    let next : IsNext s (flat_map constraints_of ks) n = subst (λ (xs : List Kin). IsNext s (flat_map constraints_of xs) n) (sym parts.split) (next_in s parts.front parts.behind parts.at n imposed next_there) in
    let has = lineage_is_derived w (kin_of l) lin in
    let goes = link_goes_on w s loader l.own.class.loader name (kin_of l) closed rec has in (
      gone_on_next w s (Link loader name) l.own.class (flat_map constraints_of ks) (IsLinked l.own.class) n goes next,
      placed_link w s loader name n (row_classes (take place (rows_in l))) (record {
        place = l.own.class.loader;
        kept = rec;
        kin = kin_of l;
        of = has;
        before = parts.front;
        at = parts.at;
        behind = parts.behind;
        split = parts.split;
        are = fronts;
        next = next_there;
      }),
    )

pub preparation_of : (from : Sprung) (at : Lined) (needs : List Need) → from ≡ OfPreparation at → AreOf from needs → needs ≡ constraints_of (kin_of at)
preparation_of from at needs e h = subst (λ (x : Sprung). AreOf x needs) e h

pub lineage_at : (told : Option Content) (from : Sprung) (at : Lined) → from ≡ OfPreparation at → AreLineages told from → IsLineageOf told at
lineage_at told from at e h = let lined : IsLined told at = subst (λ (x : Sprung). AreLineages told x) e h in lined.lineage

-- what the refusal of an equality in a link concludes, where the constraints of all classes before are imposed
refusal_concludes : (content : Content) (r : request.Request) (l : Lined) (place : ℕ) (e : Listed) (k : ℕ) (n : Need) → AreLinked r l place e.origin → IsInOrder l → IsLineageOf (Some content) l → IsListed (Some content) e → slice_get (needs_of e.needs) k ≡ Some n
    → (s : State) → IsClosed (world_of l.config content) s → Met s (class_need r l.own.class) → AllMet s (take k (needs_of e.needs)) → AllByRecursion (HasImposed (world_of l.config content) s) (classes_before l place)
    → IsRefusal (world_of l.config content) s (request_of r) n (classes_before l place) (Linkage n)
refusal_concludes content r l place e k n linked order lin listed is s closed recorded met imposed =
    let w = world_of l.config content in
    let cs = classes_before l place in
    let h = link_concludes content (loader_of r) l linked.at place k (needs_of e.needs) n s order lin (lineage_at (Some content) e.origin linked.at linked.prepares listed.lineages) linked.config linked.there
    (preparation_of e.origin linked.at (needs_of e.needs) linked.prepares listed.are) is closed recorded met imposed in
    record {
      linkage = refl;
      next = subst (λ (q : request.Request). IsNextNeed w s (request_of q) n) (sym linked.of) h.0;
      placed = subst (λ (q : request.Request). NeedIsPlaced w s (request_of q) n cs) (sym linked.of) h.1;
    }

link_rests : (told : Option Content) (r : request.Request) (l : Lined) (place : ℕ) (e : Listed) (k : ℕ) (need : rust.Need) → AreLinked r l place e.origin → IsInOrder l → IsLineageOf told l → IsListed told e
    → slice_get (needs_of e.needs) k ≡ Some (need_of need) → Rests told (grounded_answer r (verdicts.Linkage need) (link_basis r l place e k (Some (need_of need))))
link_rests None r l place e k need linked order lin listed is = tt
link_rests (Some content) r l place e k need linked order lin listed is = record {
  apart = linkage_apart r need;
  concludes = λ s closed grounds. refusal_concludes content r l place e k (need_of need) linked order lin listed is s closed grounds.needs.0 grounds.needs.1 grounds.prepared;
}

-- as it is kept
pub link_rests_kept : (told : Option Content) (r : request.Request) (l : Lined) (place : ℕ) (e : Listed) (k : ℕ) (need : rust.Need) → AreLinked r l place e.origin → IsInOrder l → IsLineageOf told l → IsListed told e
    → slice_get (needs_of e.needs) k ≡ Some (need_of need) → Rests told (grounded_answer r (verdicts.Linkage need) (link_basis r l place e k (slice_get (needs_of e.needs) k)))
link_rests_kept told r l place e k need linked order lin listed is =
    subst (λ (o : Option Need). Rests told (grounded_answer r (verdicts.Linkage need) (link_basis r l place e k o))) (sym is) (link_rests told r l place e k need linked order lin listed is)

-- ---- the same with the lists of the classes before

-- the class of a row has the lineage that its list was made from
pub row_lineage : (content : Content) (c : Configured) (r : Rowed) (e : Listed) → (is : IsOfRow c r e) → IsListed (Some content) e → HasLineage (world_of c content) r.class (kin_of is.at)
row_lineage content c r e is listed =
    let w = world_of c content in
    let here : IsLineage w (kin_of is.at) = subst (λ (k : Configured). IsLineage (world_of k content) (kin_of is.at)) is.config (lineage_at (Some content) e.origin is.at is.prepares listed.lineages) in
    subst (λ (d : Class). HasLineage w d (kin_of is.at)) is.same (lineage_is_derived w (kin_of is.at) here)

-- the classes of lists that are all imposed have imposed their constraints
lists_imposed : (content : Content) (c : Configured) (s : State) (rows : List Rowed) (es : List Listed) → AreOfRows c rows es → AllByRecursion (IsListed (Some content)) es → AllMet s (all_needs es)
    → AllByRecursion (HasImposed (world_of c content) s) (row_classes (take (length es) rows))
lists_imposed content c s [] [] are listed met = tt
lists_imposed content c s (r ∷ rows) [] are listed met = tt
lists_imposed content c s [] (e ∷ es) are listed met = absurd are
lists_imposed content c s (r ∷ rows) (e ∷ es) are listed met =
    let both = met_split s (needs_of e.needs) (all_needs es) met in (
      record {
        kin = kin_of are.0.at;
        lineage = row_lineage content c r e are.0 listed.0;
        imposed = subst (λ (ns : List Need). AllMet s ns) (preparation_of e.origin are.0.at (needs_of e.needs) are.0.prepares listed.0.are) both.0;
      },
      lists_imposed content c s rows es are.1 listed.1 both.1,
    )

imposed_rests : (told : Option Content) (r : request.Request) (l : Lined) (es : List Listed) (e : Listed) (k : ℕ) (need : rust.Need) → AreLinked r l (length es) e.origin → AreOfRows l.config (rows_in l) es → IsInOrder l → IsLineageOf told l
    → AllByRecursion (IsListed told) es → IsListed told e → slice_get (needs_of e.needs) k ≡ Some (need_of need) → Rests told (grounded_answer r (verdicts.Linkage need) (imposed_basis r l es e k (Some (need_of need))))
imposed_rests None r l es e k need linked are order lin all listed is = tt
imposed_rests (Some content) r l es e k need linked are order lin all listed is = record {
  apart = linkage_apart r need;
  concludes = λ s closed grounds.
      let both = met_split s (all_needs es) (take k (needs_of e.needs)) grounds.needs.1 in
      refusal_concludes content r l (length es) e k (need_of need) linked order lin listed is s closed grounds.needs.0 both.1 (lists_imposed content l.config s (rows_in l) es are all both.0);
}

-- as it is kept
pub imposed_rests_kept : (told : Option Content) (r : request.Request) (l : Lined) (es : List Listed) (e : Listed) (k : ℕ) (need : rust.Need) → AreLinked r l (length es) e.origin → AreOfRows l.config (rows_in l) es → IsInOrder l → IsLineageOf told l
    → AllByRecursion (IsListed told) es → IsListed told e → slice_get (needs_of e.needs) k ≡ Some (need_of need) → Rests told (grounded_answer r (verdicts.Linkage need) (imposed_basis r l es e k (slice_get (needs_of e.needs) k)))
imposed_rests_kept told r l es e k need linked are order lin all listed is =
    subst (λ (o : Option Need). Rests told (grounded_answer r (verdicts.Linkage need) (imposed_basis r l es e k o))) (sym is) (imposed_rests told r l es e k need linked are order lin all listed is)

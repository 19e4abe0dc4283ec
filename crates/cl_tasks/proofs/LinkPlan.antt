-- What comes next in a link, where the source tells a content.
use Rattle.std.proofs.Common.{◌≡◌, ◌≤◌, ◌+◌, ◌*◌, ◌∙◌, ℕ, zero, suc, List, [], ◌∷◌, ◌++◌, length, drop, Some, refl, sym, ap, subst}
use Rattle.std.specs.Prelude.{flat_map, option_map, slice_get, take, Contains}
use Rattle.std.specs.List.{AllByRecursion}
use Rattle.std.proofs.lemmas.List.{length-map}
use Rattle.std.proofs.lemmas.Option.{slice_get-map}
use Rattle.cl_model.specs.declared.class.Class.{Class}
use Rattle.cl_model.specs.declared.request.Request as request
use Rattle.cl_model.specs.declared.request.Request.TheVariants as requests
use Rattle.cl_model.specs.Lineages.{Kin, IsLineage, classes, lineage}
use Rattle.cl_model.specs.Preparation.{constraints_of}
use Rattle.cl_model.specs.States.{State, Need, IsLinked, AllMet, IsNext, IsRecorded, recorded_definer}
use Rattle.cl_model.specs.Plans.{Link, Plan}
use Rattle.cl_model.specs.Machine.{Setting, HasLineage, IsPlan, IsSound, Prepare, step_for}
use Rattle.cl_model.specs.Service.{IsLinkedIn, IsNextNeed, IsNextStep}
use Rattle.cl_model.specs.References.{PlanGoesOn}
use Rattle.cl_model.specs.Views.{request_of}
use Rattle.cl_model.proofs.Derivations.{all_map}
use Rattle.cl_model.proofs.Gone.{gone_on_next, link_goes_on}
use Rattle.cl_model.proofs.Pieces.{link_need_next, prepare_next}
use Rattle.cl_model.proofs.Planned.{one_lineage, one_plan}
use Rattle.cl_model.proofs.Progress.{IsKept, lineage_kept}
use Rattle.cl_model.proofs.Trees.{lineage_is_derived}
use Rattle.cl_model.proofs.Closed.{all_left, all_right}
use Rattle.cl_hierarchy.specs.Lineages.{IsInOrder, Lined, kin_of, rows_in}
use Rattle.cl_hierarchy.specs.Rows.{Rowed}
use Rattle.cl_findings.specs.Findings.{loader_of}
use Rattle.cl_findings.proofs.Answered.{linked_all}
use Rattle.cl_findings.proofs.Links.{lineage_classes, next_in, split_at}
use Rattle.cl_findings.proofs.References.{next_at}
use Rattle.cl_tasks.specs.Calls.{equalities_in, link_calls, own_homes}
use Rattle.cl_tasks.specs.Follows.{IsWanted}
use Rattle.cl_tasks.specs.Stages.{chain_calls, classes_in}
use Rattle.cl_tasks.proofs.Within.{link_drop, links_within}

-- a link of the class of l is at the class of at, which stands at this place of the lineage, and all before it are linked
pub record IsThere (g : Setting) (s : State) (loader : ℕ) (l at : Lined) (place : ℕ) : Type 0 where
  pub kept : recorded_definer s.records loader l.own.class.name ≡ Some l.own.class.loader
  pub has : HasLineage g.world l.own.class (kin_of l)
  pub front : List Kin
  pub behind : List Kin
  pub split : lineage (kin_of l) ≡ front ++ kin_of at ∷ behind
  pub long : length front ≡ place
  pub linked : AllByRecursion (IsLinkedIn s) front

-- so many are taken of a list that has one more
pub taken_long : {A : Type 0} (xs : List A) (place : ℕ) (a : A) → slice_get xs place ≡ Some a → length (take place xs) ≡ place
taken_long [] place a e = absurd cc
taken_long (x ∷ xs) zero a e = refl
taken_long (x ∷ xs) (suc place) a e = ap (λ (n : ℕ). suc n) (taken_long xs place a e)

-- the constraints of linked classes are imposed
imposed_of : (s : State) (ks : List Kin) → AllByRecursion (IsLinkedIn s) ks → AllByRecursion (λ (b : Kin). AllMet s (constraints_of b)) ks
imposed_of s ks h = all_map (IsLinkedIn s) (λ (b : Kin). AllMet s (constraints_of b)) (λ b k. k.imposed) ks h

pub there : (g : Setting) (s : State) (loader : ℕ) (l at : Lined) (place : ℕ) → IsSound g s → IsInOrder l → IsLineage g.world (kin_of l) → IsLineage g.world (kin_of at)
    → recorded_definer s.records loader l.own.class.name ≡ Some l.own.class.loader → option_map (λ (row : Rowed). row.class) (slice_get (rows_in l) place) ≡ Some at.own.class
    → AllByRecursion (Contains s.prepared) (take place (classes_in l)) → IsThere g s loader l at place
there g s loader l at place sound order lin other rec here prepared =
    let w = g.world in
    let ks = lineage (kin_of l) in
    let list = lineage_classes l order in
    let stands : slice_get (classes ks) place ≡ Some at.own.class = ap (λ (cs : List Class). slice_get cs place) list ∙ slice_get-map (λ (row : Rowed). row.class) (rows_in l) place ∙ here in
    let parts = split_at ks place at.own.class stands in
    let own : IsRecorded s l.own.class = sound.closed.own loader l.own.class.loader l.own.class.name rec in
    let kept = subst (λ (xs : List Kin). AllByRecursion (IsKept w s) xs) parts.split (lineage_kept w s (kin_of l) sound.closed own lin) in
    let kept_at = (all_right (IsKept w s) parts.front (parts.at ∷ parts.behind) kept).0 in
    let kept_front = all_left (IsKept w s) parts.front (parts.at ∷ parts.behind) kept in
    let linked = linked_all g s parts.front sound kept_front (subst (λ (cs : List Class). AllByRecursion (Contains s.prepared) cs) (sym (parts.are ∙ ap (λ (cs : List Class). take place cs) list)) prepared) in
    let same : parts.at ≡ kin_of at = one_lineage w at.own.class parts.at (kin_of at) (subst (λ (c : Class). HasLineage w c parts.at) parts.class_is (lineage_is_derived w parts.at kept_at.1)) (lineage_is_derived w (kin_of at) other) in
    record {
      kept = rec;
      has = lineage_is_derived w (kin_of l) lin;
      front = parts.front;
      behind = parts.behind;
      split = parts.split ∙ ap (λ (k : Kin). parts.front ++ k ∷ parts.behind) same;
      long = sym (length-map parts.front (λ (k : Kin). k.class)) ∙ ap (λ (cs : List Class). length cs) parts.are ∙ taken_long (classes ks) place at.own.class stands;
      linked = linked;
    }

-- the calls of a lineage from a place on are those of the class there, and those behind it
pub chain_step : (g : Setting) (s : State) (loader : ℕ) (l at : Lined) (place : ℕ) → IsThere g s loader l at place → chain_calls l place ≡ (length (constraints_of (kin_of at)) + 2) + chain_calls l (place + 1)
chain_step g s loader l at place here =
    let ks = lineage (kin_of l) in
    let parts = link_drop ks here.front here.behind (kin_of at) here.split in
    ap (λ (n : ℕ). link_calls (drop n ks)) (sym here.long) ∙ ap (λ (xs : List Kin). link_calls xs) parts.0
    ∙ ap (λ (n : ℕ). (length (constraints_of (kin_of at)) + 2) + n) (sym (ap (λ (n : ℕ). link_calls (drop (n + 1) ks)) (sym here.long) ∙ ap (λ (xs : List Kin). link_calls xs) parts.1))

-- the calls of the whole lineage are within those of the request's plan past its load
pub chain_within : (g : Setting) (s : State) (r : request.Request) (l : Lined) (p : Plan) → IsSound g s → r ≡ requests.Link (loader_of r) l.own.class.name → recorded_definer s.records (loader_of r) l.own.class.name ≡ Some l.own.class.loader
    → IsLineage g.world (kin_of l) → IsPlan g.world (request_of r) p → chain_calls l 0 ≤ 2 * own_homes g.world p + equalities_in p
chain_within g s r l p sound is kept lin plan =
    let w = g.world in
    let q = Link (loader_of r) l.own.class.name in
    let has = lineage_is_derived w (kin_of l) lin in
    let goes = link_goes_on w s (loader_of r) l.own.class.loader l.own.class.name (kin_of l) sound.closed kept has in
    let of : IsPlan w q p = subst (λ (x : request.Request). IsPlan w (request_of x) p) is plan in
    let same : goes.plan ≡ p = one_plan w q goes.plan p goes.planned of in
    let reached : p.reached ≡ Some l.own.class = subst (λ (x : Plan). x.reached ≡ Some l.own.class) same goes.past.0 in
    links_within w (loader_of r) l.own.class.name p l.own.class (kin_of l) of reached has

module _ (g : Setting) (s : State) (r : request.Request) (l at : Lined) (place : ℕ) (sound : IsSound g s) (is : r ≡ requests.Link (loader_of r) l.own.class.name) (here : IsThere g s (loader_of r) l at place) where
  goes : PlanGoesOn g.world s (Link (loader_of r) l.own.class.name) l.own.class (flat_map constraints_of (lineage (kin_of l))) (IsLinked l.own.class)
  goes = link_goes_on g.world s (loader_of r) l.own.class.loader l.own.class.name (kin_of l) sound.closed here.kept here.has

  -- an equality of the class comes next, where those before it are met
  pub equality_next : (needs : List Need) (k : ℕ) (n : Need) → needs ≡ constraints_of (kin_of at) → slice_get needs k ≡ Some n → AllMet s (take k needs) → IsWanted g s r n
  equality_next needs k n are there met =
      let next : IsNext s (constraints_of (kin_of at)) n = subst (λ (ns : List Need). IsNext s ns n) are (next_at s needs k n there met) in
      let all : IsNext s (flat_map constraints_of (lineage (kin_of l))) n =
      subst (λ (ks : List Kin). IsNext s (flat_map constraints_of ks) n) (sym here.split) (next_in s here.front here.behind (kin_of at) n (imposed_of s here.front here.linked) next) in
      record {
        need = subst (λ (q : request.Request). IsNextNeed g.world s (request_of q) n) (sym is) (gone_on_next g.world s (Link (loader_of r) l.own.class.name) l.own.class (flat_map constraints_of (lineage (kin_of l))) (IsLinked l.own.class) n goes all);
        step = λ may. subst (λ (q : request.Request). IsNextStep g s (request_of q) (step_for n)) (sym is)
            (link_need_next g s (loader_of r) l.own.class.name goes.plan l.own.class (kin_of l) (kin_of at) here.front here.behind n goes.planned goes.past.0 goes.past.1 here.has here.split here.linked next may);
      }

  -- its preparation comes next, where all its equalities are met
  pub preparation_next : AllMet s (constraints_of (kin_of at)) → (Contains s.prepared at.own.class → ⊥) → IsNextStep g s (request_of r) (Prepare at.own.class)
  preparation_next met free =
      subst (λ (q : request.Request). IsNextStep g s (request_of q) (Prepare at.own.class)) (sym is)
      (prepare_next g s (loader_of r) l.own.class.name goes.plan l.own.class (kin_of l) (kin_of at) here.front here.behind goes.planned goes.past.0 goes.past.1 here.has here.split here.linked met free)

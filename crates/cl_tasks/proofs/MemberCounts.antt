-- A member has no more equalities than the plan of its request.
use Rattle.std.proofs.Common.{◌≡◌, ◌∙◌, ◌≤◌, ℕ, List, length, Option, Some, sym, ap, subst}
use Rattle.std.specs.Prelude.{count_by}
use Rattle.cl_model.specs.declared.need.Equality.{Equality}
use Rattle.cl_model.specs.declared.request.Request.{Request}
use Rattle.cl_model.specs.Content.{Content}
use Rattle.cl_model.specs.Homes.{World}
use Rattle.cl_model.specs.Lineages.{IsLineage}
use Rattle.cl_model.specs.Machine.{IsClosed, IsPlan, Setting}
use Rattle.cl_model.specs.Plans as plans
use Rattle.cl_model.specs.Plans.{ending_verdict, is_equal}
use Rattle.cl_model.specs.References.{GoesThrough}
use Rattle.cl_model.specs.States.{State, Need, recorded_definer}
use Rattle.cl_model.specs.Views.{request_of}
use Rattle.cl_model.proofs.Gone.{resolve_goes_on}
use Rattle.cl_model.proofs.Through.{reference_goes}
use Rattle.cl_model.proofs.Trees.{lineage_is_derived}
use Rattle.cl_config.specs.Views.{Configured}
use Rattle.cl_delegation.specs.Worlds.{world_of}
use Rattle.cl_findings.specs.Findings.{loader_of}
use Rattle.cl_findings.specs.References.{GoesTo}
use Rattle.cl_hierarchy.specs.Imposed.{AreLineages, AreOf, AreOfReference, OfReference, Sprung, needs_of}
use Rattle.cl_hierarchy.specs.Lineages.{IsLineageOf, Lined, kin_of}
use Rattle.cl_findings.proofs.References.{through_made}
use Rattle.cl_registry.specs.Tables.{Shown, state_of}
use Rattle.cl_tasks.specs.Calls.{equalities_in}
use Rattle.cl_tasks.specs.Follows.{ServedIn}
use Rattle.cl_tasks.specs.Resolving.{ImposedTold}
use Rattle.cl_tasks.specs.Stages.{IsMember}
use Rattle.cl_tasks.specs.declared.stage.Member.{Member}
use Rattle.cl_tasks.proofs.Within.{equals_counted, gone_on_counts}

-- the equalities of a member are what its request still needs past the load of the class that its entry names
member_counts : (content : Content) (r : Request) (d k : Lined) (i : ℕ) (es : List Equality) (s : State) (p : plans.Plan) → GoesTo r d k i → IsLineageOf (Some content) d → IsLineageOf (Some content) k → AreOfReference (kin_of d) (kin_of k) i (needs_of es)
    → IsClosed (world_of d.config content) s → recorded_definer s.records (loader_of r) d.own.class.name ≡ Some d.own.class.loader → recorded_definer s.records d.own.class.loader k.own.class.name ≡ Some k.own.class.loader
    → IsPlan (world_of d.config content) (request_of r) p → length es ≤ equalities_in p
member_counts content r d k i es s p to lin other of closed rec below is =
    let w = world_of d.config content in
    let q = plans.Resolve (loader_of r) d.own.class.name i in
    let same : IsLineage w (kin_of k) = subst (λ (c : Configured). IsLineage (world_of c content) (kin_of k)) to.config other in
    let goes : GoesThrough w s d.own.class i of.made =
    reference_goes w s d.own.class (kin_of d) (kin_of k) i k.own.class.loader of.cites.cited k.own.class.name of.made closed (lineage_is_derived w (kin_of d) lin) of.cites.found of.cites.names below (lineage_is_derived w (kin_of k) same)
    (through_made (kin_of d) (kin_of k) of.cites.cited of.made to.accessible of.worked) in
    let on = resolve_goes_on w s (loader_of r) d.own.class.loader i d.own.class.name of.made closed rec goes in
    let planned : IsPlan w q p = subst (λ (a : Request). IsPlan w (request_of a) p) to.of is in
    let many : count_by is_equal of.made.needs ≡ length es = ap (λ (ns : List Need). count_by is_equal ns) (sym of.needs_are) ∙ equals_counted es in
    subst (λ (n : ℕ). n ≤ equalities_in p) many (gone_on_counts w s q d.own.class of.made.needs (ending_verdict of.made.ends) p on planned)

-- where the request is served
pub member_few : {A : Type 0} (told : Option Content) (c : Configured) (m : Member A) (g : Setting) (x : Shown) (p : plans.Plan) → IsMember c m → AreLineages told m.equalities.value.origin → AreOf m.equalities.value.origin (needs_of m.equalities.value.needs)
    → ServedIn told c g (state_of x) → IsPlan g.world (request_of m.entry.request) p → ImposedTold m 0 x → length m.equalities.value.needs ≤ equalities_in p
member_few told c m g x p member lineages are served is h =
    let r = m.entry.request in
    let d = m.found.d in
    let k = m.found.c in
    let s = state_of x in
    let from : AreOfReference (kin_of d) (kin_of k) m.found.index (needs_of m.equalities.value.needs) = subst (λ (o : Sprung). AreOf o (needs_of m.equalities.value.needs)) member.origin are in
    let both : AreLineages told (OfReference d k m.found.index) = subst (λ (o : Sprung). AreLineages told o) member.origin lineages in
    let lined : AreLineages (Some served.content) (OfReference d k m.found.index) = subst (λ (t : Option Content). AreLineages t (OfReference d k m.found.index)) served.told_so both in
    let world : g.world ≡ world_of d.config served.content = ap (λ (k : Setting). k.world) served.setting ∙ ap (λ (a : Configured). world_of a served.content) (sym member.own.config) in
    member_counts served.content r d k m.found.index m.equalities.value.needs s p member.reference lined.0.lineage lined.1.lineage from
    (subst (λ (w : World). IsClosed w s) world served.sound.closed) h.0 h.1.0
    (subst (λ (w : World). IsPlan w (request_of r) p) world is)

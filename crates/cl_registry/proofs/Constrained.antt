-- What a registry imposes and prepares is what the linkage machine may (JVMS SE 8, 5.3.4, 5.4.2, 5.4.3).
use Rattle.std.proofs.Common.{◌≡◌, ◌∙◌, ℕ, zero, suc, List, [], ◌∷◌, ◌++◌, Some, inl, inr, refl, sym, ap, subst, take}
use Rattle.std.specs.Prelude.{slice_get, Contains}
use Rattle.cl_classfile.specs.Files.{file_of}
use Rattle.cl_model.specs.declared.class.Class.{Class}
use Rattle.cl_model.specs.declared.need.Equality.{Equality}
use Rattle.cl_model.specs.Content.{Content}
use Rattle.cl_model.specs.Classes.{Above, AllAtHome, supers}
use Rattle.cl_model.specs.Lineages.{Kin, IsLineage}
use Rattle.cl_model.specs.Preparation.{constraints_of}
use Rattle.cl_model.specs.States.{State, Need, Keeps, Met, Refused, AllMet, IsNext}
use Rattle.cl_model.specs.Machine.{HasLineage, IsClosed, MayConstrain}
use Rattle.cl_model.proofs.Bind.{some_same}
use Rattle.cl_model.proofs.Planned.{one_lineage}
use Rattle.cl_model.proofs.Posted.{may_prepare}
use Rattle.cl_model.proofs.Through.{reference_goes}
use Rattle.cl_model.proofs.Trees.{lineage_is_derived}
use Rattle.cl_model.proofs.Aims.{next_right}
use Rattle.cl_config.specs.Views.{Configured}
use Rattle.cl_constraints.proofs.Standing.{unrefused}
use Rattle.cl_delegation.specs.Worlds.{world_of, setting_of}
use Rattle.cl_hierarchy.specs.Imposed.{AreLineages, AreOf, OfPreparation, OfReference, Sprung, equal_need, needs_of}
use Rattle.cl_hierarchy.specs.Lineages.{IsLined, Lined, kin_of}
use Rattle.cl_findings.proofs.References.{through_made}
use Rattle.cl_registry.specs.Allowed.{ImposedIsAllowed, MarkedIsAllowed, AllowedIsMarked}
use Rattle.cl_registry.specs.Imposing.{ArePreparedAbove, OriginStands}
use Rattle.cl_registry.specs.Tables.{Shown, IsKept, state_of}
use Rattle.cl_registry.proofs.Allowed.{closed_of}

-- ---- what is next in a list

-- the equality at a place, where all before it are met
next_at : (s : State) (es : List Equality) (k : ℕ) (e : Equality) → slice_get es k ≡ Some e → AllMet s (take k (needs_of es)) → IsNext s (needs_of es) (equal_need e)
next_at s [] k e g met = absurd cc
next_at s (x ∷ es) zero e g met = inl (ap equal_need (some_same x e g))
next_at s (x ∷ es) (suc k) e g met = inr (met.0, next_at s es k e g met.1)

-- ---- lineages

-- the lineage of a registry's own configuration
pub lineage_at : (content : Content) (x : Shown) (l : Lined) → IsLined (Some content) l → l.config ≡ x.config → HasLineage (world_of x.config content) l.own.class (kin_of l)
lineage_at content x l lined config =
    lineage_is_derived (world_of x.config content) (kin_of l) (subst (λ (c : Configured). IsLineage (world_of c content) (kin_of l)) config lined.lineage)

-- ---- supertypes that are prepared

prepared_at_home : (content : Content) (x : Shown) (c : Class) (others : List Above) → IsClosed (world_of x.config content) (state_of x) → ArePreparedAbove x c others
    → AllAtHome (world_of x.config content) c (Contains (state_of x).prepared) others
prepared_at_home content x c [] closed h = tt
prepared_at_home content x c (a ∷ others) closed h =
    (record { place = h.0.place; found = closed.homes c.loader h.0.place a.name h.0.recorded; holds = h.0.prepared }, prepared_at_home content x c others closed h.1)

-- ---- equalities

imposed_by : (content : Content) (x : Shown) (o : Sprung) (es : List Equality) (k : ℕ) (n : Equality) → IsKept (Some content) x → AreLineages (Some content) o → AreOf o (needs_of es) → OriginStands x o → AllMet (state_of x) (take k (needs_of es))
    → slice_get es k ≡ Some n → (Met (state_of x) (equal_need n) → ⊥) → (Refused (state_of x) (equal_need n) → ⊥) → MayConstrain (setting_of x.config x.script content) (state_of x) n.name n.one n.other
imposed_by content x (OfPreparation l) es k n kept lined are stands earlier at unmet free = record {
  needs = constraints_of (kin_of l);
  imposes = inl (l.own.class, stands.recorded, (kin_of l, lineage_at content x l lined stands.config, refl));
  next = subst (λ (ns : List Need). IsNext (state_of x) ns (equal_need n)) are (next_at (state_of x) es k n at earlier);
  may_add = unrefused (state_of x) (equal_need n) unmet free;
}
imposed_by content x (OfReference d c index) es k n kept lined are stands earlier at unmet free =
    let w = world_of x.config content in
    let s = state_of x in
    let goes = reference_goes w s d.own.class (kin_of d) (kin_of c) index c.own.class.loader are.cites.cited c.own.class.name are.made (closed_of content x kept) (lineage_at content x d lined.0 stands.0.config) are.cites.found are.cites.names stands.1.recorded
    (lineage_at content x c lined.1 stands.1.config) (through_made (kin_of d) (kin_of c) are.cites.cited are.made stands.1.accessible are.worked) in
    record {
      needs = goes.made.needs;
      imposes = inr (d.own.class, stands.0.recorded, (index, goes.made, goes.resolution, refl));
      next = subst (λ (ns : List Need). IsNext s ns (equal_need n)) (ap (λ (ns : List Need). goes.before ++ ns) are.needs_are ∙ sym goes.needs) (next_right s goes.before (needs_of es) (equal_need n) goes.met (next_at s es k n at earlier));
      may_add = unrefused s (equal_need n) unmet free;
    }

pub imposed_is_allowed : ImposedIsAllowed
imposed_is_allowed content x e k n kept listed may at unmet free = imposed_by content x e.origin e.needs k n kept listed.lineages listed.are may.stands may.earlier at unmet free

-- ---- preparations

pub marked_is_allowed : MarkedIsAllowed
marked_is_allowed content x l needs kept listed ready free =
    may_prepare (setting_of x.config x.script content) (state_of x) l.own.class (kin_of l) ready.stands.recorded free (lineage_at content x l listed.lineages ready.stands.config)
    (prepared_at_home content x l.own.class (supers (file_of l.own.file)) (closed_of content x kept) ready.above) (subst (AllMet (state_of x)) listed.are ready.imposed)

home_prepared : (content : Content) (x : Shown) (c : Class) (others : List Above) → AllAtHome (world_of x.config content) c (Contains (state_of x).prepared) others
    → AllAtHome (world_of x.config content) c (Keeps (state_of x) c.loader) others → ArePreparedAbove x c others
home_prepared content x c [] h m = tt
home_prepared content x c (a ∷ others) h m =
    let same = some_same m.0.place h.0.place (sym m.0.found ∙ h.0.found) in
    (record { place = h.0.place; recorded = m.0.holds ∙ ap (λ (p : ℕ). Some p) same; prepared = h.0.holds }, home_prepared content x c others h.1 m.1)

pub allowed_is_marked : AllowedIsMarked
allowed_is_marked content x l needs kept listed config may =
    let w = world_of x.config content in
    let s = state_of x in
    let lin = lineage_at content x l listed.lineages config in
    let same : may.preparable.kin ≡ kin_of l = one_lineage w l.own.class may.preparable.kin (kin_of l) may.preparable.lineage lin in
    let file = subst (λ (c : Configured). IsLineage (world_of c content) (kin_of l)) config listed.lineages.lineage in
    let above = subst (λ (k : Kin). AllAtHome w l.own.class (Contains s.prepared) (supers k.file)) same may.preparable.above in (
      record {
        stands = record { config = config; recorded = may.preparable.recorded };
        above = home_prepared content x l.own.class (supers (file_of l.own.file)) above ((closed_of content x kept).above l.own.class (file_of l.own.file) may.preparable.recorded file.has_file);
        imposed = subst (AllMet s) (sym listed.are) (subst (λ (k : Kin). AllMet s (constraints_of k)) same may.preparable.imposed);
      },
      may.unprepared,
    )

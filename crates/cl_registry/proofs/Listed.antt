-- What the linkage machine's own list comes to may be imposed.
use Rattle.std.proofs.Common.{◌≡◌, ◌∙◌, ◌<◌, ℕ, Bool, true, false, List, [], ◌∷◌, ◌++◌, length, Some, inl, inr, refl, sym, ap, subst, arith, take}
use Rattle.std.specs.Prelude.{option_map}
use Rattle.std.specs.List.{AllByRecursion}
use Rattle.std.proofs.lemmas.List.{append-nil, append_cancel_right}
use Rattle.cl_classfile.specs.Files.{Reference}
use Rattle.cl_model.specs.declared.class.Class.{Class}
use Rattle.cl_model.specs.declared.need.Equality.{Equality}
use Rattle.cl_model.specs.Content.{Content}
use Rattle.cl_model.specs.Homes.{World, home}
use Rattle.cl_model.specs.Classes.{class, NoClassDef, class_accessible}
use Rattle.cl_model.specs.Lineages.{Kin}
use Rattle.cl_model.specs.States.{State, Need, Verdict, recorded_definer, AllMet}
use Rattle.cl_model.specs.Works.{Work, Made, after_made, ◌>>=◌}
use Rattle.cl_model.specs.Plans.{derive, load, resolve, resolve_in, through}
use Rattle.cl_model.specs.Machine.{HasLineage}
use Rattle.cl_model.proofs.Bind.{Bound, pieces, some_same, value_same}
use Rattle.cl_model.proofs.Closed.{all_right}
use Rattle.cl_model.proofs.Derived.{IsLoad, load_ok}
use Rattle.cl_model.proofs.Planned.{one_lineage}
use Rattle.cl_model.proofs.Progress.{IsEntry, derive_records, load_records, met_split}
use Rattle.cl_model.proofs.Through.{resolves_through}
use Rattle.cl_model.proofs.Trees.{derive_gives, lineage_is_derived}
use Rattle.cl_delegation.specs.Worlds.{world_of}
use Rattle.cl_hierarchy.specs.Imposed.{AreLineages, AreOf, OfPreparation, OfReference, Sprung, needs_of}
use Rattle.cl_hierarchy.specs.Lineages.{kin_of}
use Rattle.cl_findings.proofs.References.{opened}
use Rattle.cl_registry.specs.Tables.{Shown, state_of}
use Rattle.cl_registry.specs.Imposing.{AreOfConfig, IsListOf, OriginStands}
use Rattle.cl_registry.specs.Allowed.{AllowedIsImposed}
use Rattle.cl_registry.proofs.Constrained.{lineage_at}
use Rattle.cl_registry.proofs.LoadNeeds.{loads_only}

-- ---- needs that are no records

-- a list with an equality is none of records
not_records : (before : List Need) (es : List Equality) (ns : List Need) (k : ℕ) → k < length es → before ++ needs_of es ≡ ns → AllByRecursion IsEntry ns → ⊥
not_records before [] ns k h e all = absurd (omega arith)
not_records before (x ∷ es) ns k h e all = (all_right IsEntry before (needs_of (x ∷ es)) (subst (λ (l : List Need). AllByRecursion IsEntry l) (sym e) all)).0

-- ---- what follows a load

opened_made : (d c : Kin) (r : Reference) (made m : Made Verdict) → class_accessible c.file.flags c.class d.class ≡ true → resolve_in d r c ≡ Some made → through d r c ≡ Some m → m.needs ≡ made.needs
opened_made d c r made m e worked is = ap (λ (v : Made Verdict). v.needs) (some_same m made (sym is ∙ opened d c r true e ∙ ap (λ (o : Work Verdict). option_map (after_made [] []) o) worked))

closed_made : (d c : Kin) (r : Reference) (m : Made Verdict) → class_accessible c.file.flags c.class d.class ≡ false → through d r c ≡ Some m → m.needs ≡ []
closed_made d c r m e is = ap (λ (v : Made Verdict). v.needs) (some_same m _ (sym is ∙ opened d c r false e))

-- a class that was reached by the list of a reference
pub record Reached (w : World) (s : State) (d c : Kin) : Type 0 where
  pub accessible : class_accessible c.file.flags c.class d.class ≡ true
  pub recorded : recorded_definer s.records d.class.loader c.class.name ≡ Some c.class.loader

module _ (w : World) (s : State) (d c : Kin) (r : Reference) (made m : Made Verdict) (before : List Need) (es : List Equality) (k n : ℕ)
    (lin : HasLineage w c.class c) (found : home w d.class.loader c.class.name ≡ Some c.class.loader) (worked : resolve_in d r c ≡ Some made) (are : needs_of es ≡ made.needs)
    (list : before ++ needs_of es ≡ m.needs) (within : k < length es) (met : AllMet s before) where
  by_access : (b : Bound (load w n NoClassDef d.class.loader c.class.name) (λ t. through d r t) m m.ends) (l : IsLoad w (derive w n []) d.class.loader c.class.name b.first b.value) (t : Bool) → class_accessible c.file.flags c.class d.class ≡ t → through d r c ≡ Some b.second
      → l.place ≡ c.class.loader → Reached w s d c
  by_access b l true e next here =
      let more : b.second.needs ≡ made.needs = opened_made d c r made b.second e worked next in
      let parts : before ++ made.needs ≡ b.first.needs ++ made.needs = ap (λ (ns : List Need). before ++ ns) (sym are) ∙ list ∙ b.needs ∙ ap (λ (ns : List Need). b.first.needs ++ ns) more in
      let all : AllMet s b.first.needs = subst (AllMet s) (append_cancel_right before b.first.needs made.needs parts) met in
      let rec = (load_records w s (derive w n []) (derive_records w s n []) d.class.loader c.class.name b.first b.value l all).0 in
      record { accessible = e; recorded = subst (λ (p : ℕ). recorded_definer s.records d.class.loader c.class.name ≡ Some p) here rec }
  by_access b l false e next here =
      let none : b.second.needs ≡ [] = closed_made d c r b.second e next in
      let whole : before ++ needs_of es ≡ b.first.needs = list ∙ b.needs ∙ ap (λ (ns : List Need). b.first.needs ++ ns) none ∙ append-nil b.first.needs in
      absurd (not_records before es b.first.needs k within whole (loads_only w n NoClassDef d.class.loader c.class.name b.first b.made))

  reached : (b : Bound (load w n NoClassDef d.class.loader c.class.name) (λ t. through d r t) m m.ends) → Reached w s d c
  reached b =
      let is = load_ok w (derive w n []) NoClassDef d.class.loader c.class.name b.first b.value b.made b.ended in
      let gives = derive_gives w n [] (class c.class.name is.place) is.below b.value is.made is.ends in
      let here : is.place ≡ c.class.loader = value_same is.place c.class.loader (home w d.class.loader c.class.name) is.found found in
      let named : b.value.class ≡ c.class = gives.0 ∙ ap (λ (p : ℕ). class c.class.name p) here in
      let same : b.value ≡ c = one_lineage w c.class b.value c (subst (λ (t : Class). HasLineage w t b.value) named (lineage_is_derived w b.value gives.1)) lin in
      by_access b is (class_accessible c.file.flags c.class d.class) refl (subst (λ (t : Kin). through d r t ≡ Some b.second) same b.next) here

  pub reached_by : (load w n NoClassDef d.class.loader c.class.name >>= λ t. through d r t) ≡ Some m → Reached w s d c
  reached_by is = elim (pieces (load w n NoClassDef d.class.loader c.class.name) (λ t. through d r t) m m.ends is refl) [
    | inl b ↦ reached b
    | inr p ↦ absurd (not_records before es p.2.first.needs k within (list ∙ p.2.needs) (loads_only w n NoClassDef d.class.loader c.class.name p.2.first p.2.made))
  ]

-- ---- what a list was made from stands

listed_stands : (content : Content) (x : Shown) (o : Sprung) (es : List Equality) (k : ℕ) (before : List Need) → AreLineages (Some content) o → AreOf o (needs_of es) → AreOfConfig x.config o → k < length es
    → IsListOf (world_of x.config content) (state_of x) o (before ++ needs_of es) → AllMet (state_of x) before → OriginStands x o
listed_stands content x (OfPreparation l) es k before lined are config within list met = record { config = config; recorded = list.0 }
listed_stands content x (OfReference d c index) es k before lined are config within list met =
    let w = world_of x.config content in
    let res = list.2.1 in
    let kin : res.kin ≡ kin_of d = one_lineage w d.own.class res.kin (kin_of d) res.above (lineage_at content x d lined.0 config.0) in
    let made = subst (λ (t : Kin). resolve w res.height t index ≡ Some list.2.0) kin res.made in
    let whole = sym (resolves_through w res.height (kin_of d) index are.cites.cited c.own.class.name are.cites.found are.cites.names) ∙ made in
    let r = reached_by w (state_of x) (kin_of d) (kin_of c) are.cites.cited are.made list.2.0 before es k res.height (lineage_at content x c lined.1 config.1) list.1 are.worked are.needs_are list.2.2 within met whole in
    (record { config = config.0; recorded = list.0 }, record { config = config.1; recorded = r.recorded; accessible = r.accessible })

pub allowed_is_imposed : AllowedIsImposed
allowed_is_imposed content x e k before kept listed config within list met =
    let both = met_split (state_of x) before (take k (needs_of e.needs)) met in
    record { stands = listed_stands content x e.origin e.needs k before listed.lineages listed.are config within list both.0; within = within; earlier = both.1 }

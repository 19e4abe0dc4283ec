-- Lists of loading constraints, with what they were made from (JVMS SE 8, 5.3.4, 5.4.2, 5.4.3).
use Rattle.std.specs.Prelude.{◌≡◌, ℕ, List, map, Option, Some}
use Rattle.cl_model.specs.declared.need.Equality.{Equality}
use Rattle.cl_model.specs.declared.need.Need.TheVariants as needs
use Rattle.cl_model.specs.Content.{Content}
use Rattle.cl_model.specs.Lineages.{Kin}
use Rattle.cl_model.specs.Plans.{CitesClass, resolve_in}
use Rattle.cl_model.specs.Preparation.{constraints_of}
use Rattle.cl_model.specs.States.{Need, Verdict}
use Rattle.cl_model.specs.Views.{need_of}
use Rattle.cl_model.specs.Works.{Made}
use Rattle.cl_hierarchy.specs.Lineages.{IsLined, Lined, kin_of}
use Rattle.cl_hierarchy.specs.declared.equalities.Origin.{Origin}
use Rattle.cl_hierarchy.specs.declared.equalities.Origin.TheVariants as origins

-- an equality as a need (5.3.4)
abbrev pub equal_need : Equality → Need
equal_need e = need_of (needs.Equal e)

-- equalities as needs, in order (5.3.4)
abbrev pub needs_of : List Equality → List Need
needs_of es = map equal_need es

-- what a list of equalities was made from: a reference of a class d to a class c or through it, or
-- a class's preparation (5.4.2, 5.4.3)
pub data Sprung : Type 0 where
  OfReference : (d c : Lined) → (index : ℕ) → Sprung
  OfPreparation : (lineage : Lined) → Sprung

-- the same, without where it lies in memory
abbrev pub sprung : {A : Type 0} → Origin A → Sprung
sprung (origins.Reference d c index) = OfReference d c index
sprung (origins.Preparation lineage) = OfPreparation lineage

-- a list of equalities with what it was made from
pub record Listed : Type 0 where
  pub needs : List Equality
  pub origin : Sprung

-- these are the needs of d's reference at an index of its pool, which names the class c, once that
-- is loaded (5.4.3)
pub record AreOfReference (d c : Kin) (index : ℕ) (needs : List Need) : Type 0 where
  pub cites : CitesClass d.file index c.class.name
  pub made : Made Verdict
  pub worked : resolve_in d cites.cited c ≡ Some made
  pub needs_are : needs ≡ made.needs

-- the needs are those that the definitions list of what they were made from (5.4.2, 5.4.3)
abbrev pub AreOf : Sprung → List Need → Type 0
AreOf (OfReference d c index) needs = AreOfReference (kin_of d) (kin_of c) index needs
AreOf (OfPreparation l) needs = needs ≡ constraints_of (kin_of l)

-- the lineages that a list was made from are such (5.3.5)
abbrev pub AreLineages : Option Content → Sprung → Type 0
AreLineages told (OfReference d c index) = IsLined told d × IsLined told c
AreLineages told (OfPreparation l) = IsLined told l

-- a list is the definitions' of what it was made from (5.4.2, 5.4.3)
pub record IsListed (told : Option Content) (e : Listed) : Type 0 where
  pub lineages : AreLineages told e.origin
  pub are : AreOf e.origin (needs_of e.needs)

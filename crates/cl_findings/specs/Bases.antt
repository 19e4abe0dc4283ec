-- What an answer rests on, as it is kept (JVMS SE 8, 5.3 to 5.4.3).
use Rattle.std.specs.Prelude.{List, [], ◌∷◌, map, Option, Some, None, slice_get}
use Rattle.cl_model.specs.declared.request.Request as request
use Rattle.cl_model.specs.States.{Need, Entry}
use Rattle.cl_model.specs.Content.{Content}
use Rattle.cl_hierarchy.specs.Drafts.{IsSpelt}
use Rattle.cl_hierarchy.specs.Imposed as imposed
use Rattle.cl_hierarchy.specs.Paths.{Pathed, at_loader, at_name}
use Rattle.cl_findings.specs.Findings.{Based}
use Rattle.cl_findings.specs.Loads.{load_basis, next_need, next_needs}
use Rattle.cl_findings.specs.References.{
  asked_basis,
  class_basis,
  entry_basis,
  imposed_basis,
  link_basis,
}
use Rattle.cl_findings.specs.declared.basis.Basis.{Basis}
use Rattle.cl_findings.specs.declared.basis.Basis.TheVariants as bases
use Rattle.cl_findings.specs.declared.load.NextRecord.TheVariants as nexts
use Rattle.cl_findings.specs.declared.load.Target.{Target}
use Rattle.cl_findings.specs.declared.load.Target.TheVariants as targets
use Rattle.cl_findings.specs.declared.basis.At.{At}
use Rattle.cl_findings.specs.declared.basis.At.TheVariants as ats

-- what else is recorded where a load ends: the class that does not fit, the supertypes of the class
-- whose record is refused, or its home's own record (5.3, 5.3.5)
abbrev pub at_needs : {A : Type 0} → Pathed → At A → List Need
at_needs p ats.Nothing = []
at_needs p (ats.Misfit place) = Entry (at_loader p) (at_name p) place ∷ []
at_needs {A} p (ats.Whole x) = next_needs {A = A} (nexts.Define x)
at_needs {A} p (ats.Away h) = next_needs {A = A} (nexts.Initiate h)

-- the record that is refused there, if one is (5.3, 5.3.4)
abbrev pub at_refused : {A : Type 0} → At A → Option Need
at_refused ats.Nothing = None
at_refused (ats.Misfit place) = None
at_refused {A} (ats.Whole x) = Some (next_need {A = A} (nexts.Define x))
at_refused {A} (ats.Away h) = Some (next_need {A = A} (nexts.Initiate h))

-- what an answer of a request rests on (5.3 to 5.4.3)
abbrev pub basis_of : {A : Type 0} → request.Request → Basis A → Based
basis_of r (bases.Load target path at) =
    load_basis r target path (at_needs path at) (at_refused at)
basis_of r (bases.Entry config d) = entry_basis config.value r d.value.class
basis_of r (bases.Class config d c) = class_basis config.value r d.value.class c.value.class
basis_of r (bases.Lookup d c) = class_basis d.config r d.own.class c.own.class
basis_of r (bases.Asked e met) =
    asked_basis r e.value met (slice_get (imposed.needs_of e.value.needs) met)
basis_of r (bases.Linked l place e met) =
    link_basis r l place e.value met (slice_get (imposed.needs_of e.value.needs) met)
basis_of r (bases.Imposed l earlier e met) =
    imposed_basis r l (map (λ x. x.value) earlier.items) e.value met
    (slice_get (imposed.needs_of e.value.needs) met)

-- the file of the class that a target names is what that one's bytes spell (5.3.5)
abbrev pub IsSpeltIn : {A : Type 0} → Option Content → Target A → Type 0
IsSpeltIn told targets.Own = Unit {0}
IsSpeltIn told (targets.Reference d) = IsSpelt told d.value.class d.value.file

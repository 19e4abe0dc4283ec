use Rattle.std.proofs.Common.{◌<◌, length, List, take, subst, sym}
use Rattle.cl_findings.specs.Findings.{Decides}
use Rattle.cl_hierarchy.specs.Imposed.{needs_of}
use Rattle.cl_model.specs.declared.need.Equality.{Equality}
use Rattle.cl_model.specs.States.{AllMet}
use Rattle.cl_registry.specs.Imposing.{OriginStands}
use Rattle.cl_registry.specs.Tables.{Shown, state_of}
use Rattle.cl_registry.specs.View.{shown_of}
use Rattle.cl_registry.proofs.Known.{standing_with}
use Rattle.cl_registry.proofs.Tested.{impose_by}
use Rattle.cl_registry.proofs.registry.Registry.may_impose.Goals as goal

pub returns-then-not-has_origin-clause-may : goal.returns-then-not-has_origin-clause-may
returns-then-not-has_origin-clause-may g c = λ may. c.if-not-has_origin.ensures.stands (subst (OriginStands c.args.self.now) (sym c.origin.ensures.origin) may.stands)

pub returns-clause-may : goal.returns-clause-may
returns-clause-may g c =
    let x : Shown = shown_of c.self.inside in
    impose_by c.args.self.now c.args.list.now c.args.place c.are_met.result (subst (OriginStands c.args.self.now) c.origin.ensures.origin c.if-not-has_origin.ensures.stands)
    (subst (λ (es : List Equality). c.args.place < length es) c.needs.ensures.needs c.if-place-needs.false)
    (subst (λ (y : Shown). Decides c.are_met.result (AllMet (state_of y) (needs_of (take c.args.place c.args.list.now.needs)))) c.self.view_is
    (subst (λ (es : List Equality). Decides c.are_met.result (AllMet (state_of x) (needs_of (take c.args.place es)))) c.needs-2.ensures.needs (c.are_met.ensures (state_of x) (standing_with (state_of x) _ _ c.as_slice.ensures.value c.self.invariant.book c.self.invariant.met))))

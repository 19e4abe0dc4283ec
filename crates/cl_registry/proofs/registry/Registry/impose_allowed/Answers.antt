use Rattle.std.proofs.Common.{◌∙◌, List, refl, subst, sym}
use Rattle.std.specs.Prelude.{IfSome, slice_get}
use Rattle.cl_hierarchy.specs.Imposed.{equal_need}
use Rattle.cl_model.specs.declared.need.Equality.{Equality}
use Rattle.cl_model.specs.States.{Met}
use Rattle.cl_registry.specs.Imposing.{Imposes, IsNextOf}
use Rattle.cl_registry.specs.Tables.{IsKept, Shown, state_of}
use Rattle.cl_registry.specs.View.{shown_of}
use Rattle.cl_registry.proofs.Imposed.{constrains_as, impose_lacks, impose_refused, names_equality}
use Rattle.cl_registry.proofs.Known.{standing_with}
use Rattle.cl_registry.proofs.Tested.{imposes_new, imposes_old, next_of, read_at}
use Rattle.cl_registry.proofs.registry.Registry.impose_allowed.Goals as goal

pub remember-requires-clause-met : goal.remember-requires-clause-met
remember-requires-clause-met g c =
    let x : Shown = shown_of c.self.inside in
    let at = read_at c.needs-equalities.result.now c.args.list.now.needs c.args.place c.index-equalities-place.result c.needs-equalities.ensures.needs c.requires.may.within c.index-equalities-place.is in
    let met = subst (λ (y : Shown). Met (state_of y) (equal_need c.index-equalities-place.result)) c.self.view_is (c.if-is_met.ensures (state_of x) (standing_with (state_of x) _ _ c.as_slice.ensures.value c.self.invariant.book c.self.invariant.met)) in
    subst (λ (es : List Equality). IfSome (slice_get es c.args.place) (λ e. Met (state_of c.args.self.now) (equal_need e))) (sym c.needs-equalities.ensures.needs) (next_of (Met (state_of c.args.self.now)) c.args.list.now c.args.place c.index-equalities-place.result at met)

pub returns-then-is_met : goal.returns-then-is_met
returns-then-is_met g c =
    let x : Shown = shown_of c.self.inside in
    let at = read_at c.needs-equalities.result.now c.args.list.now.needs c.args.place c.index-equalities-place.result c.needs-equalities.ensures.needs c.requires.may.within c.index-equalities-place.is in
    let met = subst (λ (y : Shown). Met (state_of y) (equal_need c.index-equalities-place.result)) c.self.view_is (c.if-is_met.ensures (state_of x) (standing_with (state_of x) _ _ c.as_slice.ensures.value c.self.invariant.book c.self.invariant.met)) in
    record {
      says = record {
        imposed = subst (λ (y : Shown). Imposes c.args.self.now y c.args.list.now c.args.place) (sym c.remember.ensures.unchanged) (imposes_old c.args.self.now c.args.list.now c.args.place c.index-equalities-place.result at met);
        met = subst (λ (y : Shown). IsNextOf c.args.list.now c.args.place (Met (state_of y))) (sym c.remember.ensures.unchanged) (next_of (Met (state_of c.args.self.now)) c.args.list.now c.args.place c.index-equalities-place.result at met);
        refused = tt;
        unchanged = tt;
        kept = c.remember.ensures.kept;
      };
    }

pub constrain-requires-clause-unmet : goal.constrain-requires-clause-unmet
constrain-requires-clause-unmet g c =
    let x : Shown = shown_of c.self.inside in
    (subst (λ (y : Shown). Met (state_of y) (equal_need c.index-equalities-place.result) → ⊥) c.self.view_is (c.if-is_met.ensures (state_of x) (standing_with (state_of x) _ _ c.as_slice.ensures.value c.self.invariant.book c.self.invariant.met)))

pub constrain-requires-clause-may : goal.constrain-requires-clause-may
constrain-requires-clause-may g c =
    let x : Shown = shown_of c.self.inside in
    constrains_as g.T.Told.told c.args.self.now c.args.list.now c.args.place c.index-equalities-place.result (subst (IsKept g.T.Told.told) c.self.view_is c.self.invariant.kept) c.needs-equalities.ensures.kept c.requires.may (read_at c.needs-equalities.result.now c.args.list.now.needs c.args.place c.index-equalities-place.result c.needs-equalities.ensures.needs c.requires.may.within c.index-equalities-place.is) (subst (λ (y : Shown). Met (state_of y) (equal_need c.index-equalities-place.result) → ⊥) c.self.view_is (c.if-is_met.ensures (state_of x) (standing_with (state_of x) _ _ c.as_slice.ensures.value c.self.invariant.book c.self.invariant.met)))

pub constrain-requires-clause-within : goal.constrain-requires-clause-within
constrain-requires-clause-within g c =
    names_equality g.T.Told.told c.args.self.now c.args.list.now c.args.place c.index-equalities-place.result c.needs-equalities.ensures.kept c.requires.may (read_at c.needs-equalities.result.now c.args.list.now.needs c.args.place c.index-equalities-place.result c.needs-equalities.ensures.needs c.requires.may.within c.index-equalities-place.is)

pub returns-in_default : goal.returns-in_default
returns-in_default g c =
    let x : Shown = shown_of c.self.inside in
    let at = read_at c.needs-equalities.result.now c.args.list.now.needs c.args.place c.index-equalities-place.result c.needs-equalities.ensures.needs c.requires.may.within c.index-equalities-place.is in
    let unmet = subst (λ (y : Shown). Met (state_of y) (equal_need c.index-equalities-place.result) → ⊥) c.self.view_is (c.if-is_met.ensures (state_of x) (standing_with (state_of x) _ _ c.as_slice.ensures.value c.self.invariant.book c.self.invariant.met)) in
    record {
      says = record {
        imposed = tt;
        met = tt;
        refused = impose_lacks c.args.self.now c.args.list.now c.args.place c.index-equalities-place.result c.requires.may at unmet;
        unchanged = refl;
        kept = subst (IsKept g.T.Told.told) c.self.view_is c.self.invariant.kept;
      };
    }

pub returns-in-Err : goal.returns-in-Err
returns-in-Err g c =
    let x : Shown = shown_of c.self.inside in
    let at = read_at c.needs-equalities.result.now c.args.list.now.needs c.args.place c.index-equalities-place.result c.needs-equalities.ensures.needs c.requires.may.within c.index-equalities-place.is in
    let unmet = subst (λ (y : Shown). Met (state_of y) (equal_need c.index-equalities-place.result) → ⊥) c.self.view_is (c.if-is_met.ensures (state_of x) (standing_with (state_of x) _ _ c.as_slice.ensures.value c.self.invariant.book c.self.invariant.met)) in
    record {
      says = record {
        imposed = tt;
        met = tt;
        refused = impose_refused c.args.self.now c.args.list.now c.args.place c.index-equalities-place.result c.in-Err.fault c.requires.may at unmet c.in-Err.ensures.refused;
        unchanged = c.in-Err.ensures.unchanged;
        kept = c.constrain.ensures.kept;
      };
    }

pub remember-requires-2-clause-met : goal.remember-requires-2-clause-met
remember-requires-2-clause-met g c =
    let at = read_at c.needs-equalities.result.now c.args.list.now.needs c.args.place c.index-equalities-place.result c.needs-equalities.ensures.needs c.requires.may.within c.index-equalities-place.is in
    subst (λ (es : List Equality). IfSome (slice_get es c.args.place) (λ e. Met (state_of c.constrain.new.self) (equal_need e))) (sym c.needs-equalities.ensures.needs) (next_of (Met (state_of c.constrain.new.self)) c.args.list.now c.args.place c.index-equalities-place.result at c.in-Ok-constrain.ensures.met)

pub returns : goal.returns
returns g c =
    let x : Shown = shown_of c.self.inside in
    let at = read_at c.needs-equalities.result.now c.args.list.now.needs c.args.place c.index-equalities-place.result c.needs-equalities.ensures.needs c.requires.may.within c.index-equalities-place.is in
    let unmet = subst (λ (y : Shown). Met (state_of y) (equal_need c.index-equalities-place.result) → ⊥) c.self.view_is (c.if-is_met.ensures (state_of x) (standing_with (state_of x) _ _ c.as_slice.ensures.value c.self.invariant.book c.self.invariant.met)) in
    record {
      says = record {
        imposed = imposes_new c.args.self.now c.remember-2.new.self c.args.list.now c.args.place c.index-equalities-place.result at unmet c.in-Ok-constrain.ensures.free (c.remember-2.ensures.unchanged ∙ c.in-Ok-constrain.ensures.constrained);
        met = subst (λ (y : Shown). IsNextOf c.args.list.now c.args.place (Met (state_of y))) (sym c.remember-2.ensures.unchanged) (next_of (Met (state_of c.constrain.new.self)) c.args.list.now c.args.place c.index-equalities-place.result at c.in-Ok-constrain.ensures.met);
        refused = tt;
        unchanged = tt;
        kept = c.remember-2.ensures.kept;
      };
    }

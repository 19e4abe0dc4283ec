use Rattle.std.proofs.Common.{◌≡◌, ◌∙◌, Some, None, option_map, ap, sym, subst, refl}
use Rattle.cl_model.specs.declared.request.Request.{Request}
use Rattle.cl_model.specs.declared.settled.Settled.{Settled}
use Rattle.cl_registry.specs.References.{settled_by, IsSettledIn}
use Rattle.cl_registry.specs.Settling.{IsToSettle, Settles}
use Rattle.cl_registry.specs.Tables.{Shown}
use Rattle.cl_registry.specs.View.{shown_of}
use Rattle.cl_registry.proofs.Binding.{bound, registry_bound}
use Rattle.cl_registry.proofs.Cited.{settled_by_in}
use Rattle.cl_registry.proofs.registry.Registry.settle.Goals as goal
use Rattle.cl_registry.proofs.registry.Registry.settle.Goals.{in-Ok, in-Err}
use Rattle.cl_registry.proofs.Kept.{come_by, kept_failed}

pub returns-in-Some-clause-found : goal.returns-in-Some-clause-found
returns-in-Some-clause-found g c =
    elim c.match-try_clone.branch [
      | in-Ok w ↦
          rw w.result-is (subst (λ (v : Settled). IsSettledIn c.args.self.now v.class v.index v) (sym w.in-Ok.ensures) (settled_by_in c.args.self.now c.request.result.now c.in-Some.settled.now.value (sym c.in-Some.ensures)))
      | in-Err w ↦ rw w.result-is tt
    ]

abbrev known : (g : _) → goal.In-Ok-bind g → Shown
known g c = shown_of c.self.inside

free : (g : _) (c : goal.In-Ok-bind g) → settled_by (known g c) c.args.finding.now.request ≡ None
free g c =
    subst (λ (y : Shown). settled_by y c.args.finding.now.request ≡ None) (sym c.self.view_is) (sym (c.in-None.ensures ∙ ap (λ (r : Request). settled_by c.args.self.now r) c.request.ensures.request))

to : (g : _) (c : goal.In-Ok-bind g) → IsToSettle (known g c) c.args.finding.now c.in-Ok-to_settle.settled
to g c = subst (λ (y : Shown). IsToSettle y c.args.finding.now c.in-Ok-to_settle.settled) (sym c.self.view_is) c.in-Ok-to_settle.ensures.settled

done : (g : _) (c : goal.In-Ok-bind g) → Settles (known g c) (record (known g c) { history = c.bind.new.history.items }) c.args.finding.now c.in-Ok-bind.bound.value × (settled_by (record (known g c) { history = c.bind.new.history.items }) c.args.finding.now.request ≡ Some c.in-Ok-bind.bound.value)
done g c = bound (known g c) c.args.finding.now c.in-Ok-to_settle.settled c.in-Ok-bind.bound.value c.bind.new.history.items (free g c) (to g c) c.in-Ok-bind.ensures.event c.in-Ok-bind.ensures.value

pub invariant_of-self : goal.invariant_of-self
invariant_of-self g c =
    let e = c.in-Err-bind.ensures in
    kept_failed g.T.Told.told _ _ _ _ _ _ _ _ _ c.to_come-left.result _ _ _ c.self.invariant refl e.same_history.0 (λ l n. refl) refl (λ b. b)
    (λ d i. ap (option_map (λ s. s.value)) (e.same_references d i)) refl e.same_history.1
    (come_by c.self.inside.left c.self.inside.round c.to_come-left.ensures c.rounds.ensures c.deref.ensures) e.room

pub invariant_of-self-2 : goal.invariant_of-self-2
invariant_of-self-2 g c =
    registry_bound g.T.Told.told (known g c) c.args.finding.now c.in-Ok-to_settle.settled c.bind.new.history.items _ _ _ _ _ _ _ _ c.to_come-left.result _ c.self.invariant c.request.ensures.rests (free g c) (to g c) c.in-Ok-bind.ensures.event refl (λ l n. refl) refl
    c.in-Ok-bind.ensures.put c.in-Ok-bind.ensures.used
    (come_by c.self.inside.left c.self.inside.round c.to_come-left.ensures c.rounds.ensures c.deref.ensures)
    c.in-Ok-bind.ensures.room

pub returns-clause-settles : goal.returns-clause-settles
returns-clause-settles g c = subst (λ (y : Shown). Settles y (record (known g c) { history = c.bind.new.history.items }) c.args.finding.now c.in-Ok-bind.bound.value) c.self.view_is (done g c).0

pub returns-clause-found : goal.returns-clause-found
returns-clause-found g c = settled_by_in _ c.args.finding.now.request c.in-Ok-bind.bound.value (done g c).1

pub returns-clause-shown : goal.returns-clause-shown
returns-clause-shown g c = (done g c).1

pub returns-clause-kept : goal.returns-clause-kept
returns-clause-kept g c = (invariant_of-self-2 g c).kept

use Rattle.std.proofs.Common.{◌≡◌, List, ap, sym, subst, refl}
use Rattle.std.specs.Prelude.{Contains}
use Rattle.cl_model.specs.declared.class.Class.{Class}
use Rattle.cl_model.specs.States.{IsRecorded}
use Rattle.cl_registry.specs.Imposing.{MayPrepareAs, with_prepare}
use Rattle.cl_registry.specs.Tables.{Shown, state_of}
use Rattle.cl_registry.specs.View.{shown_of}
use Rattle.cl_registry.proofs.Imposed.{kept_prepared, prepared_more}
use Rattle.cl_registry.proofs.Kept.{come_by, grown, kept_failed}
use Rattle.cl_registry.proofs.registry.Registry.prepare.Goals as goal

pub add_prepared-requires-clause-absent : goal.add_prepared-requires-clause-absent
add_prepared-requires-clause-absent g c =
    λ has.
    subst (λ (y : Shown). Contains (state_of y).prepared c.args.class.now → ⊥) (sym c.self.view_is) c.requires.unprepared
    (subst (λ (cs : List Class). Contains cs c.args.class.now) c.self.invariant.prepared has)

pub invariant_of-self : goal.invariant_of-self
invariant_of-self g c =
    let e = c.in-Err.ensures in
    kept_failed g.T.Told.told _ _ _ _ _ _ _ _ _ c.to_come-left.result _ _ _ c.self.invariant refl e.same_history.0 (λ l n. refl) refl (λ b. b) (λ d i. refl) e.same_prepared e.same_history.1
    (come_by c.self.inside.left c.self.inside.round c.to_come-left.ensures c.rounds.ensures c.deref.ensures) e.room

pub invariant_of-self-2 : goal.invariant_of-self-2
invariant_of-self-2 g c =
    let x : Shown = shown_of c.self.inside in
    let d = c.args.class.now in
    let e = c.in-Ok.ensures in
    kept_prepared g.T.Told.told x d _ _ _ _ _ _ c.to_come-left.result _ _ c.self.invariant (subst (λ (y : Shown). IsRecorded (state_of y) d) (sym c.self.view_is) c.requires.recorded)
    (subst (λ (y : Shown). Contains (state_of y).prepared d → ⊥) (sym c.self.view_is) c.requires.unprepared)
    (subst (λ (y : Shown). MayPrepareAs g.T.Told.told y d) (sym c.self.view_is) c.requires.may) (λ l m. refl) refl (λ k i. refl) e.added
    (record {
      one = e.event.used;
      come_is = come_by c.self.inside.left c.self.inside.round c.to_come-left.ensures c.rounds.ensures c.deref.ensures;
      fits = e.room;
    })
    e.event.events

pub returns-clause-prepared : goal.returns-clause-prepared
returns-clause-prepared g c =
    let x : Shown = shown_of c.self.inside in
    let y : Shown = record x { history = c.add_prepared.new.history.items } in
    subst (λ (z : Shown). y ≡ with_prepare z c.args.class.now) c.self.view_is (ap (λ hs. grown x x.rows hs) c.in-Ok.ensures.event.events)

pub returns-clause-stands : goal.returns-clause-stands
returns-clause-stands g c =
    let x : Shown = shown_of c.self.inside in
    subst (λ (y : Shown). Contains (state_of y).prepared c.args.class.now) (sym (ap (λ hs. grown x x.rows hs) c.in-Ok.ensures.event.events)) (prepared_more x c.args.class.now)

pub returns-clause-kept : goal.returns-clause-kept
returns-clause-kept g c = (invariant_of-self-2 g c).kept

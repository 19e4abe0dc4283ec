use Rattle.std.proofs.Common.{◌≡◌, ap, sym, subst, refl, length}
use Rattle.cl_model.specs.declared.need.Need.TheVariants as needs
use Rattle.cl_model.specs.States.{Met, Refused}
use Rattle.cl_model.specs.Texts.{EqualityNames}
use Rattle.cl_hierarchy.specs.Imposed.{equal_need}
use Rattle.cl_registry.specs.Imposing.{MayConstrainAs, with_constrain}
use Rattle.cl_registry.specs.Tables.{Shown, state_of}
use Rattle.cl_registry.specs.Refusals.{AddRefusedFor, BlamesNeed}
use Rattle.cl_registry.specs.View.{shown_of}
use Rattle.cl_registry.proofs.Entered.{add_refused}
use Rattle.cl_registry.proofs.Imposed.{blames_equality, free_equality, kept_constrained, met_constrain}
use Rattle.cl_registry.proofs.Kept.{come_by, grown, kept_failed}
use Rattle.cl_registry.proofs.registry.Registry.constrain.Goals as goal

pub returns-then-refuses-clause-refused : goal.returns-then-refuses-clause-refused
returns-then-refuses-clause-refused g c =
    let x : Shown = shown_of c.self.inside in
    let e = c.args.equality.now in
    subst (λ (y : Shown). BlamesNeed y (needs.Equal (record { name = c.args.name; one = e.one; other = e.other })) (equal_need e)) c.self.view_is
    (blames_equality x _ c.refuses.result e c.args.name c.requires.named c.refuses.ensures c.if-refuses.true c.self.invariant.book)

pub add_equality-requires-clause-unmet : goal.add_equality-requires-clause-unmet
add_equality-requires-clause-unmet g c =
    let x : Shown = shown_of c.self.inside in
    record { state = state_of x; stood_for = c.self.invariant.book; unmet = subst (λ (y : Shown). Met (state_of y) (equal_need c.args.equality.now) → ⊥) (sym c.self.view_is) c.requires.unmet }

pub invariant_of-self : goal.invariant_of-self
invariant_of-self g c =
    let e = c.in-Err.ensures in
    kept_failed g.T.Told.told _ _ _ _ _ _ _ _ _ c.to_come-left.result _ _ _ c.self.invariant refl e.same_history.0 (λ l n. refl) refl (λ b. rw e.same_book b) (λ d i. refl) refl e.same_history.1
    (come_by c.self.inside.left c.self.inside.round c.to_come-left.ensures c.rounds.ensures c.deref.ensures) e.room

pub invariant_of-self-2 : goal.invariant_of-self-2
invariant_of-self-2 g c =
    let x : Shown = shown_of c.self.inside in
    let n = c.args.equality.now in
    let e = c.in-Ok.ensures in
    kept_constrained g.T.Told.told x n _ _ _ _ _ _ _ _ c.to_come-left.result _ _ c.self.invariant (subst (λ (y : Shown). Met (state_of y) (equal_need n) → ⊥) (sym c.self.view_is) c.requires.unmet)
    (subst (λ (y : Shown). MayConstrainAs g.T.Told.told y n) (sym c.self.view_is) c.requires.may) (subst (λ (y : Shown). EqualityNames (length y.config.loaders) n) (sym c.self.view_is) c.requires.within) e.added (λ l m. refl)
    (record { width = refl; references_are = λ k i. refl; prepared_are = refl; room = record { one = e.event.used; come_is = (come_by c.self.inside.left c.self.inside.round c.to_come-left.ensures c.rounds.ensures c.deref.ensures); fits = e.room } })
    e.event.events

pub returns-in-Err-clause-refused : goal.returns-in-Err-clause-refused
returns-in-Err-clause-refused g c =
    let x : Shown = shown_of c.self.inside in
    let e = c.args.equality.now in
    subst (λ (y : Shown). AddRefusedFor y (equal_need e) c.in-Err.fault) c.self.view_is
    (add_refused x _ (equal_need e) c.in-Err.fault c.self.invariant.book (free_equality x _ c.refuses.result e c.args.name c.requires.named c.refuses.ensures c.if-refuses.false c.self.invariant.book) c.in-Err.ensures.blames)

pub returns-clause-constrained : goal.returns-clause-constrained
returns-clause-constrained g c =
    let x : Shown = shown_of c.self.inside in
    let y : Shown = record x { history = c.add_equality.new.history.items } in
    subst (λ (z : Shown). y ≡ with_constrain z c.args.equality.now) c.self.view_is (ap (λ hs. grown x x.rows hs) c.in-Ok.ensures.event.events)

pub returns-clause-free : goal.returns-clause-free
returns-clause-free g c =
    let x : Shown = shown_of c.self.inside in
    let e = c.args.equality.now in
    subst (λ (y : Shown). Refused (state_of y) (equal_need e) → ⊥) c.self.view_is (free_equality x _ c.refuses.result e c.args.name c.requires.named c.refuses.ensures c.if-refuses.false c.self.invariant.book)

pub returns-clause-met : goal.returns-clause-met
returns-clause-met g c =
    let x : Shown = shown_of c.self.inside in
    let e = c.args.equality.now in
    subst (λ (y : Shown). Met (state_of y) (equal_need e)) (sym (ap (λ hs. grown x x.rows hs) c.in-Ok.ensures.event.events)) (met_constrain x e)

pub returns-clause-kept : goal.returns-clause-kept
returns-clause-kept g c = (invariant_of-self-2 g c).kept

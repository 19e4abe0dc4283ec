use Rattle.std.proofs.Common.{◌≡◌, ◌∙◌, Some, None, ap, sym, subst, refl}
use Rattle.std.specs.Option.{option_map}
use Rattle.cl_model.specs.declared.need.Need.TheVariants as needs
use Rattle.cl_model.specs.States.{Refused}
use Rattle.cl_hierarchy.specs.Rows.{Rowed}
use Rattle.cl_registry.specs.Tables.{Shown, LacksRecord, MayJoin, InitiatedAs, looked_row, state_of}
use Rattle.cl_registry.specs.Refusals.{AddRefusedFor, BlamesNeed}
use Rattle.cl_registry.specs.View.{shown_of}
use Rattle.cl_registry.proofs.Entered.{add_refused, asked_entry, blamed_as, blames_record, kept_initiated, not_refused, share_refused, shown_initiate}
use Rattle.cl_registry.proofs.Kept.{come_by, kept_failed}
use Rattle.cl_registry.proofs.registry.Registry.join.Goals as goal
use Rattle.cl_findings.specs.Loads.{asked_record}

pub returns-then-not-admits-clause-refused : goal.returns-then-not-admits-clause-refused
returns-then-not-admits-clause-refused g c =
    let x : Shown = shown_of c.self.inside in
    let h = c.args.home.now in
    subst (λ (y : Shown). BlamesNeed y (needs.Entry c.asked_loader-then-not-admits.result c.args.name c.definer-then-not-admits.result) (asked_record h)) c.self.view_is
    (blamed_as x (asked_record h) (asked_record h) c.args.name c.args.name c.asked_loader.result c.asked_loader-then-not-admits.result c.definer.result c.definer-then-not-admits.result (c.asked_loader.ensures ∙ sym c.asked_loader-then-not-admits.ensures) (c.definer.ensures ∙ sym c.definer-then-not-admits.ensures) refl
    (blames_record x _ c.admits.result _ _ _ (asked_record h) (asked_entry h c.asked_loader.result c.definer.result c.args.name c.asked_loader.ensures c.definer.ensures c.requires.named) c.admits.ensures c.if-not-admits.true c.self.invariant.book) refl)

pub returns-in-Err-clause-refused : goal.returns-in-Err-clause-refused
returns-in-Err-clause-refused g c =
    let x : Shown = shown_of c.self.inside in
    let h = c.args.home.now in
    share_refused c.args.self.now h c.in-Err.fault c.requires.may (subst (λ (y : Shown). Refused (state_of y) (asked_record h) → ⊥) c.self.view_is (not_refused x _ c.admits.result _ (asked_record h) (asked_entry h c.asked_loader.result c.definer.result c.args.name c.asked_loader.ensures c.definer.ensures c.requires.named) c.admits.ensures c.if-not-admits.false c.self.invariant.book)) c.in-Err.ensures.refused

pub returns-in-Err-join-clause-refused : goal.returns-in-Err-join-clause-refused
returns-in-Err-join-clause-refused g c =
    let x : Shown = shown_of c.self.inside in
    let h = c.args.home.now in
    subst (λ (y : Shown). AddRefusedFor y (asked_record h) c.in-Err-join.fault) c.self.view_is
    (add_refused x _ (asked_record h) c.in-Err-join.fault c.self.invariant.book (not_refused x _ c.admits.result _ (asked_record h) (asked_entry h c.asked_loader.result c.definer.result c.args.name c.asked_loader.ensures c.definer.ensures c.requires.named) c.admits.ensures c.if-not-admits.false c.self.invariant.book) c.in-Err-join.ensures.blames)

pub join-requires-clause-fresh : goal.join-requires-clause-fresh
join-requires-clause-fresh g c =
    let h = c.args.home.now in
    sym (c.self.invariant.book.records h.name h.asked) ∙ subst (λ (y : Shown). LacksRecord y h.asked h.name) (sym c.self.view_is) c.requires.fresh

pub invariant_of-self : goal.invariant_of-self
invariant_of-self g c =
    let e = c.in-Err-join.ensures in
    kept_failed g.T.Told.told _ _ _ _ _ _ _ _ _ c.to_come-left.result _ _ _ c.self.invariant refl e.same_history.0 (λ l n. ap (option_map (λ r. r.value)) (e.same_tables l n)) e.width (λ b. rw e.same_book b) (λ d i. refl) refl
    e.same_history.1
    (come_by c.self.inside.left c.self.inside.round c.to_come-left.ensures c.rounds.ensures c.deref.ensures) e.room

pub invariant_of-self-2 : goal.invariant_of-self-2
invariant_of-self-2 g c =
    let x : Shown = shown_of c.self.inside in
    let h = c.args.home.now in
    let e = c.in-Ok-join.ensures in
    let fresh : LacksRecord x h.asked h.name = subst (λ (y : Shown). LacksRecord y h.asked h.name) (sym c.self.view_is) c.requires.fresh in
    let may : MayJoin x h = subst (λ (y : Shown). MayJoin y h) (sym c.self.view_is) c.requires.may in
    let is : looked_row x h.definer h.name ≡ Some c.in-Ok.row.value = subst (λ (y : Shown). looked_row y h.definer h.name ≡ Some c.in-Ok.row.value) (sym c.self.view_is) c.in-Ok.ensures.row in
    kept_initiated g.T.Told.told x h c.in-Ok.row.value _ _ _ _ _ _ _ _ c.to_come-left.result _ _ c.self.invariant c.in-Ok.ensures.leads c.in-Ok.ensures.within may fresh is e.entered e.put
    (record {
      width = e.width;
      references_are = λ k i. refl;
      prepared_are = refl;
      room = record { one = e.event.used; come_is = (come_by c.self.inside.left c.self.inside.round c.to_come-left.ensures c.rounds.ensures c.deref.ensures); fits = e.room };
    })
    e.event.events

pub returns-clause-initiated : goal.returns-clause-initiated
returns-clause-initiated g c =
    let x : Shown = shown_of c.self.inside in
    let h = c.args.home.now in
    let e = c.in-Ok-join.ensures in
    let y : Shown = record x { history = c.join.new.history.items } in
    let v = c.in-Ok-join.row.value in
    let may : MayJoin x h = subst (λ (z : Shown). MayJoin z h) (sym c.self.view_is) c.requires.may in
    let is : looked_row x h.definer h.name ≡ Some v = subst (λ (z : Shown). looked_row z h.definer h.name ≡ Some c.in-Ok.row.value) (sym c.self.view_is) c.in-Ok.ensures.row ∙ ap (λ (w : Rowed). Some w) (sym e.row) in
    subst (λ (z : Shown). InitiatedAs z y h v None) c.self.view_is (may, (e.entered (state_of x) c.self.invariant.book).0, shown_initiate x h _ e.event.events, is)

pub returns-clause-kept : goal.returns-clause-kept
returns-clause-kept g c = (invariant_of-self-2 g c).kept

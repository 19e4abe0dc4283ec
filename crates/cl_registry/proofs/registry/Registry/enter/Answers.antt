use Rattle.std.proofs.Common.{◌≡◌, ◌∙◌, ◌++◌, ◌∷◌, [], None, map, ap, sym, subst, refl}
use Rattle.std.specs.Option.{option_map}
use Rattle.cl_model.specs.declared.need.Need.TheVariants as needs
use Rattle.cl_delegation.specs.Searches.{Located}
use Rattle.cl_hierarchy.specs.Rows.{Rowed}
use Rattle.cl_registry.specs.Parts.{IsPut, shared_values}
use Rattle.cl_registry.specs.Tables.{Shown, IsNew, MayEnter, DefinedAs, row_for, table_row, state_of}
use Rattle.cl_registry.specs.Refusals.{AddRefusedFor, BlamesNeed}
use Rattle.cl_registry.specs.View.{shown_of}
use Rattle.cl_registry.proofs.Asked.{row_made}
use Rattle.cl_registry.proofs.Entered.{add_refused, blames_record, kept_defined, not_refused, own_entry, shown_define}
use Rattle.cl_registry.proofs.Kept.{come_by, kept_failed}
use Rattle.cl_registry.proofs.registry.Registry.enter.Goals as goal
use Rattle.cl_findings.specs.Loads.{own_record}

pub returns-then-not-admits-clause-refused : goal.returns-then-not-admits-clause-refused
returns-then-not-admits-clause-refused g c =
    let x : Shown = shown_of c.self.inside in
    subst (λ (y : Shown). BlamesNeed y (needs.Entry c.definer-home.result c.args.name c.definer-home.result) (own_record c.args.draft.now)) c.self.view_is
    (blames_record x _ c.admits.result _ _ _ (own_record c.args.draft.now) (own_entry g.T.Told.told c.args.draft.now c.home.ensures.draft c.args.name c.definer-home.result c.requires.named (c.definer-home.ensures ∙ ap (λ (h : Located). h.definer) (c.deref.ensures ∙ c.home.ensures.home))) c.admits.ensures
    c.if-not-admits.true c.self.invariant.book)

pub record-requires-clause-fresh : goal.record-requires-clause-fresh
record-requires-clause-fresh g c =
    let d = c.args.draft.now in
    sym (c.self.invariant.book.records d.class.name d.class.loader) ∙ subst (λ (y : Shown). IsNew y d) (sym c.self.view_is) c.requires.fresh

pub invariant_of-self : goal.invariant_of-self
invariant_of-self g c =
    let e = c.in-Err.ensures in
    kept_failed g.T.Told.told _ _ _ _ _ _ _ _ _ c.to_come-left.result _ _ _ c.self.invariant (ap (map (λ r. r.value)) e.same_rows) e.same_history.0 (λ l n. ap (option_map (λ r. r.value)) (e.same_tables l n)) e.width
    (λ b. rw e.same_book b) (λ d i. refl) refl e.same_history.1
    (come_by c.self.inside.left c.self.inside.round c.to_come-left.ensures c.rounds.ensures c.deref-2.ensures) e.room

pub invariant_of-self-2 : goal.invariant_of-self-2
invariant_of-self-2 g c =
    let x : Shown = shown_of c.self.inside in
    let d = c.args.draft.now in
    let e = c.in-Ok.ensures in
    let fresh : IsNew x d = subst (λ (y : Shown). IsNew y d) (sym c.self.view_is) c.requires.fresh in
    let may : MayEnter x d = subst (λ (y : Shown). MayEnter y d) (sym c.self.view_is) c.requires.may in
    let made : c.in-Ok.row.value ≡ row_for x d = e.row ∙ row_made (λ r. r.value) g.T.Told.told x c.self.invariant.kept (table_row c.self.inside.tables.items) c.self.invariant.rows d in
    kept_defined g.T.Told.told x d _ _ _ _ _ _ _ _ c.to_come-left.result _ _ _ c.self.invariant c.home.ensures.draft may fresh e.entered
    (subst (λ (v : Rowed). IsPut (shared_values (λ r. r.value) (table_row c.self.inside.tables.items)) (shared_values (λ r. r.value) (table_row c.record.new.tables.items)) d.class.loader d.class.name v) made e.put)
    (record {
      width = e.width;
      references_are = λ k i. refl;
      prepared_are = refl;
      room = record {
        one = e.event.used;
        come_is = come_by c.self.inside.left c.self.inside.round c.to_come-left.ensures c.rounds.ensures c.deref-2.ensures;
        fits = e.room;
      };
    })
    (e.rows ∙ ap (λ (v : Rowed). x.rows ++ v ∷ []) made) e.event.events

pub returns-clause-defined : goal.returns-clause-defined
returns-clause-defined g c =
    let x : Shown = shown_of c.self.inside in
    let d = c.args.draft.now in
    let e = c.in-Ok.ensures in
    let y : Shown = record x { rows = map (λ r. r.value) c.record.new.rows.items; history = c.record.new.history.items } in
    let v = c.in-Ok.row.value in
    let may : MayEnter x d = subst (λ (z : Shown). MayEnter z d) (sym c.self.view_is) c.requires.may in
    let made : v ≡ row_for x d = e.row ∙ row_made (λ r. r.value) g.T.Told.told x c.self.invariant.kept (table_row c.self.inside.tables.items) c.self.invariant.rows d in
    subst (λ (z : Shown). DefinedAs z y d v None) c.self.view_is
    (may, (e.entered (state_of x) c.self.invariant.book).0, shown_define x d _ _ (e.rows ∙ ap (λ (w : Rowed). x.rows ++ w ∷ []) made) e.event.events, made)

pub returns-clause-kept : goal.returns-clause-kept
returns-clause-kept g c = (invariant_of-self-2 g c).kept

pub returns-in-Err-clause-refused : goal.returns-in-Err-clause-refused
returns-in-Err-clause-refused g c =
    let x : Shown = shown_of c.self.inside in
    let d = c.args.draft.now in
    let own = own_entry g.T.Told.told d c.home.ensures.draft c.args.name c.definer-home.result c.requires.named (c.definer-home.ensures ∙ ap (λ (h : Located). h.definer) (c.deref.ensures ∙ c.home.ensures.home)) in
    subst (λ (y : Shown). AddRefusedFor y (own_record d) c.in-Err.fault) c.self.view_is
    (add_refused x _ (own_record d) c.in-Err.fault c.self.invariant.book (not_refused x _ c.admits.result _ (own_record d) own c.admits.ensures c.if-not-admits.false c.self.invariant.book) c.in-Err.ensures.blames)

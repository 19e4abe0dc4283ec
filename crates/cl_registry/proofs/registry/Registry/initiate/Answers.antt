use Rattle.std.proofs.Common.{◌≡◌, ◌∙◌, Some, None, ap, sym, subst}
use Rattle.std.specs.Prelude.{IfOk}
use Rattle.cl_model.specs.States.{recorded_definer}
use Rattle.cl_model.specs.Tables.{Records}
use Rattle.cl_hierarchy.specs.Rows.{Rowed}
use Rattle.cl_registry.specs.Tables.{Shown, Initiates, IsKept, LacksRecord, records_of, state_of, looked_row}
use Rattle.cl_registry.specs.View.{shown_of}
use Rattle.cl_registry.proofs.Asked.{found_none, found_some, known_initiated}
use Rattle.cl_registry.proofs.Looked.{looked_records}
use Rattle.cl_registry.proofs.Entered.{is_initiated, records_initiated, shown_initiated}
use Rattle.cl_registry.proofs.registry.Registry.initiate.Goals as goal
use Rattle.cl_registry.proofs.registry.Registry.initiate.Goals.{in-Ok, in-Err}
use Rattle.cl_model.proofs.Bind.{none_not_some}

abbrev known : (g : _) → goal.Joined-share g → Shown
known g c = shown_of c.self.inside

found : (g : _) (c : goal.Joined-share g) → looked_row (known g c) c.args.home.now.asked c.args.home.now.name ≡ Some c.in-Some.row.now.value
found g c =
    found_some (λ r. r.now) (λ r. r.value) g.T.Told.told (known g c) c.args.home.now.asked c.args.home.now.name c.self.invariant.kept _ (c.self.invariant.rows c.args.home.now.asked c.args.home.now.name) c.asked_row.result c.in-Some.row c.asked_row.ensures c.in-Some.is

records : (g : _) (c : goal.Joined-share g) → Records (state_of (known g c)) c.args.home.now.asked c.args.home.now.name c.in-Some.row.now.value.class
records g c = looked_records g.T.Told.told (known g c) c.args.home.now.asked c.args.home.now.name c.in-Some.row.now.value c.self.invariant.kept (found g c)

pub returns-in-Some-clause-initiated : goal.returns-in-Some-clause-initiated
returns-in-Some-clause-initiated g c =
    subst (λ (y : Shown). IfOk c.match-share.result (λ r. Initiates y y c.args.home.now r.value)) c.self.view_is
    elim c.match-share.branch [
      | in-Ok w ↦
          rw w.result-is (subst (λ (v : Rowed). Initiates (known g c) (known g c) c.args.home.now v) (sym w.in-Ok.ensures.row) (known_initiated (known g c) c.args.home.now c.in-Some.row.now.value (records g c) (found g c)))
      | in-Err w ↦ rw w.result-is tt
    ]

pub returns-in-Some-clause-found : goal.returns-in-Some-clause-found
returns-in-Some-clause-found g c =
    subst (λ (y : Shown). IfOk c.match-share.result (λ r. Records (state_of y) c.args.home.now.asked c.args.home.now.name r.value.class)) c.self.view_is
    elim c.match-share.branch [
      | in-Ok w ↦ rw w.result-is (subst (λ (v : Rowed). Records (state_of (known g c)) c.args.home.now.asked c.args.home.now.name v.class) (sym w.in-Ok.ensures.row) (records g c))
      | in-Err w ↦ rw w.result-is tt
    ]

pub returns-in-Some-clause-shown : goal.returns-in-Some-clause-shown
returns-in-Some-clause-shown g c =
    subst (λ (y : Shown). IfOk c.match-share.result (λ r. looked_row y c.args.home.now.asked c.args.home.now.name ≡ Some r.value)) c.self.view_is
    elim c.match-share.branch [
      | in-Ok w ↦ rw w.result-is (found g c ∙ ap (λ (v : Rowed). Some v) (sym w.in-Ok.ensures.row))
      | in-Err w ↦ rw w.result-is tt
    ]

pub returns-in-Some-clause-refused : goal.returns-in-Some-clause-refused
returns-in-Some-clause-refused g c =
    elim c.match-share.branch [
      | in-Ok w ↦ rw w.result-is tt
      | in-Err w ↦
          rw (w.result-is, w.in-Err.ensures.memory)
          (λ none.
          absurd (none_not_some _ (subst (λ (y : Shown). recorded_definer (records_of y) c.args.home.now.asked c.args.home.now.name ≡ None) (sym c.self.view_is) none) (records g c).1))
    ]

fresh : (g : _) (c : goal.In-Ok-initiate_new g) → LacksRecord c.args.self.now c.args.home.now.asked c.args.home.now.name
fresh g c =
    subst (λ (y : Shown). LacksRecord y c.args.home.now.asked c.args.home.now.name) c.self.view_is
    (found_none (λ r. r.now) (λ r. r.value) g.T.Told.told _ c.args.home.now.asked c.args.home.now.name c.self.invariant.kept _ (c.self.invariant.rows c.args.home.now.asked c.args.home.now.name) c.asked_row.result c.asked_row.ensures c.in-None.is)

pub initiate_new-requires : goal.initiate_new-requires
initiate_new-requires g c = record {
  fresh = (subst (λ (y : Shown). LacksRecord y c.args.home.now.asked c.args.home.now.name) c.self.view_is
      (found_none (λ r. r.now) (λ r. r.value) g.T.Told.told _ c.args.home.now.asked c.args.home.now.name c.self.invariant.kept _ (c.self.invariant.rows c.args.home.now.asked c.args.home.now.name) c.asked_row.result c.asked_row.ensures c.in-None.is));
}

pub returns-clause-initiated : goal.returns-clause-initiated
returns-clause-initiated g c =
    is_initiated g.T.Told.told c.args.self.now c.initiate_new.new.self c.args.home.now c.in-Ok-initiate_new.row.value (subst (λ (y : Shown). IsKept g.T.Told.told y) c.self.view_is c.self.invariant.kept) (fresh g c) c.in-Ok-initiate_new.ensures.initiated

pub returns-clause-found : goal.returns-clause-found
returns-clause-found g c =
    records_initiated g.T.Told.told c.args.self.now c.initiate_new.new.self c.args.home.now c.in-Ok-initiate_new.row.value (subst (λ (y : Shown). IsKept g.T.Told.told y) c.self.view_is c.self.invariant.kept) (fresh g c) c.in-Ok-initiate_new.ensures.initiated c.initiate_new.ensures.kept

pub returns-clause-shown : goal.returns-clause-shown
returns-clause-shown g c =
    shown_initiated g.T.Told.told c.args.self.now c.initiate_new.new.self c.args.home.now c.in-Ok-initiate_new.row.value (subst (λ (y : Shown). IsKept g.T.Told.told y) c.self.view_is c.self.invariant.kept) (fresh g c) c.in-Ok-initiate_new.ensures.initiated

use Rattle.std.proofs.Common.{◌≡◌, ◌∙◌, Some, None, ap, sym, subst}
use Rattle.std.specs.Prelude.{IfOk}
use Rattle.cl_model.specs.States.{recorded_definer}
use Rattle.cl_model.specs.Tables.{Records}
use Rattle.cl_hierarchy.specs.Rows.{Rowed}
use Rattle.cl_registry.specs.Tables.{Shown, Defines, IsKept, IsNew, records_of, state_of, looked_row}
use Rattle.cl_registry.specs.View.{shown_of}
use Rattle.cl_registry.proofs.Asked.{found_none, found_some, known_defined}
use Rattle.cl_registry.proofs.Looked.{looked_records}
use Rattle.cl_registry.proofs.Entered.{is_defined, records_defined, shown_defined}
use Rattle.cl_registry.proofs.registry.Registry.define.Goals as goal
use Rattle.cl_registry.proofs.registry.Registry.define.Goals.{in-Ok, in-Err}
use Rattle.cl_model.proofs.Bind.{none_not_some}

abbrev known : (g : _) → goal.Joined-share g → Shown
known g c = shown_of c.self.inside

found : (g : _) (c : goal.Joined-share g) → looked_row (known g c) c.args.draft.class.loader c.args.draft.class.name ≡ Some c.in-Some.row.now.value
found g c =
    found_some (λ r. r.now) (λ r. r.value) g.T.Told.told (known g c) c.args.draft.class.loader c.args.draft.class.name c.self.invariant.kept _ (c.self.invariant.rows c.args.draft.class.loader c.args.draft.class.name) c.own_row.result c.in-Some.row c.own_row.ensures c.in-Some.is

records : (g : _) (c : goal.Joined-share g) → Records (state_of (known g c)) c.args.draft.class.loader c.args.draft.class.name c.in-Some.row.now.value.class
records g c = looked_records g.T.Told.told (known g c) c.args.draft.class.loader c.args.draft.class.name c.in-Some.row.now.value c.self.invariant.kept (found g c)

pub returns-in-Some-clause-defined : goal.returns-in-Some-clause-defined
returns-in-Some-clause-defined g c =
    subst (λ (y : Shown). IfOk c.match-share.result (λ r. Defines y y c.args.draft r.value)) c.self.view_is
    elim c.match-share.branch [
      | in-Ok w ↦
          rw w.result-is (subst (λ (v : Rowed). Defines (known g c) (known g c) c.args.draft v) (sym w.in-Ok.ensures.row) (known_defined (known g c) c.args.draft c.in-Some.row.now.value (records g c) (found g c)))
      | in-Err w ↦ rw w.result-is tt
    ]

pub returns-in-Some-clause-found : goal.returns-in-Some-clause-found
returns-in-Some-clause-found g c =
    subst (λ (y : Shown). IfOk c.match-share.result (λ r. Records (state_of y) c.args.draft.class.loader c.args.draft.class.name r.value.class)) c.self.view_is
    elim c.match-share.branch [
      | in-Ok w ↦ rw w.result-is (subst (λ (v : Rowed). Records (state_of (known g c)) c.args.draft.class.loader c.args.draft.class.name v.class) (sym w.in-Ok.ensures.row) (records g c))
      | in-Err w ↦ rw w.result-is tt
    ]

pub returns-in-Some-clause-shown : goal.returns-in-Some-clause-shown
returns-in-Some-clause-shown g c =
    subst (λ (y : Shown). IfOk c.match-share.result (λ r. looked_row y c.args.draft.class.loader c.args.draft.class.name ≡ Some r.value)) c.self.view_is
    elim c.match-share.branch [
      | in-Ok w ↦ rw w.result-is (found g c ∙ ap (λ (v : Rowed). Some v) (sym w.in-Ok.ensures.row))
      | in-Err w ↦ rw w.result-is tt
    ]

pub returns-in-Some-clause-refused : goal.returns-in-Some-clause-refused
returns-in-Some-clause-refused g c =
    elim c.match-share.branch [
      | in-Ok w ↦ rw w.result-is tt
      | in-Err w ↦
          rw (w.result-is, w.in-Err.ensures.memory)
          (λ none.
          absurd (none_not_some _ (subst (λ (y : Shown). recorded_definer (records_of y) c.args.draft.class.loader c.args.draft.class.name ≡ None) (sym c.self.view_is) none) (records g c).1))
    ]

fresh : (g : _) (c : goal.After-drop-draft-in-Ok-define_new g) → IsNew c.args.self.now c.args.draft
fresh g c =
    subst (λ (y : Shown). IsNew y c.args.draft) c.self.view_is
    (found_none (λ r. r.now) (λ r. r.value) g.T.Told.told _ c.args.draft.class.loader c.args.draft.class.name c.self.invariant.kept _ (c.self.invariant.rows c.args.draft.class.loader c.args.draft.class.name) c.own_row.result c.own_row.ensures c.in-None.is)

pub define_new-requires : goal.define_new-requires
define_new-requires g c = record {
  fresh = subst (λ (y : Shown). IsNew y c.args.draft) c.self.view_is
      (found_none (λ r. r.now) (λ r. r.value) g.T.Told.told _ c.args.draft.class.loader c.args.draft.class.name c.self.invariant.kept _ (c.self.invariant.rows c.args.draft.class.loader c.args.draft.class.name) c.own_row.result c.own_row.ensures c.in-None.is);
}

pub returns-in-Ok-define_new-clause-defined : goal.returns-in-Ok-define_new-clause-defined
returns-in-Ok-define_new-clause-defined g c =
    is_defined g.T.Told.told c.args.self.now c.define_new.new.self c.args.draft c.in-Ok-define_new.row.value (subst (λ (y : Shown). IsKept g.T.Told.told y) c.self.view_is c.self.invariant.kept) (fresh g c) c.in-Ok-define_new.ensures.defined

pub returns-in-Ok-define_new-clause-found : goal.returns-in-Ok-define_new-clause-found
returns-in-Ok-define_new-clause-found g c =
    records_defined g.T.Told.told c.args.self.now c.define_new.new.self c.args.draft c.in-Ok-define_new.row.value (subst (λ (y : Shown). IsKept g.T.Told.told y) c.self.view_is c.self.invariant.kept) (fresh g c) c.in-Ok-define_new.ensures.defined
    c.define_new.ensures.kept

pub returns-in-Ok-define_new-clause-shown : goal.returns-in-Ok-define_new-clause-shown
returns-in-Ok-define_new-clause-shown g c =
    shown_defined g.T.Told.told c.args.self.now c.define_new.new.self c.args.draft c.in-Ok-define_new.row.value (subst (λ (y : Shown). IsKept g.T.Told.told y) c.self.view_is c.self.invariant.kept) (fresh g c) c.in-Ok-define_new.ensures.defined

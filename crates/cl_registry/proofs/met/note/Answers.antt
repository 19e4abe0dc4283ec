use Rattle.std.proofs.Common.{◌∙◌, Option, refl, subst, sym}
use Rattle.std.proofs.lemmas.Bool.{eqb-true, not-false}
use Rattle.std.specs.Prelude.{IfSome}
use Rattle.cl_hierarchy.specs.Imposed.{equal_need}
use Rattle.cl_model.specs.declared.need.Equality.{Equality}
use Rattle.cl_model.specs.States.{Met}
use Rattle.cl_registry.proofs.Known.{met_alone, met_noted}
use Rattle.cl_registry.proofs.Tested.{read_at}
use Rattle.cl_registry.proofs.met.note.Goals as goal

pub loop-at-preserved : goal.loop-at-preserved
loop-at-preserved c = λ s h.
    met_noted s c.loop-at.known.items c.loop-at.at c.index-list-at.result c.note_at.new.known.items c.note_at.ensures (c.loop-at.invariant s h) (met_alone s c.index-list-at.result (eqb-true _ _ (not-false _ (sym c.ne.ensures ∙ c.if-ne.false))))

pub returns-then-ne : goal.returns-then-ne
returns-then-ne c = λ s h met. c.loop-at.invariant s h

pub returns : goal.returns
returns c = λ s h met.
    let e = c.index-list-place.result in
    let at = read_at c.args.list.now c.args.list.now c.args.place e refl c.requires c.index-list-place.is in
    met_noted s c.loop-at.known.items c.args.place e c.note_at-2.new.known.items c.note_at-2.ensures (c.loop-at.invariant s h) (subst (λ (o : Option Equality). IfSome o (λ n. Met s (equal_need n))) at met)

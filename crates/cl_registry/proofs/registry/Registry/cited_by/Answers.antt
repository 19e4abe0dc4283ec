use Rattle.std.proofs.Common.{◌∙◌, ap, sym}
use Rattle.cl_model.specs.declared.request.Request.{Request}
use Rattle.cl_registry.specs.References.{cited_by}
use Rattle.cl_registry.specs.Tables.{Shown}
use Rattle.cl_registry.specs.View.{shown_of}
use Rattle.cl_registry.proofs.Asked.{found_none, found_some}
use Rattle.cl_registry.proofs.Looked.{looked_records}
use Rattle.cl_registry.proofs.Cited.{cited_found, cited_lacks}
use Rattle.cl_registry.proofs.registry.Registry.cited_by.Goals as goal

pub returns-in-Some : goal.returns-in-Some
returns-in-Some g c =
    let x : Shown = shown_of c.self.inside in
    let k = c.self.invariant.kept in
    let l = c.in-Resolve.loader in
    let n = c.in-Resolve.name in
    let found = found_some (λ r. r.now) (λ r. r.value) g.T.Told.told x l n k _ (c.self.invariant.rows l n) c.find.result c.in-Some.row c.find.ensures c.in-Some.is in
    cited_found x l c.in-Resolve.index c.in-Some.row.now.value c.class.result.now n (looked_records g.T.Told.told x l n c.in-Some.row.now.value k found) (c.class.ensures.class ∙ ap (λ r. r.class) c.deref.ensures)
    ∙ ap (λ (r : Request). cited_by x r) (sym c.in-Resolve.is) ∙ ap (λ (y : Shown). cited_by y c.args.request.now) c.self.view_is

pub returns-in-None : goal.returns-in-None
returns-in-None g c =
    let x : Shown = shown_of c.self.inside in
    let l = c.in-Resolve.loader in
    let n = c.in-Resolve.name in
    cited_lacks x l c.in-Resolve.index n (found_none (λ r. r.now) (λ r. r.value) g.T.Told.told x l n c.self.invariant.kept _ (c.self.invariant.rows l n) c.find.result c.find.ensures c.in-None.is)
    ∙ ap (λ (r : Request). cited_by x r) (sym c.in-Resolve.is) ∙ ap (λ (y : Shown). cited_by y c.args.request.now) c.self.view_is

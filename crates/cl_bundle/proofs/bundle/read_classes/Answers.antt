use Rattle.std.proofs.Common.{rules, ◌≡◌, ◌∷◌, map}
use Rattle.cl_config.specs.Views.{names_of}
use Rattle.cl_bundle.specs.Cuts.{cut_part}
use Rattle.cl_bundle.proofs.Storing.{contents_wrong, stored_more, stored_wrong}
use Rattle.cl_bundle.proofs.bundle.read_classes.Goals as goal

pub loop-section-preserved : goal.loop-section-preserved
loop-section-preserved c =
    let next : c.loop-section.section-iterator.rest.items ≡ c.in-Some.section ∷ c.next.new.self.rest.items = search rules in
    let put = c.in_ok-put.ensures in
    stored_more (names_of c.args.config.now) _ (map cut_part c.next.new.self.rest.items) (cut_part c.in-Some.section) c.loop-section.source c.put.new.source put.0
    (rw next at c.loop-section.invariant) put.1 put.2

pub returns-in_err-put : goal.returns-in_err-put
returns-in_err-put c =
    let next : c.loop-section.section-iterator.rest.items ≡ c.in-Some.section ∷ c.next.new.self.rest.items = search rules in
    contents_wrong (names_of c.args.config.now) (map cut_part c.args.classes.items) c.from_residual.result c.in_err-put.field-0.0 c.from_residual.ensures.1
    (stored_wrong (names_of c.args.config.now) _ (map cut_part c.next.new.self.rest.items) (cut_part c.in-Some.section) c.loop-section.source c.in_err-put.field-0.0
    (rw next at c.loop-section.invariant) c.in_err-put.ensures)

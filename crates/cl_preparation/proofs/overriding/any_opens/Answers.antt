use Rattle.std.proofs.Common.{◌≡◌, true, rules, ap, sym, ◌∙◌}
use Rattle.cl_classfile.specs.Files.{method_of}
use Rattle.cl_hierarchy.specs.Rows.{Rowed}
use Rattle.cl_preparation.specs.Relatives.{holds_of_key, bare}
use Rattle.cl_preparation.specs.Walks.{opens_to}
use Rattle.cl_preparation.proofs.Named.{any_at}
use Rattle.cl_preparation.proofs.overriding.any_opens.Goals as goal

pub returns-then-opens_to : goal.returns-then-opens_to
returns-then-opens_to g c =
    let yes : c.opens_to.result ≡ true = search rules in
    any_at (λ r. r.value) (λ b. holds_of_key (method_of c.args.name.now c.args.descriptor.now) (λ key. opens_to key (bare c.args.above.now) (bare b)))
    c.args.between.now c.loop-row.row-index c.row-item.result c.loop-row-test.true c.row-item.is
    (ap (λ (x : Rowed). holds_of_key (method_of c.args.name.now c.args.descriptor.now) (λ key. opens_to key (bare c.args.above.now) (bare x))) (sym c.deref.ensures) ∙ sym c.opens_to.ensures ∙ yes)

use Rattle.std.proofs.Common.{List, map, subst, sym, ap, ◌∙◌}
use Rattle.std.specs.Prelude.{filter}
use Rattle.std.specs.List.{AllByRecursion}
use Rattle.cl_classfile.specs.Files.{file_of, method_key}
use Rattle.cl_classfile.specs.References.{plain_symbol}
use Rattle.cl_model.specs.Lineages.{offers}
use Rattle.cl_hierarchy.specs.Lineages.{IsRowIn, kin_at, rows_in}
use Rattle.cl_members.specs.Members.{method_in}
use Rattle.cl_members.proofs.Lists.{all_kept, filter_map_is}
use Rattle.cl_members.proofs.interface.superinterfaces_offering.Goals as goal

pub returns-clause-kins : goal.returns-clause-kins
returns-clause-kins g c =
    ap (map (λ r. kin_at c.args.c.now r.value)) c.keep_offering.ensures
    ∙ filter_map_is (λ r. kin_at c.args.c.now r.value) (λ a. offers (method_in (method_key (plain_symbol c.args.symbol)) a.file)) c.in_ok-rows.rows.items
    ∙ ap (filter (λ a. offers (method_in (method_key (plain_symbol c.args.symbol)) a.file))) c.in_ok-rows.ensures.superinterfaces

pub returns-clause-rows : goal.returns-clause-rows
returns-clause-rows g c =
    subst (λ (rs : List _). AllByRecursion (λ r. IsRowIn (rows_in c.args.c.now) r.value) rs) (sym c.keep_offering.ensures)
    (all_kept (λ r. IsRowIn (rows_in c.args.c.now) r.value) (λ r. offers (method_in (method_key (plain_symbol c.args.symbol)) (file_of r.value.file))) c.in_ok-rows.rows.items c.in_ok-rows.ensures.rows)

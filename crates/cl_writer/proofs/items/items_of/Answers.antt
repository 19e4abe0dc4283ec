use Rattle.cl_writer.specs.Assemblies.{lists_of}
use Rattle.cl_writer.proofs.Wanted.{all_items}
use Rattle.cl_writer.proofs.items.items_of.Goals as goal

pub returns : goal.returns
returns c =
    all_items (lists_of c.args.assembly.now) c.new.result c.as_slice-references.result.now c.in_ok-items.items c.in_ok-items-2.items c.in_ok-items-3.items c.in_ok-items-4.items c.in_ok-items-5.items c.in_ok-items-6.items
    c.as_slice.result.now c.as_slice-2.result.now c.as_slice-3.result.now c.with_lines-2.result
    c.new.ensures c.as_slice-references.ensures.value c.as_slice.ensures.value c.as_slice-2.ensures.value c.as_slice-3.ensures.value
    c.in_ok-items.ensures c.in_ok-items-2.ensures c.in_ok-items-3.ensures c.in_ok-items-4.ensures c.in_ok-items-5.ensures c.in_ok-items-6.ensures c.with_lines-2.ensures

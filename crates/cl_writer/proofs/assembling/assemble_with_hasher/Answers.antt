use Rattle.std.proofs.Common.{sym, ◌∙◌, arith}
use Rattle.cl_writer.specs.Assemblies.{lists_of}
use Rattle.cl_writer.proofs.Described.{too_many, faulty, made, unread}
use Rattle.cl_writer.proofs.assembling.assemble_with_hasher.Goals as goal

pub returns-then-not-is_supported : goal.returns-then-not-is_supported
returns-then-not-is_supported c =
    unread _ (lists_of c.in_ok-assembly.assembly) _ c.in_ok-assembly.ensures c.version.ensures (sym c.is_supported.ensures ∙ c.if-not-is_supported.true)

pub returns-then-as_slice-gt-MOST_ENTRIES : goal.returns-then-as_slice-gt-MOST_ENTRIES
returns-then-as_slice-gt-MOST_ENTRIES c =
    too_many _ (lists_of c.in_ok-assembly.assembly) c.in_ok-items.items _ c.in_ok-assembly.ensures c.version.ensures (omega arith) (omega arith) (sym c.is_supported.ensures ∙ c.if-not-is_supported.false) c.in_ok-items.ensures
    (rw c.as_slice.ensures at c.if-as_slice-gt-MOST_ENTRIES.true)

pub returns : goal.returns
returns c =
    faulty _ (lists_of c.in_ok-assembly.assembly) c.in_ok-items.items _ c.in-Fault.fault c.in_ok-assembly.ensures c.in_ok-items.ensures c.in_ok-parts.ensures
    (rw c.in-Fault.is at c.in-Err.ensures.exact)

pub returns-in-Ok : goal.returns-in-Ok
returns-in-Ok c =
    made _ (lists_of c.in_ok-assembly.assembly) c.in_ok-items.items _ _ c.in_ok-assembly.ensures c.in_ok-items.ensures c.in_ok-parts.ensures c.in-Ok.ensures.found c.in-Ok.ensures.exact

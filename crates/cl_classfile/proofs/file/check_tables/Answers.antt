use Rattle.std.proofs.Common.{subst, List}
use Rattle.cl_classfile.specs.declared.entry.Entry.{Entry}
use Rattle.cl_classfile.specs.Structure.{MemberInfo}
use Rattle.cl_classfile.specs.Indexes.{IndexLeads}
use Rattle.cl_classfile.proofs.file.check_tables.Goals as goal

pub returns-clause-index : goal.returns-clause-index
returns-clause-index c =
    let i = c.index_of.result in
    let pool = c.as_slice-pool.result.now in
    let fs = c.as_slice-fields.result.now in
    let ms = c.as_slice-methods.result.now in
    let parts = c.args.parts.now in
    let leads : IndexLeads pool i fs ms = c.index_of.ensures pool fs ms c.in_ok-numbers.ensures.fields c.in_ok-numbers.ensures.methods c.in_ok-fields.ensures.placed c.in_ok-methods.ensures.placed in
    subst (λ (p : List Entry). IndexLeads p i parts.fields.items parts.methods.items) c.as_slice-pool.ensures.value
    (subst (λ (l : List MemberInfo). IndexLeads pool i l parts.methods.items) c.as_slice-fields.ensures.value
    (subst (λ (l : List MemberInfo). IndexLeads pool i fs l) c.as_slice-methods.ensures.value leads))

use Rattle.cl_tasks.proofs.LinkLeads.{trace_leads, whole_leads, whole_of}
use Rattle.cl_tasks.proofs.link.trace.Goals as goal

pub take_traced-requires-clause-lineage : goal.take_traced-requires-clause-lineage
take_traced-requires-clause-lineage g c =
    let le = rw c.count_above.ensures at c.if-chain-count_above.true in
    whole_of c.args.config.now.value c.args.chain c.in-Ok.whole c.requires.chain le c.in-Ok.ensures.clone

pub returns-in-Ok-clause-leads : goal.returns-in-Ok-clause-leads
returns-in-Ok-clause-leads g c =
    let le = rw c.count_above.ensures at c.if-chain-count_above.true in
    whole_leads g.T.Told.told c.args.config.now.value c.args.chain c.in-Ok.whole c.requires.chain le c.in-Ok.ensures.clone c.take_traced.ensures.leads

pub returns-in-Ok-try_clone-clause-leads : goal.returns-in-Ok-try_clone-clause-leads
returns-in-Ok-try_clone-clause-leads g c =
    let is = rw c.class_at.ensures at c.in-Ok-try_clone.ensures in
    trace_leads g.T.Told.told c.args.config.now.value c.args.chain c.in-Ok-try_clone.class c.requires.chain is

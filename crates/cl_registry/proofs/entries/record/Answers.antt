use Rattle.std.proofs.Common.{ap}
use Rattle.cl_registry.specs.Tables.{table_row}
use Rattle.cl_registry.proofs.Steps.{put_after}
use Rattle.cl_registry.proofs.entries.record.Goals as goal

pub returns-clause-put : goal.returns-clause-put
returns-clause-put g c =
    put_after (λ r. r.value) (table_row c.args.tables.now.items) (table_row c.reserve_row.new.tables.items) (table_row c.insert_reserved.new.tables.items) c.class.result.now.loader c.args.draft.now.class.loader c.in_ok-parts.parts.name
    c.args.draft.now.class.name c.in_ok-parts.parts.row c.in_ok-parts.parts.answered.value (ap (λ k. k.loader) c.class.ensures) c.in_ok-parts.ensures.name c.in_ok-parts.ensures.answered c.reserve_row.ensures.same c.insert_reserved.ensures.put

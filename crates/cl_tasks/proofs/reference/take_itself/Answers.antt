use Rattle.std.proofs.Common.{rules}
use Rattle.cl_tasks.proofs.reference.take_itself.Goals as goal

pub settle_class-requires-clause-ends : goal.settle_class-requires-clause-ends
settle_class-requires-clause-ends g c =
    let named = c.requires.names.named in
    record {
      of = search rules;
      cites = record { cited = named.cited; found = search rules; names = search rules };
      ends = search rules;
    }

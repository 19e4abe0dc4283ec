use Rattle.std.proofs.Common.{Some}
use Rattle.std.specs.Prelude.{nat_eq}
use Rattle.std.specs.HashMap.{Updates}
use Rattle.cl_registry.proofs.Referenced.{of_ok, put_first}
use Rattle.cl_registry.proofs.references.put_first.Goals as goal

pub returns-in-Ok-clause-put : goal.returns-in-Ok-clause-put
returns-in-Ok-clause-put c =
    let inner = of_ok (Updates nat_eq c.with_hasher-one.result c.insert.new.self c.args.index (Some c.args.settled)) c.insert.result c.if-is_err.ensures.value c.insert.ensures.updates in
    put_first c.args.references.now c.insert-2.new.self c.args.class c.args.index c.args.settled c.with_hasher-one.result c.insert.new.self c.requires c.with_hasher-one.ensures.empty inner.0 c.in-Ok.ensures.updates.0

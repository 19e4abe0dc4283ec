use Rattle.std.proofs.Common.{[], ◌∷◌, codes, string_bytes}
use Rattle.cl_writer.specs.Listings.{printed_type}
use Rattle.cl_writer.proofs.Printed.{ends_line}
use Rattle.cl_writer.proofs.listings.put_interface.Goals as goal

pub returns-clause-put : goal.returns-clause-put
returns-clause-put c =
    ends_line c.push_str-2.result (string_bytes c.args.text.now) (string_bytes c.push_str.new.self) (string_bytes c.put_type.new.text) (string_bytes c.push_str-2.new.self)
    (codes "implements ") (printed_type c.args.pool.now c.args.interface) (10 ∷ [])
    c.in_ok-push_str.ensures.bytes c.in_ok-put_type.ensures.put c.push_str-2.ensures.bytes

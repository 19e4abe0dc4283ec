use Rattle.std.proofs.Common.{[], ◌∷◌, ◌++◌, codes, string_bytes}
use Rattle.cl_writer.specs.Listings.{printed_super, printed_type}
use Rattle.cl_writer.proofs.Printed.{ends_class}
use Rattle.cl_writer.proofs.listings.put_class_line.Goals as goal
use Rattle.cl_names.specs.Escape.{four_digits}

pub returns : goal.returns
returns c =
    ends_class c.push_str-2.result (string_bytes c.args.text.now) (string_bytes c.put_head.new.text) (string_bytes c.put_type.new.text) (string_bytes c.push_str.new.self) (string_bytes c.put_super.new.text) (string_bytes c.push_str-2.new.self)
    (codes "class " ++ four_digits c.args.file.now.flags ++ codes " ") (printed_type c.args.file.now.pool c.args.file.now.this_class) (codes " ") (printed_super c.args.file.now.pool c.args.file.now.super_class) (10 ∷ [])
    (rw c.flags.ensures at c.in_ok-put_head.ensures)
    (rw (c.pool.ensures.entries, c.this_class.ensures) at c.in_ok-put_type.ensures)
    c.in_ok-push_str.ensures.bytes
    (rw (c.pool-2.ensures.entries, c.super_class.ensures) at c.in_ok-put_super.ensures)
    c.push_str-2.ensures.bytes

use Rattle.std.proofs.Common.{codes}
use Rattle.std.specs.List.{flat_map}
use Rattle.cl_streams.proofs.Written.{on_err, on_err_by, on_ok_by, passes_all, passes_then, refused_last, refused_next}
use Rattle.cl_writer.specs.Listings.{class_lines, implements_line, member_line}
use Rattle.cl_writer.proofs.Pages.{at_fields, at_interfaces, before_methods, class_waits}
use Rattle.cl_writer.proofs.printing.print_listing.Goals as goal

pub returns-in_err-print_interfaces-clause-part : goal.returns-in_err-print_interfaces-clause-part
returns-in_err-print_interfaces-clause-part g c =
    let file = c.args.file.now in
    let head = class_waits (g.W.Write.contents c.args.out.now) _ (class_lines file) (rw c.new-waiting.ensures.bytes at c.in_ok-put_class.ensures) in
    on_err c.from_residual-in_err-print_interfaces.result _
    (at_interfaces _ _ _ (class_lines file) (flat_map (implements_line file.pool) file.interfaces) (flat_map (member_line (codes "field ") file.pool) file.fields) (flat_map (member_line (codes "method ") file.pool) file.methods) head (rw (c.pool-2.ensures.entries, c.interfaces.ensures) at c.in_err-print_interfaces.ensures.part))

pub returns-in_err-print_members-clause-part : goal.returns-in_err-print_members-clause-part
returns-in_err-print_members-clause-part g c =
    let file = c.args.file.now in
    let head = class_waits (g.W.Write.contents c.args.out.now) _ (class_lines file) (rw c.new-waiting.ensures.bytes at c.in_ok-put_class.ensures) in
    let interfaces = rw (c.pool-2.ensures.entries, c.interfaces.ensures) at c.in_ok-print_interfaces.ensures.lines in
    on_err c.from_residual-in_err-print_members.result _
    (at_fields _ _ _ _ _ (class_lines file) (flat_map (implements_line file.pool) file.interfaces) (flat_map (member_line (codes "field ") file.pool) file.fields) (flat_map (member_line (codes "method ") file.pool) file.methods) head interfaces (rw (c.pool-3.ensures.entries, c.fields.ensures) at c.in_err-print_members.ensures.part))

pub returns-in_err-print_members-2-clause-part : goal.returns-in_err-print_members-2-clause-part
returns-in_err-print_members-2-clause-part g c =
    let file = c.args.file.now in
    let head = class_waits (g.W.Write.contents c.args.out.now) _ (class_lines file) (rw c.new-waiting.ensures.bytes at c.in_ok-put_class.ensures) in
    let interfaces = rw (c.pool-2.ensures.entries, c.interfaces.ensures) at c.in_ok-print_interfaces.ensures.lines in
    let fields = rw (c.pool-3.ensures.entries, c.fields.ensures) at c.in_ok-print_members.ensures.lines in
    on_err c.from_residual-in_err-print_members-2.result _
    (refused_next _ _ _ _ _ (flat_map (member_line (codes "method ") file.pool) file.methods) (before_methods _ _ _ _ _ _ (class_lines file) (flat_map (implements_line file.pool) file.interfaces) (flat_map (member_line (codes "field ") file.pool) file.fields) head interfaces fields) (rw (c.pool-4.ensures.entries, c.methods.ensures) at c.in_err-print_members-2.ensures.part))

pub returns-clause-lines : goal.returns-clause-lines
returns-clause-lines g c =
    let file = c.args.file.now in
    let head = class_waits (g.W.Write.contents c.args.out.now) _ (class_lines file) (rw c.new-waiting.ensures.bytes at c.in_ok-put_class.ensures) in
    let interfaces = rw (c.pool-2.ensures.entries, c.interfaces.ensures) at c.in_ok-print_interfaces.ensures.lines in
    let fields = rw (c.pool-3.ensures.entries, c.fields.ensures) at c.in_ok-print_members.ensures.lines in
    let methods = rw (c.pool-4.ensures.entries, c.methods.ensures) at c.in_ok-print_members-2.ensures.lines in
    let all = passes_then _ _ _ _ _ _ _ (flat_map (member_line (codes "method ") file.pool) file.methods) (before_methods _ _ _ _ _ _ (class_lines file) (flat_map (implements_line file.pool) file.interfaces) (flat_map (member_line (codes "field ") file.pool) file.fields) head interfaces fields) methods in
    on_ok_by c.write_out.result _ _ (passes_all _ _ _ _ _ all) (rw c.as_bytes.ensures.value at c.write_out.ensures.all)

pub returns-clause-part : goal.returns-clause-part
returns-clause-part g c =
    let file = c.args.file.now in
    let head = class_waits (g.W.Write.contents c.args.out.now) _ (class_lines file) (rw c.new-waiting.ensures.bytes at c.in_ok-put_class.ensures) in
    let interfaces = rw (c.pool-2.ensures.entries, c.interfaces.ensures) at c.in_ok-print_interfaces.ensures.lines in
    let fields = rw (c.pool-3.ensures.entries, c.fields.ensures) at c.in_ok-print_members.ensures.lines in
    let methods = rw (c.pool-4.ensures.entries, c.methods.ensures) at c.in_ok-print_members-2.ensures.lines in
    let all = passes_then _ _ _ _ _ _ _ (flat_map (member_line (codes "method ") file.pool) file.methods) (before_methods _ _ _ _ _ _ (class_lines file) (flat_map (implements_line file.pool) file.interfaces) (flat_map (member_line (codes "field ") file.pool) file.fields) head interfaces fields) methods in
    on_err_by c.write_out.result _ _ (refused_last _ _ _ _ _ all) (rw c.as_bytes.ensures.value at c.write_out.ensures.part)

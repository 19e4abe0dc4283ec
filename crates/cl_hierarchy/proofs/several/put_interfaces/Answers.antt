use Rattle.std.proofs.Common.{◌≡◌, ◌≤◌, ℕ, List, ap, arith, length}
use Rattle.cl_model.specs.Classes.{superinterfaces_of}
use Rattle.cl_classfile.specs.Files.{file_of}
use Rattle.cl_hierarchy.specs.Trees.{interface_definers, interfaces_in}
use Rattle.cl_hierarchy.proofs.Joining.{accepted_few, joins_all, joins_next, joins_none}
use Rattle.cl_hierarchy.proofs.several.put_interfaces.Goals as goal

pub loop-place-init : goal.loop-place-init
loop-place-init g c = joins_none c.args.classes.now.keys

pub loop-place-preserved : goal.loop-place-preserved
loop-place-preserved g c =
    joins_next (interfaces_in c.args.row.now) c.loop-place.place c.in_ok-interface_at.field-0 c.args.classes.now.keys c.loop-place.classes.keys c.put_if.new.classes.keys c.in_ok-interface_at.ensures c.loop-place.invariant c.in_ok-put_if.ensures

pub returns : goal.returns
returns g c =
    let few = accepted_few (superinterfaces_of (file_of c.args.row.now.file)) (interface_definers c.args.row.now) in
    let e : c.interface_definers-place-end.result.now ≡ interface_definers c.args.row.now = c.interface_definers-place-end.ensures in
    let count = ap (λ (ps : List ℕ). length ps) e in
    let test = c.loop-place-test.false in
    let many : length (interfaces_in c.args.row.now) ≤ c.loop-place.place = omega (arith, few, count, test) in
    joins_all (interfaces_in c.args.row.now) c.loop-place.place c.args.classes.now.keys c.loop-place.classes.keys many c.loop-place.invariant

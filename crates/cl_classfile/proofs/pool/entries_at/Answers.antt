use Rattle.std.proofs.Common.{◌≡◌, ◌++◌, ◌∷◌, [], ◌+◌, ◌∙◌, false, ap}
use Rattle.std.proofs.lemmas.Result.{err_from_is_err_and}
use Rattle.std.proofs.lemmas.List.{map-append}
use Rattle.cl_classfile.specs.Raw.{plain_entry, plain_entries}
use Rattle.cl_classfile.specs.Reading.{slot_at, next_place, entries_at}
use Rattle.cl_classfile.proofs.Loop.{starts, goes_on, ends, is_done}
use Rattle.cl_classfile.proofs.pool.entries_at.Goals as goal

pub loop-i-init : goal.loop-i-init
unfolding entries_at
loop-i-init c = rw c.in_ok-entries.ensures.items (starts (slot_at c.args.count) next_place c.args.count (1, false) c.args.bytes.now)

pub returns-in_err-entry : goal.returns-in_err-entry
returns-in_err-entry c =
    let p = err_from_is_err_and c.from_residual-in_err-entry.result c.from_residual-in_err-entry.ensures.1 in
    rw (p.1, p.2) (ends (slot_at c.args.count) next_place c.in_err-entry.field-0.0 (plain_entries c.loop-i.entries.items) c.args.count c.loop-i.i (c.loop-i.i + 1, c.loop-i.taken) c.loop-i.rest.now (entries_at c.args.count c.args.bytes.now) c.loop-i-test.true c.in_err-entry.ensures c.loop-i.invariant)

pub loop-i-preserved : goal.loop-i-preserved
loop-i-preserved c =
    let e : plain_entries c.push.new.self.items ≡ plain_entries c.loop-i.entries.items ++ plain_entry c.in_ok-entry.entry ∷ [] = ap plain_entries c.in_ok-push.ensures.items ∙ map-append plain_entry c.loop-i.entries.items (c.in_ok-entry.entry ∷ []) in
    rw (e, c.is_wide-taken.ensures) (goes_on (slot_at c.args.count) next_place (plain_entries c.loop-i.entries.items) c.args.count c.loop-i.i (c.loop-i.i + 1, c.loop-i.taken) c.loop-i.rest.now (plain_entry c.in_ok-entry.entry) c.in_ok-entry.after.now (entries_at c.args.count c.args.bytes.now) c.loop-i-test.true c.in_ok-entry.ensures c.loop-i.invariant)

pub returns : goal.returns
returns c = is_done (slot_at c.args.count) next_place (plain_entries c.loop-i.entries.items) c.args.count c.loop-i.i (c.loop-i.i + 1, c.loop-i.taken) c.loop-i.rest.now (entries_at c.args.count c.args.bytes.now) c.loop-i-test.false c.loop-i.invariant

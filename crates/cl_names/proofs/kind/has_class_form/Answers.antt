use Rattle.std.proofs.Common.{sym, ◌∙◌}
use Rattle.std.proofs.lemmas.List.{nil_from_length}
use Rattle.cl_names.proofs.Levels.{class_parts, parts_allowed, parts_slash, parts_broken, parts_end}
use Rattle.cl_names.proofs.kind.has_class_form.Goals as goal

pub returns-else-byte-eq47 : goal.returns-else-byte-eq47
returns-else-byte-eq47 c =
    sym (parts_broken c.loop-byte.fresh c.in-Some.byte.now c.in-Some.others.now c.loop-byte.rest.now c.in-Some.ensures.cases.0 (sym c.is_allowed.ensures ∙ c.if-is_allowed.false) c.else-byte-eq47.either)
    ∙ c.loop-byte.invariant
    ∙ sym (class_parts c.args.text.now)

pub loop-byte-preserved-then-is_allowed : goal.loop-byte-preserved-then-is_allowed
loop-byte-preserved-then-is_allowed c =
    sym (parts_allowed c.loop-byte.fresh c.in-Some.byte.now c.in-Some.others.now c.loop-byte.rest.now c.in-Some.ensures.cases.0 (sym c.is_allowed.ensures ∙ c.if-is_allowed.true)) ∙ c.loop-byte.invariant

pub loop-byte-preserved : goal.loop-byte-preserved
loop-byte-preserved c =
    sym (parts_slash c.loop-byte.fresh c.in-Some.byte.now c.in-Some.others.now c.loop-byte.rest.now c.in-Some.ensures.cases.0 c.if-byte-eq47.true c.if-not-fresh.true) ∙ c.loop-byte.invariant

pub returns : goal.returns
returns c = sym (parts_end c.loop-byte.fresh c.loop-byte.rest.now (nil_from_length c.loop-byte.rest.now c.in_default.ensures.cases)) ∙ c.loop-byte.invariant ∙ sym (class_parts c.args.text.now)

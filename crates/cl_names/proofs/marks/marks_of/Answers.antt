use Rattle.std.proofs.Common.{not, ap, ◌∙◌, arith}
use Rattle.std.specs.List.{list_all}
use Rattle.std.proofs.lemmas.List.{take_all}
use Rattle.cl_names.specs.Text.{is_single}
use Rattle.cl_names.specs.Kind.{is_allowed, is_angle}
use Rattle.cl_names.proofs.Walks.{one_tested, goes_on, ends, lacked, unqualified_is}
use Rattle.cl_names.proofs.marks.marks_of.Goals as goal

pub loop-byte-preserved : goal.loop-byte-preserved
loop-byte-preserved c =
    let seen = c.loop-byte.seen in
    let marks = c.marks_at-marks.result in
    let bytes = c.args.bytes.now in
    let i = c.loop-byte.byte-index in
    record {
      single = one_tested 0 is_single seen marks bytes i c.loop-byte-test.true c.marks_at-marks.ensures.single c.loop-byte.invariant.single;
      plain = one_tested 1 (λ p. not (is_angle p)) seen marks bytes i c.loop-byte-test.true c.marks_at-marks.ensures.plain c.loop-byte.invariant.plain;
      allowed = one_tested 2 is_allowed seen marks bytes i c.loop-byte-test.true c.marks_at-marks.ensures.allowed c.loop-byte.invariant.allowed;
      class = goes_on seen c.loop-byte.twice c.loop-byte.last marks bytes i c.loop-byte-test.true c.marks_at-marks.ensures.slash c.marks_at-marks.ensures.parted c.loop-byte.invariant.class;
    }

pub returns-clause-single : goal.returns-clause-single
returns-clause-single c = lacked c.loop-byte.seen 0 (λ e. omega (arith, e)) ∙ c.loop-byte.invariant.single ∙ ap (list_all is_single) (take_all c.loop-byte.byte-index c.args.bytes.now (omega arith))

pub returns-clause-plain : goal.returns-clause-plain
returns-clause-plain c = lacked c.loop-byte.seen 1 (λ e. omega (arith, e)) ∙ c.loop-byte.invariant.plain ∙ ap (list_all (λ p. not (is_angle p))) (take_all c.loop-byte.byte-index c.args.bytes.now (omega arith))

pub returns-clause-class : goal.returns-clause-class
returns-clause-class c =
    rw (lacked c.loop-byte.seen 4 (λ e. omega (arith, e)), lacked c.loop-byte.twice 3 (λ e. omega (arith, e)), lacked c.loop-byte.last 3 (λ e. omega (arith, e)))
    (ends c.loop-byte.seen c.loop-byte.twice c.loop-byte.last c.args.bytes.now c.loop-byte.byte-index (omega arith) c.loop-byte.invariant.class)

pub returns-clause-unqualified : goal.returns-clause-unqualified
returns-clause-unqualified c =
    unqualified_is c.args.bytes.now _ c.is_empty.result
    (lacked c.loop-byte.seen 2 (λ e. omega (arith, e)) ∙ c.loop-byte.invariant.allowed ∙ ap (list_all is_allowed) (take_all c.loop-byte.byte-index c.args.bytes.now (omega arith)))
    c.is_empty.ensures

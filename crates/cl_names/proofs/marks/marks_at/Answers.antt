-- The table is held against the tests at each of the 256 bytes, by computing.
use Rattle.std.proofs.Common.{◌==◌, ◌||◌, not, refl, arith}
use Rattle.cl_names.specs.declared.marks.TheConstants.{MARKS}
use Rattle.cl_names.specs.Text.{is_single}
use Rattle.cl_names.specs.Kind.{is_allowed, is_angle}
use Rattle.cl_names.proofs.Walks.{agree_below, agrees}
use Rattle.cl_names.proofs.marks.marks_at.Goals as goal

pub returns-clause-single : goal.returns-clause-single
unfolding agree_below
returns-clause-single c = agrees MARKS 0 is_single c.args.byte (omega arith) refl

pub returns-clause-plain : goal.returns-clause-plain
unfolding agree_below
returns-clause-plain c = agrees MARKS 1 (λ b. not (is_angle b)) c.args.byte (omega arith) refl

pub returns-clause-allowed : goal.returns-clause-allowed
unfolding agree_below
returns-clause-allowed c = agrees MARKS 2 is_allowed c.args.byte (omega arith) refl

pub returns-clause-slash : goal.returns-clause-slash
unfolding agree_below
returns-clause-slash c = agrees MARKS 3 (λ b. not (b == 47)) c.args.byte (omega arith) refl

pub returns-clause-parted : goal.returns-clause-parted
unfolding agree_below
returns-clause-parted c = agrees MARKS 4 (λ b. is_allowed b || b == 47) c.args.byte (omega arith) refl

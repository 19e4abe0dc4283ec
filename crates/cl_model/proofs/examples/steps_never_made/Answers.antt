use Rattle.std.proofs.Common.{◌≡◌, Some, refl}
use Rattle.cl_model.specs.Examples.{boot, app, plug}
use Rattle.cl_model.proofs.examples.steps_never_made.Goals as goal

pub returns-clause-define : goal.returns-clause-define
returns-clause-define c s h = absurd (let e : Some app ≡ Some plug = h.at_home in cc)

pub returns-clause-initiate_own : goal.returns-clause-initiate_own
returns-clause-initiate_own c s h = h.not_own refl

pub returns-clause-initiate_elsewhere : goal.returns-clause-initiate_elsewhere
returns-clause-initiate_elsewhere c s h = absurd (let e : Some boot ≡ Some app = h.found in cc)

pub returns-clause-bad_entry_settled : goal.returns-clause-bad_entry_settled
returns-clause-bad_entry_settled c s h = h.may_keep.settling.is_entry refl

pub returns-clause-member_settled : goal.returns-clause-member_settled
returns-clause-member_settled c s h = h.may_keep.settling.is_class_member refl

pub returns-clause-stray : goal.returns-clause-stray
returns-clause-stray c s h = h

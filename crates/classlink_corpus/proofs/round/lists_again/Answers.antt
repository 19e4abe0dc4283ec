use Rattle.std.proofs.Common.{◌∙◌}
use Rattle.classlink_corpus.proofs.Again.{none_again, again_or_not}
use Rattle.classlink_corpus.proofs.round.lists_again.Goals as goal

pub returns-in-Err-BadLine : goal.returns-in-Err-BadLine
returns-in-Err-BadLine c = none_again c.assembles_to_one_answer.ensures.one c.as_str.result.now c.args.file.now c.in-Err-BadLine.field-0 (c.as_str.ensures.value ∙ c.in_ok-text.ensures) c.in-Err-BadLine.ensures (λ e. absurd cc)

pub returns-in-Err-Invalid : goal.returns-in-Err-Invalid
returns-in-Err-Invalid c = none_again c.assembles_to_one_answer.ensures.one c.as_str.result.now c.args.file.now c.in-Err-Invalid.field-0 (c.as_str.ensures.value ∙ c.in_ok-text.ensures) c.in-Err-Invalid.ensures (λ e. absurd cc)

pub returns : goal.returns
returns c = again_or_not c.assembles_to_one_answer.ensures.one c.as_str.result.now c.as_str-3.result.now c.as_str-2.result.now c.args.file.now c.in-Ok.assembled c.is_same.result (c.as_str.ensures.value ∙ c.in_ok-text.ensures) (c.as_str-3.ensures.value ∙ c.in_ok-text.ensures) (c.as_str-2.ensures.value ∙ c.in_ok-again.ensures) c.in-Ok.ensures c.is_same.ensures

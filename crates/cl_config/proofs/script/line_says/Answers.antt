use Rattle.std.proofs.Common.{refl}
use Rattle.cl_config.proofs.Requests.{no_request}
use Rattle.cl_config.proofs.script.line_says.Goals as goal

pub returns-in_default-2 : goal.returns-in_default-2
returns-in_default-2 c = (
  refl,
  record {
    request = λ action loader name t. no_request c.args.line.text.now _ action c.in-Some.word.now c.in-Some.text.now loader name c.in-Some.ensures (rw c.in_default-2.is at c.in_ok-name.ensures.writes) t;
    round = c.if-is_then.ensures;
  },
)

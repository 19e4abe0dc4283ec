use Rattle.std.proofs.Common.{string_bytes, map, codes}
use Rattle.std.proofs.lemmas.Result.{on_ok_weaker}
use Rattle.cl_model.specs.Classes.{class}
use Rattle.cl_model.specs.Lines.{class_text}
use Rattle.cl_model.proofs.Texts.{two_put}
use Rattle.cl_model.proofs.answer.Answer.put_text.Goals as goal

pub returns-in_ok-push_str-in-SourceFault : goal.returns-in_ok-push_str-in-SourceFault
returns-in_ok-push_str-in-SourceFault c =
    let fault = c.in-SourceFault in
    rw fault.is
    (on_ok_weaker c.put_located.result
    (two_put (string_bytes c.args.text.now) _ _ (codes "SourceFault ") (class_text (map string_bytes c.args.loaders.now) (class fault.name fault.loader))
    c.in_ok-push_str-in-SourceFault.ensures.bytes)
    c.put_located.ensures)

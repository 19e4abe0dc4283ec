use Rattle.std.proofs.Common.{string_bytes, ◌∷◌, []}
use Rattle.std.proofs.lemmas.Result.{on_ok_weaker}
use Rattle.cl_names.specs.Escape.{escaped_text}
use Rattle.cl_model.proofs.Keys.{spelled_again}
use Rattle.cl_model.proofs.Texts.{three_put}
use Rattle.cl_model.proofs.key.MemberKey.put_text.Goals as goal

pub returns : goal.returns
returns c =
    let key = c.self.inside in
    rw (← c.self.view_is, spelled_again key.descriptor c.self.invariant)
    (on_ok_weaker c.put_text-2.result
    (three_put (string_bytes c.args.text.now) _ _ _ (escaped_text key.name) (32 ∷ []) (escaped_text key.descriptor) c.in_ok-put_text.ensures c.in_ok-push_str.ensures.bytes)
    c.put_text-2.ensures)

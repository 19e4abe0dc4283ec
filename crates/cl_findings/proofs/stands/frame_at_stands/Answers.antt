use Rattle.std.proofs.Common.{◌∙◌, sym, ap, Option}
use Rattle.std.specs.Prelude.{option_map}
use Rattle.std.proofs.lemmas.Option.{slice_get-map}
use Rattle.cl_model.specs.Frames.{KeepsAccepted}
use Rattle.cl_hierarchy.specs.Frames.{Framed, frame_of}
use Rattle.cl_findings.proofs.Stood.{tells_some}
use Rattle.cl_findings.proofs.stands.frame_at_stands.Goals as goal

pub returns-in-Some : goal.returns-in-Some
returns-in-Some g c =
    tells_some _ (λ s. KeepsAccepted s) _ (frame_of c.in-Some.frame.now) c.frame_stands.result
    (slice_get-map frame_of c.args.path.now.frames c.args.at ∙ ap (λ (o : Option Framed). option_map frame_of o) (sym c.in-Some.ensures)) c.frame_stands.ensures

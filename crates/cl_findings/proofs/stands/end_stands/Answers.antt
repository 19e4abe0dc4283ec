use Rattle.cl_model.specs.Frames.{KeepsAccepted, kept_of}
use Rattle.std.proofs.Common.{[], ◌∷◌}
use Rattle.cl_model.specs.States.{AllMet}
use Rattle.cl_hierarchy.specs.Frames.{frame_of}
use Rattle.cl_findings.proofs.Stood.{frame_to_met, met_to_frame, tells_same}
use Rattle.cl_findings.proofs.stands.end_stands.Goals as goal

pub returns-in-Whole : goal.returns-in-Whole
returns-in-Whole g c =
    let x = frame_of c.in-Whole.frame in
    rw c.in-Whole.is
    (tells_same _ (λ s. KeepsAccepted s x) (λ s. AllMet s (kept_of (x ∷ []))) c.frame_stands.result (λ s at. frame_to_met s x) (λ s at. met_to_frame s x) c.frame_stands.ensures)

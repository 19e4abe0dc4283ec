use Rattle.std.proofs.Common.{map}
use Rattle.std.specs.Prelude.{IfSome, slice_get, take}
use Rattle.cl_model.specs.States.{AllMet, Refused}
use Rattle.cl_model.proofs.Closed.{met_both}
use Rattle.cl_model.proofs.Progress.{met_split}
use Rattle.cl_hierarchy.specs.Imposed.{needs_of}
use Rattle.cl_findings.specs.Findings.{Carries}
use Rattle.cl_findings.specs.References.{all_needs, imposed_basis}
use Rattle.cl_findings.proofs.Stood.{tells_same}
use Rattle.cl_findings.proofs.stands.imposed_link_stands.Goals as goal

pub returns : goal.returns
returns g c =
    let es = map (λ e. e.value) c.args.earlier.now in
    let ns = needs_of c.args.equalities.now.needs in
    let k = c.args.met in
    let own = rw c.class.ensures.class at c.if-not-class_stands.ensures in
    tells_same _ (λ s. AllMet s (take k ns) × IfSome (slice_get ns k) (Refused s)) (λ s. Carries s (imposed_basis c.args.request.now c.args.lineage.now es c.args.equalities.now k (slice_get ns k))) c.imposed_stand.result
    (λ s at h. ((own s at, met_both s (all_needs es) (take k ns) (c.if-not-lists_stand.ensures s at) h.0), tt, h.1)) (λ s at h. ((met_split s (all_needs es) (take k ns) h.0.1).1, h.2)) c.imposed_stand.ensures

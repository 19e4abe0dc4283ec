use Rattle.cl_model.specs.Frames.{kept_of}
use Rattle.std.specs.Prelude.{IfSome}
use Rattle.cl_model.specs.States.{Refused}
use Rattle.cl_hierarchy.specs.Paths.{frames_of}
use Rattle.cl_findings.specs.Bases.{at_needs, at_refused}
use Rattle.cl_findings.specs.Findings.{Carries}
use Rattle.cl_findings.specs.Loads.{load_basis, target_needs}
use Rattle.cl_findings.proofs.Stood.{part_first, part_second, part_last, parts_both, tells_fails, tells_same}
use Rattle.cl_findings.proofs.stands.load_stands.Goals as goal

pub returns-then-not-target_stands : goal.returns-then-not-target_stands
returns-then-not-target_stands g c = λ s held all. c.if-not-target_stands.ensures s held (part_first s _ (kept_of (frames_of c.args.path.now)) (at_needs c.args.path.now c.args.at.now) all.0)

pub returns-then-not-path_stands : goal.returns-then-not-path_stands
returns-then-not-path_stands g c = λ s held all. c.if-not-path_stands.ensures s held (part_second s (target_needs c.args.request.now c.args.target.now) _ (at_needs c.args.path.now c.args.at.now) all.0)

pub returns-then-end_stands : goal.returns-then-end_stands
returns-then-end_stands g c =
    let a = target_needs c.args.request.now c.args.target.now in
    let b = kept_of (frames_of c.args.path.now) in
    let e = at_needs c.args.path.now c.args.at.now in
    tells_same _ (λ s. IfSome (at_refused c.args.at.now) (Refused s)) (λ s. Carries s (load_basis c.args.request.now c.args.target.now c.args.path.now e (at_refused c.args.at.now))) c.end_is_refused.result
    (λ s at h. (parts_both s a b e (c.if-not-target_stands.ensures s at) (c.if-not-path_stands.ensures s at) (c.if-end_stands.ensures s at), tt, h)) (λ s at h. h.2) c.end_is_refused.ensures

pub returns-else-end_stands : goal.returns-else-end_stands
returns-else-end_stands g c =
    let a = target_needs c.args.request.now c.args.target.now in
    let b = kept_of (frames_of c.args.path.now) in
    let e = at_needs c.args.path.now c.args.at.now in
    tells_fails _ (λ s. Carries s (load_basis c.args.request.now c.args.target.now c.args.path.now e (at_refused c.args.at.now))) c.end_stands.result c.if-end_stands.false (λ s at all. c.if-end_stands.ensures s at (part_last s a b e all.0))

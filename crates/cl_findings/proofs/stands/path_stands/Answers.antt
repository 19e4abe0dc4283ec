use Rattle.std.proofs.Common.{◌≤◌, arith, length}
use Rattle.std.proofs.lemmas.List.{length-map}
use Rattle.cl_model.specs.Frames.{KeepsAccepted}
use Rattle.cl_model.proofs.Stacks.{kept_is_met}
use Rattle.cl_hierarchy.specs.Frames.{frame_of}
use Rattle.cl_hierarchy.specs.Paths.{frames_of}
use Rattle.cl_findings.proofs.Stood.{all_there, one_there}
use Rattle.cl_findings.proofs.stands.path_stands.Goals as goal

pub returns-then-not-frame_at_stands : goal.returns-then-not-frame_at_stands
returns-then-not-frame_at_stands g c = λ s held all.
    let xs = frames_of c.args.path.now in
    c.if-not-frame_at_stands.ensures s held (one_there (KeepsAccepted s) xs c.loop-at.at ((kept_is_met s xs).0 all))

pub returns : goal.returns
returns g c = λ s held.
    let xs = frames_of c.args.path.now in
    let many = length-map c.args.path.now.frames frame_of in
    let len = c.len-at-end.ensures in
    let e = c.loop-at-test.false in
    let le : length xs ≤ c.loop-at.at = omega (arith, many, len, e) in
    (kept_is_met s xs).1 (all_there (KeepsAccepted s) xs c.loop-at.at le (λ k lt. c.loop-at.invariant k lt s held))

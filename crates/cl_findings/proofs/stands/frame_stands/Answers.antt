use Rattle.std.proofs.Common.{◌≤◌, arith, length}
use Rattle.cl_classfile.specs.Files.{file_of}
use Rattle.cl_model.specs.Classes.{supers}
use Rattle.cl_hierarchy.specs.Frames.{frame_of}
use Rattle.cl_findings.proofs.Stood.{all_there, accepted_within}
use Rattle.cl_findings.proofs.stands.frame_stands.Goals as goal

pub returns : goal.returns
returns g c =
    let within = accepted_within (supers (file_of c.args.frame.now.draft.file)) c.args.frame.now.definers in
    let e = rw c.definers-at-end.ensures.definers at c.loop-at-test.false in
    let le : length (frame_of c.args.frame.now).accepted ≤ c.loop-at.at = omega (arith, within, e) in
    λ s held. all_there _ (frame_of c.args.frame.now).accepted c.loop-at.at le (λ k lt. c.loop-at.invariant k lt s held)

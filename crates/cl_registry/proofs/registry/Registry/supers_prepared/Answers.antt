use Rattle.std.proofs.Common.{◌≡◌, ◌∙◌, ap, sym, arith, length}
use Rattle.cl_classfile.specs.Files.{file_of}
use Rattle.cl_model.specs.Classes.{supers}
use Rattle.cl_registry.specs.Imposing.{IsPreparedAbove}
use Rattle.cl_findings.proofs.Stood.{all_there, one_there}
use Rattle.cl_registry.proofs.registry.Registry.supers_prepared.Goals as goal

pub returns-then-not-super_prepared : goal.returns-then-not-super_prepared
returns-then-not-super_prepared g c =
    λ all. c.if-not-super_prepared.ensures (one_there (IsPreparedAbove c.args.self.now c.args.row.now.class) (supers (file_of c.args.row.now.file)) c.loop-at.at all)

pub returns : goal.returns
returns g c =
    let each = c.definers-at-end.ensures.each in
    let long : length (supers (file_of c.args.row.now.file)) ≡ length c.definers-at-end.result.now = sym each ∙ sym (ap length c.definers-at-end.ensures.definers) in
    let out = c.loop-at-test.false in
    all_there (IsPreparedAbove c.args.self.now c.args.row.now.class) (supers (file_of c.args.row.now.file)) (length (supers (file_of c.args.row.now.file))) (omega arith) (λ k h. c.loop-at.invariant k (omega arith))

use Rattle.std.proofs.Common.{◌≡◌, ◌-◌, length, length-append, ap, arith}
use Rattle.std.proofs.lemmas.Str.{IsCharBoundary-at_seam}
use Rattle.cl_bundle.proofs.sections.before.Goals as goal

pub split_at-requires : goal.split_at-requires
split_at-requires c =
    let front = c.requires.0 in
    let all = ap length c.requires.1 in
    let place : length c.args.text.now - length c.args.rest.now ≡ length front = omega (arith, all, length-append front c.args.rest.now) in
    rw place (IsCharBoundary-at_seam c.args.text.now front c.args.rest.now c.requires.1 c.utf8.rest)

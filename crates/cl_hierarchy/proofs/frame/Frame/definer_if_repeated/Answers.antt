use Rattle.std.proofs.Common.{◌≡◌, ◌∙◌, ℕ, List, length, slice_get, refl, sym, ap, arith}
use Rattle.std.proofs.lemmas.Option.{slice_get_read}
use Rattle.cl_hierarchy.proofs.Frames.{held}
use Rattle.cl_hierarchy.proofs.Repeats.{repeats_at}
use Rattle.cl_hierarchy.proofs.frame.Frame.definer_if_repeated.Goals as goal

pub returns : goal.returns
returns g c =
    let counted : c.len.result ≡ length c.self.inside.definers.items = omega arith in
    repeats_at (held c.self.inside.draft c.self.inside.definers.items) c.args.self.now c.len.result c.first_of_name-first.result c.in_ok-definer.definer.now c.first_of_name-first.ensures.same counted c.self.invariant
    (ap (λ (l : List ℕ). slice_get l c.first_of_name-first.result) (sym c.as_slice.ensures.value)
    ∙ slice_get_read c.as_slice.result.now _ c.first_of_name-first.result c.in_ok-definer.definer.now refl c.in_ok-definer.ensures.lookup.3.0 c.in_ok-definer.ensures.lookup.1) c.self.view_is

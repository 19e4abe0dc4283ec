use Rattle.std.proofs.Common.{◌≡◌, ℕ, length, ap, sym, ◌∙◌, slice_get, arith}
use Rattle.std.specs.Vec.{vec_len}
use Rattle.cl_classfile.specs.Files.{file_of}
use Rattle.cl_model.specs.Classes.{supers}
use Rattle.cl_model.specs.Frames.{wanted_supertype}
use Rattle.cl_hierarchy.specs.Frames.{Framed, frame_of}
use Rattle.cl_hierarchy.proofs.Frames.{as_many}
use Rattle.cl_hierarchy.proofs.frame.Frame.next_supertype.Goals as goal

pub returns : goal.returns
returns g c =
    let others = supers (file_of c.self.inside.draft.file) in
    let counted : vec_len c.self.inside.definers ≡ length c.self.inside.definers.items = omega arith in
    c.supertype.ensures.name ∙ ap (λ (n : ℕ). slice_get others n) (c.len.ensures ∙ counted ∙ sym (as_many others c.self.inside.definers.items c.self.invariant))
    ∙ ap (λ (x : Framed). wanted_supertype (frame_of x)) c.self.view_is

use Rattle.std.proofs.Common.{List, ℕ, length, ◌≤◌, refl, ap, subst, sym, ◌∙◌}
use Rattle.std.specs.Prelude.{IsSome}
use Rattle.cl_classfile.specs.Files.{file_of}
use Rattle.cl_model.specs.Classes.{supers}
use Rattle.cl_model.specs.Frames.{wanted_supertype}
use Rattle.cl_hierarchy.specs.Frames.{Framed, frame_of, with_definer}
use Rattle.cl_hierarchy.proofs.Frames.{one_fits, accepts_one, held}
use Rattle.cl_hierarchy.proofs.frame.Frame.accept.Goals as goal

pub invariant_of-self-2 : goal.invariant_of-self-2
invariant_of-self-2 g c =
    let others = supers (file_of c.self.inside.draft.file) in
    subst (λ (definers : List ℕ). length definers ≤ length others) (sym c.in_ok-push.ensures.items)
    (one_fits others c.self.inside.definers.items c.args.definer c.self.invariant (subst (λ (x : Framed). IsSome (wanted_supertype (frame_of x))) (sym c.self.view_is) c.requires))

pub returns-clause-frame : goal.returns-clause-frame
returns-clause-frame g c =
    accepts_one c.args.self.now _ c.args.definer
    (ap (λ (definers : List ℕ). held c.self.inside.draft definers) c.in_ok-push.ensures.items ∙ ap (λ (x : Framed). with_definer x c.args.definer) c.self.view_is) (wanted_supertype (frame_of c.args.self.now)) refl

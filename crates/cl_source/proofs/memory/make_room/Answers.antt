use Rattle.std.proofs.Common.{[], ◌∷◌, ◌++◌, ◌∙◌, ap}
use Rattle.cl_source.specs.Shelves.{content_from}
use Rattle.cl_source.proofs.Contents.{empty_shelf}
use Rattle.cl_source.proofs.memory.make_room.Goals as goal

pub loop-alloc-preserved : goal.loop-alloc-preserved
loop-alloc-preserved c =
    ap (content_from 0) (c.in_ok-push.ensures.items ∙ ap (λ s. c.loop-alloc.shelves.items ++ s ∷ []) c.new.ensures) ∙ empty_shelf 0 c.loop-alloc.shelves.items ∙ c.loop-alloc.invariant

use Rattle.std.proofs.Common.{◌≡◌, ◌∙◌, Some, None, length, ap, arith}
use Rattle.cl_classfile.specs.Files.{Name}
use Rattle.cl_hierarchy.specs.Supertypes.{plain_supertype}
use Rattle.cl_hierarchy.proofs.Frames.{next_name, held}
use Rattle.cl_hierarchy.proofs.frame.Frame.go_on.Goals as goal
use Rattle.cl_hierarchy.proofs.frame.Frame.go_on.Goals.{in-Some+in_ok-try_clone-in-Some, in-None}

pub returns-clause-next : goal.returns-clause-next
returns-clause-next g c =
    let counted : c.len.result ≡ length c.self.inside.definers.items = omega arith in
    elim c.match-supertype.branch [
      | in-Some+in_ok-try_clone-in-Some w ↦
          w.next-is ∙ ap (λ (n : Name). Some n) w.in_ok-try_clone-in-Some.ensures
          ∙ next_name (held c.self.inside.draft c.self.inside.definers.items) c.args.self.now c.len.result c.args.definer (Some (plain_supertype w.in-Some.supertype)) w.in-Some.ensures.name counted c.self.invariant c.self.view_is c.requires
      | in-None w ↦ w.next-is ∙ next_name (held c.self.inside.draft c.self.inside.definers.items) c.args.self.now c.len.result c.args.definer None w.in-None.ensures.name counted c.self.invariant c.self.view_is c.requires
    ]

use Rattle.std.proofs.Common.{◌≡◌, ◌∙◌, false, ap, sym, subst}
use Rattle.cl_hierarchy.specs.Kept.{KeepsPath, kept_path}
use Rattle.cl_hierarchy.specs.Paths.{Pathed, fresh, at_loader, at_name, is_on, with_frame}
use Rattle.cl_hierarchy.proofs.Tables.{held_push, absent_push, put_same}
use Rattle.cl_hierarchy.proofs.path.Path.push.Goals as goal

pub prepare-requires : goal.prepare-requires
prepare-requires g c = c.requires.stands.waits

pub put-requires-clause-absent : goal.put-requires-clause-absent
put-requires-clause-absent g c =
    absent_push g.T.Told.told c.self.inside.config.value c.self.inside.loader c.self.inside.at _ _ c.self.inside.frames.entries c.prepare.new.frames.entries c.args.draft c.self.invariant c.in-Ok.ensures.unchanged
    c.replace.ensures.value (ap (λ t. t.loader) c.class.ensures) (subst (λ (p : Pathed). c.args.draft.class.name ≡ at_name p) (sym c.self.view_is) c.requires.stands.named)
    (subst (λ (p : Pathed). is_on p c.args.draft.class ≡ false) (sym c.self.view_is) c.requires.absent)

held : (g : _) (c : goal.After-len g) → KeepsPath g.T.Told.told c.self.inside.config.value c.self.inside.loader c.replace.new.dest c.put.new.frames.entries
    × (kept_path c.self.inside.config.value c.self.inside.loader c.replace.new.dest c.put.new.frames.entries ≡ with_frame (kept_path c.self.inside.config.value c.self.inside.loader c.self.inside.at c.self.inside.frames.entries) (fresh c.args.draft))
held g c =
    held_push g.T.Told.told c.self.inside.config.value c.self.inside.loader c.len.result c.self.inside.at c.replace.new.dest c.self.inside.frames.entries c.put.new.frames.entries c.args.draft c.self.invariant
    (c.put.ensures ∙ put_same c.self.inside.frames.entries c.prepare.new.frames.entries _ _ _ _ _ _ c.prepare.ensures.unchanged c.replace.ensures.value (ap (λ t. t.loader) c.class.ensures) c.new.ensures)
    c.home.ensures.draft
    (subst (λ (p : Pathed). c.args.draft.home.config ≡ p.config) (sym c.self.view_is) c.requires.stands.config)
    (subst (λ (p : Pathed). c.args.draft.home.asked ≡ at_loader p) (sym c.self.view_is) c.requires.stands.asked)
    (subst (λ (p : Pathed). c.args.draft.class.name ≡ at_name p) (sym c.self.view_is) c.requires.stands.named)
    c.requires.stands.waits
    (subst (λ (p : Pathed). is_on p c.args.draft.class ≡ false) (sym c.self.view_is) c.requires.absent)
    (c.replace.ensures.after ∙ c.in-Ok.ensures.name)
    c.len.ensures.len c.len.type_inv

pub invariant_of-self-2 : goal.invariant_of-self-2
invariant_of-self-2 g c = (held g c).0

pub returns-clause-pushed : goal.returns-clause-pushed
returns-clause-pushed g c = (held g c).1 ∙ ap (λ (p : Pathed). with_frame p (fresh c.args.draft)) c.self.view_is

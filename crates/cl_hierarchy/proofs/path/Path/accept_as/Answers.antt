use Rattle.std.proofs.Common.{◌≢◌, [], Some, None, refl, sym, subst}
use Rattle.cl_hierarchy.specs.Kept.{KeepsPath, kept_path}
use Rattle.cl_hierarchy.specs.Paths.{Pathed, Accepts, Completes}
use Rattle.cl_hierarchy.specs.Repeats.{FitsLast}
use Rattle.cl_hierarchy.proofs.Tables.{waits_last, accepts_so, held_accept, held_end}
use Rattle.cl_hierarchy.proofs.path.Path.accept_as.Goals as goal

pub accept_last-requires : goal.accept_last-requires
accept_last-requires g c =
    waits_last g.T.Told.told c.self.inside.config.value c.self.inside.loader c.self.inside.at c.self.inside.frames.entries c.self.invariant
    (subst (λ (p : Pathed). p.frames ≢ []) (sym c.self.view_is) c.requires.waits)

goes_on : (g : _) (c : goal.After-drop-self-inside g) → KeepsPath g.T.Told.told c.self.inside.config.value c.self.inside.loader c.in-Some.next c.accept_last.new.frames.entries
    × Accepts (kept_path c.self.inside.config.value c.self.inside.loader c.self.inside.at c.self.inside.frames.entries) (kept_path c.self.inside.config.value c.self.inside.loader c.in-Some.next c.accept_last.new.frames.entries) c.args.definer
goes_on g c =
    held_accept g.T.Told.told c.self.inside.config.value c.self.inside.loader c.self.inside.at c.self.inside.frames.entries c.in-Some.next c.accept_last.new.frames.entries c.args.definer c.self.invariant
    (subst (λ (p : Pathed). FitsLast g.T.Told.told p c.args.definer) (sym c.self.view_is) c.requires.fits)
    (accepts_so c.self.inside.frames.entries c.accept_last.new.frames.entries c.args.definer c.args.definer c.in_ok-next.field-0 (Some c.in-Some.next) refl c.in-Some.is c.in_ok-next.ensures.accepted)

pub invariant_of-self-in-Some : goal.invariant_of-self-in-Some
invariant_of-self-in-Some g c = (goes_on g c).0

pub invariant_of-self-in-Some-pop : goal.invariant_of-self-in-Some-pop
invariant_of-self-in-Some-pop g c =
    (held_end g.T.Told.told c.self.inside.config.value c.self.inside.loader c.self.inside.at c.self.inside.frames.entries c.accept_last.new.frames.entries c.pop.new.self.entries c.in-Some-pop.class c.in-Some-pop.frame c.args.definer c.self.invariant
    (accepts_so c.self.inside.frames.entries c.accept_last.new.frames.entries c.args.definer c.args.definer c.in_ok-next.field-0 None refl c.in-None.is c.in_ok-next.ensures.accepted)
    c.in-Some-pop.ensures.entries).0

pub returns-in-Some-clause-accepted : goal.returns-in-Some-clause-accepted
returns-in-Some-clause-accepted g c =
    subst (λ (p : Pathed). Accepts p (kept_path c.self.inside.config.value c.self.inside.loader c.in-Some.next c.accept_last.new.frames.entries) c.args.definer) c.self.view_is (goes_on g c).1

pub returns-in-Some-pop-clause-accepted : goal.returns-in-Some-pop-clause-accepted
returns-in-Some-pop-clause-accepted g c =
    let new = kept_path c.self.inside.config.value c.self.inside.loader c.in-Some-pop.class.name c.pop.new.self.entries in
    subst (λ (p : Pathed). Completes p new c.args.definer c.in-Some-pop.frame) c.self.view_is
    (held_end g.T.Told.told c.self.inside.config.value c.self.inside.loader c.self.inside.at c.self.inside.frames.entries c.accept_last.new.frames.entries c.pop.new.self.entries c.in-Some-pop.class c.in-Some-pop.frame c.args.definer c.self.invariant
    (accepts_so c.self.inside.frames.entries c.accept_last.new.frames.entries c.args.definer c.args.definer c.in_ok-next.field-0 None refl c.in-None.is c.in_ok-next.ensures.accepted)
    c.in-Some-pop.ensures.entries).1

use Rattle.cl_delegation.proofs.Added.{marked, asked_before, unwanted}
use Rattle.cl_delegation.proofs.route.ask.Goals.{else-wanted-via-then-wanted+else-not-index, else-wanted-via-else-wanted}
use Rattle.cl_delegation.proofs.route.ask.Goals as goal

pub returns-in_ok-push-clause-asked : goal.returns-in_ok-push-clause-asked
returns-in_ok-push-clause-asked c = rw (c.in_ok-push.ensures.items, c.from-place.ensures, c.loader.view_is) (marked c.args.walk.now.route.items c.args.walk.now.asked.items c.args.loader c.requires.asked c.requires.within)

pub returns-else-wanted-clause-route : goal.returns-else-wanted-clause-route
returns-else-wanted-clause-route c = elim c.else-wanted.branch [
  | else-wanted-via-then-wanted+else-not-index w ↦ asked_before c.args.walk.now.route.items c.args.walk.now.asked.items c.args.loader c.args.wanted w.index.result.now c.requires.asked c.requires.within (rw (c.from-place.ensures, c.loader.view_is) at w.index.ensures) w.if-not-index.false
  | else-wanted-via-else-wanted w ↦ unwanted c.args.walk.now.route.items c.args.loader c.args.wanted w.if-wanted.false
]

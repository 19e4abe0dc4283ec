use Rattle.std.proofs.Common.{◌≡◌, Some, refl, subst}
use Rattle.cl_findings.specs.Findings.{Answered}
use Rattle.cl_tasks.specs.declared.turn.Turn.{Turn}
use Rattle.cl_tasks.specs.declared.turn.Turn.TheVariants as turn
use Rattle.cl_schedule.specs.Replies.{IsCall}
use Rattle.cl_schedule.specs.Seats.{IsSeatedAt}
use Rattle.cl_schedule.proofs.Nearing.{call_nearer, post_known}
use Rattle.cl_schedule.proofs.Paying.{call_pays, posted_pays}
use Rattle.cl_schedule.proofs.Seated.{has_advanced, has_posted, post_refused, seated_again, seated_backed}
use Rattle.cl_schedule.proofs.Owing.{count_called, count_posted}
use Rattle.cl_schedule.proofs.seats.advance.Goals as goal

-- a turn that is no post asks for a call
is_call : {A : Type 0} (u : Turn A) → ((f : Answered) → u ≡ turn.Post f → ⊥) → IsCall u
is_call (turn.Post f) unposted = unposted f refl
is_call other unposted = tt

pub returns-in-Ok-clause-turned : goal.returns-in-Ok-clause-turned
returns-in-Ok-clause-turned g c =
    let told = g.T.Told.told in
    let x = c.args.registry.now in
    let y = c.post.new.self in
    let seat = c.args.seat in
    let kept = c.requires.kept in
    let at = subst (λ (u : Turn g.row.T.Denot). IsSeatedAt told x seat.task u c.args.q) c.in-Post.is c.requires.seated in
    let did = has_posted told x y seat.task c.in-Post.finding c.args.q kept at c.in-Ok.ensures.posted in
    record { did = did; known = post_known told x y seat c.in-Post.finding c.args.q kept c.requires.seated c.in-Post.is c.in-Ok.ensures.posted; paid = posted_pays told x y c.args.q (Some seat) kept did }

pub returns-in-Ok-clause-faults : goal.returns-in-Ok-clause-faults
returns-in-Ok-clause-faults g c =
    count_posted c.args.registry.now c.post.new.self c.args.seat.call c.in-Post.finding c.args.q _ c.in-Post.is c.requires.seated.1.unanswered c.in-Ok.ensures.posted

pub returns-in-Post-clause-stray : goal.returns-in-Post-clause-stray
returns-in-Post-clause-stray g c =
    let at = subst (λ (u : Turn g.row.T.Denot). IsSeatedAt g.T.Told.told c.args.registry.now c.args.seat.task u c.args.q) c.in-Post.is c.requires.seated in
    (refl, post_refused g.T.Told.told c.args.registry.now c.args.seat.task c.in-Post.finding c.args.q c.in-Err.refused.fault c.requires.kept at c.in-Err.ensures.refused)

pub reply_to-reply-requires : goal.reply_to-reply-requires
reply_to-reply-requires g c =
    let call = is_call c.args.seat.call c.in_default.not-Post in
    record { call = call; backed = seated_backed g.T.Told.told c.args.registry.now c.args.seat.task c.args.seat.call c.args.q c.requires.kept c.requires.seated call; kept = c.requires.kept }

pub returns : goal.returns
returns g c =
    let says = c.reply_to-reply.ensures in
    let told = g.T.Told.told in
    let x = c.args.registry.now in
    let y = c.reply_to-reply.new.registry in
    let was = c.args.seat in
    let now = c.read_on.result in
    let reply = c.reply_to-reply.result in
    let kept = c.requires.kept in
    let seated = c.requires.seated in
    record {
      turned = record {
        did = record {
          advanced = has_advanced told x y was.task was.call c.args.q reply _ _ _ _ kept seated says;
          seated = seated_again told x y was.task now.task was.call now.call c.args.q reply _ _ _ _ kept seated says c.read_on.ensures.seated;
          less = c.read_on.ensures.less;
        };
        known = call_nearer told x y was now c.args.q reply _ _ _ _ seated says c.read_on.ensures.known;
        paid = call_pays told x y was now c.args.q reply _ _ _ _ kept seated says c.read_on.ensures.paid;
      };
      faults = count_called told x y was.call now.call reply _ _ _ _ _ says c.read_on.ensures.faults;
      stray = tt;
      kept = says.kept;
    }

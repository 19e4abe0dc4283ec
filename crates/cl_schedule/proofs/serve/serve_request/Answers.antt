use Rattle.std.proofs.Common.{◌∙◌, List, Option, Some, ap, subst, sym}
use Rattle.std.specs.Prelude.{slice_set}
use Rattle.cl_model.specs.declared.answer.Answer.{Answer}
use Rattle.cl_model.specs.declared.request.Request.{Request}
use Rattle.cl_model.proofs.Bind.{some_same}
use Rattle.cl_registry.specs.Posting.{MayPostUnder}
use Rattle.cl_registry.specs.Tables.{Shown}
use Rattle.cl_tasks.specs.Turns.{KeepsRequest}
use Rattle.cl_tasks.specs.declared.turn.Turn.{Turn}
use Rattle.cl_tasks.specs.declared.turn.Turn.TheVariants as turn
use Rattle.cl_tasks.specs.Blames.{AnswerBlames}
use Rattle.cl_schedule.specs.Blames.{IsAskedFor}
use Rattle.cl_schedule.specs.Counting.{fault}
use Rattle.cl_schedule.proofs.Blaming.{blames_since}
use Rattle.cl_schedule.proofs.Counted.{grows_none, post_grows, told_fault}
use Rattle.cl_schedule.proofs.Served.{AnswersNext, going_done, going_start, may_still}
use Rattle.cl_schedule.proofs.Stations.{known_memory, known_post}
use Rattle.cl_schedule.proofs.Steps.{TurnSays, backed_now, follows_now, turning_on, turning_start}
use Rattle.cl_schedule.proofs.serve.serve_request.Goals as goal

-- ---- memory ran out before the first turn

pub returns-in-Err-clause-done : goal.returns-in-Err-clause-done
returns-in-Err-clause-done g c =
    going_done g.T.Told.told c.args.registry.now c.args.registry.now c.post.new.registry c.args.q c.args.request c.memory.result.answer (going_start g.T.Told.told c.args.registry.now c.args.request c.requires.kept)
    c.requires.may.unanswered
    (subst (λ (a : Answer). AnswersNext g.T.Told.told c.args.registry.now c.args.request a) (sym (ap (λ f. f.answer) c.memory.ensures)) (λ content told. tt))
    (subst (λ (a : Answer). AnswerBlames c.args.registry.now.config (IsAskedFor g.T.Told.told c.args.registry.now.config c.args.request) a) (sym (ap (λ f. f.answer) c.memory.ensures)) tt) c.post.ensures.posted

pub returns-in-Err-clause-known : goal.returns-in-Err-clause-known
returns-in-Err-clause-known g c = known_memory c.args.registry.now c.post.new.registry c.args.q c.args.request c.memory.result.answer _ (ap (λ f. f.answer) c.memory.ensures) c.post.ensures.posted

pub returns-in-Err-clause-faults : goal.returns-in-Err-clause-faults
returns-in-Err-clause-faults g c =
    post_grows c.args.registry.now.answers c.post.new.registry.answers c.args.q c.memory.result.answer 0 _ _ c.requires.may.unanswered (ap (λ (x : Shown). x.answers) c.post.ensures.posted)
    (ap (λ f. fault f.answer) c.memory.ensures) (grows_none _)

-- ---- turns

pub loop-finding-init : goal.loop-finding-init
loop-finding-init g c = turning_start g.T.Told.told c.args.registry.now c.args.config.value c.args.q c.args.request c.in-Ok.task _ _ c.requires.kept c.requires.config c.in-Ok.ensures.fresh

pub loop-finding-preserved : goal.loop-finding-preserved
loop-finding-preserved g c =
    let e = c.turn.ensures in
    let P : Turn g.row.T.Denot → Type 0 = λ w. TurnSays g.T.Told.told c.loop-finding.task c.turn.new.self c.loop-finding.reply w in
    let said : P c.turn.result = record { config = e.config; asks = e.asks; serves = e.serves; keeps = e.keeps; backed = e.backed; next = e.next; blames = e.blames; refused = e.refused; own = e.own } in
    let says = subst P c.in-Err-answer_of.ensures.call.0 said in
    turning_on g.T.Told.told c.args.registry.now c.loop-finding.registry c.reply_to-reply.new.registry c.args.config.value c.args.request c.loop-finding.task c.turn.new.self c.loop-finding.reply c.reply_to-reply.result c.in-Err-answer_of.call _ _ _ _ _ _ c.loop-finding.invariant says c.reply_to-reply.ensures

-- ---- what the tables bear

pub reply_to-reply-requires-clause-backed : goal.reply_to-reply-requires-clause-backed
reply_to-reply-requires-clause-backed g c =
    let e = c.turn.ensures in
    let P : Turn g.row.T.Denot → Type 0 = λ w. TurnSays g.T.Told.told c.loop-finding.task c.turn.new.self c.loop-finding.reply w in
    let said : P c.turn.result = record { config = e.config; asks = e.asks; serves = e.serves; keeps = e.keeps; backed = e.backed; next = e.next; blames = e.blames; refused = e.refused; own = e.own } in
    let says = subst P c.in-Err-answer_of.ensures.call.0 said in
    backed_now g.T.Told.told c.args.registry.now c.loop-finding.registry c.args.config.value c.args.request c.loop-finding.task c.loop-finding.reply c.in-Err-answer_of.call _ _ _ _ c.loop-finding.invariant says.backed

pub post-requires-in-Ok-answer_of-clause-backed : goal.post-requires-in-Ok-answer_of-clause-backed
post-requires-in-Ok-answer_of-clause-backed g c =
    let e = c.turn.ensures in
    let P : Turn g.row.T.Denot → Type 0 = λ w. TurnSays g.T.Told.told c.loop-finding.task c.turn.new.self c.loop-finding.reply w in
    let said : P c.turn.result = record { config = e.config; asks = e.asks; serves = e.serves; keeps = e.keeps; backed = e.backed; next = e.next; blames = e.blames; refused = e.refused; own = e.own } in
    let says = subst P c.in-Ok-answer_of.ensures.post said in
    let u : Turn g.row.T.Denot = turn.Post c.in-Ok-answer_of.finding in
    backed_now g.T.Told.told c.args.registry.now c.loop-finding.registry c.args.config.value c.args.request c.loop-finding.task c.loop-finding.reply u _ _ _ _ c.loop-finding.invariant says.backed

-- ---- the post

pub post-requires-in-Ok-answer_of-clause-may : goal.post-requires-in-Ok-answer_of-clause-may
post-requires-in-Ok-answer_of-clause-may g c =
    let P : Turn g.row.T.Denot → Type 0 = λ w. KeepsRequest c.loop-finding.task c.turn.new.self w in
    let same = some_same c.args.request c.in-Ok-answer_of.finding.request (sym c.loop-finding.invariant.request ∙ subst P c.in-Ok-answer_of.ensures.post c.turn.ensures.serves) in
    subst (λ (r : Request). MayPostUnder c.loop-finding.registry c.args.q r) same (may_still g.T.Told.told c.args.registry.now c.loop-finding.registry c.args.request c.args.q c.loop-finding.invariant.going c.requires.may)

pub returns-in-Ok-answer_of-clause-done : goal.returns-in-Ok-answer_of-clause-done
returns-in-Ok-answer_of-clause-done g c =
    let e = c.turn.ensures in
    let P : Turn g.row.T.Denot → Type 0 = λ w. TurnSays g.T.Told.told c.loop-finding.task c.turn.new.self c.loop-finding.reply w in
    let said : P c.turn.result = record { config = e.config; asks = e.asks; serves = e.serves; keeps = e.keeps; backed = e.backed; next = e.next; blames = e.blames; refused = e.refused; own = e.own } in
    let says = subst P c.in-Ok-answer_of.ensures.post said in
    let f = c.in-Ok-answer_of.finding in
    let u : Turn g.row.T.Denot = turn.Post f in
    going_done g.T.Told.told c.args.registry.now c.loop-finding.registry c.post-in-Ok-answer_of.new.registry c.args.q c.args.request f.answer c.loop-finding.invariant.going c.requires.may.unanswered
    (follows_now g.T.Told.told c.args.registry.now c.loop-finding.registry c.args.config.value c.args.request c.loop-finding.task c.turn.new.self c.loop-finding.reply u _ _ _ _ c.loop-finding.invariant says)
    (blames_since g.T.Told.told c.args.registry.now c.loop-finding.registry c.args.config.value c.args.request c.loop-finding.task c.turn.new.self c.loop-finding.reply u _ _ _ _ c.loop-finding.invariant says) c.post-in-Ok-answer_of.ensures.posted

pub returns-in-Ok-answer_of-clause-known : goal.returns-in-Ok-answer_of-clause-known
returns-in-Ok-answer_of-clause-known g c =
    let e = c.turn.ensures in
    let P : Turn g.row.T.Denot → Type 0 = λ w. TurnSays g.T.Told.told c.loop-finding.task c.turn.new.self c.loop-finding.reply w in
    let said : P c.turn.result = record { config = e.config; asks = e.asks; serves = e.serves; keeps = e.keeps; backed = e.backed; next = e.next; blames = e.blames; refused = e.refused; own = e.own } in
    let says = subst P c.in-Ok-answer_of.ensures.post said in
    known_post {A = g.row.T.Denot} c.args.registry.now c.loop-finding.registry c.post-in-Ok-answer_of.new.registry c.args.q c.args.request c.loop-finding.task c.turn.new.self c.loop-finding.reply c.in-Ok-answer_of.finding _ _
    c.loop-finding.invariant.known c.loop-finding.invariant.request says.own says.refused c.post-in-Ok-answer_of.ensures.posted

pub returns-in-Ok-answer_of-clause-faults : goal.returns-in-Ok-answer_of-clause-faults
returns-in-Ok-answer_of-clause-faults g c =
    let e = c.turn.ensures in
    let P : Turn g.row.T.Denot → Type 0 = λ w. TurnSays g.T.Told.told c.loop-finding.task c.turn.new.self c.loop-finding.reply w in
    let said : P c.turn.result = record { config = e.config; asks = e.asks; serves = e.serves; keeps = e.keeps; backed = e.backed; next = e.next; blames = e.blames; refused = e.refused; own = e.own } in
    let says = subst P c.in-Ok-answer_of.ensures.post said in
    let inv = c.loop-finding.invariant in
    post_grows c.args.registry.now.answers c.post-in-Ok-answer_of.new.registry.answers c.args.q c.in-Ok-answer_of.finding.answer _ _ _ c.requires.may.unanswered
    (ap (λ (x : Shown). x.answers) c.post-in-Ok-answer_of.ensures.posted ∙ ap (λ (xs : List (Option Answer)). slice_set xs c.args.q (Some c.in-Ok-answer_of.finding.answer)) inv.going.answers)
    (told_fault c.loop-finding.task c.loop-finding.reply c.in-Ok-answer_of.finding inv.expects says.refused) inv.faults

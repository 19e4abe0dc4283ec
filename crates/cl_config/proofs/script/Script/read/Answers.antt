use Rattle.std.proofs.Common.{◌∙◌, refl}
use Rattle.std.proofs.lemmas.List.{length-map}
use Rattle.cl_config.specs.Views.{Loader, names_of}
use Rattle.cl_config.proofs.Requests.{none_read, more_asked, more_begun, one_request_over, one_round_over, whole_read, script_loaders, tells_script}
use Rattle.cl_config.proofs.script.Script.read.Goals as goal

pub loop-line-init : goal.loop-line-init
loop-line-init c = rw (c.new-requests.ensures.items, c.new-rounds_of.ensures.items, c.into_iter-line-iterator.ensures.into_iter_gives, c.new-line-items.ensures) (none_read _ _)

pub returns-then-len-eq-MOST_REQUESTS-clause-read : goal.returns-then-len-eq-MOST_REQUESTS-clause-read
returns-then-len-eq-MOST_REQUESTS-clause-read c =
    one_request_over (names_of c.args.config.now) _ _ _ c.loop-line.requests.items c.loop-line.rounds_of.items _ _ c.in-Ask.request c.len.result
    c.loop-line.invariant c.in-Some.ensures.steps (rw c.in-Ask.is at c.in_ok-request.ensures) (c.len.ensures ∙ c.loop-line.requests.ok.0) c.if-len-eq-MOST_REQUESTS.true

pub loop-line-preserved-in-Continue-branch-3 : goal.loop-line-preserved-in-Continue-branch-3
loop-line-preserved-in-Continue-branch-3 c =
    more_asked (names_of c.args.config.now) _ _ _ c.loop-line.requests.items c.push.new.requests.items c.loop-line.rounds_of.items c.push.new.rounds_of.items _ _ c.in-Ask.request c.len.result
    c.loop-line.invariant c.in-Some.ensures.steps (rw c.in-Ask.is at c.in_ok-request.ensures) c.in_ok-push-in-Ask.ensures.request c.in_ok-push-in-Ask.ensures.round (c.len.ensures ∙ c.loop-line.requests.ok.0) c.if-len-eq-MOST_REQUESTS.false

pub returns-then-round-eq-MOST_THENS-clause-read : goal.returns-then-round-eq-MOST_THENS-clause-read
returns-then-round-eq-MOST_THENS-clause-read c =
    one_round_over (names_of c.args.config.now) _ _ _ c.loop-line.requests.items c.loop-line.rounds_of.items _ _
    c.loop-line.invariant c.in-Some.ensures.steps (rw c.in-Then.is at c.in_ok-request.ensures) c.if-round-eq-MOST_THENS.true

pub loop-line-preserved : goal.loop-line-preserved
loop-line-preserved c =
    more_begun (names_of c.args.config.now) _ _ _ c.loop-line.requests.items c.loop-line.rounds_of.items _ _ _
    c.loop-line.invariant c.in-Some.ensures.steps (rw c.in-Then.is at c.in_ok-request.ensures) refl c.if-round-eq-MOST_THENS.false

pub invariant_of-result : goal.invariant_of-result
invariant_of-result c = tells_script (names_of c.args.config.now) _ _ (whole_read (names_of c.args.config.now) _ _ c.loop-line.requests.items c.loop-line.rounds_of.items _ _ c.loop-line.invariant c.in-None.ensures.steps.0 refl)

pub returns-clause-loaders : goal.returns-clause-loaders
returns-clause-loaders c =
    rw (length-map c.args.config.now.loaders (λ (l : Loader). l.name)) at
    (script_loaders (names_of c.args.config.now) _ _ (whole_read (names_of c.args.config.now) _ _ c.loop-line.requests.items c.loop-line.rounds_of.items _ _ c.loop-line.invariant c.in-None.ensures.steps.0 refl))

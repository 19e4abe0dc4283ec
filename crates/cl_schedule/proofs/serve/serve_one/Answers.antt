use Rattle.std.proofs.Common.{◌≡◌, ◌∙◌, ℕ, length, Some, ap, sym, subst, arith}
use Rattle.std.specs.Prelude.{slice_get}
use Rattle.std.specs.List.{range_with_len}
use Rattle.cl_config.specs.Views.{Configured, Scripted}
use Rattle.cl_config.specs.Scripts.{HasLoaders}
use Rattle.cl_registry.specs.Tables.{Shown, posts, steps}
use Rattle.cl_schedule.specs.Blames.{EachBlames}
use Rattle.cl_schedule.specs.Counting.{Grows, faults}
use Rattle.cl_schedule.specs.Serving.{reported_registry, InOrder}
use Rattle.cl_schedule.proofs.Serving.{bare, bare_trusted, next_upto, next_is_open, has_loader, report_tells}
use Rattle.cl_schedule.proofs.Rounds.{known_bare, known_next, known_none, next_is_now, none_goes_on, nothing_left, served_bare, served_none, served_next, served_whole}
use Rattle.cl_schedule.specs.Known.{KnownStays}
use Rattle.cl_schedule.proofs.Blaming.{each_blames_more, each_blames_none, each_blames_passed}
use Rattle.cl_schedule.proofs.Counted.{grows_none, faults_none, faults_then}
use Rattle.cl_schedule.proofs.Ended.{is_served}
use Rattle.cl_schedule.proofs.serve.serve_one.Goals as goal
use Rattle.std.proofs.lemmas.Option.{slice_get_within}

pub loop-q-init : goal.loop-q-init
loop-q-init g c =
    let empty = c.in-Ok.ensures.empty in
    let passed = c.pass_rounds.ensures.passed in
    record {
      config = passed.config ∙ ap (λ (x : Shown). x.config) empty ∙ c.in_ok-held.ensures;
      script = passed.script ∙ ap (λ (x : Shown). x.script) empty ∙ c.in_ok-asked.ensures;
      order = passed.posts_same ∙ ap (λ (x : Shown). posts x.history) empty;
      kept = c.pass_rounds.ensures.kept;
      over = none_goes_on c.in-Ok.registry c.pass_rounds.new.registry passed;
      known = known_none c.in-Ok.registry c.pass_rounds.new.registry (ap steps empty) passed;
      served = served_none g.T.Told.told c.in-Ok.registry c.pass_rounds.new.registry (ap steps empty) passed;
      blames = each_blames_none g.T.Told.told c.pass_rounds.new.registry (length c.in_ok-asked.asked.value.requests) (passed.answers ∙ ap (λ (x : Shown). x.answers) empty);
      counted =
          subst (λ (n : ℕ). Grows n (g.S.Source.refused c.args.source.now) (g.S.Source.refused c.args.source.now))
          (sym (ap faults passed.answers ∙ ap (λ (x : Shown). faults x.answers) empty ∙ faults_none (length c.in_ok-asked.asked.value.requests))) (grows_none _);
    }

pub serve_request-requires-clause-loader : goal.serve_request-requires-clause-loader
serve_request-requires-clause-loader g c =
    has_loader _ c.args.script.value.requests c.loop-q.q c.in_ok-request.request
    (subst (λ (k : Configured). HasLoaders (length k.loaders) c.args.script.value.requests) (sym c.in_ok-held-2.ensures) c.requires)
    (subst (λ (s : Scripted). slice_get s.requests c.loop-q.q ≡ Some c.in_ok-request.request) c.deref-in-loop-q.ensures c.in_ok-request.ensures)

pub serve_request-requires-clause-may : goal.serve_request-requires-clause-may
serve_request-requires-clause-may g c =
    let inv = c.loop-q.invariant in
    let asked = subst (λ (s : Scripted). slice_get s.requests c.loop-q.q ≡ Some c.in_ok-request.request) (c.deref-in-loop-q.ensures ∙ sym inv.script) c.in_ok-request.ensures in
    record {
      asked = asked;
      begun = next_is_now c.loop-q.registry c.loop-q.q inv.kept.trusted inv.order inv.over;
      unanswered = next_is_open c.loop-q.registry c.loop-q.q inv.kept.trusted inv.order (slice_get_within c.loop-q.registry.script.requests c.loop-q.q c.in_ok-request.request asked);
    }

pub loop-q-preserved : goal.loop-q-preserved
loop-q-preserved g c =
    let inv = c.loop-q.invariant in
    let passed = c.pass_rounds-in-loop-q.ensures.passed in
    let served = c.serve_request.ensures in
    let old = c.loop-q.registry in
    let x = c.serve_request.new.registry in
    let new = c.pass_rounds-in-loop-q.new.registry in
    let asked = subst (λ (s : Scripted). slice_get s.requests c.loop-q.q ≡ Some c.in_ok-request.request) (c.deref-in-loop-q.ensures ∙ sym inv.script) c.in_ok-request.ensures in
    let opened = next_is_open old c.loop-q.q inv.kept.trusted inv.order (slice_get_within old.script.requests c.loop-q.q c.in_ok-request.request asked) in
    record {
      config = passed.config ∙ served.done.config ∙ inv.config;
      script = passed.script ∙ served.done.script ∙ inv.script;
      order = next_upto c.loop-q.q _ _ (passed.posts_same ∙ served.done.posted) inv.order;
      kept = c.pass_rounds-in-loop-q.ensures.kept;
      over = none_goes_on x new passed;
      known = known_next g.T.Told.told old x new c.loop-q.q c.in_ok-request.request _ _ inv.known inv.kept.trusted.script asked opened served.done served.known passed;
      served = served_next g.T.Told.told old x new c.loop-q.q c.in_ok-request.request inv.served inv.kept.trusted.script asked served.done passed;
      blames =
          each_blames_passed g.T.Told.told x new passed
          (each_blames_more g.T.Told.told old x c.loop-q.q c.in_ok-request.request served.done.answer served.done.config served.done.script served.done.answers opened asked served.done.blames inv.blames);
      counted =
          subst (λ (n : ℕ). Grows n (g.S.Source.refused c.args.source.now) (g.S.Source.refused c.serve_request.new.source)) (sym (ap faults passed.answers))
          (faults_then old.answers x.answers _ _ _ inv.counted served.faults);
    }

pub unreachable-requires : goal.unreachable-requires
unreachable-requires g c =
    let inv = c.loop-q.invariant in
    let count : length c.requests-count.result.now ≡ c.loop-q.q = (let least = c.loop-q-test.false in let most = c.loop-q.auto.q-end in omega arith) in
    nothing_left c.loop-q.registry c.loop-q.q inv.kept.trusted inv.order
    (ap (λ (s : Scripted). length s.requests) (inv.script ∙ sym c.deref.ensures) ∙ sym (ap length c.requests-count.ensures.requests) ∙ count) inv.over c.in-Err-into_report.ensures.refused.1

-- the registry is the one that the report tells of, but for its rows
told_of : (g : _) (c : goal.After-drop-config-2 g) → bare c.loop-q.registry ≡ reported_registry c.args.config.value c.in-Ok-into_report.report
told_of g c = report_tells c.loop-q.registry c.in-Ok-into_report.report c.args.config.value c.in-Ok-into_report.ensures.reported.whole c.loop-q.invariant.config

-- as many requests as the script has were served
all_served : (g : _) (c : goal.After-drop-config-2 g) → c.loop-q.q ≡ length c.args.script.value.requests
all_served g c =
    let count : c.loop-q.q ≡ length c.requests-count.result.now = (let least = c.loop-q-test.false in let most = c.loop-q.auto.q-end in omega arith) in
    count ∙ ap length c.requests-count.ensures.requests ∙ ap (λ (s : Scripted). length s.requests) c.deref.ensures

pub returns-clause-served : goal.returns-clause-served
returns-clause-served g c =
    let inv = c.loop-q.invariant in
    let told = g.T.Told.told in
    let made = c.in-Ok-into_report.ensures.reported in
    let all = all_served g c ∙ ap (λ (s : Scripted). length s.requests) (sym inv.script) in
    record {
      served = is_served told c.loop-q.registry c.args.config.value c.args.script.value c.in-Ok-into_report.report made (sym inv.config) (sym inv.script);
      posted = ap posts made.whole.history ∙ inv.order ∙ ap (range_with_len 0) (all_served g c);
      known = subst KnownStays (told_of g c) (known_bare c.loop-q.registry inv.known);
      in_order = subst (InOrder told) (told_of g c) (served_bare told c.loop-q.registry (served_whole told c.loop-q.registry c.loop-q.q (bare_trusted c.loop-q.registry inv.kept.trusted).script inv.served all));
      blames = subst (EachBlames told) (told_of g c) inv.blames;
    }

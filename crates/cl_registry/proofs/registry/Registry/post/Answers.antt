use Rattle.std.proofs.Common.{◌≡◌, ◌∙◌, List, Option, Some, None, inr, ap, sym, subst, arith}
use Rattle.std.specs.Prelude.{slice_get}
use Rattle.cl_model.specs.declared.answer.Answer.{Answer}
use Rattle.cl_model.specs.declared.request.Request.{Request}
use Rattle.cl_config.specs.Views.{Scripted}
use Rattle.cl_registry.specs.Posting.{AnswerFits, IsBacked}
use Rattle.cl_registry.specs.Tables.{Shown}
use Rattle.cl_registry.specs.View.{shown_of}
use Rattle.cl_registry.proofs.Histories.{left_set}
use Rattle.cl_registry.proofs.Posts.{kept_post, counts_down, not_later, one_less}
use Rattle.cl_registry.proofs.registry.Registry.post.Goals as goal

pub returns-then-not-backs-clause-refused : goal.returns-then-not-backs-clause-refused
returns-then-not-backs-clause-refused g c =
    let x : Shown = shown_of c.self.inside in
    let asked : slice_get c.self.inside.script.value.requests c.args.q ≡ Some c.args.finding.request = ap (λ (l : List Request). slice_get l c.args.q) (sym (c.requests.ensures.requests ∙ ap (λ (s : Scripted). s.requests) c.deref.ensures)) ∙ c.if-not-is_asked.ensures ∙ ap (λ (r : Request). Some r) c.request.ensures.request in
    let is : slice_get c.self.inside.answers.items c.args.q ≡ Some None = ap (λ (xs : List (Option Answer)). slice_get xs c.args.q) (sym c.deref-3.ensures.value) ∙ c.if-not-is_open.ensures in
    let at : slice_get c.self.inside.script.value.rounds_of c.args.q ≡ Some c.round_of-round.result = ap (λ (s : Scripted). slice_get s.rounds_of c.args.q) (sym c.deref-2.ensures) ∙ c.round_of-round.ensures in
    rw (← c.self.view_is) (inr (record { asked = asked; begun = not_later x c.args.q c.round_of-round.result c.self.inside.round at c.if-round-self.false c.self.invariant.round; unanswered = is }, subst (λ (y : Shown). IsBacked y c.args.finding → ⊥) (sym c.self.view_is) c.if-not-backs.ensures))

pub put_answer-requires : goal.put_answer-requires
put_answer-requires g c = ap (λ (xs : List (Option Answer)). slice_get xs c.args.q) (sym c.deref-3.ensures.value) ∙ c.if-not-is_open.ensures

pub count_down-requires : goal.count_down-requires
count_down-requires g c =
    let is : slice_get c.self.inside.answers.items c.args.q ≡ Some None = ap (λ (xs : List (Option Answer)). slice_get xs c.args.q) (sym c.deref-3.ensures.value) ∙ c.if-not-is_open.ensures in
    let at : slice_get c.self.inside.script.value.rounds_of c.args.q ≡ Some c.round_of-round.result = ap (λ (s : Scripted). slice_get s.rounds_of c.args.q) (sym c.deref-2.ensures) ∙ c.round_of-round.ensures in
    counts_down g.T.Told.told _ _ c.args.q c.round_of-round.result c.self.invariant at is

pub overflow_sub-self : goal.overflow_sub-self
overflow_sub-self g c =
    let is : slice_get c.self.inside.answers.items c.args.q ≡ Some None = ap (λ (xs : List (Option Answer)). slice_get xs c.args.q) (sym c.deref-3.ensures.value) ∙ c.if-not-is_open.ensures in
    let e = left_set c.self.inside.answers.items c.args.q c.into_answer.result is in
    let k = c.self.invariant.left in
    omega (arith, e, k)

pub push_reserved-requires : goal.push_reserved-requires
push_reserved-requires g c =
    let is : slice_get c.self.inside.answers.items c.args.q ≡ Some None = ap (λ (xs : List (Option Answer)). slice_get xs c.args.q) (sym c.deref-3.ensures.value) ∙ c.if-not-is_open.ensures in
    let e = left_set c.self.inside.answers.items c.args.q c.into_answer.result is in
    let k = c.self.invariant.left in
    let f = c.self.invariant.events_fit in
    omega (arith, e, k, f)

pub invariant_of-self : goal.invariant_of-self
invariant_of-self g c =
    let x : Shown = shown_of c.self.inside in
    let asked : slice_get c.self.inside.script.value.requests c.args.q ≡ Some c.args.finding.request = ap (λ (l : List Request). slice_get l c.args.q) (sym (c.requests.ensures.requests ∙ ap (λ (s : Scripted). s.requests) c.deref.ensures)) ∙ c.if-not-is_asked.ensures ∙ ap (λ (r : Request). Some r) c.request.ensures.request in
    let is : slice_get c.self.inside.answers.items c.args.q ≡ Some None = ap (λ (xs : List (Option Answer)). slice_get xs c.args.q) (sym c.deref-3.ensures.value) ∙ c.if-not-is_open.ensures in
    let at : slice_get c.self.inside.script.value.rounds_of c.args.q ≡ Some c.round_of-round.result = ap (λ (s : Scripted). slice_get s.rounds_of c.args.q) (sym c.deref-2.ensures) ∙ c.round_of-round.ensures in
    let fits : AnswerFits x c.args.q c.args.finding = record { may = record { asked = asked; begun = not_later x c.args.q c.round_of-round.result c.self.inside.round at c.if-round-self.false c.self.invariant.round; unanswered = is }; backed = subst (λ (y : Shown). IsBacked y c.args.finding) (sym c.self.view_is) c.if-not-backs.ensures } in
    let e = left_set c.self.inside.answers.items c.args.q c.into_answer.result is in
    rw (c.push_reserved.ensures.items, c.put_answer.ensures, c.into_answer.ensures.answer)
    (kept_post g.T.Told.told x _ c.args.q c.round_of-round.result c.args.finding _ _ _ _ c.self.invariant fits c.into_answer.ensures.rests at c.count_down.ensures
    c.push_reserved.ensures.len c.push_reserved.ensures.capacity (one_less c.self.inside.left _ (c.self.invariant.left ∙ e)))

pub returns-clause-fits : goal.returns-clause-fits
returns-clause-fits g c =
    let x : Shown = shown_of c.self.inside in
    let asked : slice_get c.self.inside.script.value.requests c.args.q ≡ Some c.args.finding.request = ap (λ (l : List Request). slice_get l c.args.q) (sym (c.requests.ensures.requests ∙ ap (λ (s : Scripted). s.requests) c.deref.ensures)) ∙ c.if-not-is_asked.ensures ∙ ap (λ (r : Request). Some r) c.request.ensures.request in
    let is : slice_get c.self.inside.answers.items c.args.q ≡ Some None = ap (λ (xs : List (Option Answer)). slice_get xs c.args.q) (sym c.deref-3.ensures.value) ∙ c.if-not-is_open.ensures in
    let at : slice_get c.self.inside.script.value.rounds_of c.args.q ≡ Some c.round_of-round.result = ap (λ (s : Scripted). slice_get s.rounds_of c.args.q) (sym c.deref-2.ensures) ∙ c.round_of-round.ensures in
    let fits : AnswerFits x c.args.q c.args.finding = record { may = record { asked = asked; begun = not_later x c.args.q c.round_of-round.result c.self.inside.round at c.if-round-self.false c.self.invariant.round; unanswered = is }; backed = subst (λ (y : Shown). IsBacked y c.args.finding) (sym c.self.view_is) c.if-not-backs.ensures } in
    rw (← c.self.view_is) fits

pub returns-clause-kept : goal.returns-clause-kept
returns-clause-kept g c = (invariant_of-self g c).kept

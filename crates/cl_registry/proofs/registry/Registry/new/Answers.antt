use Rattle.std.proofs.Common.{◌≤◌, ◌+◌, ◌∙◌, ℕ, ap, sym, subst, length, map, refl, vec_capacity}
use Rattle.std.specs.Option.{option_map}
use Rattle.cl_config.specs.Scripts.{IsScript}
use Rattle.cl_registry.proofs.Schedules.{kept_new, counts_as, bare_references}
use Rattle.cl_registry.proofs.registry.Registry.new.Goals as goal

pub invariant_of-result : goal.invariant_of-result
invariant_of-result g c =
    let rooms = c.in-Ok-rooms_for.ensures in
    let counts = c.in-Ok-counts_of.ensures in
    let script = c.deref.ensures in
    kept_new g.T.Told.told _ _ (ap (map (λ r. r.value)) c.new.ensures.items) rooms.history.0 rooms.answers
    (ap length (sym (c.requests-left.ensures.requests ∙ ap (λ s. s.requests) c.deref.ensures)))
    (subst IsScript c.deref.ensures c.requests-left.ensures.script)
    (c.in-Ok.ensures.count ∙ c.count.ensures.count ∙ ap (λ k. length k.loaders) c.deref-3.ensures)
    (record { table = λ l n. ap (option_map (λ r. r.value)) (c.in-Ok.ensures.empty l n); book = c.with_hasher.ensures; references = λ d i. bare_references (λ r. r.value) c.with_hasher-2.result d i c.with_hasher-2.ensures.empty; prepared = c.with_hasher-3.ensures.empty; met = c.new-2.ensures.items })
    (counts_as _ _ c.in-Ok-counts_of.unanswered.items _ c.deref-4.ensures (ap length (c.requests-left.ensures.requests ∙ ap (λ s. s.requests) c.deref.ensures)) counts.counts)
    (counts.each_round ∙ ap (λ s. s.rounds) c.deref-4.ensures)
    refl rooms.history.1
    (subst (λ (n : ℕ). length c.requests-left.result.now + n ≤ vec_capacity c.in-Ok-rooms_for.rooms.history) (c.rounds.ensures ∙ ap (λ s. s.rounds) c.deref-5.ensures) rooms.history.2)
    rooms.room.1 rooms.room.2

pub returns-clause-kept : goal.returns-clause-kept
returns-clause-kept g c = (invariant_of-result g c).kept

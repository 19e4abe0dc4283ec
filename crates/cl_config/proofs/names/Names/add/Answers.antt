use Rattle.std.proofs.Common.{◌∙◌, ◌++◌, ◌∷◌, [], List, ℕ, map, string_bytes, ap, sym, length}
use Rattle.std.proofs.lemmas.List.{length-map, map-append}
use Rattle.cl_config.proofs.Named.{added}
use Rattle.cl_config.proofs.names.Names.add.Goals as goal

pub invariant_of-self-2 : goal.invariant_of-self-2
invariant_of-self-2 c =
    let before = c.self.inside.items.items in
    added (map string_bytes before) _ c.args.name.now c.in_ok-key.key c.len.result c.self.inside.places c.insert.new.self c.contains_key.result c.self.invariant c.contains_key.ensures c.if-contains_key.false c.in_ok-key.ensures.ok
    (c.len.ensures ∙ c.reserve.new.self.ok.0 ∙ ap length c.in_ok-reserve.ensures.items ∙ sym (length-map before string_bytes))
    (ap (map string_bytes) (c.push_reserved.ensures.items ∙ ap (λ xs. xs ++ c.in_ok-item.item ∷ []) c.in_ok-reserve.ensures.items) ∙ map-append string_bytes before (c.in_ok-item.item ∷ []) ∙ ap (λ (n : List ℕ). map string_bytes before ++ n ∷ []) c.in_ok-item.ensures.ok)
    c.in_ok-insert.ensures.updates

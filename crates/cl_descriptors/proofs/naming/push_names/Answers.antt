use Rattle.std.proofs.Common.{◌≡◌, ℕ, ◌+◌, ◌<◌, List, [], ◌∷◌, ◌++◌, length, take, get_or, Option, Some, None, refl, sym, ap, ◌∙◌, append_assoc}
use Rattle.std.specs.Prelude.{filter_map, option_to_list}
use Rattle.std.proofs.lemmas.Grind.{take_at_read}
use Rattle.std.proofs.lemmas.List.Elements.{filter_map-append}
use Rattle.cl_descriptors.specs.Types.{class_of}
use Rattle.cl_descriptors.specs.declared.types.FieldType.{FieldType}
use Rattle.cl_descriptors.proofs.naming.push_names.Goals as goal

single : (t : FieldType) (o : Option (List ℕ)) → class_of t ≡ o → filter_map class_of (t ∷ []) ≡ option_to_list o
single t None e = rw e refl
single t (Some n) e = rw e refl

one_more : (ts : List FieldType) (i : ℕ) (t : FieldType) → i < length ts → t ≡ get_or ts i t → filter_map class_of (take (i + 1) ts) ≡ filter_map class_of (take i ts) ++ option_to_list (class_of t)
one_more ts i t less is =
    ap (filter_map class_of) ((take_at_read ts i t less).1 ∙ ap (λ (x : FieldType). take i ts ++ x ∷ []) (sym is))
    ∙ filter_map-append class_of (take i ts) (t ∷ []) ∙ ap (λ (w : List (List ℕ)). filter_map class_of (take i ts) ++ w) (single t (class_of t) refl)

pub loop-t-preserved : goal.loop-t-preserved
loop-t-preserved c =
    rw (c.in_ok-push_name.ensures, c.loop-t.invariant, one_more c.args.types.now c.loop-t.t-index c.t-item.result c.loop-t-test.true c.t-item.is)
    (append_assoc c.args.names.now.items (filter_map class_of (take c.loop-t.t-index c.args.types.now)) (option_to_list (class_of c.t-item.result)))

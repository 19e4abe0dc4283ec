-- Lines that are printed piece by piece.
use Rattle.std.proofs.Common.{◌≡◌, ℕ, ◌+◌, ◌<◌, cond, List, ◌++◌, length, take, get_or, Result, Ok, Err, OnOk, is_ok, append_assoc, ap, sym, ◌∙◌}
use Rattle.std.specs.List.{flat_map}
use Rattle.std.proofs.lemmas.List.{flat_map_more, take_more}

three_joined : (old a b c : List ℕ) → ((old ++ a) ++ b) ++ c ≡ old ++ ((a ++ b) ++ c)
three_joined old a b c = simp append_assoc

pub ends_line : {U E : Type 0} (r : Result U E) (old x y new a b c : List ℕ) → x ≡ old ++ a → y ≡ x ++ b → new ≡ cond (is_ok r) (y ++ c) y → OnOk r (new ≡ old ++ ((a ++ b) ++ c))
ends_line (Ok u) old x y new a b c e f h = h ∙ ap (λ t. t ++ c) (f ∙ ap (λ t. t ++ b) e) ∙ three_joined old a b c
ends_line (Err v) old x y new a b c e f h = tt

five_joined : (old a b c d e : List ℕ) → ((((old ++ a) ++ b) ++ c) ++ d) ++ e ≡ old ++ ((((a ++ b) ++ c) ++ d) ++ e)
five_joined old a b c d e = simp append_assoc

pub ends_class : {U E : Type 0} (r : Result U E) (old w x y z new a b c d e : List ℕ) → w ≡ old ++ a → x ≡ w ++ b → y ≡ x ++ c → z ≡ y ++ d → new ≡ cond (is_ok r) (z ++ e) z
    → OnOk r (new ≡ old ++ ((((a ++ b) ++ c) ++ d) ++ e))
ends_class (Ok u) old w x y z new a b c d e p q s t h =
    h ∙ ap (λ i. i ++ e) (t ∙ ap (λ i. i ++ d) (s ∙ ap (λ i. i ++ c) (q ∙ ap (λ i. i ++ b) p))) ∙ five_joined old a b c d e
ends_class (Err v) old w x y z new a b c d e p q s t h = tt

pub one_more : (f : ℕ → List ℕ) (xs : List ℕ) (i : ℕ) (old now new : List ℕ) → i < length xs → now ≡ old ++ flat_map f (take i xs) → new ≡ now ++ f (get_or xs i 0) → new ≡ old ++ flat_map f (take (i + 1) xs)
one_more f xs i old now new h before here =
    here ∙ ap (λ t. t ++ f (get_or xs i 0)) before ∙ flat_map_more f old (take i xs) (get_or xs i 0) ∙ ap (λ t. old ++ flat_map f t) (sym (take_more xs i 0 h))

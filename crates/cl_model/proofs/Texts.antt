-- The name of a loader, by its number; texts put behind one another.
use Rattle.std.proofs.Common.{◌≡◌, ◌∙◌, ℕ, zero, suc, List, [], ◌∷◌, ◌++◌, ap, append_assoc, get_or, refl}
use Rattle.cl_model.specs.Lines as lines

pub name_at : (loaders : List (List ℕ)) (loader : ℕ) → get_or loaders loader [] ≡ lines.loader_text loaders loader
name_at [] loader = refl
name_at (x ∷ xs) zero = refl
name_at (x ∷ xs) (suc loader) = name_at xs loader

pub two_put : (w w1 w2 a b : List ℕ) → w1 ≡ w ++ a → w2 ≡ w1 ++ b → w2 ≡ w ++ (a ++ b)
two_put w w1 w2 a b e1 e2 = e2 ∙ ap (λ (f : List ℕ). f ++ b) e1 ∙ append_assoc w a b

pub three_put : (w w1 w2 w3 a b c : List ℕ) → w1 ≡ w ++ a → w2 ≡ w1 ++ b → w3 ≡ w2 ++ c → w3 ≡ w ++ (a ++ (b ++ c))
three_put w w1 w2 w3 a b c e1 e2 e3 =
    two_put w w2 w3 (a ++ b) c (two_put w w1 w2 a b e1 e2) e3 ∙ ap (λ (f : List ℕ). w ++ f) (append_assoc a b c)

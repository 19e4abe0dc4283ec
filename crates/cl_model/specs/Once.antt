-- Lists in which nothing is to stand twice, by a test of whether a key is one of some keys.
use Rattle.std.specs.Prelude.{◌≡◌, Bool, false, if◌then◌else◌, List, [], ◌∷◌}

-- each item at its first place alone: those whose key was not seen, and is none of an item before
abbrev pub firsts : {A K : Type 0} → (A → K) → (List K → K → Bool) → List K → List A → List A
firsts key has seen [] = []
firsts key has seen (x ∷ xs) = if has seen (key x) then firsts key has seen xs else x
    ∷ firsts key has (key x ∷ seen) xs

-- no key stands twice
abbrev pub NoneTwice : {K : Type 0} → (List K → K → Bool) → List K → Type 0
NoneTwice has [] = Unit {0}
NoneTwice has (k ∷ ks) = (has ks k ≡ false) × NoneTwice has ks

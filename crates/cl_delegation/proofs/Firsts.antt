-- What is added to nothing is each item at its first place: the loaders that a search asks.
use Rattle.std.proofs.Common.{◌≡◌, ℕ, Bool, true, false, ◌==◌, ◌||◌, if◌then◌else◌, nat_lt, length, List, [], ◌∷◌, ◌++◌, refl, sym, ap, ◌∙◌, append_assoc}
use Rattle.cl_classfile.specs.Files.{Name}
use Rattle.cl_model.specs.Homes.{WorldLoader, is_java}
use Rattle.cl_model.specs.Probes.{is_in, first_places, route, route_from}
use Rattle.cl_delegation.specs.Walks.{added}
use Rattle.cl_delegation.proofs.Added.{in_snoc}

same_or : (a b : Bool) → (a || b) ≡ (b || a)
same_or true true = refl
same_or true false = refl
same_or false true = refl
same_or false false = refl

-- what is added behind what was asked, by any list that has the same members
behind : (ns seen xs : List ℕ) → ((n : ℕ) → is_in seen n ≡ is_in ns n) → added ns xs ≡ ns ++ first_places seen xs
behind ns seen [] same = sym (nil ns)
  where
    nil : (ms : List ℕ) → ms ++ [] ≡ ms
    nil [] = refl
    nil (m ∷ ms) = ap (λ (ks : List ℕ). m ∷ ks) (nil ms)
behind ns seen (x ∷ xs) same = at (is_in ns x) (is_in seen x) (same x) (behind ns seen xs same) (λ h. behind (ns ++ x ∷ []) (x ∷ seen) xs h)
  where
    more : (n : ℕ) → is_in (x ∷ seen) n ≡ is_in (ns ++ x ∷ []) n
    more n = ap (λ (b : Bool). (x == n) || b) (same n) ∙ same_or (x == n) (is_in ns n) ∙ sym (in_snoc ns x n)

    at : (b c : Bool) → c ≡ b → added ns xs ≡ ns ++ first_places seen xs → (((n : ℕ) → is_in (x ∷ seen) n ≡ is_in (ns ++ x ∷ []) n) → added (ns ++ x ∷ []) xs ≡ (ns ++ x ∷ []) ++ first_places (x ∷ seen) xs)
        → added (if b then ns else ns ++ x ∷ []) xs ≡ ns ++ (if c then first_places seen xs else x ∷ first_places (x ∷ seen) xs)
    at true true f same_so next = same_so
    at false false f same_so next = next more ∙ append_assoc ns (x ∷ []) (first_places (x ∷ seen) xs)
    at true false f same_so next = absurd cc
    at false true f same_so next = absurd cc

added_is_first : (xs : List ℕ) → added [] xs ≡ first_places [] xs
added_is_first xs = behind [] [] xs (λ n. refl)

-- what a walk asks for a name that is none of the platform's is what is probed
pub walk_is_probed : (ls : List WorldLoader) (loader : ℕ) (name : Name) (java : Bool) → java ≡ is_java name → java ≡ false → added [] (route_from ls name loader) ≡ first_places [] (route ls loader name)
walk_is_probed ls loader name java is none = added_is_first (route_from ls name loader) ∙ ap (first_places []) (sym (at (is_java name) (sym is ∙ none)))
  where
    at : (b : Bool) → b ≡ false → (elim b [ true ↦ if nat_lt loader (length ls) then 0 ∷ [] else [] | false ↦ route_from ls name loader ]) ≡ route_from ls name loader
    at true h = absurd cc
    at false h = refl

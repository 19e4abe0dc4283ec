-- A name more in a table of names.
use Rattle.std.proofs.Common.{◌≡◌, ℕ, ◌+◌, ◌<◌, ◌≤◌, ◌==◌, nat_eq, nat_lt, Bool, true, false, cond, not, List, [], ◌∷◌, ◌++◌, length, Option, Some, None, is_some, String, Global, Decides, string_bytes, string_cmp, nat_cmp, refl, sym, ap, subst, ◌∙◌, arith, length-append}
use Rattle.std.specs.Prelude.{IfSome}
use Rattle.std.specs.List.{position_or_len}
use Rattle.std.proofs.lemmas.Bool.Decides.{nat_tests}
use Rattle.std.proofs.lemmas.List.Folds.{position_or_len_push}
use Rattle.std.proofs.lemmas.List.Sums.{prefix_len-le-length}
use Rattle.std.proofs.lemmas.Slice.Eq.{bytes_eq-Decides}
use Rattle.std.proofs.lemmas.Map.Text.{btree_map_updates_text}
use Rattle.std.specs.Cmp.Lexicographic.{pointwise, slice_cmp}
use Rattle.std.specs.BTreeMap.{BTreeMap, UpdatesBy, get_by_text}
use Rattle.cl_config.specs.Views.{loader_named}
use Rattle.cl_config.specs.Names.{AreAt}

-- a place is one of them
pub within : (ns : List (List ℕ)) (word : List ℕ) → IfSome (loader_named ns word) (λ place. place < length ns)
within ns word = at (position_or_len (λ n. pointwise nat_eq n word) ns) (nat_lt (position_or_len (λ n. pointwise nat_eq n word) ns) (length ns)) refl
  where
    at : (p : ℕ) (b : Bool) → nat_lt p (length ns) ≡ b → IfSome (cond b (Some p) None) (λ place. place < length ns)
    at p true e = grind (arith, nat_tests)
    at p false e = tt

some_none : {C : Type 0} (p : ℕ) → Some p ≡ None → C
some_none p e = absurd cc

numbers : (p l q m : ℕ) (same b : Bool) → p ≤ l → (p == l) ≡ same → q ≡ cond same (l + cond b 0 1) p → m ≡ l + 1 → (b ≡ true → cond (nat_lt p l) (Some p) None ≡ None)
    → cond (nat_lt q m) (Some q) None ≡ cond b (Some l) (cond (nat_lt p l) (Some p) None)
numbers p l q m true true le e is more none = let lt : nat_lt q m ≡ true = grind (arith, nat_tests) in rw lt (ap (λ (n : ℕ). Some n) (omega (arith, is)))
numbers p l q m true false le e is more none =
    let lt : nat_lt q m ≡ false = grind (arith, nat_tests) in
    let all : nat_lt p l ≡ false = grind (arith, nat_tests) in
    rw (lt, all) refl
numbers p l q m false true le e is more none =
    let there : nat_lt p l ≡ true = grind (arith, nat_tests) in
    some_none p (rw there at (none refl))
numbers p l q m false false le e is more none =
    let there : nat_lt p l ≡ true = grind (arith, nat_tests) in
    let lt : nat_lt q m ≡ true = grind (arith, nat_tests) in
    rw (lt, there) (ap (λ (n : ℕ). Some n) is)

-- a name more, which was not there
behind : (ns : List (List ℕ)) (n word : List ℕ) → loader_named ns n ≡ None → loader_named (ns ++ n ∷ []) word ≡ cond (pointwise nat_eq n word) (Some (length ns)) (loader_named ns word)
behind ns n word none =
    numbers (position_or_len (λ m. pointwise nat_eq m word) ns) (length ns) (position_or_len (λ m. pointwise nat_eq m word) (ns ++ n ∷ [])) (length (ns ++ n ∷ [])) (position_or_len (λ m. pointwise nat_eq m word) ns == length ns) (pointwise nat_eq n word)
    (prefix_len-le-length (λ m. not (pointwise nat_eq m word)) ns) refl (position_or_len_push (λ m. pointwise nat_eq m word) ns n) (length-append ns (n ∷ []))
    (λ e. subst (λ (w : List ℕ). loader_named ns w ≡ None) (same e) none)
  where
    same : pointwise nat_eq n word ≡ true → n ≡ word
    same e = at (pointwise nat_eq n word) e (bytes_eq-Decides n word)
      where
        at : (b : Bool) → b ≡ true → Decides b (n ≡ word) → n ≡ word
        at true e d = d.0 e
        at false e d = absurd cc

pub added : (ns new : List (List ℕ)) (name : List ℕ) (key : String Global) (place : ℕ) (old after : BTreeMap (String Global) ℕ) (there : Bool) → AreAt ns old → there ≡ is_some (get_by_text old name) → there ≡ false
    → string_bytes key ≡ name → place ≡ length ns → new ≡ ns ++ name ∷ [] → UpdatesBy string_cmp (λ k. slice_cmp nat_cmp (string_bytes key) (string_bytes k)) old after (Some place) → AreAt new after
added ns new name key place old after there kept asked absent named last is updates = rw is (record {
  at = λ word.
      btree_map_updates_text (string_bytes key) old after (Some place) updates word
      ∙ ap (λ (n : List ℕ). cond (pointwise nat_eq n word) (Some place) (get_by_text old word)) named
      ∙ ap (λ (p : ℕ). cond (pointwise nat_eq name word) (Some p) (get_by_text old word)) last
      ∙ ap (λ (o : Option ℕ). cond (pointwise nat_eq name word) (Some (length ns)) o) (kept.at word)
      ∙ sym (behind ns name word (sym (kept.at name) ∙ none (get_by_text old name) (sym asked ∙ absent)));
})
  where
    none : (o : Option ℕ) → is_some o ≡ false → o ≡ None
    none None e = refl
    none (Some p) e = absurd cc

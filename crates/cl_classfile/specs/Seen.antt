-- The members that were looked at, as a set of the numbers of their names and descriptors.
use Rattle.std.specs.Prelude.{◌≡◌, ℕ, Bool, List, Option, Some}
use Rattle.std.specs.List.{list_any}
use Rattle.std.specs.Ordering.{ordering_then, nat_cmp}
use Rattle.std.specs.declared.cmp.Ordering.{Ordering}
use Rattle.cl_classfile.specs.declared.entry.Entry.{Entry}
use Rattle.cl_classfile.specs.Structure.{MemberInfo}
use Rattle.cl_classfile.specs.Checking.{TextKey, key_of, same_text_key}

-- by the number of the name, and then by that of the descriptor
abbrev pub pair_cmp : ℕ × ℕ → ℕ × ℕ → Ordering
pair_cmp a b = ordering_then (nat_cmp a.0 b.0) (nat_cmp a.1 b.1)

-- of each two texts that have numbers, these are among the pairs exactly where one of the members has
-- these texts (4.5, 4.6)
abbrev pub HasPairs : List Entry → (List ℕ → Option ℕ) → (ℕ × ℕ → Bool) → List MemberInfo → Type 0
HasPairs pool of has ms =
    (key : TextKey) (n d : ℕ) → of key.0 ≡ Some n → of key.1 ≡ Some d
    → has (n, d) ≡ list_any (λ m. same_text_key (key_of pool m) (Some key)) ms

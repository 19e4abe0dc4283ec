-- How many of what is said are versions.
use Rattle.std.proofs.Common.{◌≡◌, ℕ, ◌+◌, ◌≤◌, Bool, true, false, ◌&&◌, cond, List, [], ◌∷◌, ◌++◌, length, Option, Some, None, is_some, refl, arith}
use Rattle.std.specs.Prelude.{count_by, option_to_list}
use Rattle.std.proofs.lemmas.List.Sums.{sum_by-append}
use Rattle.cl_classfile.specs.declared.version.Version as classfile
use Rattle.cl_writer.specs.declared.statement.Statement.{Statement}
use Rattle.cl_writer.specs.declared.statement.Statement.TheVariants.{Implements, Field, Method, Ref, Version}
use Rattle.cl_writer.specs.Assemblies.{ListedClass, is_version, with_said}

abbrev pub count : List Statement → ℕ
count statements = count_by is_version statements

pub count_first : (s : Statement) (ss : List Statement) → count (s ∷ ss) ≡ count (s ∷ []) + count ss
count_first s ss = sum_by-append (λ (x : Statement). cond (is_version x) 1 0) (s ∷ []) ss

pub count_more : (ss : List Statement) (s : Statement) → count (ss ++ s ∷ []) ≡ count ss + count (s ∷ [])
count_more ss s = sum_by-append (λ (x : Statement). cond (is_version x) 1 0) ss (s ∷ [])

-- so many versions were said
abbrev pub known : ListedClass → ℕ
known l = length (option_to_list l.version)

-- one more would be the second
abbrev pub is_second : ListedClass → Statement → Bool
is_second l s = is_version s && is_some l.version

none_yet : (o : Option classfile.Version) → is_some o ≡ false → length (option_to_list o) ≡ 0
none_yet None e = refl
none_yet (Some v) e = absurd cc

one_already : (o : Option classfile.Version) → is_some o ≡ true → length (option_to_list o) ≡ 1
one_already None e = absurd cc
one_already (Some v) e = refl

pub one_at_most : (l : ListedClass) → known l ≤ 1
one_at_most l = by l.version
  where
    by : (o : Option classfile.Version) → length (option_to_list o) ≤ 1
    by None = omega arith
    by (Some v) = omega arith

-- what is no second version is counted
pub counts : (l : ListedClass) (s : Statement) → is_second l s ≡ false → known (with_said l s) ≡ known l + count (s ∷ [])
counts l (Version v) e = omega (arith, none_yet l.version e)
counts l (Implements n) e = omega arith
counts l (Field m) e = omega arith
counts l (Method m) e = omega arith
counts l (Ref i) e = omega arith

-- a second one is one too many
pub one_too_many : (l : ListedClass) (s : Statement) → is_second l s ≡ true → known l + count (s ∷ []) ≤ 1 → ⊥
one_too_many l (Version v) e h = absurd (omega (arith, one_already l.version e))
one_too_many l (Implements n) e h = absurd cc
one_too_many l (Field m) e h = absurd cc
one_too_many l (Method m) e h = absurd cc
one_too_many l (Ref i) e h = absurd cc

-- How many turns a task has left at most.
use Rattle.std.specs.Prelude.{ℕ, ◌+◌, ◌*◌, List, []}
use Rattle.cl_model.specs.Frames.{Frame}
use Rattle.cl_model.specs.Measures.{left_loading, left_ended}

-- the most frames, the most supertypes of a class, the most classes of a lineage and the most equalities of a list: what a `usize` counts
unfoldable pub most : ℕ
most = 18446744073709551616

-- one more than the turns from a look to the end of the load
unfoldable pub turns : ℕ
turns = 18446744073709551632

-- how much is left of loads under these frames, while one is still to be made
abbrev pub left_while_loading : List Frame → ℕ
left_while_loading xs = left_loading most most xs

-- and once it has ended
abbrev pub left_once_ended : List Frame → ℕ
left_once_ended xs = left_ended most most xs

-- what a load is at (5.3, 5.3.5)
pub data Phase : Type 0 where
  Fresh : Phase
  Looking : Phase
  Reading : Phase
  Homing : Phase
  Defining : Phase
  Initiating : Phase

-- no more than this many turns are left of a load, with these frames and so many probes
abbrev pub left_at : Phase → List Frame → ℕ → ℕ
left_at Fresh xs probes = turns * left_while_loading xs + (most + 8)
left_at Looking xs probes = turns * left_while_loading xs + (most + 7)
left_at Reading xs probes = turns * left_while_loading xs + (probes + 5)
left_at Homing xs probes = turns * left_while_loading xs + 4
left_at Defining xs probes = turns * left_once_ended xs + 3
left_at Initiating xs probes = turns * left_once_ended xs + 2

-- ---- past the load of the request's class

-- turns left at most once the reference may be settled (5.4.3)
abbrev pub settling_left : ℕ
settling_left = 1

-- where so many equalities are still to be imposed (5.4.3)
abbrev pub imposing_left : ℕ → ℕ
imposing_left equalities = equalities + 1

-- where the lineages of the two classes are still to be had, that of the first already, neither (5.4.3.2 to 5.4.3.4)
abbrev pub tracing_named_left : ℕ
tracing_named_left = most + 2

abbrev pub tracing_own_left : ℕ
tracing_own_left = most + 3

-- past the load of the class that a reference names (5.4.3.1)
abbrev pub named_left : ℕ
named_left = most + 4

-- where the reference is looked up (5.4.3)
abbrev pub reference_left : ℕ
reference_left = named_left + left_at Fresh [] 0

-- where the request's class is looked for once more
abbrev pub checking_left : ℕ
checking_left = reference_left + 1

-- a class of a lineage has no more turns than these: for its lineage, its equalities, its preparation (5.4.2)
abbrev pub each_left : ℕ
each_left = most + 3

-- where so many classes of a lineage are still to be linked (5.4)
abbrev pub chain_left : ℕ → ℕ
chain_left classes = classes * each_left

-- where so many classes are left, and of the one before them so many equalities (5.4.2)
abbrev pub linking_left : ℕ → ℕ → ℕ
linking_left classes equalities = chain_left classes + (equalities + 1)

-- where the lineage of the class that is linked is still to be had, and whether it is prepared; how many above it are is looked up after it (5.4)
abbrev pub whole_left : ℕ
whole_left = chain_left most + 2

abbrev pub prepared_left : ℕ
prepared_left = chain_left most + 3

-- past the load of a request's own class (5.4, 5.4.3)
abbrev pub own_left : ℕ
own_left = checking_left + prepared_left

-- from the beginning
abbrev pub all_left : ℕ
all_left = own_left + left_at Fresh [] 0

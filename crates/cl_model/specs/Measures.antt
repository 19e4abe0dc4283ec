-- How much is left of a load in which classes wait for their supertypes, under any source.
use Rattle.std.specs.Prelude.{ℕ, zero, suc, ◌+◌, ◌-◌, ◌*◌, List, [], ◌∷◌, length}
use Rattle.cl_model.specs.Classes.{supers}
use Rattle.cl_model.specs.Frames.{Frame}

-- what a load may take where there is room for so many frames, each of at most so many supertypes
abbrev pub whole : ℕ → ℕ → ℕ
whole most zero = 3
whole most (suc room) = 3 + most * whole most room

-- the supertypes after the one that is loaded now
abbrev pub supers_behind : Frame → ℕ
supers_behind x = length (supers x.file) - suc (length x.accepted)

-- what is left under these frames, where so much is left of what the last of them waits for
abbrev pub left_under : ℕ → (ℕ → ℕ) → ℕ → List Frame → ℕ
left_under most last room [] = last room
left_under most last zero (x ∷ xs) = 0
left_under most last (suc room) (x ∷ xs) =
    suc (supers_behind x * whole most room) + left_under most last room xs

-- a load is still to be made
abbrev pub left_loading : ℕ → ℕ → List Frame → ℕ
left_loading most room xs = left_under most (whole most) room xs

-- a load has ended, or nothing is left for the last frame to load
abbrev pub left_ended : ℕ → ℕ → List Frame → ℕ
left_ended most room xs = left_under most (λ r. 1) room xs

use Rattle.std.proofs.Common.{◌≡◌, ◌++◌, map}
use Rattle.cl_source.specs.Shelves.{Shelved}
use Rattle.cl_source.proofs.shelf.Shelf.try_clone.Given as goal

-- what is copied and what is left are together what is there
abbrev pub invariant-loop-name : goal.invariant-loop-name
invariant-loop-name l =
    let copied : Shelved = map (λ e. (e.0, e.1.value)) l.entries.entries in
    let left : Shelved = map (λ e. (e.0, e.1.value)) l.name-iterator in
    copied ++ left ≡ l.self

-- Worlds of the examples of homes and derivations (JVMS SE 8, 5.3 to 5.3.5).
use Rattle.std.specs.Prelude.{ℕ, List, [], ◌∷◌, ◌++◌, codes}
use Rattle.cl_model.specs.Homes.{World, WorldLoader, Order, Import, ParentFirst, ChildFirst}
use Rattle.cl_model.specs.Examples.{boot, app, plug, kid, fifth, four, root, under, plain, of_package, interface_named, interface_of_package, with_interfaces, with_loaders, world_with_files, with_bytes}

-- T in app and in plug, which also has a root of its own (5.3, 5.3.2)
abbrev pub copies : World
copies = world_with_files ((boot, root) ∷ (plug, root) ∷ (app, plain "p/T") ∷ (plug, plain "p/T")
    ∷ [])

-- the same, with other bytes for T in app before its own (5.3)
abbrev pub twice : World
twice = with_bytes app "p/T" (7 ∷ []) copies

-- bytes of no class file in app, of a good one in kid (5.3.5, step 2)
abbrev pub bad : World
bad = with_bytes app "p/B" (9 ∷ []) (world_with_files ((boot, root) ∷ (kid, plain "p/B") ∷ []))

-- p/A under p/B, p/B under p/A, p/C under p/A (5.3.5, step 3)
abbrev pub circle : World
circle = world_with_files ((boot, root) ∷ (app, under "p/A" "p/B") ∷ (app, under "p/B" "p/A")
    ∷ (app, under "p/C" "p/A") ∷ [])

-- p/A has the interfaces p/I, which nobody has, and p/J, which is its own (5.3.5, step 4)
abbrev pub missing : World
missing = world_with_files (
    (boot, root)
    ∷ (app, with_interfaces ("p/I" ∷ "p/J" ∷ []) (plain "p/A"))
    ∷ (app, with_interfaces ("p/J" ∷ []) (interface_named "p/J"))
    ∷ [])

-- an import of names that begin so from a loader (5.3.2)
abbrev pub importing_from : List ℕ → ℕ → Import
importing_from prefix target = record { prefix = prefix; target = target }

-- a loader over app (5.3.2)
abbrev pub over_app : Order → List Import → WorldLoader
over_app order imports = record { parents = app ∷ []; order = order; imports = imports }

-- a fifth loader takes names that begin with q/ from boot alone, though it has q/Y of its own (5.3.2)
abbrev pub importing : World
importing = with_loaders (four ++ over_app ChildFirst (importing_from (codes "q/") boot ∷ []) ∷ [])
    (
    (boot, root) ∷ (boot, plain "q/X") ∷ (app, plain "p/T") ∷ (fifth, plain "q/Y") ∷ (fifth, root)
    ∷ (fifth, plain "p/T") ∷ [])

-- a fifth loader takes p/ from boot, p/T from app and java/ from app, of which the first counts and the last
-- is never asked; app has p/T, java/x/Y, q/B whose bytes are of q/C, and q/V of another version (5.3.1, 5.3.2; 5.3.5, step 2)
abbrev pub imports : World
imports = with_bytes app "q/V" [] (with_bytes app "q/B" (3 ∷ []) (
    with_loaders
    (four ++ over_app ParentFirst (importing_from (codes "p/") boot
    ∷ importing_from (codes "p/T") app ∷ importing_from (codes "java/") app ∷ []) ∷ [])
    ((boot, root) ∷ (app, plain "p/T") ∷ (app, plain "java/x/Y") ∷ (app, plain "q/C") ∷ [])))

-- app has p/H of package access, p/L under the interface p/J, p/N which implements the class p/S, and the
-- interface p/X of package access; plug has p/K under p/H and p/G under p/X (5.3.5, steps 3 and 4)
abbrev pub misfits : World
misfits = world_with_files (
    (boot, root)
    ∷ (app, of_package "p/H")
    ∷ (app, interface_named "p/J")
    ∷ (app, under "p/L" "p/J")
    ∷ (app, plain "p/S")
    ∷ (app, with_interfaces ("p/S" ∷ []) (plain "p/N"))
    ∷ (app, interface_of_package "p/X")
    ∷ (plug, under "p/K" "p/H")
    ∷ (plug, under "p/G" "p/X")
    ∷ [])

-- a fifth loader asks app and then plug; p/T is in both, p/V in plug alone; app has a name that begins like the platform's (5.3.2)
abbrev pub two_parents : World
two_parents = with_loaders (four ++ record {
  parents = app ∷ plug
      ∷ [];
  order = ParentFirst;
  imports = [];
} ∷ [])
    ((boot, root) ∷ (app, plain "p/T") ∷ (plug, plain "p/T") ∷ (plug, plain "p/V")
    ∷ (app, plain "javax/T") ∷ [])

-- two loaders over the first one, and one over loaders of these, in this order (5.3.2)
abbrev pub diamond : Order → List ℕ → World
diamond order parents =
    with_loaders
    (record { parents = []; order = ParentFirst; imports = [] }
    ∷ record { parents = boot ∷ []; order = ParentFirst; imports = [] }
    ∷ record { parents = boot ∷ []; order = ParentFirst; imports = [] }
    ∷ record { parents = parents; order = order; imports = [] } ∷ [])
    []

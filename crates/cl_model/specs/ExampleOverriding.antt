-- Worlds of the examples of overriding and preparation (JVMS SE 8, 5.4.2, 5.4.5).
use Rattle.std.specs.Prelude.{◌+◌, [], ◌∷◌}
use Rattle.cl_classfile.specs.Flags as flag
use Rattle.cl_model.specs.Homes.{World}
use Rattle.cl_model.specs.Examples.{boot, app, plug, kid, root, plain, under, interface_named, taking_t, taking_v, giving_v, with_methods, with_interfaces, world_with_files}

-- p/A in app has m for its package, p/B under it makes it public, p/I wants n;
-- in plug q/F is under p/A and q/C under p/B, each with m; q/S has n, and q/E under it implements p/I (5.4.2, 5.4.5)
abbrev pub overriding : World
overriding = world_with_files (
    (boot, root)
    ∷ (app, with_methods ((0, taking_t "m") ∷ []) (plain "p/A"))
    ∷ (app, with_methods ((flag.public, taking_t "m") ∷ []) (under "p/B" "p/A"))
    ∷ (app, with_methods ((flag.public + flag.abstract, taking_v "n") ∷ []) (interface_named "p/I"))
    ∷ (plug, with_methods ((flag.public, taking_t "m") ∷ []) (under "q/F" "p/A"))
    ∷ (plug, with_methods ((flag.public, taking_t "m") ∷ []) (under "q/C" "p/B"))
    ∷ (plug, with_methods ((flag.public, taking_v "n") ∷ []) (plain "q/S"))
    ∷ (plug, with_interfaces ("p/I" ∷ []) (under "q/E" "q/S"))
    ∷ [])

-- app has p/I with m, s static and r private, p/S with m protected, s static, r private, a constructor and g, and p/K with g;
-- in plug q/A implements p/I and q/B is under p/S, each with all that they name; q/I is an interface under p/I, with m and
-- with o of the root; q/C has g private, q/D under it implements p/K, q/F too and has g private; q/G is under p/S and
-- implements q/J, an interface under p/I with g; q/K implements q/I and p/I and has m (5.4.2, 5.4.5)
abbrev pub declared : World
declared = world_with_files (
    (boot, with_methods ((flag.public, taking_t "o") ∷ []) root)
    ∷ (
      app,
      with_methods ((flag.public + flag.abstract, giving_v "m")
          ∷ (flag.public + flag.static, taking_t "s") ∷ (flag.private, taking_t "r") ∷ [])
          (interface_named "p/I"),
    )
    ∷ (
      app,
      with_methods ((flag.protected, giving_v "m") ∷ (flag.public + flag.static, taking_t "s")
          ∷ (flag.private, taking_t "r") ∷ (flag.public, taking_t "<init>")
          ∷ (flag.public, taking_t "g") ∷ []) (plain "p/S"),
    )
    ∷ (app, with_methods ((flag.public + flag.abstract, taking_t "g") ∷ []) (interface_named "p/K"))
    ∷ (
      plug,
      with_methods ((flag.public, giving_v "m") ∷ (flag.public + flag.static, taking_t "s")
          ∷ (flag.private, taking_t "r") ∷ []) (with_interfaces ("p/I" ∷ []) (plain "q/A")),
    )
    ∷ (
      plug,
      with_methods ((flag.public + flag.abstract, giving_v "m")
          ∷ (flag.public + flag.abstract, taking_t "o") ∷ [])
          (with_interfaces ("p/I" ∷ []) (interface_named "q/I")),
    )
    ∷ (
      plug,
      with_methods ((flag.public, giving_v "m") ∷ (flag.public + flag.static, taking_t "s")
          ∷ (flag.private, taking_t "r") ∷ (flag.public, taking_t "<init>") ∷ [])
          (with_interfaces ("p/I" ∷ []) (under "q/B" "p/S")),
    )
    ∷ (plug, with_methods ((flag.private, taking_t "g") ∷ []) (under "q/C" "p/S"))
    ∷ (plug, with_interfaces ("p/K" ∷ []) (under "q/D" "q/C"))
    ∷ (
      plug,
      with_methods ((flag.private, taking_t "g") ∷ [])
          (with_interfaces ("p/K" ∷ []) (under "q/F" "q/C")),
    )
    ∷ (plug, with_interfaces ("q/J" ∷ []) (under "q/G" "p/S"))
    ∷ (
      plug,
      with_methods ((flag.public + flag.abstract, taking_t "g") ∷ [])
          (with_interfaces ("p/I" ∷ []) (interface_named "q/J")),
    )
    ∷ (
      plug,
      with_methods ((flag.public, giving_v "m") ∷ [])
          (with_interfaces ("q/I" ∷ "p/I" ∷ []) (plain "q/K")),
    )
    ∷ [])

-- boot has b/I with m, app p/S with m, p/J with m and p/R, which implements b/I; in kid r/C is under p/S and implements
-- b/I, r/J is an interface under b/I and p/J, and r/D is under p/R and has m (5.4.2)
abbrev pub through_kid : World
through_kid = world_with_files (
    (boot, root)
    ∷ (
      boot,
      with_methods ((flag.public + flag.abstract, taking_t "m") ∷ [])
          (interface_named "b/I"),
    )
    ∷ (app, with_methods ((flag.public, taking_t "m") ∷ []) (plain "p/S"))
    ∷ (app, with_methods ((flag.public + flag.abstract, taking_t "m") ∷ []) (interface_named "p/J"))
    ∷ (kid, with_interfaces ("b/I" ∷ []) (under "r/C" "p/S"))
    ∷ (kid, with_interfaces ("b/I" ∷ "p/J" ∷ []) (interface_named "r/J"))
    ∷ (app, with_interfaces ("b/I" ∷ []) (plain "p/R"))
    ∷ (kid, with_methods ((flag.public, taking_t "m") ∷ []) (under "r/D" "p/R"))
    ∷ [])

-- the root and p/J of app have m, and q/J is an interface of plug under p/J; p/S of app and q/S of plug under it
-- have a, p/I of app and q/I of plug under it b, and q/C of plug is under q/S and implements q/I (5.4.2)
abbrev pub whole_lineage : World
whole_lineage = world_with_files (
    (boot, with_methods ((flag.public, taking_t "m") ∷ []) root)
    ∷ (app, with_methods ((flag.public + flag.abstract, taking_t "m") ∷ []) (interface_named "p/J"))
    ∷ (app, with_methods ((flag.public, taking_t "a") ∷ []) (plain "p/S"))
    ∷ (app, with_methods ((flag.public + flag.abstract, taking_v "b") ∷ []) (interface_named "p/I"))
    ∷ (plug, with_interfaces ("p/J" ∷ []) (interface_named "q/J"))
    ∷ (plug, with_methods ((flag.public, taking_t "a") ∷ []) (under "q/S" "p/S"))
    ∷ (
      plug,
      with_methods ((flag.public + flag.abstract, taking_v "b") ∷ [])
          (with_interfaces ("p/I" ∷ []) (interface_named "q/I")),
    )
    ∷ (plug, with_interfaces ("q/I" ∷ []) (under "q/C" "q/S"))
    ∷ [])

-- boot has b/A with m, b/I with m, n, k and a static j, and b/K with nothing; app has p/B under b/A with m, n, j and a static
-- k; in plug q/C is under p/B, implements b/I and b/K and has m, and q/D is under q/C and has o (5.4.2, 5.4.5)
abbrev pub three_loaders : World
three_loaders = world_with_files (
    (boot, root)
    ∷ (boot, with_methods ((flag.public, taking_t "m") ∷ []) (plain "b/A"))
    ∷ (
      boot,
      with_methods ((flag.public + flag.abstract, taking_t "m")
          ∷ (flag.public + flag.abstract, taking_v "n") ∷ (flag.public + flag.abstract, taking_t "k")
          ∷ (flag.public + flag.static, taking_v "j") ∷ []) (interface_named "b/I"),
    )
    ∷ (boot, interface_named "b/K")
    ∷ (
      app,
      with_methods ((flag.public, taking_t "m") ∷ (flag.public, taking_v "n")
          ∷ (flag.public + flag.static, taking_t "k") ∷ (flag.public, taking_v "j") ∷ [])
          (under "p/B" "b/A"),
    )
    ∷ (
      plug,
      with_methods ((flag.public, taking_t "m") ∷ [])
          (with_interfaces ("b/I" ∷ "b/K" ∷ []) (under "q/C" "p/B")),
    )
    ∷ (plug, with_methods ((flag.public, taking_t "o") ∷ []) (under "q/D" "q/C"))
    ∷ [])

-- app has p/A with m for its package, p/B0 under it with m for its package too, and q/B1 under it with m public;
-- in plug q/Y is under p/B0 and q/Z under q/B1, each with m (5.4.5)
abbrev pub packages : World
packages = world_with_files (
    (boot, root)
    ∷ (app, with_methods ((0, taking_t "m") ∷ []) (plain "p/A"))
    ∷ (app, with_methods ((0, taking_t "m") ∷ []) (under "p/B0" "p/A"))
    ∷ (app, with_methods ((flag.public, taking_t "m") ∷ []) (under "q/B1" "p/A"))
    ∷ (plug, with_methods ((flag.public, taking_t "m") ∷ []) (under "q/Y" "p/B0"))
    ∷ (plug, with_methods ((flag.public, taking_t "m") ∷ []) (under "q/Z" "q/B1"))
    ∷ [])

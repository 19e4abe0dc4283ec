-- Worlds of the examples of lookup and access (JVMS SE 8, 5.4.3.2 to 5.4.4).
use Prim.Native.String.{String}
use Rattle.std.specs.Prelude.{◌≡◌, ℕ, ◌+◌, List, [], ◌∷◌, codes, Option, Some, None, Result, Ok, Err, option_map, option_and_then}
use Rattle.cl_classfile.specs.Files.{ToField, ToMethod, ToInterfaceMethod}
use Rattle.cl_classfile.specs.Flags as flag
use Rattle.cl_model.specs.declared.class.Class.{Class}
use Rattle.cl_model.specs.Homes.{World}
use Rattle.cl_model.specs.Classes.{Error, ClassNotFound}
use Rattle.cl_model.specs.Lineages.{Kin, classes}
use Rattle.cl_model.specs.Plans.{load}
use Rattle.cl_model.specs.States.{Verdict}
use Rattle.cl_model.specs.Examples.{boot, app, enough, root, under, plain, of_package, interface_named, taking_none, an_int, a_class, with_fields, with_methods, with_interfaces, referring_file, world_with_files, ends_at, resolve_of}

-- p/J1 and p/J2 have m with a body, p/J3 and p/J4 under it without, p/J5 under p/J1 declares nothing; p/D has the first
-- three, p/E the third and the first, p/F the third and the fourth, p/H the third and the fifth; p/G has the field x from
-- the second of its interfaces;
-- p/C has the field x from p/I, which it implements, and from p/S, which it is under; p/U names these (5.4.3.2 to 5.4.3.4)
abbrev pub several : World
several = world_with_files (
    (boot, root)
    ∷ (app, with_fields ((flag.public + flag.static, an_int "x") ∷ []) (interface_named "p/I"))
    ∷ (app, with_fields ((flag.public, an_int "x") ∷ []) (plain "p/S"))
    ∷ (app, with_interfaces ("p/I" ∷ []) (under "p/C" "p/S"))
    ∷ (app, with_methods ((flag.public, taking_none "m") ∷ []) (interface_named "p/J1"))
    ∷ (app, with_methods ((flag.public, taking_none "m") ∷ []) (interface_named "p/J2"))
    ∷ (
      app,
      with_methods ((flag.public + flag.abstract, taking_none "m") ∷ [])
          (interface_named "p/J3"),
    )
    ∷ (app, with_interfaces ("p/J3" ∷ "p/J1" ∷ "p/J2" ∷ []) (plain "p/D"))
    ∷ (app, with_interfaces ("p/J3" ∷ "p/J1" ∷ []) (plain "p/E"))
    ∷ (
      app,
      with_methods ((flag.public + flag.abstract, taking_none "m") ∷ [])
          (with_interfaces ("p/J3" ∷ []) (interface_named "p/J4")),
    )
    ∷ (app, with_interfaces ("p/J3" ∷ "p/J4" ∷ []) (plain "p/F"))
    ∷ (app, with_interfaces ("p/J1" ∷ "p/I" ∷ []) (plain "p/G"))
    ∷ (app, with_interfaces ("p/J1" ∷ []) (interface_named "p/J5"))
    ∷ (app, with_interfaces ("p/J3" ∷ "p/J5" ∷ []) (plain "p/H"))
    ∷ (
      app,
      referring_file (
          ToField (a_class "p/C") (an_int "x")
          ∷ ToMethod (a_class "p/D") (taking_none "m")
          ∷ ToMethod (a_class "p/E") (taking_none "m")
          ∷ ToInterfaceMethod (a_class "p/J1") (taking_none "m")
          ∷ ToInterfaceMethod (a_class "p/D") (taking_none "m")
          ∷ ToMethod (a_class "p/F") (taking_none "m")
          ∷ ToField (a_class "p/G") (an_int "x")
          ∷ ToMethod (a_class "p/H") (taking_none "m")
          ∷ []) (plain "p/U"),
    )
    ∷ [])

-- what this reference of p/U is resolved to in that world (5.4.3)
abbrev pub chosen_method : ℕ → Option Verdict
chosen_method i = ends_at several (resolve_of app "p/U" i)

-- p/I has m, f and e; p/J under it has m, p/K under that none; p/S has a and y, and implements p/K; p/C is under p/S and
-- implements p/M, which has a, n without a body, r private and t static; p/V implements p/M and is under p/W, which
-- implements p/N, where n is too; p/X is under p/V; p/Y implements p/I and p/J; the root has h and e public, f protected and s static;
-- p/U names these (5.4.3.2 to 5.4.3.4)
abbrev pub inherited : World
inherited = world_with_files ((
  boot,
  with_methods ((flag.public, taking_none "h") ∷ (flag.protected, taking_none "f")
      ∷ (flag.public + flag.static, taking_none "s") ∷ (flag.public, taking_none "e") ∷ []) root,
)
    ∷ (
      app,
      with_methods ((flag.public, taking_none "m") ∷ (flag.public, taking_none "f")
          ∷ (flag.public, taking_none "e") ∷ []) (interface_named "p/I"),
    )
    ∷ (
      app,
      with_methods ((flag.public, taking_none "m") ∷ [])
          (with_interfaces ("p/I" ∷ []) (interface_named "p/J")),
    )
    ∷ (app, with_interfaces ("p/J" ∷ []) (interface_named "p/K"))
    ∷ (
      app,
      with_fields ((flag.public, an_int "y") ∷ [])
          (with_methods ((flag.public, taking_none "a") ∷ [])
          (with_interfaces ("p/K" ∷ []) (plain "p/S"))),
    )
    ∷ (app, with_interfaces ("p/M" ∷ []) (under "p/C" "p/S"))
    ∷ (
      app,
      with_methods ((flag.public + flag.abstract, taking_none "n")
          ∷ (flag.private, taking_none "r") ∷ (flag.public + flag.static, taking_none "t")
          ∷ (flag.public, taking_none "a") ∷ []) (interface_named "p/M"),
    )
    ∷ (
      app,
      with_methods ((flag.public + flag.abstract, taking_none "n") ∷ [])
          (interface_named "p/N"),
    )
    ∷ (app, with_interfaces ("p/M" ∷ []) (under "p/V" "p/W"))
    ∷ (app, with_interfaces ("p/N" ∷ []) (plain "p/W"))
    ∷ (
      app,
      referring_file (
          ToMethod (a_class "p/C") (taking_none "m")
          ∷ ToMethod (a_class "p/C") (taking_none "a")
          ∷ ToField (a_class "p/C") (an_int "y")
          ∷ ToMethod (a_class "p/V") (taking_none "n")
          ∷ ToMethod (a_class "p/C") (taking_none "r")
          ∷ ToMethod (a_class "p/C") (taking_none "t")
          ∷ ToInterfaceMethod (a_class "p/K") (taking_none "m")
          ∷ ToInterfaceMethod (a_class "p/K") (taking_none "h")
          ∷ ToInterfaceMethod (a_class "p/I") (taking_none "f")
          ∷ ToInterfaceMethod (a_class "p/K") (taking_none "f")
          ∷ ToMethod (a_class "p/K") (taking_none "m")
          ∷ ToMethod (a_class "p/C") (taking_none "z")
          ∷ ToField (a_class "p/C") (an_int "z")
          ∷ ToMethod (a_class "p/Y") (taking_none "m")
          ∷ ToInterfaceMethod (a_class "p/K") (taking_none "s")
          ∷ ToInterfaceMethod (a_class "p/K") (taking_none "e")
          ∷ ToMethod (a_class "p/X") (taking_none "n")
          ∷ []) (plain "p/U"),
    )
    ∷ (app, with_interfaces ("p/I" ∷ "p/J" ∷ []) (plain "p/Y"))
    ∷ (app, under "p/X" "p/V")
    ∷ [])

-- what this reference of p/U is resolved to in that world (5.4.3)
abbrev pub lookup : ℕ → Option Verdict
lookup i = ends_at inherited (resolve_of app "p/U" i)

-- p/P has m protected, s protected and static, k of package access and v private; p/Q and q/D are under it, q/E under
-- q/D; p/R has m and s, both protected; p/H of package access has h, and p/L is under it; q/D and p/R name these (5.4.4)
abbrev pub accesses : World
accesses = world_with_files (
    (boot, root)
    ∷ (
      app,
      with_methods ((flag.protected, taking_none "m")
          ∷ (flag.protected + flag.static, taking_none "s") ∷ (0, taking_none "k")
          ∷ (flag.private, taking_none "v") ∷ []) (plain "p/P"),
    )
    ∷ (app, under "p/Q" "p/P")
    ∷ (
      app,
      with_methods ((flag.private, taking_none "w") ∷ []) (referring_file (
          ToMethod (a_class "p/P") (taking_none "m")
          ∷ ToMethod (a_class "q/D") (taking_none "m")
          ∷ ToMethod (a_class "q/E") (taking_none "m")
          ∷ ToMethod (a_class "p/Q") (taking_none "m")
          ∷ ToMethod (a_class "p/Q") (taking_none "s")
          ∷ ToMethod (a_class "p/P") (taking_none "k")
          ∷ ToMethod (a_class "p/P") (taking_none "v")
          ∷ ToMethod (a_class "q/D") (taking_none "w")
          ∷ ToMethod (a_class "p/R") (taking_none "m")
          ∷ ToMethod (a_class "p/R") (taking_none "s")
          ∷ ToMethod (a_class "p/L") (taking_none "h")
          ∷ []) (under "q/D" "p/P")),
    )
    ∷ (app, under "q/E" "q/D")
    ∷ (
      app,
      with_methods ((flag.protected, taking_none "m")
          ∷ (flag.protected + flag.static, taking_none "s") ∷ []) (referring_file (
          ToMethod (a_class "p/P") (taking_none "k")
          ∷ ToMethod (a_class "p/P") (taking_none "v")
          ∷ ToMethod (a_class "q/D") (taking_none "m")
          ∷ ToMethod (a_class "p/Q") (taking_none "m")
          ∷ []) (plain "p/R")),
    )
    ∷ (app, with_methods ((flag.public, taking_none "h") ∷ []) (of_package "p/H"))
    ∷ (app, under "p/L" "p/H")
    ∷ [])

-- what this reference of q/D is resolved to in that world (5.4.4)
abbrev pub from_d : ℕ → Option Verdict
from_d i = ends_at accesses (resolve_of app "q/D" i)

-- what this reference of p/R is resolved to in that world (5.4.4)
abbrev pub from_r : ℕ → Option Verdict
from_r i = ends_at accesses (resolve_of app "p/R" i)

-- what a derivation ends in, if it is no error (5.3.5)
abbrev pub derived_lineage : Result Kin Error → Option Kin
derived_lineage (Ok k) = Some k
derived_lineage (Err e) = None

-- the class of this name in app of the world of several, with all that stands above it (5.3.5)
abbrev pub several_kin : String → Option Kin
several_kin name = option_and_then (λ m. derived_lineage m.ends)
    (load several enough ClassNotFound app (codes name))

-- these are the classes of an order of what stands above the class of this name, and of the class itself (5.3.5, 5.4.3)
abbrev pub Orders : (Kin → List Kin) → String → List Class → Type 0
Orders order name cs = option_map (λ k. classes (order k)) (several_kin name) ≡ Some cs

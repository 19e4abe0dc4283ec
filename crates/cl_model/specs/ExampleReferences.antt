-- Worlds of the examples of references and the constraints that they impose (JVMS SE 8, 5.3.4, 5.4.3).
use Rattle.std.specs.Prelude.{ℕ, ◌+◌, List, [], ◌∷◌, Option, Some, codes}
use Rattle.cl_descriptors.specs.declared.types.Base.TheVariants as bases
use Rattle.cl_classfile.specs.Files.{File, ToClass, ToField, ToMethod, ToInterfaceMethod}
use Rattle.cl_classfile.specs.Flags as flag
use Rattle.cl_model.specs.Homes.{World}
use Rattle.cl_model.specs.States.{Need, Verdict}
use Rattle.cl_model.specs.Examples.{boot, app, plug, kid, root, plain, under, of_package, interface_named, taking_none, taking_t, an_int, an_array, a_class, an_array_of, method_key, with_fields, with_methods, with_interfaces, referring_file, world_with_files, resolve_of, ends_at, ResolveNeeds}

-- a class with a method that takes a T (4.6)
abbrev pub svc : File
svc = with_methods ((flag.public, taking_t "m") ∷ []) (plain "p/Svc")

-- a class that names that method (5.4.3)
abbrev pub use_of_svc : File
use_of_svc = referring_file (ToMethod (a_class "p/Svc") (taking_t "m") ∷ []) (plain "p/Use")

-- T and Svc in app; T and Use in plug (5.3.4, 5.4.3.3)
abbrev pub service : World
service = world_with_files ((boot, root) ∷ (app, plain "p/T") ∷ (app, svc) ∷ (plug, plain "p/T")
    ∷ (plug, use_of_svc) ∷ [])

-- Svc in app; T and Use in plug and in kid (5.3.4)
abbrev pub three_users : World
three_users = world_with_files ((boot, root) ∷ (app, svc) ∷ (plug, plain "p/T") ∷ (plug, use_of_svc)
    ∷ (kid, plain "p/T") ∷ (kid, use_of_svc) ∷ [])

-- p/Hid in app is of package access, p/Peek in plug names it (5.4.4)
abbrev pub hidden : World
hidden = world_with_files ((boot, root) ∷ (app, of_package "p/Hid")
    ∷ (plug, referring_file (ToClass (a_class "p/Hid") ∷ []) (plain "p/Peek")) ∷ [])

-- p/X names a method of an array of a base type, an array of arrays of p/T, an array of a base type, a method and a field of
-- an array of p/T, and p/T (5.3.3, 5.4.3.1)
abbrev pub arrays : World
arrays = world_with_files (
    (boot, root)
    ∷ (app, plain "p/T")
    ∷ (
      app,
      referring_file (
          ToMethod (an_array_of 1 bases.Int) (method_key "clone" []
          (Some (a_class "java/lang/Object")))
          ∷ ToClass (an_array_of 2 (bases.Class (codes "p/T")))
          ∷ ToClass (an_array_of 1 bases.Int)
          ∷ ToMethod (an_array_of 1 (bases.Class (codes "p/T"))) (taking_none "m")
          ∷ ToField (an_array_of 1 (bases.Class (codes "p/T"))) (an_array "x")
          ∷ ToClass (a_class "p/T")
          ∷ []) (plain "p/X"),
    )
    ∷ [])

-- app has p/F with x and m, p/H of package access, and p/P with k protected; plug has q/G under p/F and q/X under p/P,
-- and q/U, which names these, p/Z, which nobody has, and arrays (5.4.3.1 to 5.4.3.3)
abbrev pub references : World
references = world_with_files (
    (boot, root)
    ∷ (
      app,
      with_fields ((flag.public, an_array "x") ∷ [])
          (with_methods ((flag.public, taking_t "m") ∷ []) (plain "p/F")),
    )
    ∷ (app, of_package "p/H")
    ∷ (app, with_methods ((flag.protected, taking_none "k") ∷ []) (plain "p/P"))
    ∷ (plug, under "q/G" "p/F")
    ∷ (plug, under "q/X" "p/P")
    ∷ (
      plug,
      referring_file (
          ToField (a_class "p/F") (an_array "x")
          ∷ ToMethod (a_class "q/G") (taking_t "m")
          ∷ ToClass (a_class "p/Z")
          ∷ ToClass (an_array_of 1 (bases.Class (codes "p/H")))
          ∷ ToMethod (a_class "q/X") (taking_none "k")
          ∷ ToClass (an_array_of 2 bases.Long)
          ∷ ToMethod (a_class "q/G") (taking_none "n")
          ∷ []) (plain "q/U"),
    )
    ∷ [])

-- what this reference of q/U is resolved to in that world (5.4.3)
abbrev pub from_u : ℕ → Option Verdict
from_u i = ends_at references (resolve_of plug "q/U" i)

-- this reference of q/U needs these in turn past the load of q/U (5.4.3)
abbrev pub NeedsPast : ℕ → List Need → Type 0
NeedsPast i needs = ResolveNeeds references plug "q/U" i needs

-- the root has x, h, f protected, k for its package, and o; plug has q/A with m, v private, a constructor and `<clinit>`, the
-- interface q/I with y, h and a constructor, the interface q/J with x, which names f, and q/B under q/A, which implements
-- q/I and q/J, has y, m and `<clinit>`, and names these and what nobody has (5.4.2 to 5.4.5)
abbrev pub nearest : World
nearest = world_with_files ((
  boot,
  with_fields ((flag.public, an_int "x") ∷ [])
      (with_methods ((flag.public, taking_none "h") ∷ (flag.protected, taking_none "f")
      ∷ (0, taking_t "k") ∷ (flag.public, taking_t "o") ∷ []) root),
)
    ∷ (
      plug,
      with_methods ((flag.public, taking_none "m") ∷ (flag.private, taking_none "v")
          ∷ (flag.public, taking_t "<init>") ∷ (flag.public, taking_t "<clinit>") ∷ [])
          (plain "q/A"),
    )
    ∷ (
      plug,
      with_fields ((flag.public + flag.static, an_int "y") ∷ [])
          (with_methods ((flag.public, taking_none "h") ∷ (flag.public, taking_t "<init>") ∷ [])
          (interface_named "q/I")),
    )
    ∷ (
      plug,
      with_fields ((flag.public + flag.static, an_int "x") ∷ []) (referring_file
          (ToMethod (a_class "java/lang/Object") (taking_none "f") ∷ []) (interface_named "q/J")),
    )
    ∷ (
      plug,
      with_fields ((flag.public, an_int "y") ∷ [])
          (with_methods ((flag.public, taking_none "m") ∷ (flag.public, taking_t "<clinit>") ∷ [])
          (with_interfaces ("q/I" ∷ "q/J" ∷ []) (referring_file (
          ToMethod (a_class "q/B") (taking_none "m")
          ∷ ToField (a_class "q/B") (an_int "y")
          ∷ ToField (a_class "q/B") (an_int "x")
          ∷ ToInterfaceMethod (a_class "q/I") (taking_none "h")
          ∷ ToMethod (a_class "q/B") (taking_none "v")
          ∷ ToMethod (a_class "java/lang/Object") (taking_t "k")
          ∷ ToMethod (a_class "q/I") (taking_none "z")
          ∷ []) (under "q/B" "q/A")))),
    )
    ∷ [])

-- what this reference of q/B is resolved to in that world (5.4.3)
abbrev pub from_b : ℕ → Option Verdict
from_b i = ends_at nearest (resolve_of plug "q/B" i)

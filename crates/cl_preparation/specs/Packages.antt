-- Run-time packages (JVMS SE 8, 5.3).
use Rattle.std.specs.Prelude.{◌≡◌, ◌==◌, Bool, true, ◌&&◌, if◌then◌else◌, nat_eq, List}
use Rattle.std.specs.Cmp.Lexicographic.{pointwise}
use Rattle.indexmap.specs.IndexSet.{IndexSet, contains}
use Rattle.cl_names.specs.Kind.{package_of}
use Rattle.cl_model.specs.declared.class.Class.{Class}
use Rattle.cl_preparation.specs.declared.packages.Package.{Package}
use Rattle.cl_preparation.specs.Walks.{is_in_package}

-- the run-time package of a class (5.3)
abbrev pub package_of_class : Class → Package
package_of_class c = record { loader = c.loader; name = package_of c.name }

-- two packages are the same (5.3)
abbrev pub same_packages : Package → Package → Bool
same_packages a b = (a.loader == b.loader) && pointwise nat_eq a.name b.name

-- a package was added
abbrev pub Opens : {S : Type 0} → IndexSet Package S → IndexSet Package S → Package → Type 0
Opens old new p =
    (q : Package)
    → contains same_packages new q
    ≡ (if same_packages p q then true else contains same_packages old q)

-- the packages are those of these classes (5.3)
abbrev pub AreOpened : {S : Type 0} → IndexSet Package S → List Class → Type 0
AreOpened packages cs =
    (c : Class) → contains same_packages packages (package_of_class c) ≡ is_in_package cs c

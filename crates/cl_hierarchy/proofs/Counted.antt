-- How many direct supertypes a class file names.
use Rattle.std.proofs.Common.{◌≡◌, ◌+◌, ◌∙◌, ℕ, suc, List, [], ◌∷◌, length, Option, refl, ap, arith, length-append}
use Rattle.std.specs.List.{AllByRecursion, filter_map}
use Rattle.std.specs.Prelude.{option_to_list}
use Rattle.std.proofs.lemmas.List.{length-map}
use Rattle.cl_classfile.specs.declared.entry.Entry.{Entry}
use Rattle.cl_classfile.specs.Structure.{Structure, KeepsInterface, IsClassFile}
use Rattle.cl_classfile.specs.Files.{class_name, file_of}
use Rattle.cl_classfile.proofs.Classes.{class_named}
use Rattle.cl_model.specs.Classes.{Above, Role, AsSuperclass, AsSuperinterface, supers, superclass_of, superinterfaces_of}

-- each interface names a class
each_named : (pool : List Entry) (is : List ℕ) → AllByRecursion (KeepsInterface pool) is → length (filter_map (class_name pool) is) ≡ length is
each_named pool [] kept = refl
each_named pool (i ∷ is) kept = rw (class_named pool i kept.0.0 kept.0.1) (ap suc (each_named pool is kept.1))

abbrev one_above : List ℕ → Role → Above
one_above n role = record { name = n; role = role }

interfaces_counted : (f : Structure) → IsClassFile f → length (superinterfaces_of (file_of f)) ≡ length f.interfaces
interfaces_counted f kept = length-map (file_of f).interfaces (λ n. one_above n AsSuperinterface) ∙ each_named f.pool f.interfaces kept.kept.interfaces

-- a class and its superinterfaces, with so many superclasses
pub counted : (f : Structure) (o : Option (List ℕ)) (above n : ℕ) → IsClassFile f → (file_of f).super_name ≡ o → length (option_to_list o) ≡ above → n ≡ length f.interfaces → n + above ≡ length (supers (file_of f))
counted f o above n kept is one e =
    let others = interfaces_counted f kept in
    let all = length-append (superclass_of (file_of f)) (superinterfaces_of (file_of f)) in
    let first : length (superclass_of (file_of f)) ≡ length (option_to_list (file_of f).super_name) = length-map (option_to_list (file_of f).super_name) (λ (n : List ℕ). one_above n AsSuperclass) in
    let known : length (option_to_list (file_of f).super_name) ≡ length (option_to_list o) = ap (λ (s : Option (List ℕ)). length (option_to_list s)) is in
    omega (arith, others, all, first, known, one, e)

-- Classes, what their bytes spell, and when a derivation is good, fails or is circular (JVMS SE 8, 5.3, 5.3.5, 5.4.4).
use Rattle.std.specs.Prelude.{◌≡◌, ◌⊎◌, ℕ, zero, suc, Bool, true, false, ◌&&◌, ◌||◌, not, ◌==◌, nat_eq, if◌then◌else◌, List, [], ◌∷◌, ◌++◌, map, Option, Some, None, Result, Ok, Err, option_to_list}
use Rattle.std.specs.List.{AllByRecursion, list_any}
use Rattle.std.specs.Cmp.Lexicographic.{pointwise}
use Rattle.cl_names.specs.Kind.{package_of}
use Rattle.cl_model.specs.declared.class.Class.{Class}
use Rattle.cl_model.specs.Content.{content_at}
use Rattle.cl_classfile.specs.Files.{Name, same_name, File, FileFault, BadVersion, BadFormat, is_public, is_interface}
use Rattle.cl_model.specs.Homes.{World, home}

-- a class by its binary name and its defining loader (5.3)
abbrev pub class : Name → ℕ → Class
class name loader = record { name = name; loader = loader }

-- two classes are the same (5.3)
abbrev pub same_class : Class → Class → Bool
same_class a b = same_name a.name b.name && (a.loader == b.loader)

-- a class is one of these (5.3)
abbrev pub is_among : List Class → Class → Bool
is_among cs c = list_any (same_class c) cs

-- the errors of loading and linking, each with its subject (5.3, 5.4.3, 5.4.4)
pub data Error : Type 0 where
  ClassNotFound : (subject : Class) → Error
  NoClassDef : (subject : Class) → Error
  ClassFormat : (subject : Class) → Error
  UnsupportedVersion : (subject : Class) → Error
  ClassCircularity : (subject : Class) → Error
  IncompatibleClassChange : (subject : Class) → Error
  IllegalAccess : (subject : Class) → Error
  NoSuchField : (subject : Class) → Error
  NoSuchMethod : (subject : Class) → Error

-- a class is at home: asked for its name, its loader finds it in its own content (5.3)
abbrev pub IsAtHome : World → Class → Type 0
IsAtHome w c = home w c.loader c.name ≡ Some c.loader

-- a test of it, by the home of its name (5.3)
abbrev pub is_own : ℕ → Option ℕ → Bool
is_own loader None = false
is_own loader (Some place) = place == loader

-- the bytes of a class; a name at a loader that is not its home is no class, and has none (5.3, 5.3.2)
abbrev pub bytes_of : World → Class → Option (List ℕ)
bytes_of w c = if is_own c.loader (home w c.loader c.name) then content_at w.content c.loader c.name
    else None

-- the error that a fault of the bytes is (5.3.5, step 2; version before the rest of the form is an own choice)
abbrev pub fault_of : Class → FileFault → Error
fault_of c BadVersion = UnsupportedVersion c
fault_of c BadFormat = ClassFormat c

-- the file that was read, where it names the class (5.3.5, step 2)
abbrev pub file_if_named : Class → Result File FileFault → Result File Error
file_if_named c (Err fault) = Err (fault_of c fault)
file_if_named c (Ok f) = if same_name f.name c.name then Ok f else Err (NoClassDef c)

-- the bytes that there are, read; no derivation asks for what has none (5.3.5, step 2)
abbrev pub read_found : World → Class → Option (List ℕ) → Result File Error
read_found w c None = Err (NoClassDef c)
read_found w c (Some bytes) = file_if_named c (w.read bytes)

-- the file of a class, or what is wrong with its bytes (5.3.5, step 2)
abbrev pub read_class : World → Class → Result File Error
read_class w c = read_found w c (bytes_of w c)

-- what a supertype is wanted for (5.3.5, steps 3 and 4)
pub data Role : Type 0 where
  AsSuperclass : Role
  AsSuperinterface : Role

-- a direct supertype's name and role (5.3.5, steps 3 and 4)
pub record Above : Type 0 where
  pub name : Name
  pub role : Role

-- the direct superclass, if any (4.1; 5.3.5, step 3)
abbrev pub superclass_of : File → List Above
superclass_of f = map (λ n. record { name = n; role = AsSuperclass }) (option_to_list f.super_name)

-- the direct superinterfaces in file order (4.1; 5.3.5, step 4)
abbrev pub superinterfaces_of : File → List Above
superinterfaces_of f = map (λ n. record { name = n; role = AsSuperinterface }) f.interfaces

-- the direct supertypes in the order in which they are loaded
-- (5.3.5, steps 3 and 4; own choice that the superclass of an interface is one like any other)
abbrev pub supers : File → List Above
supers f = superclass_of f ++ superinterfaces_of f

-- two classes are of one run-time package (5.3)
abbrev pub same_package : Class → Class → Bool
same_package a b = (a.loader == b.loader) && pointwise nat_eq (package_of a.name)
    (package_of b.name)

-- a class with these flags is accessible to another (5.4.4)
abbrev pub class_accessible : ℕ → Class → Class → Bool
class_accessible flags c from = is_public flags || same_package c from

-- a file is of the kind that a role asks for (5.3.5, steps 3 and 4)
abbrev pub is_fit : Role → File → Bool
is_fit AsSuperclass f = not (is_interface f)
is_fit AsSuperinterface f = is_interface f

-- what is wrong with a supertype s, of file f, of a class c: access before kind (5.3.5, steps 3 and 4)
abbrev pub misfit : Class → Role → Class → File → Option Error
misfit c role s f =
    if class_accessible f.flags s c
    then (if is_fit role f then None else Some (IncompatibleClassChange s))
    else Some (IllegalAccess s)

-- ---- derivations

-- a class has this file (5.3.5, step 2)
abbrev pub HasFile : World → Class → File → Type 0
HasFile w c f = read_class w c ≡ Ok f

-- a supertype of c has a home, at which P holds of it (5.3.1, 5.3.2)
pub record AtHome (w : World) (c : Class) (P : Class → Type 0) (name : Name) : Type 0 where
  pub place : ℕ
  pub found : home w c.loader name ≡ Some place
  pub holds : P (class name place)

-- each of these supertypes of c has a home, at which P holds of it (5.3.1, 5.3.2)
abbrev pub AllAtHome : World → Class → (Class → Type 0) → List Above → Type 0
AllAtHome w c P others = AllByRecursion (λ (a : Above). AtHome w c P a.name) others

-- a class is of file f, and a supertype of c does or does not fit in its role (5.3.5, steps 3 and 4)
pub record Fitting (w : World) (c : Class) (role : Role) (wrong : Option Error)
    (s : Class) : Type 0 where
  pub file : File
  pub has_file : HasFile w s file
  pub judged : misfit c role s file ≡ wrong

-- a supertype is good at a height and fits (5.3.5, steps 3 and 4)
abbrev pub FitsAt : World → Class → (Class → Type 0) → Above → Type 0
FitsAt w c good a = AtHome w c (λ s. good s × Fitting w c a.role None s) a.name

-- the class can be derived within this height (5.3.5)
abbrev pub Good : World → ℕ → Class → Type 0
Good w zero c = ⊥
Good w (suc n) c = (f : File) × HasFile w c f × AllByRecursion (FitsAt w c (Good w n)) (supers f)

-- the first of a list that does not fit is wrong (5.3.5: the first error ends a derivation)
abbrev pub FirstWrong : (Above → Type 0) → (Above → Type 0) → List Above → Type 0
FirstWrong fits wrong [] = ⊥
FirstWrong fits wrong (a ∷ others) = wrong a ⊎ (fits a × FirstWrong fits wrong others)

-- a supertype is wrong: it has no home, its own derivation fails, or it is good and does not fit (5.3.5, steps 3 and 4)
abbrev pub WrongAt : World → Class → (Class → Type 0) → (Class → Type 0) → Error → Above → Type 0
WrongAt w c good fails e a =
    ((home w c.loader a.name ≡ None) × (e ≡ NoClassDef (class a.name c.loader)))
    ⊎ AtHome w c fails a.name
    ⊎ AtHome w c (λ s. good s × Fitting w c a.role (Some e) s) a.name

-- the derivation of a class ends in this error within this height (5.3.5)
abbrev pub Fails : World → ℕ → Class → Error → Type 0
Fails w zero c e = ⊥
Fails w (suc n) c e =
    (read_class w c ≡ Err e)
    ⊎ ((f : File) × HasFile w c f × FirstWrong (FitsAt w c (Good w n))
    (WrongAt w c (Good w n) (λ s. Fails w n s e) e) (supers f))

-- a class is good at some height (5.3.5)
abbrev pub IsGood : World → Class → Type 0
IsGood w c = (n : ℕ) × Good w n c

-- no height gives either (5.3.5)
pub record Circular (w : World) (c : Class) : Type 0 where
  pub not_good : (n : ℕ) → Good w n c → ⊥
  pub not_failing : (n : ℕ) (e : Error) → Fails w n c e → ⊥

-- ---- circles

-- s is a supertype of c, and all before it are good and fit (5.3.5, steps 3 and 4)
abbrev pub Next : World → Class → Class → Type 0
Next w c s = (f : File) × HasFile w c f × FirstWrong (FitsAt w c (IsGood w))
    (λ a. AtHome w c (λ t. t ≡ s) a.name) (supers f)

-- a walk from c by these steps, after the classes of a path, to x, the first class that is met again (5.3.5, steps 3 and 4)
abbrev pub IsWalk : World → List Class → Class → List Class → Class → Type 0
IsWalk w path c [] x = (is_among path c ≡ true) × (c ≡ x)
IsWalk w path c (s ∷ steps) x = (is_among path c ≡ false) × Next w c s
    × IsWalk w (c ∷ path) s steps x

-- a walk from c along first supertypes that are not good, after the classes of a path, meets x again:
-- x is the subject of the ClassCircularityError (5.3.5, steps 3 and 4; own choice of the subject)
pub record Returns (w : World) (path : List Class) (c x : Class) : Type 0 where
  pub steps : List Class
  pub along : IsWalk w path c steps x

-- a load ends in a circle of the class x: its home's walk along first supertypes that are not good meets x again (5.3.5, step 3)
pub record EndsInCircle (w : World) (loader : ℕ) (name : Name) (x : Class) : Type 0 where
  pub place : ℕ
  pub found : home w loader name ≡ Some place
  pub returns : Returns w [] (class name place) x

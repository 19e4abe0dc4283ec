-- The words of the worked examples: four loaders, files and worlds, each class and member by its text (JVMS SE 8, 5.3 to 5.4.5).
use Prim.Native.String.{String}
use Rattle.std.specs.Prelude.{◌≡◌, ℕ, suc, ◌+◌, List, [], ◌∷◌, ◌++◌, map, codes, Option, Some, None, Result, Ok, Err, slice_get, option_map}
use Rattle.cl_descriptors.specs.declared.types.Base.{Base}
use Rattle.cl_descriptors.specs.declared.types.Base.TheVariants as bases
use Rattle.cl_descriptors.specs.declared.types.FieldType.{FieldType}
use Rattle.cl_descriptors.specs.declared.types.Descriptor.TheVariants as descriptors
use Rattle.cl_classfile.specs.Files.{Name, File, FileFault, BadVersion, BadFormat, Key, Member, Reference}
use Rattle.cl_classfile.specs.Flags as flag
use Rattle.cl_model.specs.declared.class.Class.{Class}
use Rattle.cl_model.specs.Content.{Content, content_at}
use Rattle.cl_model.specs.Homes.{World, WorldLoader, ParentFirst, ChildFirst}
use Rattle.cl_model.specs.Classes.{class, Error}
use Rattle.cl_model.specs.States.{Need, Entry, Equal, Verdict, Wrong}
use Rattle.cl_model.specs.Plans.{Request, Load, Resolve, Link, plan, plan_needs, cost}

-- ---- loaders

-- the first loader (5.3.1)
abbrev pub boot : ℕ
boot = 0

-- a second under it (5.3.2)
abbrev pub app : ℕ
app = 1

-- a third under the second, child first (5.3.2)
abbrev pub plug : ℕ
plug = 2

-- a fourth under the second (5.3.2)
abbrev pub kid : ℕ
kid = 3

-- a fifth, which stands in some worlds alone (5.3.2)
abbrev pub fifth : ℕ
fifth = 4

-- the four, in the order of their numbers (5.3)
abbrev pub four : List WorldLoader
four =
    record { parents = []; order = ParentFirst; imports = [] }
    ∷ record { parents = boot ∷ []; order = ParentFirst; imports = [] }
    ∷ record { parents = app ∷ []; order = ChildFirst; imports = [] }
    ∷ record { parents = app ∷ []; order = ParentFirst; imports = [] }
    ∷ []

-- the names of the four
abbrev pub names : List (List ℕ)
names = codes "boot" ∷ codes "app" ∷ codes "plug" ∷ codes "kid" ∷ []

-- ---- classes, descriptors and members

-- the root class (4.1, super_class)
abbrev pub object : Name
object = codes "java/lang/Object"

-- the class of this name that the first loader defines (5.3)
abbrev pub in_boot : String → Class
in_boot name = class (codes name) boot

-- the class of this name that the second loader defines (5.3)
abbrev pub in_app : String → Class
in_app name = class (codes name) app

-- the class of this name that the third loader defines (5.3)
abbrev pub in_plug : String → Class
in_plug name = class (codes name) plug

-- the class of this name that the fourth loader defines (5.3)
abbrev pub in_kid : String → Class
in_kid name = class (codes name) kid

-- the class of this name that the fifth loader would define (5.3)
abbrev pub in_fifth : String → Class
in_fifth name = class (codes name) fifth

-- the root class, which the first loader defines (4.1, super_class; 5.3.1)
abbrev pub the_root : Class
the_root = class object boot

-- an array of so many dimensions (4.3.2)
abbrev pub an_array_of : ℕ → Base → FieldType
an_array_of dimensions base = record { dims = dimensions; base = base }

-- the letter of int, I (4.3.2)
abbrev pub int_letter : ℕ
int_letter = 0x49

-- the letter of long, J (4.3.2)
abbrev pub long_letter : ℕ
long_letter = 0x4a

-- the type of a class of this name (4.3.2)
abbrev pub a_class : String → FieldType
a_class name = an_array_of 0 (bases.Class (codes name))

-- a method's key by its parameters and what it returns (4.3.3)
abbrev pub method_key : String → List FieldType → Option FieldType → Key
method_key name params ret = record {
  name = codes name;
  descriptor = descriptors.Method
      (record { params = params; ret = ret });
}

-- a field's key by its type (4.3.2)
abbrev pub field_key : String → FieldType → Key
field_key name type = record { name = codes name; descriptor = descriptors.Field type }

-- `NAME ()V` (4.3.3)
abbrev pub taking_none : String → Key
taking_none name = method_key name [] None

-- `NAME (Lp/T;)V` (4.3.3)
abbrev pub taking_t : String → Key
taking_t name = method_key name (a_class "p/T" ∷ []) None

-- `NAME (Lp/V;)V` (4.3.3)
abbrev pub taking_v : String → Key
taking_v name = method_key name (a_class "p/V" ∷ []) None

-- `NAME (Lp/T;)Lp/V;` (4.3.3)
abbrev pub giving_v : String → Key
giving_v name = method_key name (a_class "p/T" ∷ []) (Some (a_class "p/V"))

-- `NAME I` (4.3.2)
abbrev pub an_int : String → Key
an_int name = field_key name (an_array_of 0 bases.Int)

-- `NAME [Lp/T;` (4.3.2)
abbrev pub an_array : String → Key
an_array name = field_key name (an_array_of 1 (bases.Class (codes "p/T")))

-- ---- files

-- a class with these flags, this name and superclass (4.1)
abbrev pub flagged_file : ℕ → Name → Option Name → File
flagged_file flags name sup = record {
  flags = flags;
  name = name;
  super_name = sup;
  interfaces = [];
  fields = [];
  methods = [];
  references = [];
}

-- the file of the root class (4.1, super_class)
abbrev pub root : File
root = flagged_file (flag.public + flag.super) object None

-- a public class under another (4.1)
abbrev pub under : String → String → File
under name sup = flagged_file (flag.public + flag.super) (codes name) (Some (codes sup))

-- a public class under the root (4.1)
abbrev pub plain : String → File
plain name = flagged_file (flag.public + flag.super) (codes name) (Some object)

-- a class of package access under the root (4.1)
abbrev pub of_package : String → File
of_package name = flagged_file flag.super (codes name) (Some object)

-- a public interface (4.1)
abbrev pub interface_named : String → File
interface_named name = flagged_file (flag.public + flag.interface + flag.abstract) (codes name)
    (Some object)

-- an interface of package access (4.1)
abbrev pub interface_of_package : String → File
interface_of_package name = flagged_file (flag.interface + flag.abstract) (codes name) (Some object)

-- members by their flags and keys (4.5, 4.6)
abbrev pub members_by_flags : List (ℕ × Key) → List Member
members_by_flags ms = map (λ m. record { flags = m.0; key = m.1 }) ms

-- the file, with these fields (4.5)
abbrev pub with_fields : List (ℕ × Key) → File → File
with_fields ms f = record f { fields = members_by_flags ms }

-- the file, with these methods (4.6)
abbrev pub with_methods : List (ℕ × Key) → File → File
with_methods ms f = record f { methods = members_by_flags ms }

-- the file, with these superinterfaces (4.1)
abbrev pub with_interfaces : List String → File → File
with_interfaces is f = record f { interfaces = map codes is }

-- references at the indices of the pool from one on (4.4)
abbrev pub referring_from : ℕ → List Reference → List (ℕ × Reference)
referring_from i [] = []
referring_from i (r ∷ rs) = (i, r) ∷ referring_from (suc i) rs

-- the file, with these references in its constant pool, from index 1 on (4.4)
abbrev pub referring_file : List Reference → File → File
referring_file rs f = record f { references = referring_from 1 rs }

-- ---- worlds

-- bytes are here the number of a file among these; no bytes at all are of another version
abbrev pub file_numbered : List File → List ℕ → Result File FileFault
file_numbered files [] = Err BadVersion
file_numbered files (i ∷ more) = elim (slice_get files i) [ None ↦ Err BadFormat | Some f ↦ Ok f ]

-- each of these files at its loader and by its own name, as the number of its place (5.3)
abbrev pub told_from : ℕ → List (ℕ × File) → Content
told_from i [] = []
told_from i (e ∷ es) = record { loader = e.0; name = e.1.name; bytes = i ∷ [] }
    ∷ told_from (suc i) es

-- the world of these loaders, each with its files (5.3)
abbrev pub with_loaders : List WorldLoader → List (ℕ × File) → World
with_loaders loaders files = record {
  loaders = loaders;
  content = told_from 0 files;
  read = file_numbered (map (λ e. e.1) files);
}

-- the world of the four, each with its files (5.3)
abbrev pub world_with_files : List (ℕ × File) → World
world_with_files files = with_loaders four files

-- the world, with these bytes for this name at this loader too (5.3)
abbrev pub with_bytes : ℕ → String → List ℕ → World → World
with_bytes loader name bytes w = record w {
  content = record
      { loader = loader; name = codes name; bytes = bytes } ∷ w.content;
}

-- ---- what is asked, and what is looked at in a plan

-- a load by a text (5.3)
abbrev pub load_of : ℕ → String → Request
load_of loader name = Load loader (codes name)

-- a resolution by a text (5.4.3)
abbrev pub resolve_of : ℕ → String → ℕ → Request
resolve_of loader name i = Resolve loader (codes name) i

-- a link by a text (5.4)
abbrev pub link_of : ℕ → String → Request
link_of loader name = Link loader (codes name)

-- a loader's record of a class that this one defines (5.3)
abbrev pub entry : ℕ → String → ℕ → Need
entry loader name place = Entry loader (codes name) place

-- a loader's record of a class of its own (5.3)
abbrev pub own : ℕ → String → Need
own loader name = entry loader name loader

-- a loader's record of the root class (5.3)
abbrev pub root_record : ℕ → Need
root_record loader = Entry loader object boot

-- what a loader under the first needs for the root class (5.3.5, step 3)
abbrev pub root_for : ℕ → List Need
root_for loader = root_record boot ∷ root_record loader ∷ []

-- what the third loader needs for a class that the second one has under the root (5.3.2, 5.3.5)
abbrev pub through_app : String → List Need
through_app name = root_for app ++ own app name ∷ entry plug name app ∷ []

-- an equality for a name (5.3.4)
abbrev pub equal : String → ℕ → ℕ → Need
equal name one other = Equal (codes name) one other

-- an equality for p/T (5.3.4)
abbrev pub same_t : ℕ → ℕ → Need
same_t one other = equal "p/T" one other

-- an equality for p/V (5.3.4)
abbrev pub same_v : ℕ → ℕ → Need
same_v one other = equal "p/V" one other

-- the equalities of a method `(Lp/T;)Lp/V;`, that of what it returns first (5.3.4)
abbrev pub same_both : ℕ → ℕ → List Need
same_both one other = same_v one other ∷ same_t one other ∷ []

-- a height that suffices for each plan of the examples
abbrev pub enough : ℕ
enough = 6

-- how the plan of a request ends (5.3 to 5.4.3)
abbrev pub ends_at : World → Request → Option Verdict
ends_at w q = option_map (λ p. p.ends) (plan w enough q)

-- all needs of the plan of a request (5.3 to 5.4.3)
abbrev pub all_needs : World → Request → Option (List Need)
all_needs w q = option_map plan_needs (plan w enough q)

-- the needs that follow the load (5.4.2, 5.4.3)
abbrev pub more_at : World → Request → Option (List Need)
more_at w q = option_map (λ p. p.more) (plan w enough q)

-- ---- what an example says

-- the bytes of this loader's own content for this name are these (5.3)
abbrev pub HasBytes : World → ℕ → String → List ℕ → Type 0
HasBytes w loader name bytes = content_at w.content loader (codes name) ≡ Some bytes

-- the load of this name through this loader ends so (5.3.5)
abbrev pub Loads : World → ℕ → String → Verdict → Type 0
Loads w loader name v = ends_at w (load_of loader name) ≡ Some v

-- the load of this name through this loader ends in this error (5.3.5)
abbrev pub LoadFails : World → ℕ → String → Error → Type 0
LoadFails w loader name e = Loads w loader name (Wrong e)

-- the load of this name through this loader needs these in turn (5.3.5)
abbrev pub LoadNeeds : World → ℕ → String → List Need → Type 0
LoadNeeds w loader name needs = all_needs w (load_of loader name) ≡ Some needs

-- this reference of the class that this loader has for the name is resolved so (5.4.3)
abbrev pub ResolvesTo : World → ℕ → String → ℕ → Verdict → Type 0
ResolvesTo w loader name i v = ends_at w (resolve_of loader name i) ≡ Some v

-- it needs these in turn past the load of its class (5.4.3)
abbrev pub ResolveNeeds : World → ℕ → String → ℕ → List Need → Type 0
ResolveNeeds w loader name i needs = more_at w (resolve_of loader name i) ≡ Some needs

-- the link of the class that this loader has for the name ends so (5.4)
abbrev pub Links : World → ℕ → String → Verdict → Type 0
Links w loader name v = ends_at w (link_of loader name) ≡ Some v

-- it imposes these in turn (5.4.2)
abbrev pub LinkNeeds : World → ℕ → String → List Need → Type 0
LinkNeeds w loader name needs = more_at w (link_of loader name) ≡ Some needs

-- a request costs so many steps at the most
abbrev pub Costs : World → Request → ℕ → Type 0
Costs w q steps = option_map (cost w) (plan w enough q) ≡ Some steps

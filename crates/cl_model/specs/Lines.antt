-- The printed line of each event and answer, each loader by its name (docs/FORMATS.md; the words of errors are those of JVMS SE 8, 5.3 to 5.4.4).
use Rattle.std.specs.Prelude.{ℕ, ◌+◌, List, [], ◌∷◌, ◌++◌, codes, Option, Some, None, slice_get, unwrap_or}
use Rattle.std.specs.Fmt.{decimal}
use Rattle.std.specs.List.{join_with_byte}
use Rattle.std.specs.Option.{option_map_or}
use Rattle.cl_names.specs.Escape.{escaped_text}
use Rattle.cl_descriptors.specs.Types.{spelling_of_field, spelling_of_method}
use Rattle.cl_descriptors.specs.declared.types.Descriptor.{Descriptor}
use Rattle.cl_descriptors.specs.declared.types.Descriptor.TheVariants as descriptors
use Rattle.cl_classfile.specs.Files.{Name, Key}
use Rattle.cl_model.specs.declared.class.Class.{Class}
use Rattle.cl_model.specs.Classes.{class, Error, ClassNotFound, NoClassDef, ClassFormat, UnsupportedVersion, ClassCircularity, IncompatibleClassChange, IllegalAccess, NoSuchField, NoSuchMethod}
use Rattle.cl_model.specs.States.{Need, Entry, Equal, Verdict, IsClass, IsArrayOf, IsArrayOfBase, IsField, IsMethod, IsLinked, BadEntry, ArrayMember, Wrong, Linkage, Answer, Said, OutOfMemory, SourceFault}
use Rattle.cl_model.specs.Machine.{Step, Define, Initiate, Constrain, Settle, Prepare, Post, NextRound, Stray}

-- the bytes of a printed text
abbrev pub Text : Type 0
Text = List ℕ

-- words, with a space between each two
abbrev pub words : List Text → Text
words texts = join_with_byte 0x20 texts

-- a loader's name, among those of all loaders in order
abbrev pub loader_text : List Text → ℕ → Text
loader_text names loader = unwrap_or (slice_get names loader) []

-- `N@M`: a name and a loader's name
abbrev pub located_name : Name → Text → Text
located_name name loader = escaped_text name ++ (codes "@" ++ loader)

-- a class by its binary name and its defining loader (5.3)
abbrev pub class_text : List Text → Class → Text
class_text names c = located_name c.name (loader_text names c.loader)

-- the bytes of a descriptor (4.3)
abbrev pub spelling_of : Descriptor → Name
spelling_of (descriptors.Field t) = spelling_of_field t
spelling_of (descriptors.Method t) = spelling_of_method t

-- a member's name and its descriptor (4.5, 4.6)
abbrev pub key_texts : Key → List Text
key_texts key = escaped_text key.name ∷ escaped_text (spelling_of key.descriptor) ∷ []

-- the class that declares a member, its name and its descriptor (4.5, 4.6)
abbrev pub member_texts : List Text → Class → Key → List Text
member_texts names c key = class_text names c ∷ key_texts key

-- the name of an equality and its two loaders (5.3.4)
abbrev pub equality_texts : List Text → Name → ℕ → ℕ → List Text
equality_texts names name a b = escaped_text name ∷ loader_text names a ∷ loader_text names b ∷ []

-- the words of an error: its name and its subject (5.3.5, 5.4.3, 5.4.4)
abbrev pub error_texts : List Text → Error → List Text
error_texts names (ClassNotFound c) = codes "ClassNotFoundException" ∷ class_text names c ∷ []
error_texts names (NoClassDef c) = codes "NoClassDefFoundError" ∷ class_text names c ∷ []
error_texts names (ClassFormat c) = codes "ClassFormatError" ∷ class_text names c ∷ []
error_texts names (UnsupportedVersion c) = codes "UnsupportedClassVersionError" ∷ class_text names c
    ∷ []
error_texts names (ClassCircularity c) = codes "ClassCircularityError" ∷ class_text names c ∷ []
error_texts names (IncompatibleClassChange c) = codes "IncompatibleClassChangeError"
    ∷ class_text names c ∷ []
error_texts names (IllegalAccess c) = codes "IllegalAccessError" ∷ class_text names c ∷ []
error_texts names (NoSuchField c) = codes "NoSuchFieldError" ∷ class_text names c ∷ []
error_texts names (NoSuchMethod c) = codes "NoSuchMethodError" ∷ class_text names c ∷ []

-- the words of a refused need; a refused record names the loader that was asked (5.3.4)
abbrev pub need_texts : List Text → Need → List Text
need_texts names (Entry loader name place) = codes "record" ∷ class_text names (class name loader)
    ∷ []
need_texts names (Equal name a b) = codes "equal" ∷ equality_texts names name a b

-- the words of a verdict (5.4.3)
abbrev pub verdict_texts : List Text → Verdict → List Text
verdict_texts names (IsClass c) = codes "class" ∷ class_text names c ∷ []
verdict_texts names (IsArrayOf dimensions c) = codes "array" ∷ decimal dimensions
    ∷ class_text names c ∷ []
verdict_texts names (IsArrayOfBase dimensions letter) = codes "array" ∷ decimal dimensions
    ∷ (letter ∷ []) ∷ []
verdict_texts names (IsField c key) = codes "field" ∷ member_texts names c key
verdict_texts names (IsMethod c key) = codes "method" ∷ member_texts names c key
verdict_texts names (IsLinked c) = codes "linked" ∷ class_text names c ∷ []
verdict_texts names BadEntry = codes "BadEntry" ∷ []
verdict_texts names ArrayMember = codes "ArrayMember" ∷ []
verdict_texts names (Wrong e) = error_texts names e
verdict_texts names (Linkage n) = codes "LinkageError" ∷ need_texts names n

-- the text of a verdict
abbrev pub verdict_text : List Text → Verdict → Text
verdict_text names v = words (verdict_texts names v)

-- the text of an answer
abbrev pub answer_text : List Text → Answer → Text
answer_text names (Said v) = verdict_text names v
answer_text names OutOfMemory = codes "OutOfMemory"
answer_text names (SourceFault name loader) = words
    (codes "SourceFault" ∷ class_text names (class name loader) ∷ [])

-- the line of an answer: the request's number, counted from 1, and the text
abbrev pub answer_line : List Text → ℕ → Answer → Text
answer_line names q a = words (decimal (q + 1) ∷ answer_text names a ∷ [])

-- a line with its line feed
abbrev pub ended_line : Text → Text
ended_line line = line ++ 0x0a ∷ []

-- the line of a step, if it has one
abbrev pub line : List Text → Step → Option Text
line names (Define c) = Some (words (codes "define" ∷ class_text names c ∷ []))
line names (Initiate name place loader) = Some
    (words (codes "initiate" ∷ escaped_text name ∷ loader_text names place ∷ codes "by"
    ∷ loader_text names loader ∷ []))
line names (Constrain name a b) = Some (words (codes "constrain" ∷ equality_texts names name a b))
line names (Settle d i v) = None
line names (Prepare c) = Some (words (codes "prepare" ∷ class_text names c ∷ []))
line names (Post q a) = None
line names NextRound = None
line names Stray = None

-- the line of a step with its line feed, and nothing of a step that has none
abbrev pub step_line : List Text → Step → Text
step_line names e = option_map_or ended_line (line names e) []

-- What the Rust types say, in the words of the linkage machine (JVMS SE 8, 5.3 to 5.4.3).
use Rattle.std.specs.Prelude.{◌≢◌, ℕ, List, map, Option, Some, None, slice_get, option_map}
use Rattle.std.specs.Option.{option_flatten}
use Rattle.cl_descriptors.specs.declared.types.Base.{Base}
use Rattle.cl_descriptors.specs.declared.types.Base.TheVariants as bases
use Rattle.cl_classfile.specs.Files.{letter}
use Rattle.cl_model.specs.declared.class.Class.{Class}
use Rattle.cl_model.specs.declared.verdict.ErrorKind.{ErrorKind}
use Rattle.cl_model.specs.declared.verdict.ErrorKind.TheVariants as kinds
use Rattle.cl_model.specs.declared.primitive.Primitive.{Primitive}
use Rattle.cl_model.specs.declared.primitive.Primitive.TheVariants as primitives
use Rattle.cl_model.specs.declared.need.Need as needs
use Rattle.cl_model.specs.declared.verdict.Verdict as verdicts
use Rattle.cl_model.specs.declared.answer.Answer as answers
use Rattle.cl_model.specs.declared.request.Request as requests
use Rattle.cl_model.specs.declared.event.Event as events
use Rattle.cl_model.specs.Classes.{Error, ClassNotFound, NoClassDef, ClassFormat, UnsupportedVersion, ClassCircularity, IllegalAccess, IncompatibleClassChange, NoSuchField, NoSuchMethod}
use Rattle.cl_model.specs.States.{Need, Entry, Equal, Verdict, IsClass, IsArrayOf, IsArrayOfBase, IsField, IsMethod, IsLinked, BadEntry, ArrayMember, Wrong, Linkage, Answer, Said, OutOfMemory, SourceFault}
use Rattle.cl_model.specs.Plans.{Request, Load, Resolve, Link}
use Rattle.cl_model.specs.Machine.{Step, Define, Initiate, Constrain, Settle, Prepare, Post, NextRound, Stray}

-- an error of a kind, about a class (5.3.5, 5.4.3)
abbrev pub error_of : ErrorKind → Class → Error
error_of kinds.ClassNotFoundException c = ClassNotFound c
error_of kinds.NoClassDefFoundError c = NoClassDef c
error_of kinds.ClassFormatError c = ClassFormat c
error_of kinds.UnsupportedClassVersionError c = UnsupportedVersion c
error_of kinds.ClassCircularityError c = ClassCircularity c
error_of kinds.IllegalAccessError c = IllegalAccess c
error_of kinds.IncompatibleClassChangeError c = IncompatibleClassChange c
error_of kinds.NoSuchFieldError c = NoSuchField c
error_of kinds.NoSuchMethodError c = NoSuchMethod c

-- a primitive type as the base of a descriptor (4.3.2)
abbrev pub base_type : Primitive → Base
base_type primitives.Byte = bases.Byte
base_type primitives.Char = bases.Char
base_type primitives.Double = bases.Double
base_type primitives.Float = bases.Float
base_type primitives.Int = bases.Int
base_type primitives.Long = bases.Long
base_type primitives.Short = bases.Short
base_type primitives.Boolean = bases.Boolean

-- the letter of a primitive type, B C D F I J S Z, as its byte (4.3.2)
abbrev pub letter_of : Primitive → ℕ
letter_of p = letter (base_type p)

-- a need, as the machine has it (5.3, 5.3.4)
abbrev pub need_of : needs.Need → Need
need_of (needs.TheVariants.Entry loader name home) = Entry loader name home
need_of (needs.TheVariants.Equal e) = Equal e.name e.one e.other

-- a verdict, as the machine has it (5.3.5, 5.4.3)
abbrev pub verdict_of : verdicts.Verdict → Verdict
verdict_of (verdicts.TheVariants.Class c) = IsClass c
verdict_of (verdicts.TheVariants.Array dimensions c) = IsArrayOf dimensions c
verdict_of (verdicts.TheVariants.PrimitiveArray dimensions base) = IsArrayOfBase dimensions
    (letter_of base)
verdict_of (verdicts.TheVariants.Field c key) = IsField c key
verdict_of (verdicts.TheVariants.Method c key) = IsMethod c key
verdict_of (verdicts.TheVariants.Linked c) = IsLinked c
verdict_of verdicts.TheVariants.BadEntry = BadEntry
verdict_of verdicts.TheVariants.ArrayMember = ArrayMember
verdict_of (verdicts.TheVariants.Error kind c) = Wrong (error_of kind c)
verdict_of (verdicts.TheVariants.Linkage n) = Linkage (need_of n)

-- an answer; what is shared reads as said
abbrev pub answer_of : answers.Answer → Answer
answer_of (answers.TheVariants.Said v) = Said (verdict_of v)
answer_of (answers.TheVariants.Shared s) = Said (verdict_of s.value.verdict)
answer_of answers.TheVariants.Memory = OutOfMemory
answer_of (answers.TheVariants.SourceFault name loader) = SourceFault name loader

-- the answers by the numbers of their requests, where there is one
abbrev pub answers_of : List (Option answers.Answer) → List (Option Answer)
answers_of given = map (option_map answer_of) given

-- a request, as the machine has it (5.3, 5.4.2, 5.4.3)
abbrev pub request_of : requests.Request → Request
request_of (requests.TheVariants.Load loader name) = Load loader name
request_of (requests.TheVariants.Resolve loader name index) = Resolve loader name index
request_of (requests.TheVariants.Link loader name) = Link loader name

-- the post of a request with its answer
abbrev pub post_of : ℕ → Option Answer → Step
post_of q None = Stray
post_of q (Some a) = Post q a

-- the answer at a request's number
abbrev pub answer_at : List (Option Answer) → ℕ → Option Answer
answer_at given q = option_flatten (slice_get given q)

-- the step that an event tells (5.3, 5.3.5)
abbrev pub step_of : List (Option Answer) → events.Event → Step
step_of given (events.TheVariants.Define c) = Define c
step_of given (events.TheVariants.Initiate c loader) = Initiate c.name c.loader loader
step_of given (events.TheVariants.Constrain e) = Constrain e.name e.one e.other
step_of given (events.TheVariants.Settle s) = Settle s.value.class s.value.index
    (verdict_of s.value.verdict)
step_of given (events.TheVariants.Prepare c) = Prepare c
step_of given events.TheVariants.NextRound = NextRound
step_of given (events.TheVariants.Post q) = post_of q (answer_at given q)

-- the steps that a history tells, where a post's answer stands in the answers at its number
abbrev pub steps_of : List (Option Answer) → List events.Event → List Step
steps_of given history = map (step_of given) history

-- an event that is no post of this request
abbrev pub IsOther : ℕ → events.Event → Type 0
IsOther q (events.TheVariants.Define c) = Unit {0}
IsOther q (events.TheVariants.Initiate c loader) = Unit {0}
IsOther q (events.TheVariants.Constrain e) = Unit {0}
IsOther q (events.TheVariants.Settle s) = Unit {0}
IsOther q (events.TheVariants.Prepare c) = Unit {0}
IsOther q events.TheVariants.NextRound = Unit {0}
IsOther q (events.TheVariants.Post p) = p ≢ q

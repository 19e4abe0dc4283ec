-- Verdicts that the linkage machine takes for the same are the same.
use Rattle.std.proofs.Common.{◌≡◌, ◌∙◌, ℕ, if◌then◌else◌, refl, sym, ap}
use Rattle.std.specs.Prelude.{nat_eq}
use Rattle.cl_model.specs.declared.class.Class.{Class}
use Rattle.cl_model.specs.declared.primitive.Primitive.{Primitive}
use Rattle.cl_model.specs.declared.primitive.Primitive.TheVariants as primitives
use Rattle.cl_model.specs.declared.need.Need as rust_needs
use Rattle.cl_model.specs.declared.need.Need.TheVariants as needs
use Rattle.cl_model.specs.declared.verdict.ErrorKind.{ErrorKind}
use Rattle.cl_model.specs.declared.verdict.ErrorKind.TheVariants as kinds
use Rattle.cl_model.specs.declared.verdict.Verdict as rust
use Rattle.cl_model.specs.declared.verdict.Verdict.TheVariants as verdicts
use Rattle.cl_model.specs.Classes.{Error, ClassNotFound, NoClassDef, ClassFormat, UnsupportedVersion, ClassCircularity, IllegalAccess, IncompatibleClassChange, NoSuchField, NoSuchMethod}
use Rattle.cl_model.specs.States.{Need, Entry, Equal, Verdict, IsClass, IsArrayOf, IsArrayOfBase, IsField, IsMethod, IsLinked, BadEntry, ArrayMember, Wrong, Linkage}
use Rattle.cl_model.specs.Views.{error_of, letter_of, need_of, verdict_of}

-- ---- back from the machine's words

abbrev base_of : ℕ → Primitive
base_of l =
    if nat_eq l 66 then primitives.Byte else if nat_eq l 67 then primitives.Char else if nat_eq l 68 then primitives.Double else if nat_eq l 70 then primitives.Float else if nat_eq l 73 then primitives.Int
    else if nat_eq l 74 then primitives.Long else if nat_eq l 83 then primitives.Short else primitives.Boolean

abbrev error_back : Error → rust.Verdict
error_back (ClassNotFound c) = verdicts.Error kinds.ClassNotFoundException c
error_back (NoClassDef c) = verdicts.Error kinds.NoClassDefFoundError c
error_back (ClassFormat c) = verdicts.Error kinds.ClassFormatError c
error_back (UnsupportedVersion c) = verdicts.Error kinds.UnsupportedClassVersionError c
error_back (ClassCircularity c) = verdicts.Error kinds.ClassCircularityError c
error_back (IllegalAccess c) = verdicts.Error kinds.IllegalAccessError c
error_back (IncompatibleClassChange c) = verdicts.Error kinds.IncompatibleClassChangeError c
error_back (NoSuchField c) = verdicts.Error kinds.NoSuchFieldError c
error_back (NoSuchMethod c) = verdicts.Error kinds.NoSuchMethodError c

abbrev need_back : Need → rust_needs.Need
need_back (Entry loader name place) = needs.Entry loader name place
need_back (Equal name a b) = needs.Equal (record { name = name; one = a; other = b })

abbrev back : Verdict → rust.Verdict
back (IsClass c) = verdicts.Class c
back (IsArrayOf d c) = verdicts.Array d c
back (IsArrayOfBase d l) = verdicts.PrimitiveArray d (base_of l)
back (IsField c k) = verdicts.Field c k
back (IsMethod c k) = verdicts.Method c k
back (IsLinked c) = verdicts.Linked c
back BadEntry = verdicts.BadEntry
back ArrayMember = verdicts.ArrayMember
back (Wrong e) = error_back e
back (Linkage n) = verdicts.Linkage (need_back n)

base_back : (b : Primitive) → base_of (letter_of b) ≡ b
base_back primitives.Byte = refl
base_back primitives.Char = refl
base_back primitives.Double = refl
base_back primitives.Float = refl
base_back primitives.Int = refl
base_back primitives.Long = refl
base_back primitives.Short = refl
base_back primitives.Boolean = refl

error_is : (k : ErrorKind) (c : Class) → error_back (error_of k c) ≡ verdicts.Error k c
error_is kinds.ClassNotFoundException c = refl
error_is kinds.NoClassDefFoundError c = refl
error_is kinds.ClassFormatError c = refl
error_is kinds.UnsupportedClassVersionError c = refl
error_is kinds.ClassCircularityError c = refl
error_is kinds.IllegalAccessError c = refl
error_is kinds.IncompatibleClassChangeError c = refl
error_is kinds.NoSuchFieldError c = refl
error_is kinds.NoSuchMethodError c = refl

need_is : (n : rust_needs.Need) → need_back (need_of n) ≡ n
need_is (needs.Entry loader name home) = refl
need_is (needs.Equal e) = refl

back_is : (v : rust.Verdict) → back (verdict_of v) ≡ v
back_is (verdicts.Class c) = refl
back_is (verdicts.Array d c) = refl
back_is (verdicts.PrimitiveArray d b) = ap (verdicts.PrimitiveArray d) (base_back b)
back_is (verdicts.Field c k) = refl
back_is (verdicts.Method c k) = refl
back_is (verdicts.Linked c) = refl
back_is verdicts.BadEntry = refl
back_is verdicts.ArrayMember = refl
back_is (verdicts.Error k c) = error_is k c
back_is (verdicts.Linkage n) = ap verdicts.Linkage (need_is n)

-- ---- verdicts

pub verdict_same : (v w : rust.Verdict) → verdict_of v ≡ verdict_of w → v ≡ w
verdict_same v w e = sym (back_is v) ∙ ap back e ∙ back_is w

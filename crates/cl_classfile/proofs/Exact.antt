-- What is read is spelled so, and what is spelled so is read.
use Rattle.std.proofs.Common.{◌≡◌, ℕ, zero, suc, arith, Bool, true, false, cond, eqb, List, [], ◌∷◌, ◌++◌, length, map, Result, Ok, Err, refl, sym, ap, subst, ◌∙◌}
use Rattle.std.specs.Prelude.{IfOk}
use Rattle.std.proofs.lemmas.Bool.{eqb-true}
use Rattle.std.proofs.lemmas.List.{append-nil, nil_from_length}
use Rattle.cl_classfile.specs.declared.fault.Fault.{Fault}
use Rattle.cl_classfile.specs.declared.fault.Fault.TheVariants.{Trailing}
use Rattle.cl_classfile.specs.declared.fault.ReadError.{ReadError}
use Rattle.cl_classfile.specs.declared.fault.ReadError.TheVariants as errors
use Rattle.cl_classfile.specs.Structure.{Structure, AreBytes, spelling, Fits, IsClassFile, Spells}
use Rattle.cl_classfile.specs.Checking.{Gives, checked_entries, checked_tables, kept_file, parts_of}
use Rattle.cl_classfile.specs.Rows.{entry_traits}
use Rattle.cl_classfile.specs.Reading.{header_at, structure_at, whole_of, read_of}
use Rattle.cl_classfile.proofs.Codec.{IsBytes, bind_ok, ok_is}
use Rattle.cl_classfile.proofs.Spelled.{structure}
use Rattle.cl_classfile.proofs.Quiet.{is_header, in_header}
use Rattle.cl_classfile.proofs.Fitting.{pool_told}
use Rattle.cl_classfile.proofs.Tables.{version_told, tables_say, file_says, file_told}

pub ended : {A : Type 0} (b : Bool) (x y : A) → cond b (Ok x) (Err Trailing) ≡ Ok y → (b ≡ true) × (x ≡ y)
ended true x y e = (refl, cc)
ended false x y e = absurd cc

-- all of the bytes are the file's spelling
pub whole_takes : (bytes : List ℕ) (f : Structure) → IsBytes bytes → whole_of bytes ≡ Ok f → (bytes ≡ spelling f) × Fits f
unfolding whole_of
whole_takes bytes f fits e =
    let a = bind_ok (structure_at bytes) (λ x. cond (eqb (length x.1) 0) (Ok x.0) (Err Trailing)) f e in
    let g = ended (eqb (length a.0.1) 0) a.0.0 f a.2 in
    let one = structure.takes bytes a.0 fits a.1 in
    let nothing : a.0.1 ≡ [] = nil_from_length a.0.1 (eqb-true _ _ g.0) in
    let spelled : bytes ≡ spelling a.0.0 = one.0.parts ∙ ap (λ (rest : List ℕ). spelling a.0.0 ++ rest) nothing ∙ append-nil (spelling a.0.0) in
    subst (λ (y : Structure). (bytes ≡ spelling y) × Fits y) g.1 (spelled, one.1)

pub whole_again : (f : Structure) → Fits f → whole_of (spelling f) ≡ Ok f
unfolding whole_of
whole_again f h =
    let one : structure_at (spelling f) ≡ Ok (f, []) = ap structure_at (sym (append-nil (spelling f))) ∙ structure.again f [] h in
    rw one refl

pub read_takes : (bytes : List ℕ) (f : Structure) → IsBytes bytes → read_of bytes ≡ Ok f → Spells bytes f
unfolding read_of
read_takes bytes f fits e =
    let a = bind_ok (whole_of bytes) kept_file f e in
    let one = whole_takes bytes a.0 fits a.1 in
    let two = file_says a.0 f a.2 in
    subst (λ (y : Structure). Spells bytes y) two.0 (record { file = record { fits = one.1; kept = two.1.kept }; spelled = one.0 })

pub read_again : (bytes : List ℕ) (f : Structure) → Spells bytes f → read_of bytes ≡ Ok f
unfolding read_of
read_again bytes f s =
    let one : whole_of bytes ≡ Ok f = ap whole_of s.spelled ∙ whole_again f s.file.fits in
    rw one (file_told f s.file.fits s.file.kept)

-- parts that the widths can say are judged as their bytes are
pub parts_as_read : (f : Structure) → Fits f → parts_of f ≡ read_of (spelling f)
unfolding parts_of read_of
parts_as_read f h = rw (version_told f.version h.version, pool_told f.pool h.pool, whole_again f h) refl

-- a file that passed the tests
pub is_class_file : (f : Structure) (u v : Unit {0}) → Fits f → checked_entries f.version.major f.pool 1 f.pool ≡ Ok u → checked_tables (map entry_traits f.pool) f.pool f ≡ Ok v → IsClassFile f
is_class_file f u v fits rows tables = record { fits = fits; kept = (tables_say f u v rows tables).kept }

-- for the calls
pub is_fitting : (bytes : List ℕ) (f : Structure) (rest : List ℕ) → IsBytes bytes → structure_at bytes ≡ Ok (f, rest) → Fits f
is_fitting bytes f rest fits e = (structure.takes bytes (f, rest) fits e).1

pub is_found : (bytes : List ℕ) (r : Result Structure ReadError) → IsBytes bytes → Gives (λ f. f) r (read_of bytes) → IfOk r (λ f. Spells bytes f)
is_found bytes (Ok f) fits given = read_takes bytes f fits given
is_found bytes (Err e) fits given = tt

pub is_only : (bytes : List ℕ) (r : Result Structure ReadError) (f : Structure) → Gives (λ g. g) r (read_of bytes) → Spells bytes f → Gives (λ g. g) r (Ok f)
is_only bytes r f given s = subst (λ (read : Result Structure Fault). Gives (λ g. g) r read) (read_again bytes f s) given

-- a fault of the header is answered exactly where it stands there
pub is_early : (bytes : List ℕ) (r : Result Structure ReadError) (f : Fault) → is_header f ≡ true → Gives (λ g. g) r (read_of bytes) → r ≡ Err (errors.Fault f) → header_at bytes ≡ Err f
is_early bytes r f h given is =
    in_header bytes f h (subst (λ (x : Result Structure ReadError). Gives (λ g. g) x (read_of bytes)) is given)

-- ---- laws

read_back : (bytes : List ℕ) (f : Structure) → Spells bytes f → structure_at bytes ≡ Ok (f, [])
read_back bytes f s = ap structure_at (s.spelled ∙ sym (append-nil (spelling f))) ∙ structure.again f [] s.file.fits

-- what bytes spell is one file
pub one_file : (bytes : List ℕ) (f g : Structure) → Spells bytes f → Spells bytes g → f ≡ g
one_file bytes f g s t = ap (λ (x : Structure × List ℕ). x.0) (ok_is (f, []) (g, []) (sym (read_back bytes f s) ∙ read_back bytes g t))

-- each of the numbers of bytes is below 256, and so is what stands for none
pub each_byte : (bytes : List ℕ) → AreBytes bytes → IsBytes bytes
each_byte [] h zero = omega arith
each_byte [] h (suc i) = omega arith
each_byte (b ∷ bytes) h zero = h.0
each_byte (b ∷ bytes) h (suc i) = each_byte bytes h.1 i

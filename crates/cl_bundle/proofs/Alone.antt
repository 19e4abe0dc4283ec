-- What a class section writes, and what class sections tell, is one thing at most.
use Rattle.std.proofs.Common.{◌≡◌, ℕ, ◌≤◌, ◌<◌, Bool, true, false, MatchBool, List, [], ◌∷◌, ◌++◌, length, Option, Some, None, is_some, Result, Ok, Err, refl, sym, ap, subst, ◌∙◌, arith, inl, inr}
use Rattle.std.specs.Prelude.{◌≢◌, codes, string_bytes}
use Rattle.cl_lines.specs.Lines.{Numbered}
use Rattle.cl_model.specs.Content.{Content, Stored, content_at}
use Rattle.cl_classfile.specs.Structure.{Structure, spelling}
use Rattle.cl_config.specs.Views.{loader_named}
use Rattle.cl_writer.specs.Assembled.{AssembleOf}
use Rattle.cl_writer.specs.declared.fault.AssembleFault.{AssembleFault}
use Rattle.cl_writer.specs.declared.fault.AssembleFault.TheVariants as assembler
use Rattle.cl_writer.specs.Faults.{assemble_text}
use Rattle.cl_writer.proofs.Alone.{one_answer}
use Rattle.cl_bundle.specs.Sections.{Part}
use Rattle.cl_bundle.specs.Contents.{ContentOf, IsRefused, IsSpelledBy, IsTooLong, TextWritten, Written, hex_written, is_hex, content_lines}
use Rattle.cl_bundle.specs.Bundles.{AllTell, FirstFault, StoredAs, StoredBy, StoredOf}
use Rattle.cl_bundle.specs.Faults.{SameAnswer, SameFault, fault_text}
use Rattle.cl_bundle.specs.declared.fault.BundleFault.{BundleFault}
use Rattle.cl_bundle.specs.declared.fault.BundleFault.TheVariants.{BadLine, Class}
use Rattle.cl_source.specs.declared.size.TheConstants.{MOST_CLASS_BYTES}

-- ---- faults and answers

same_itself : (f : BundleFault) → SameFault f f
same_itself (Class class fault) = (refl, refl)
same_itself f = refl

pub same_faults : (f g : BundleFault) → f ≡ g → SameFault f g
same_faults f g e = subst (λ (h : BundleFault). SameFault f h) e (same_itself f)

same_back : {A : Type 0} (r : Result A BundleFault) → SameAnswer r r
same_back (Ok a) = refl
same_back (Err f) = same_itself f

same_answers : {A : Type 0} (r s t : Result A BundleFault) → r ≡ t → s ≡ t → SameAnswer r s
same_answers {A = A} r s t e f = subst (λ (x : Result A BundleFault). SameAnswer r x) (e ∙ sym f) (same_back r)

pub printed_alike : (f g : BundleFault) → SameFault f g → fault_text f ≡ fault_text g
printed_alike (Class a x) (Class b y) e =
    ap (λ (t : List ℕ). codes "class " ++ t ++ codes ": " ++ assemble_text x) e.0
    ∙ ap (λ (z : AssembleFault). codes "class " ++ string_bytes b ++ codes ": " ++ assemble_text z) e.1
printed_alike f g e = ap fault_text e

-- ---- assembler text

ok_is : (f g : Structure) (r : Result Structure AssembleFault) → r ≡ Ok f → r ≡ Ok g → f ≡ g
ok_is f g r v w = cc

err_is : (f g : AssembleFault) (r : Result Structure AssembleFault) → r ≡ Err f → r ≡ Err g → f ≡ g
err_is f g r v w = cc

not_both : (f : Structure) (g : AssembleFault) (r : Result Structure AssembleFault) → r ≡ Ok f → r ≡ Err g → ⊥
not_both f g r v w = absurd cc

-- a fault that is told is what the lines are assembled to
refused_is : (lines : List Numbered) (f : AssembleFault) → IsRefused lines f → AssembleOf lines (Err f) × (f ≢ assembler.Memory)
refused_is lines assembler.Memory w = absurd w
refused_is lines (assembler.BadLine n) w = (w, λ e. absurd cc)
refused_is lines (assembler.Invalid f) w = (w, λ e. absurd cc)

told : (f : AssembleFault) (r : Result Structure AssembleFault) → f ≢ assembler.Memory → r ≡ Err f → r ≢ Err assembler.Memory
told f r some e = λ h. some (err_is f assembler.Memory r e h)

one_spelt : (lines : List Numbered) (a b : List ℕ) → IsSpelledBy lines a → IsSpelledBy lines b → a ≡ b
one_spelt lines a b v w =
    let same = one_answer lines (Ok v.file) (Ok w.file) v.assembled w.assembled (λ e. not_both v.file assembler.Memory (Ok v.file) refl e) (λ e. not_both w.file assembler.Memory (Ok w.file) refl e) in
    v.spelled.spelled ∙ ap spelling (ok_is v.file w.file (Ok v.file) refl same) ∙ sym w.spelled.spelled

spelt_or_refused : (lines : List Numbered) (a : List ℕ) (f : AssembleFault) → IsSpelledBy lines a → IsRefused lines f → ⊥
spelt_or_refused lines a f v w =
    let r = refused_is lines f w in
    not_both v.file f (Ok v.file) refl (one_answer lines (Ok v.file) (Err f) v.assembled r.0 (λ e. not_both v.file assembler.Memory (Ok v.file) refl e) (told f (Err f) r.1 refl))

one_refusal : (lines : List Numbered) (f g : AssembleFault) → IsRefused lines f → IsRefused lines g → f ≡ g
one_refusal lines f g v w =
    let r = refused_is lines f v in
    let s = refused_is lines g w in
    err_is f g (Err f) refl (one_answer lines (Err f) (Err g) r.0 s.0 (told f (Err f) r.1 refl) (told g (Err g) s.1 refl))

one_text : (part : Part) (r s : Result (List ℕ) BundleFault) → TextWritten part r → TextWritten part s → SameAnswer r s
one_text part (Ok a) (Ok b) v w = one_spelt (content_lines part) a b v w
one_text part (Ok a) (Err (Class class f)) v w = spelt_or_refused (content_lines part) a f v w.0
one_text part (Err (Class class f)) (Ok a) v w = spelt_or_refused (content_lines part) a f w v.0
one_text part (Err (Class class f)) (Err (Class other g)) v w = (v.1 ∙ sym w.1, one_refusal (content_lines part) f g v.0 w.0)
one_text part (Err (Class class f)) (Err g) v w = absurd w
one_text part (Ok a) (Err g) v w = absurd w
one_text part (Err f) s v w = absurd v

-- ---- the content of a section

one_by : (b : Bool) (part : Part) (r s : Result (List ℕ) BundleFault) → MatchBool b (r ≡ hex_written part) (TextWritten part r) → MatchBool b (s ≡ hex_written part) (TextWritten part s) → SameAnswer r s
one_by true part r s v w = same_answers r s (hex_written part) v w
one_by false part r s v w = one_text part r s v w

one_written : (part : Part) (r s : Result (List ℕ) BundleFault) → Written part r → Written part s → SameAnswer r s
one_written part r s v w = one_by (is_hex (content_lines part)) part r s v w

too_long : (a b : List ℕ) → a ≡ b → length a ≤ MOST_CLASS_BYTES → MOST_CLASS_BYTES < length b → ⊥
too_long a b e short long = let n : length a ≡ length b = ap (λ (x : List ℕ). length x) e in absurd (omega arith)

long_or_short : (part : Part) (a : List ℕ) → ContentOf part (Ok a) → IsTooLong part → ⊥
long_or_short part a v w = too_long a w.bytes (one_written part (Ok a) (Ok w.bytes) v.0 w.written) v.1 w.over

short_or_wrong : (part : Part) (a : List ℕ) (f : BundleFault) → ContentOf part (Ok a) → ContentOf part (Err f) → ⊥
short_or_wrong part a f v w = elim w [ inl x ↦ one_written part (Ok a) (Err f) v.0 x | inr x ↦ long_or_short part a v x.1 ]

long_or_wrong : (part : Part) (f : BundleFault) → IsTooLong part → Written part (Err f) → ⊥
long_or_wrong part f v w = one_written part (Ok v.bytes) (Err f) v.written w

pub one_content : (part : Part) (r s : Result (List ℕ) BundleFault) → ContentOf part r → ContentOf part s → SameAnswer r s
one_content part (Ok a) (Ok b) v w = one_written part (Ok a) (Ok b) v.0 w.0
one_content part (Ok a) (Err f) v w = short_or_wrong part a f v w
one_content part (Err f) (Ok a) v w = short_or_wrong part a f w v
one_content part (Err f) (Err g) v w =
    elim v [
      | inl x ↦ elim w [ inl y ↦ one_written part (Err f) (Err g) x y | inr y ↦ absurd (long_or_wrong part f y.1 x) ]
      | inr x ↦ elim w [ inl y ↦ absurd (long_or_wrong part g x.1 y) | inr y ↦ same_faults f g (x.0 ∙ sym y.0) ]
    ]

-- ---- one section

abbrev the_stored : ℕ → List ℕ → List ℕ → Stored
the_stored x y z = record { loader = x; name = y; bytes = z }

same_stored : (a b : Stored) → a.loader ≡ b.loader → a.name ≡ b.name → a.bytes ≡ b.bytes → a ≡ b
same_stored a b e f g = ap (λ x. the_stored x a.name a.bytes) e ∙ ap (λ y. the_stored b.loader y a.bytes) f ∙ ap (the_stored b.loader b.name) g

one_as : (loader : ℕ) (part : Part) (r s : Result Stored BundleFault) → StoredAs loader part r → StoredAs loader part s → SameAnswer r s
one_as loader part (Ok a) (Ok b) v w = same_stored a b (v.0 ∙ sym w.0) (v.1 ∙ sym w.1) (one_content part (Ok a.bytes) (Ok b.bytes) v.2 w.2)
one_as loader part (Ok a) (Err f) v w = one_content part (Ok a.bytes) (Err f) v.2 w
one_as loader part (Err f) (Ok a) v w = one_content part (Err f) (Ok a.bytes) v w.2
one_as loader part (Err f) (Err g) v w = one_content part (Err f) (Err g) v w

one_placed : (b : Bool) (loader : ℕ) (part : Part) (r s : Result Stored BundleFault) → MatchBool b (r ≡ Err (BadLine part.line)) (StoredAs loader part r)
    → MatchBool b (s ≡ Err (BadLine part.line)) (StoredAs loader part s) → SameAnswer r s
one_placed true loader part r s v w = same_answers r s (Err (BadLine part.line)) v w
one_placed false loader part r s v w = one_as loader part r s v w

one_loader : (o : Option ℕ) (before : Content) (part : Part) (r s : Result Stored BundleFault) → StoredBy o before part r → StoredBy o before part s → SameAnswer r s
one_loader None before part r s v w = same_answers r s (Err (BadLine part.line)) v w
one_loader (Some loader) before part r s v w = one_placed (is_some (content_at before loader part.name)) loader part r s v w

pub one_stored : (names : List (List ℕ)) (before : Content) (part : Part) (r s : Result Stored BundleFault) → StoredOf names before part r → StoredOf names before part s → SameAnswer r s
one_stored names before part r s v w = one_loader (loader_named names part.loader) before part r s v w

-- ---- all sections

pub one_told : (names : List (List ℕ)) (before : Content) (parts : List Part) (a b : Content) → AllTell names before parts a → AllTell names before parts b → a ≡ b
one_told names before [] a b v w = v ∙ sym w
one_told names before (p ∷ ps) a b v w =
    let same : v.0 ≡ w.0 = one_stored names before p (Ok v.0) (Ok w.0) v.1 w.1 in
    one_told names (before ++ w.0 ∷ []) ps a b (subst (λ (s : Stored). AllTell names (before ++ s ∷ []) ps a) same v.2) w.2

pub told_or_wrong : (names : List (List ℕ)) (before : Content) (parts : List Part) (a : Content) (f : BundleFault) → AllTell names before parts a → FirstFault names before parts f → ⊥
told_or_wrong names before [] a f v w = w
told_or_wrong names before (p ∷ ps) a f v w =
    elim w [
      | inl x ↦ one_stored names before p (Ok v.0) (Err f) v.1 x
      | inr x ↦
          let same : v.0 ≡ x.0 = one_stored names before p (Ok v.0) (Ok x.0) v.1 x.1 in
          told_or_wrong names (before ++ x.0 ∷ []) ps a f (subst (λ (s : Stored). AllTell names (before ++ s ∷ []) ps a) same v.2) x.2
    ]

pub one_wrong : (names : List (List ℕ)) (before : Content) (parts : List Part) (f g : BundleFault) → FirstFault names before parts f → FirstFault names before parts g → SameFault f g
one_wrong names before [] f g v w = absurd v
one_wrong names before (p ∷ ps) f g v w =
    elim v [
      | inl x ↦ elim w [ inl y ↦ one_stored names before p (Err f) (Err g) x y | inr y ↦ absurd (one_stored names before p (Err f) (Ok y.0) x y.1) ]
      | inr x ↦ elim w [
        | inl y ↦ absurd (one_stored names before p (Ok x.0) (Err g) x.1 y)
        | inr y ↦
            let same : x.0 ≡ y.0 = one_stored names before p (Ok x.0) (Ok y.0) x.1 y.1 in
            one_wrong names (before ++ y.0 ∷ []) ps f g (subst (λ (s : Stored). FirstFault names (before ++ s ∷ []) ps f) same x.2) y.2
      ]
    ]

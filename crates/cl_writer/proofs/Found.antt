-- Each text has an answer: what a line says is found, or that it says nothing.
use Rattle.std.proofs.Common.{◌≡◌, ◌⊎◌, inl, inr, ℕ, ◌^◌, ◌<◌, ◌≤◌, eqb, ltb, List, [], ◌∷◌, length, Option, Some, None, Result, Ok, Err, codes, refl, sym, ap, subst, ◌∙◌, arith}
use Rattle.std.specs.Prelude.{◌≢◌, slice_index}
use Rattle.std.specs.Char.{digit_value}
use Rattle.std.specs.Str.Parse.{AllDigits, IsNumeral, without_leading_sign, digits_value, signed_digits_value}
use Rattle.std.proofs.lemmas.Bool.{cases_Bool, eqb-true, ltb-true, lt-ltb, false≢true}
use Rattle.std.proofs.lemmas.Bool.Decides.{nat_tests}
use Rattle.cl_lines.specs.Lines.{Numbered, words_of}
use Rattle.cl_lines.specs.Numbers.{WritesNumber}
use Rattle.cl_lines.specs.declared.number.TheConstants.{MOST_NUMBER}
use Rattle.cl_names.specs.Escape.{WritesName, unescaped_name}
use Rattle.cl_names.proofs.Escapes.{unescaped_from, unescaped_of}
use Rattle.cl_classfile.specs.declared.fault.Fault.{Fault}
use Rattle.cl_classfile.specs.Structure.{Structure, Spells, spelling}
use Rattle.cl_classfile.specs.Widths.{is_signed}
use Rattle.cl_classfile.specs.Checking.{parts_of}
use Rattle.cl_classfile.proofs.Fitting.{signed32_tells}
use Rattle.cl_classfile.proofs.Tables.{parts_say}
use Rattle.cl_writer.specs.declared.item.MemberKind.{MemberKind}
use Rattle.cl_writer.specs.declared.item.MemberKind.TheVariants as kinds
use Rattle.cl_writer.specs.declared.item.MemberName.{MemberName}
use Rattle.cl_writer.specs.declared.item.Item.TheVariants.{Text, Integer, Class, NameAndType, Member}
use Rattle.cl_writer.specs.declared.statement.ClassLine.{ClassLine}
use Rattle.cl_writer.specs.declared.statement.Statement.TheVariants.{Implements, Field, Method, Ref, Version}
use Rattle.cl_writer.specs.declared.fault.AssembleFault.{AssembleFault}
use Rattle.cl_writer.specs.declared.fault.AssembleFault.TheVariants.{Memory, BadLine, Invalid}
use Rattle.cl_writer.specs.Statements.{hex_flags, WritesInteger, WritesSuper, IsName, IsInteger, IsMemberLine, IsMemberName, IsClassLine, IsVersion, Begins, kind_word, Refers, Says}
use Rattle.cl_writer.specs.Assemblies.{ListedClass, class_alone, with_said, IsRest, StopsAt, IsRead, IsBadAt}
use Rattle.cl_writer.specs.Described.{described_file}
use Rattle.cl_writer.specs.Listings.{listing_of}
use Rattle.cl_writer.specs.Assembled.{IsAssembled, AssembleOf}
use Rattle.cl_writer.proofs.Rows.{first_of, second_of, third_of, first_of_two, second_of_two, head_of, only_of, behind, no_super}
use Rattle.cl_writer.proofs.Words.{WritesFlags, One, Two, Three, name_words, integer_words, version, version_words, member_line, member_line_words, member_name, member_name_words, class_line, class_line_words}
use Rattle.cl_writer.proofs.Gathered.{IsReadSoFar, none_read, more_read, stops_here, second_here, whole_read, same_class}
use Rattle.cl_writer.proofs.Versions.{is_second}
use Rattle.cl_writer.proofs.Standing.{printed_so}

-- P holds of nothing
abbrev NoneOf : {A : Type 0} → (A → Type 0) → Type 0
NoneOf {A} P = (a : A) → P a → ⊥

-- something of which P holds, or nothing
abbrev Finds : {A : Type 0} → (A → Type 0) → Type 0
Finds {A} P = ((a : A) × P a) ⊎ NoneOf P

-- where Q is P of something else, one is found where the other is
found_as : {A B : Type 0} (P : A → Type 0) (Q : B → Type 0) (make : A → B) → ((a : A) → P a → Q (make a)) → (NoneOf P → NoneOf Q) → Finds P → Finds Q
found_as P Q make here none (inl a) = inl (make a.0, here a.0 a.1)
found_as P Q make here none (inr n) = inr (none n)

-- ---- words and their shapes

nat_cases : (a b : ℕ) → (a ≡ b) ⊎ (a ≡ b → ⊥)
nat_cases a b = elim (cases_Bool (eqb a b)) [ inl h ↦ inl (eqb-true a b h) | inr h ↦ inr (λ e. grind (arith, nat_tests)) ]

less_cases : (a b : ℕ) → (a < b) ⊎ (a < b → ⊥)
less_cases a b = elim (cases_Bool (ltb a b)) [ inl h ↦ inl (ltb-true a b h) | inr h ↦ inr (λ e. false≢true (sym h ∙ lt-ltb a b e)) ]

not_less : {a b : ℕ} → (a < b → ⊥) → b ≤ a
not_less {a} {b} none = elim (less_cases a b) [ inl h ↦ absurd (none h) | inr h ↦ omega arith ]

same_word : (a b : ℕ) (xs ys : List ℕ) → a ≡ b → xs ≡ ys → a ∷ xs ≡ b ∷ ys
same_word a b xs ys e f = cc

first_letter : (a b : ℕ) (xs ys : List ℕ) → a ∷ xs ≡ b ∷ ys → a ≡ b
first_letter a b xs ys e = cc

other_letters : (a b : ℕ) (xs ys : List ℕ) → a ∷ xs ≡ b ∷ ys → xs ≡ ys
other_letters a b xs ys e = cc

empty_word : (b : ℕ) (ys : List ℕ) → [] ≡ b ∷ ys → ⊥
empty_word b ys e = absurd cc

word_cases : (a b : List ℕ) → (a ≡ b) ⊎ (a ≡ b → ⊥)
word_cases [] [] = inl refl
word_cases [] (b ∷ ys) = inr (empty_word b ys)
word_cases (a ∷ xs) [] = inr (λ e. empty_word a xs (sym e))
word_cases (a ∷ xs) (b ∷ ys) =
    elim (nat_cases a b) [
      | inl e ↦ elim (word_cases xs ys) [ inl f ↦ inl (same_word a b xs ys e f) | inr f ↦ inr (λ h. f (other_letters a b xs ys h)) ]
      | inr e ↦ inr (λ h. e (first_letter a b xs ys h))
    ]

some_or_none : {A : Type 0} (o : Option A) → ((a : A) × (o ≡ Some a)) ⊎ (o ≡ None)
some_or_none (Some a) = inl (a, refl)
some_or_none None = inr refl

none_some : {A : Type 0} (a : A) (o : Option A) → o ≡ None → o ≡ Some a → ⊥
none_some a o e f = absurd cc

-- ---- what a word writes

name_found : (text : List ℕ) → Finds (WritesName text)
name_found text = elim (some_or_none (unescaped_name text)) [
  | inl found ↦ inl (found.0, unescaped_from text found.0 found.1)
  | inr none ↦ inr (λ name w. none_some name (unescaped_name text) none (unescaped_of text name w))
]

flags_found : (text : List ℕ) → Finds (WritesFlags text)
flags_found text = elim (some_or_none (hex_flags text)) [ inl found ↦ inl found | inr none ↦ inr (λ flags w. none_some flags (hex_flags text) none w) ]

super_found : (text : List ℕ) → Finds (WritesSuper text)
super_found text = elim (word_cases text (codes "-")) [
  | inl e ↦ inl (None, e)
  | inr e ↦ elim (name_found text) [ inl n ↦ inl (Some n.0, (e, n.1)) | inr none ↦ inr (no_super text e none) ]
]

digits_found : (ds : List ℕ) → AllDigits 10 ds ⊎ (AllDigits 10 ds → ⊥)
digits_found [] = inl tt
digits_found (d ∷ ds) =
    elim (less_cases (digit_value d) 10) [
      | inl e ↦ elim (digits_found ds) [ inl f ↦ inl (e, f) | inr f ↦ inr (λ h. f h.1) ]
      | inr e ↦ inr (λ h. e h.0)
    ]

numeral_found : (ds : List ℕ) → IsNumeral 10 ds ⊎ (IsNumeral 10 ds → ⊥)
numeral_found ds =
    elim (less_cases 0 (length ds)) [
      | inl e ↦ elim (digits_found ds) [ inl f ↦ inl (e, f) | inr f ↦ inr (λ h. f h.1) ]
      | inr e ↦ inr (λ h. e h.0)
    ]

number_found : (text : List ℕ) → Finds (WritesInteger text)
number_found text =
    elim (nat_cases (slice_index text 0) 43) [
      | inl plus ↦ inr (λ z w. w.unsigned plus)
      | inr unsigned ↦ elim (numeral_found (without_leading_sign text)) [
        | inr none ↦ inr (λ z w. none w.digits)
        | inl digits ↦ elim (cases_Bool (is_signed (2 ^ 31) (signed_digits_value 10 text))) [
          | inl fits ↦ inl (signed_digits_value 10 text, record { unsigned = unsigned; digits = digits; value = refl; fits = (signed32_tells (signed_digits_value 10 text)).0 fits })
          | inr large ↦ inr (λ z w. false≢true (sym large ∙ ap (is_signed (2 ^ 31)) (sym w.value) ∙ (signed32_tells z).1 w.fits))
        ]
      ]
    ]

count_found : (text : List ℕ) → Finds (WritesNumber text)
count_found text = elim (numeral_found text) [
  | inr none ↦ inr (λ n w. none w.digits)
  | inl digits ↦ elim (less_cases 5 (length text)) [
    | inl long ↦ inr (λ n w. absurd (omega (arith, w.few)))
    | inr few ↦ elim (less_cases MOST_NUMBER (digits_value 10 text)) [
      | inl large ↦ inr (λ n w. absurd (omega (arith, w.value, w.fits)))
      | inr fits ↦ inl (digits_value 10 text, record { digits = digits; few = not_less few; value = refl; fits = not_less fits })
    ]
  ]
]

-- ---- what words say

one_found : {A : Type 0} (P : List ℕ → A → Type 0) → ((text : List ℕ) → Finds (P text)) → (words : List (List ℕ)) → Finds (One P words)
one_found P found [] = inr (λ a t. absurd cc)
one_found P found (text ∷ []) =
    found_as (P text) (One P (text ∷ [])) (λ a. a) (λ a w. record { text = text; spelled = refl; says = w })
    (λ none a t. none a (subst (λ s. P s a) (sym (only_of t.spelled)) t.says)) (found text)
one_found P found (text ∷ next ∷ more) = inr (λ a t. absurd cc)

two_found : {A B : Type 0} (P : List ℕ → A → Type 0) (Q : List ℕ → B → Type 0) → ((text : List ℕ) → Finds (P text)) → ((text : List ℕ) → Finds (Q text)) → (words : List (List ℕ)) → Finds (Two P Q words)
two_found P Q p q [] = inr (λ said t. absurd cc)
two_found P Q p q (a ∷ []) = inr (λ said t. absurd cc)
two_found P Q p q (a ∷ b ∷ []) = elim (p a) [
  | inr none ↦ inr (λ said t. none said.0 (subst (λ w. P w said.0) (sym (first_of_two t.spelled)) t.one))
  | inl x ↦ elim (q b) [
    | inr none ↦ inr (λ said t. none said.1 (subst (λ w. Q w said.1) (sym (second_of_two t.spelled)) t.two))
    | inl y ↦ inl ((x.0, y.0), record { first = a; second = b; spelled = refl; one = x.1; two = y.1 })
  ]
]
two_found P Q p q (a ∷ b ∷ c ∷ more) = inr (λ said t. absurd cc)

three_found : {A B C : Type 0} (P : List ℕ → A → Type 0) (Q : List ℕ → B → Type 0) (R : List ℕ → C → Type 0)
    → ((text : List ℕ) → Finds (P text)) → ((text : List ℕ) → Finds (Q text)) → ((text : List ℕ) → Finds (R text)) → (words : List (List ℕ)) → Finds (Three P Q R words)
three_found P Q R p q r [] = inr (λ said t. absurd cc)
three_found P Q R p q r (a ∷ []) = inr (λ said t. absurd cc)
three_found P Q R p q r (a ∷ b ∷ []) = inr (λ said t. absurd cc)
three_found P Q R p q r (a ∷ b ∷ c ∷ []) = elim (p a) [
  | inr none ↦ inr (λ said t. none said.0 (subst (λ w. P w said.0) (sym (first_of t.spelled)) t.one))
  | inl x ↦ elim (q b) [
    | inr none ↦ inr (λ said t. none said.1 (subst (λ w. Q w said.1) (sym (second_of t.spelled)) t.two))
    | inl y ↦ elim (r c) [
      | inr none ↦ inr (λ said t. none said.2 (subst (λ w. R w said.2) (sym (third_of t.spelled)) t.three))
      | inl z ↦ inl ((x.0, y.0, z.0), record { first = a; second = b; third = c; spelled = refl; one = x.1; two = y.1; three = z.1 })
    ]
  ]
]
three_found P Q R p q r (a ∷ b ∷ c ∷ d ∷ more) = inr (λ said t. absurd cc)

begun_found : {A : Type 0} (P : List (List ℕ) → A → Type 0) (keyword : List ℕ) → ((words : List (List ℕ)) → Finds (P words)) → (words : List (List ℕ)) → Finds (λ (a : A). Begins keyword words (λ rest. P rest a))
begun_found P keyword found [] = inr (λ a t. absurd cc)
begun_found P keyword found (first ∷ rest) = elim (word_cases first keyword) [
  | inr e ↦ inr (λ a t. e (head_of t.spelled))
  | inl e ↦
      found_as (P rest) (λ a. Begins keyword (first ∷ rest) (λ ws. P ws a)) (λ a. a) (λ a w. record { rest = rest; spelled = ap (λ (w : List ℕ). w ∷ rest) e; behind = w })
      (λ none a t. none a (behind refl t)) (found rest)
]

word_found : (words : List (List ℕ)) → Finds (IsName words)
word_found words =
    found_as (One WritesName words) (IsName words) (λ n. n) (λ n t. record { text = t.text; spelled = t.spelled; writes = t.says })
    (λ none n t. none n (name_words words n t)) (one_found WritesName name_found words)

integer_found : (words : List (List ℕ)) → Finds (IsInteger words)
integer_found words =
    found_as (One WritesInteger words) (IsInteger words) (λ n. n) (λ n t. record { text = t.text; spelled = t.spelled; writes = t.says })
    (λ none n t. none n (integer_words words n t)) (one_found WritesInteger number_found words)

version_found : (words : List (List ℕ)) → Finds (IsVersion words)
version_found words =
    found_as (Two WritesNumber WritesNumber words) (IsVersion words) version (λ said t. record { major_text = t.first; minor_text = t.second; spelled = t.spelled; major = t.one; minor = t.two })
    (λ none v t. none (v.major, v.minor) (version_words words v t)) (two_found WritesNumber WritesNumber count_found count_found words)

member_line_found : (words : List (List ℕ)) → Finds (IsMemberLine words)
member_line_found words =
    found_as (Three WritesFlags WritesName WritesName words) (IsMemberLine words) member_line
    (λ said t. record { flags_text = t.first; name_text = t.second; descriptor_text = t.third; spelled = t.spelled; flags = t.one; name = t.two; descriptor = t.three })
    (λ none l t. none (l.flags, l.name, l.descriptor) (member_line_words words l t)) (three_found WritesFlags WritesName WritesName flags_found name_found name_found words)

member_name_found : (words : List (List ℕ)) → Finds (IsMemberName words)
member_name_found words =
    found_as (Three WritesName WritesName WritesName words) (IsMemberName words) member_name
    (λ said t. record { class_text = t.first; name_text = t.second; descriptor_text = t.third; spelled = t.spelled; class = t.one; name = t.two; descriptor = t.three })
    (λ none m t. none (m.class, m.name, m.descriptor) (member_name_words words m t)) (three_found WritesName WritesName WritesName name_found name_found name_found words)

class_line_found : (words : List (List ℕ)) → Finds (IsClassLine words)
class_line_found words =
    found_as (λ said. Begins (codes "class") words (λ rest. Three WritesFlags WritesName WritesSuper rest said)) (IsClassLine words) class_line
    (λ said t. record { flags_text = t.behind.first; name_text = t.behind.second; super_text = t.behind.third; spelled = t.spelled ∙ ap (λ (ws : List (List ℕ)). codes "class" ∷ ws) t.behind.spelled; flags = t.behind.one; name = t.behind.two; superclass = t.behind.three })
    (λ none l t. none (l.flags, l.name, l.superclass) (class_line_words words l t))
    (begun_found (Three WritesFlags WritesName WritesSuper) (codes "class") (three_found WritesFlags WritesName WritesSuper flags_found name_found super_found) words)

-- words that ask for no entry of any kind ask for none
no_item : (words : List (List ℕ)) → NoneOf (λ n. Refers words (Class n)) → NoneOf (λ n. Refers words (Integer n)) → NoneOf (λ m. Refers words (Member kinds.Field m))
    → NoneOf (λ m. Refers words (Member kinds.Method m)) → NoneOf (λ m. Refers words (Member kinds.InterfaceMethod m)) → NoneOf (Refers words)
no_item words a b c d e (Text text) t = t
no_item words a b c d e (Integer n) t = b n t
no_item words a b c d e (Class n) t = a n t
no_item words a b c d e (NameAndType n x) t = t
no_item words a b c d e (Member kinds.Field m) t = c m t
no_item words a b c d e (Member kinds.Method m) t = d m t
no_item words a b c d e (Member kinds.InterfaceMethod m) t = e m t

member_found : (words : List (List ℕ)) (k : MemberKind) → Finds (λ (m : MemberName). Begins (kind_word k) words (λ rest. IsMemberName rest m))
member_found words k = begun_found IsMemberName (kind_word k) member_name_found words

item_found : (words : List (List ℕ)) → Finds (Refers words)
item_found words = elim (begun_found IsName (codes "class") word_found words) [
  | inl n ↦ inl (Class n.0, n.1)
  | inr a ↦ elim (begun_found IsInteger (codes "int") integer_found words) [
    | inl n ↦ inl (Integer n.0, n.1)
    | inr b ↦ elim (member_found words kinds.Field) [
      | inl m ↦ inl (Member kinds.Field m.0, m.1)
      | inr c ↦ elim (member_found words kinds.Method) [
        | inl m ↦ inl (Member kinds.Method m.0, m.1)
        | inr d ↦ elim (member_found words kinds.InterfaceMethod) [
          | inl m ↦ inl (Member kinds.InterfaceMethod m.0, m.1)
          | inr e ↦ inr (no_item words a b c d e)
        ]
      ]
    ]
  ]
]

-- words that say nothing of any kind say nothing
no_statement : (words : List (List ℕ)) → NoneOf (λ n. Says words (Implements n)) → NoneOf (λ l. Says words (Field l)) → NoneOf (λ l. Says words (Method l)) → NoneOf (λ i. Says words (Ref i)) → NoneOf (λ v. Says words (Version v)) → NoneOf (Says words)
no_statement words a b c d e (Implements n) t = a n t
no_statement words a b c d e (Field l) t = b l t
no_statement words a b c d e (Method l) t = c l t
no_statement words a b c d e (Ref i) t = d i t
no_statement words a b c d e (Version v) t = e v t

statement_found : (words : List (List ℕ)) → Finds (Says words)
statement_found words = elim (begun_found IsName (codes "implements") word_found words) [
  | inl n ↦ inl (Implements n.0, n.1)
  | inr a ↦ elim (begun_found IsMemberLine (codes "field") member_line_found words) [
    | inl l ↦ inl (Field l.0, l.1)
    | inr b ↦ elim (begun_found IsMemberLine (codes "method") member_line_found words) [
      | inl l ↦ inl (Method l.0, l.1)
      | inr c ↦ elim (begun_found Refers (codes "ref") item_found words) [
        | inl i ↦ inl (Ref i.0, i.1)
        | inr d ↦ elim (begun_found IsVersion (codes "version") version_found words) [
          | inl v ↦ inl (Version v.0, v.1)
          | inr e ↦ inr (no_statement words a b c d e)
        ]
      ]
    ]
  ]
]

-- ---- what the lines of a text say

rest_found : (class : ClassLine) (lines left : List Numbered) (listed : ListedClass) → IsReadSoFar class lines left listed → ((a : ListedClass) × IsRest class lines a) ⊎ ((n : ℕ) × StopsAt lines n)
rest_found class lines [] listed t = inl (listed, whole_read class lines [] listed t refl)
rest_found class lines (l ∷ ls) listed t =
    elim (statement_found (words_of l.text)) [
      | inr bad ↦ inr (l.number, stops_here class lines (l ∷ ls) ls listed l t refl (λ s says. absurd (bad s says)))
      | inl s ↦ elim (cases_Bool (is_second listed s.0)) [
        | inl second ↦ inr (l.number, second_here class lines (l ∷ ls) ls listed l s.0 t refl s.1 second)
        | inr first ↦ rest_found class lines ls (with_said listed s.0) (more_read class lines (l ∷ ls) ls listed (with_said listed s.0) l s.0 t refl s.1 first refl)
      ]
    ]

all_read : (l : Numbered) (ls : List Numbered) (class : ClassLine) (a : ListedClass) → IsClassLine (words_of l.text) class → IsRest class ls a → IsRead (l ∷ ls) a
all_read l ls class a here more =
    let same : class ≡ a.class = sym (same_class class ls a more) in
    (subst (λ k. IsClassLine (words_of l.text) k) same here, subst (λ k. IsRest k ls a) same more)

lines_found : (lines : List Numbered) → ((a : ListedClass) × IsRead lines a) ⊎ ((n : ℕ) × IsBadAt lines n)
lines_found [] = inr (0, refl)
lines_found (l ∷ ls) =
    elim (class_line_found (words_of l.text)) [
      | inr none ↦ inr (l.number, inl (refl, none))
      | inl class ↦ elim (rest_found class.0 ls ls (class_alone class.0) (none_read class.0 ls)) [
        | inl more ↦ inl (more.0, all_read l ls class.0 more.0 class.1 more.1)
        | inr n ↦ inr (n.0, inr ((class.0, class.1), n.1))
      ]
    ]

-- ---- what is made of them

known : (f : AssembleFault) → (f ≡ Memory → ⊥) → ◌≡◌ {A = Result Structure AssembleFault} (Err f) (Err Memory) → ⊥
known f differ e = differ cc

found_or_fault : (r : Result Structure Fault) → ((f : Structure) × (r ≡ Ok f)) ⊎ ((g : Fault) × (r ≡ Err g))
found_or_fault (Ok f) = inl (f, refl)
found_or_fault (Err g) = inr (g, refl)

spelled_so : (f g : Structure) → parts_of f ≡ Ok g → Spells (spelling g) g
spelled_so f g h =
    let says = parts_say f g h in
    subst (λ (x : Structure). Spells (spelling x) x) says.0 (record { file = says.1; spelled = refl })

made_of : (lines : List Numbered) (l : ListedClass) (file : Structure) → IsRead lines l → parts_of (described_file l) ≡ Ok file → IsAssembled lines file
made_of lines l file read kept =
    let same : file ≡ described_file l = sym (parts_say (described_file l) file kept).0 in
    record { listed = l; read = read; is = same; kept = kept; spelled = spelled_so (described_file l) file kept; printed = ap listing_of same ∙ printed_so l }

pub some_answer : (lines : List Numbered) → (r : Result Structure AssembleFault) × (r ≢ Err Memory) × AssembleOf lines r
some_answer lines =
    elim (lines_found lines) [
      | inr n ↦ (Err (BadLine n.0), known (BadLine n.0) (λ e. absurd cc), n.1)
      | inl l ↦ elim (found_or_fault (parts_of (described_file l.0))) [
        | inl f ↦ (Ok f.0, (λ e. absurd cc), made_of lines l.0 f.0 l.1 f.1)
        | inr g ↦ (Err (Invalid g.0), known (Invalid g.0) (λ e. absurd cc), record { listed = l.0; read = l.1; first = g.1 })
      ]
    ]
